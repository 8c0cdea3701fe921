-- Without the children of a process the others are processes still: those that live have no parent, and its zombies are gone.
--     orphan_leaves      those that live go on living, with their makers
--     orphans_are, orphan_makers, orphan_parents      the topics
--     no_child      nobody has the process for a parent
use Rattle.std.proofs.Common.{◌≡◌, ◌≢◌, ℕ, ◌≤◌, Bool, true, false, cond, refl, sym, ap, subst, ◌∙◌, inl, inr, arith, ⊎_elim}
use Rattle.std.specs.Prelude.{◌&&◌, not, length, filter, Option, Some, None, is_some, option_map}
use Rattle.std.specs.FinMap as map
use Rattle.std.proofs.lemmas.List.{length-map}
use Rattle.std.proofs.lemmas.List.Filters.{length-filter_both}
use Rattle.std.proofs.lemmas.Bool.Decides.{nat_tests}
use Rattle.plain_process.specs.OfViews.Maps.{retain, option_filter}
use Rattle.plain_process.proofs.OfViews.MapLaws.{get-retain, true_false}
use Rattle.plain_process.proofs.OfViews.MapValues.{get-map_values, get-retained, entries-map_values, entries-retain}
use Rattle.id_maps.specs.OfSysAbi.declared.identity.VPid.{VPid}
use Rattle.id_maps.specs.OfSysAbi.declared.life.Life.{Life}
use Rattle.id_maps.specs.OfSysAbi.declared.life.Life.TheVariants.{Live, Zombie}
use Rattle.id_maps.specs.OfSysAbi.Lives.{lives}
use Rattle.id_maps.proofs.OfSysAbi.OrderLaws.{vpid_total, vpid_exact}
use Rattle.plain_tables.specs.declared.process.Process.{Process}
use Rattle.id_maps.specs.OfSysAbi.declared.maker.Maker.{Maker}
use Rattle.plain_tables.specs.Tables.{FIRST_PID, NOBODY, Processes, Makers, pid, is_live_process, lives_in, has_thread_in, same_host}
use Rattle.plain_tables.specs.Ends.{is_child_of, is_zombie_child, orphan, orphaned, makers_of}
use Rattle.plain_tables.specs.Valid.Processes.{AreProcesses, AreMakers, AreParents, IsProcess, IsParent, HasParent}
use Rattle.plain_tables.proofs.Entries.{retained}
use Rattle.plain_tables.proofs.LeftProcesses.{Leaves}

-- a process that was there and stays
pub record Stays (p : VPid) (processes : Processes) (q : VPid) (process : Process) : Type 0 where
  pub old : Process
  pub there : map.get processes q ≡ Some old
  pub stays : is_zombie_child p old ≡ false
  pub is_orphan : process ≡ orphan p old

-- what an orphan keeps
pub orphan_life : (p : VPid) (process : Process) → (orphan p process).life ≡ process.life
orphan_life p process = chosen (is_child_of p process)
  where
    chosen : (b : Bool) → (cond b (record process { parent = NOBODY }) process).life ≡ process.life
    chosen true = refl
    chosen false = refl

pub orphan_threads : (p : VPid) (process : Process) → (orphan p process).threads ≡ process.threads
orphan_threads p process = chosen (is_child_of p process)
  where
    chosen : (b : Bool) → (cond b (record process { parent = NOBODY }) process).threads ≡ process.threads
    chosen true = refl
    chosen false = refl

orphan_is : (p : VPid) (next_id : ℕ) (q : VPid) (process : Process) → IsProcess next_id q process → IsProcess next_id q (orphan p process)
orphan_is p next_id q process is = chosen (is_child_of p process)
  where
    chosen : (b : Bool) → IsProcess next_id q (cond b (record process { parent = NOBODY }) process)
    chosen true = record { number = is.number; pending = is.pending; life = is.life; threads = is.threads }
    chosen false = is

not_false : (b : Bool) → not b ≡ true → b ≡ false
not_false true is = sym is
not_false false is = refl

module _ (p : VPid) (processes : Processes) where
  kept_by : (found : Option Process) (process : Process) → option_map (orphan p) (option_filter (λ x. not (is_zombie_child p x)) found) ≡ Some process
      → (old : Process) × (found ≡ Some old) × (is_zombie_child p old ≡ false) × (process ≡ orphan p old)
  kept_by None process is = cc
  kept_by (Some old) process is = chosen (not (is_zombie_child p old)) refl is
    where
      chosen : (b : Bool) → not (is_zombie_child p old) ≡ b → option_map (orphan p) (cond b (Some old) None) ≡ Some process
          → (x : Process) × (Some old ≡ Some x) × (is_zombie_child p x ≡ false) × (process ≡ orphan p x)
      chosen true stays is = (old, refl, not_false (is_zombie_child p old) stays, cc)
      chosen false goes is = cc

  pub look_up : (q : VPid) → map.get (orphaned p processes) q ≡ option_map (orphan p) (option_filter (λ x. not (is_zombie_child p x)) (map.get processes q))
  look_up q = get-map_values (orphan p) (retain (λ r x. not (is_zombie_child p x)) processes) q
      ∙ ap (option_map (orphan p)) (get-retained vpid_total vpid_exact (λ r x. not (is_zombie_child p x)) processes q)

  pub orphan_was : (q : VPid) (process : Process) → map.get (orphaned p processes) q ≡ Some process → Stays p processes q process
  orphan_was q process found =
      let was = kept_by (map.get processes q) process (sym (look_up q) ∙ found) in
      record { old = was.0; there = was.1; stays = was.2; is_orphan = was.3 }

  orphan_there : (q : VPid) (old : Process) → map.get processes q ≡ Some old → is_zombie_child p old ≡ false → map.get (orphaned p processes) q ≡ Some (orphan p old)
  orphan_there q old there stays =
      look_up q ∙ ap (λ found. option_map (orphan p) (option_filter (λ x. not (is_zombie_child p x)) found)) there ∙ ap (λ b. option_map (orphan p) (cond (not b) (Some old) None)) stays

  -- who lives stays
  live_stays : (old : Process) → lives old.life ≡ true → is_zombie_child p old ≡ false
  live_stays old alive = chosen (is_child_of p old) (lives old.life) alive
    where
      chosen : (a b : Bool) → b ≡ true → (a && not b) ≡ false
      chosen true true is = refl
      chosen false true is = refl
      chosen true false is = sym is
      chosen false false is = refl

  lives_by : (q : VPid) (found : Option Process) → map.get processes q ≡ found → is_live_process found ≡ true → lives_in (orphaned p processes) q ≡ true
  lives_by q None there alive = true_false (sym alive)
  lives_by q (Some old) there alive = ap is_live_process (orphan_there q old there (live_stays old alive)) ∙ ap lives (orphan_life p old) ∙ alive

  lived_by : (q : VPid) (found : Option Process) → map.get (orphaned p processes) q ≡ found → is_live_process found ≡ true → lives_in processes q ≡ true
  lived_by q None there alive = true_false (sym alive)
  lived_by q (Some process) there alive =
      let was = orphan_was q process there in
      ap is_live_process was.there ∙ ap lives (sym (orphan_life p was.old)) ∙ ap (λ (x : Process). lives x.life) (sym was.is_orphan) ∙ alive

  there_by : (q : VPid) (found : Option Process) → map.get (orphaned p processes) q ≡ found → is_some found ≡ true → is_some (map.get processes q) ≡ true
  there_by q None none there = true_false (sym there)
  there_by q (Some process) found there = ap is_some (orphan_was q process found).there

  thread_by : (q : VPid) (t : ℕ) (found : Option Process) → map.get (orphaned p processes) q ≡ found → has_thread_in t found ≡ true → has_thread_in t (map.get processes q) ≡ true
  thread_by q t None none has = true_false (sym has)
  thread_by q t (Some process) found has =
      let was = orphan_was q process found in
      ap (has_thread_in t) was.there ∙ ap (λ threads. is_some (map.get threads t)) (sym (orphan_threads p was.old)) ∙ ap (λ (x : Process). is_some (map.get x.threads t)) (sym was.is_orphan) ∙ has

  -- at most as many
  few_retained : map.len (orphaned p processes) ≤ map.len processes
  few_retained =
      let kept = retain (λ q x. not (is_zombie_child p x)) processes in
      let test : VPid × Process → Bool = λ e. not (is_zombie_child p e.1) in
      let both = length-filter_both test (λ e. not (test e)) (λ e. refl) (map.entries processes) in
      let all : map.len processes ≡ length (map.entries processes) = map.len-entries processes in
      let some : length (map.entries kept) ≡ length (filter test (map.entries processes)) = ap length (entries-retain (λ q x. not (is_zombie_child p x)) processes) in
      let mapped : length (map.entries (orphaned p processes)) ≡ length (map.entries kept) =
      ap length (entries-map_values (orphan p) kept) ∙ length-map (map.entries kept) (λ e. (e.0, orphan p e.1)) in
      let here : map.len (orphaned p processes) ≡ length (map.entries (orphaned p processes)) = map.len-entries (orphaned p processes) in
      omega arith

  pub orphans_are : (next_id : ℕ) → AreProcesses next_id processes → AreProcesses next_id (orphaned p processes)
  orphans_are next_id is = record {
    count = let few = few_retained in let most = is.count in omega arith;
    each = λ q process found.
        let was = orphan_was q process found in
        subst (IsProcess next_id q) (sym was.is_orphan) (orphan_is p next_id q was.old (is.each q was.old was.there));
    threads_apart = λ q r t has too.
        is.threads_apart q r t (thread_by q t (map.get (orphaned p processes) q) refl has) (thread_by r t (map.get (orphaned p processes) r) refl too);
    own_number = λ q r has there.
        is.own_number q r (thread_by q r.0 (map.get (orphaned p processes) q) refl has) (there_by r (map.get (orphaned p processes) r) refl there);
  }

  module _ (makers : Makers) where
    maker_kept : (q : VPid) → is_some (map.get (orphaned p processes) q) ≡ true → map.get (makers_of (orphaned p processes) makers) q ≡ map.get makers q
    maker_kept q there = get-retain vpid_total vpid_exact makers (λ r. is_some (map.get (orphaned p processes) r)) q ∙ ap (λ b. cond b (map.get makers q) None) there

    live_there : (found : Option Process) → is_live_process found ≡ true → is_some found ≡ true
    live_there None alive = alive
    live_there (Some process) alive = refl

    part : (q : VPid) (m : Maker) → map.get (makers_of (orphaned p processes) makers) q ≡ Some m → map.get makers q ≡ Some m
    part q m found = (retained vpid_total vpid_exact makers (λ r. is_some (map.get (orphaned p processes) r)) q m found).1

    pub orphan_leaves : (next_id : ℕ) → Leaves next_id processes (orphaned p processes) makers (makers_of (orphaned p processes) makers) (λ q. Unit {0})
    orphan_leaves next_id = record {
      lives = λ q still alive. lives_by q (map.get processes q) refl alive;
      lived = λ q low alive. lived_by q (map.get (orphaned p processes) q) refl alive;
      same = λ q still alive. maker_kept q (live_there (map.get (orphaned p processes) q) (lives_by q (map.get processes q) refl alive));
      part = λ q m low found. part q m found;
    }

    pub orphan_makers : AreMakers processes makers → AreMakers (orphaned p processes) (makers_of (orphaned p processes) makers)
    orphan_makers is = record {
      same = λ q.
          ap is_some (get-retain vpid_total vpid_exact makers (λ r. is_some (map.get (orphaned p processes) r)) q)
          ∙ same_by q (is_some (map.get (orphaned p processes) q)) refl;
      hosts = λ q m found. is.hosts q m (part q m found);
      counts = λ q m found. is.counts q m (part q m found);
    }
      where
        same_by : (q : VPid) (b : Bool) → is_some (map.get (orphaned p processes) q) ≡ b → is_some (cond b (map.get makers q) None) ≡ b
        same_by q true there = is.same q ∙ there_by q (map.get (orphaned p processes) q) refl there
        same_by q false none = refl

    parent_left : (q : VPid) (parent : ℕ) → is_some (map.get (orphaned p processes) q) ≡ true → IsParent processes makers q parent → IsParent (orphaned p processes) (makers_of (orphaned p processes) makers) q parent
    parent_left q parent there is = record {
      below = is.below;
      alive = lives_by (pid parent) (map.get processes (pid parent)) refl is.alive;
      host = ap (λ m. same_host m (map.get (makers_of (orphaned p processes) makers) (pid parent))) (maker_kept q there)
          ∙ ap (same_host (map.get makers q)) (maker_kept (pid parent) (live_there (map.get (orphaned p processes) (pid parent)) (lives_by (pid parent) (map.get processes (pid parent)) refl is.alive))) ∙ is.host;
    }

    has_parent_left : (q : VPid) (parent : ℕ) (life : Life) → is_some (map.get (orphaned p processes) q) ≡ true → HasParent processes makers q parent life
        → HasParent (orphaned p processes) (makers_of (orphaned p processes) makers) q parent life
    has_parent_left q parent Live there is = ⊎_elim (λ nobody. inl nobody) (λ one. inr (parent_left q parent there one)) is
    has_parent_left q parent (Zombie status) there is = (parent_left q parent there is.0, is.1)

    no_parent : (q : VPid) (life : Life) → lives life ≡ true → HasParent (orphaned p processes) (makers_of (orphaned p processes) makers) q NOBODY life
    no_parent q Live alive = inl refl
    no_parent q (Zombie status) alive = true_false (sym alive)

    pub orphan_parents : AreParents processes makers → AreParents (orphaned p processes) (makers_of (orphaned p processes) makers)
    orphan_parents is = record {
      each = λ q process found.
          let was = orphan_was q process found in
          subst (λ (x : Process). HasParent (orphaned p processes) (makers_of (orphaned p processes) makers) q x.parent x.life) (sym was.is_orphan)
          (chosen q was.old (ap is_some found) (is.each q was.old was.there) (is_child_of p was.old) refl was.stays);
    }
      where
        stays_live : (a b : Bool) → a ≡ true → (a && not b) ≡ false → b ≡ true
        stays_live true true child stays = refl
        stays_live true false child stays = sym stays
        stays_live false b child stays = true_false (sym child)

        chosen : (q : VPid) (old : Process) → is_some (map.get (orphaned p processes) q) ≡ true → HasParent processes makers q old.parent old.life → (b : Bool) → is_child_of p old ≡ b → is_zombie_child p old ≡ false
            → HasParent (orphaned p processes) (makers_of (orphaned p processes) makers) q (cond b (record old { parent = NOBODY }) old).parent (cond b (record old { parent = NOBODY }) old).life
        chosen q old there has true child stays = no_parent q old.life (stays_live (is_child_of p old) (lives old.life) child stays)
        chosen q old there has false other stays = has_parent_left q old.parent old.life there has

  pub no_child : FIRST_PID ≤ p.0 → (q : VPid) (process : Process) → map.get (orphaned p processes) q ≡ Some process → process.parent ≢ p.0
  no_child first q process found =
      let was = orphan_was q process found in
      subst (λ (x : Process). x.parent ≢ p.0) (sym was.is_orphan) (chosen was.old (is_child_of p was.old) refl)
    where
      chosen : (old : Process) (b : Bool) → is_child_of p old ≡ b → (cond b (record old { parent = NOBODY }) old).parent ≢ p.0
      chosen old true child same = omega arith
      chosen old false other same = grind (arith, nat_tests, other, same)
