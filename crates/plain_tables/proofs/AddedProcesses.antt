-- A process more, with the next number and one thread of that number: the others are processes still, with the makers and parents that they had.
--     fresh      nobody has the next number      added_are, added_makers, added_parents, added_leaves
use Rattle.std.proofs.Common.{◌≡◌, ◌≢◌, ℕ, ◌+◌, ◌^◌, ◌<◌, ◌≤◌, true, cond, refl, sym, ap, subst, ◌∙◌, inl, inr, arith, ⊎_elim}
use Rattle.std.specs.Prelude.{◌⊎◌, Option, Some, None, is_some}
use Rattle.std.specs.Ordering.{nat_cmp}
use Rattle.std.specs.Cmp.{nat_cmp_total}
use Rattle.std.specs.FinMap as map
use Rattle.plain_process.proofs.OfViews.MapLaws.{get_insert_same, get_insert_other, same_or_other, true_false}
use Rattle.id_maps.specs.OfSysAbi.declared.identity.VPid.{VPid}
use Rattle.id_maps.specs.OfSysAbi.declared.life.Life.{Life}
use Rattle.id_maps.specs.OfSysAbi.declared.life.Life.TheVariants.{Live, Zombie}
use Rattle.id_maps.proofs.OfSysAbi.OrderLaws.{vpid_total, vpid_exact}
use Rattle.plain_tables.specs.declared.process.Process.{Process}
use Rattle.id_maps.specs.OfSysAbi.declared.maker.Maker.{Maker}
use Rattle.plain_tables.specs.Tables.{FIRST_PID, NOBODY, Processes, Makers, pid, is_live_process, lives_in, has_thread_in, same_host}
use Rattle.plain_tables.specs.Ends.{child_process}
use Rattle.plain_tables.specs.Valid.Processes.{AreProcesses, AreMakers, AreParents, IsProcess, IsGivenOut, IsSignalSet, IsParent, HasParent}
use Rattle.plain_tables.proofs.Entries.{each_with, len_with, no_entry}
use Rattle.plain_tables.proofs.LeftProcesses.{Leaves}

-- a map of one entry
one_entry : (t : ℕ) → map.len (map.insert (map.empty {X = ℕ} {R = nat_cmp}) t 0) ≡ 1
one_entry t =
    let none : map.get (map.empty {X = ℕ} {R = nat_cmp}) t ≡ None = map.get-empty nat_cmp t in
    map.len-insert nat_cmp_total map.empty t 0 ∙ ap (λ found. cond (is_some found) (map.len (map.empty {X = ℕ} {R = nat_cmp})) (map.len (map.empty {X = ℕ} {R = nat_cmp}) + 1)) none
    ∙ ap (λ n. n + 1) (map.len-empty nat_cmp ℕ) ∙ omega arith

only_thread : (number t : ℕ) → is_some (map.get (map.insert (map.empty {X = ℕ} {R = nat_cmp}) number 0) t) ≡ true → t ≡ number
only_thread number t there = ⊎_elim
    (λ same. same)
    (λ other. true_false (sym there ∙ ap is_some (get_insert_other nat_cmp_total map.nat_cmp-IsAntisymmetric map.empty number 0 t other ∙ map.get-empty nat_cmp t)))
    (same_or_other nat_cmp_total map.nat_cmp-IsAntisymmetric t number)

later : (next : ℕ) (q : VPid) (process : Process) → IsProcess next q process → IsProcess (next + 1) q process
later next q process is = record {
  number = (is.number.0, let below = is.number.1 in omega arith);
  pending = is.pending;
  life = is.life;
  threads = λ t signals found. let was = is.threads t signals found in ((was.0.0, let below = was.0.1 in omega arith), was.1);
}

new_is : (parent next : ℕ) → FIRST_PID ≤ next → IsProcess (next + 1) (pid next) (child_process parent next)
new_is parent next first = record {
  number = (first, omega arith);
  pending = omega arith;
  life = let one = one_entry next in (omega arith, omega arith);
  threads = each_with nat_cmp_total map.nat_cmp-IsAntisymmetric (λ t signals. IsGivenOut (next + 1) t × IsSignalSet signals) map.empty next 0 ((first, omega arith), omega arith)
      (λ t signals other found. absurd (no_entry nat_cmp_total map.nat_cmp-IsAntisymmetric t signals found));
}

module _ (next : ℕ) (processes : Processes) (is : AreProcesses next processes) (parent : ℕ) where
  number_below : (q : VPid) (found : Option Process) → map.get processes q ≡ found → is_some found ≡ true → q.0 < next
  number_below q None none there = true_false (sym there)
  number_below q (Some process) found there = (is.each q process found).number.1

  live_there : (found : Option Process) → is_live_process found ≡ true → is_some found ≡ true
  live_there None alive = alive
  live_there (Some process) alive = refl

  pub live_below : (q : VPid) → lives_in processes q ≡ true → q.0 < next
  live_below q alive = number_below q (map.get processes q) refl (live_there (map.get processes q) alive)

  lower_other : (q : VPid) → q.0 < next → q ≢ pid next
  lower_other q low same = let number : q.0 ≡ next = ap (λ (r : VPid). r.0) same in omega arith

  after : Processes
  after = map.insert processes (pid next) (child_process parent next)

  other : (q : VPid) → q.0 < next → map.get after q ≡ map.get processes q
  unfolding after
  other q low = get_insert_other vpid_total vpid_exact processes (pid next) (child_process parent next) q (lower_other q low)

  here : map.get after (pid next) ≡ Some (child_process parent next)
  unfolding after
  here = get_insert_same vpid_total vpid_exact processes (pid next) (child_process parent next)

  thread_below : (q : VPid) (t : ℕ) (found : Option Process) → map.get processes q ≡ found → has_thread_in t found ≡ true → t < next
  thread_below q t None none has = true_false (sym has)
  thread_below q t (Some process) found has = low (map.get process.threads t) refl has
    where
      low : (signals : Option ℕ) → map.get process.threads t ≡ signals → is_some signals ≡ true → t < next
      low None none there = true_false (sym there)
      low (Some signals) there really = ((is.each q process found).threads t signals there).0.1

  from : (q : VPid) (t : ℕ) → has_thread_in t (map.get after q) ≡ true → (has_thread_in t (map.get processes q) ≡ true) ⊎ ((q ≡ pid next) × (t ≡ next))
  unfolding after
  from q t has = ⊎_elim
      (λ same. inr (same, only_thread next t (sym (ap (has_thread_in t) here) ∙ subst (λ r. has_thread_in t (map.get after r) ≡ true) same has)))
      (λ apart. inl (ap (has_thread_in t) (sym (get_insert_other vpid_total vpid_exact processes (pid next) (child_process parent next) q apart)) ∙ has))
      (same_or_other vpid_total vpid_exact q (pid next))

  there_from : (q : VPid) → is_some (map.get after q) ≡ true → (is_some (map.get processes q) ≡ true) ⊎ (q ≡ pid next)
  unfolding after
  there_from q there = ⊎_elim
      (λ same. inr same)
      (λ apart. inl (ap is_some (sym (get_insert_other vpid_total vpid_exact processes (pid next) (child_process parent next) q apart)) ∙ there))
      (same_or_other vpid_total vpid_exact q (pid next))

  pub added_are : FIRST_PID ≤ next → map.len processes < 128 → AreProcesses (next + 1) (map.insert processes (pid next) (child_process parent next))
  unfolding after
  added_are first few = record {
    count = let most = len_with vpid_total processes (pid next) (child_process parent next) in omega arith;
    each = each_with vpid_total vpid_exact (IsProcess (next + 1)) processes (pid next) (child_process parent next) (new_is parent next first) (λ q process apart found. later next q process (is.each q process found));
    threads_apart = λ q r t has too. ⊎_elim
        (λ was. ⊎_elim
        (λ also. is.threads_apart q r t was also)
        (λ one. let low = thread_below q t (map.get processes q) refl was in let same = one.1 in absurd (omega arith))
        (from r t too))
        (λ one. ⊎_elim
        (λ also. let low = thread_below r t (map.get processes r) refl also in let same = one.1 in absurd (omega arith))
        (λ second. one.0 ∙ sym second.0)
        (from r t too))
        (from q t has);
    own_number = λ q r has there. ⊎_elim
        (λ was. ⊎_elim
        (λ had. is.own_number q r was had)
        (λ new. let low = thread_below q r.0 (map.get processes q) refl was in let same : r.0 ≡ next = ap (λ (s : VPid). s.0) new in absurd (omega arith))
        (there_from r there))
        (λ one. ⊎_elim
        (λ had. let low = number_below r (map.get processes r) refl had in let same = one.1 in absurd (omega arith))
        (λ new. one.0 ∙ sym new)
        (there_from r there))
        (from q r.0 has);
  }

  module _ (makers : Makers) (maker : Maker) where
    pub added_leaves : Leaves next processes (map.insert processes (pid next) (child_process parent next)) makers (map.insert makers (pid next) maker) (λ q. Unit {0})
    unfolding after
    added_leaves = record {
      lives = λ q still alive. ap is_live_process (other q (live_below q alive)) ∙ alive;
      lived = λ q low alive. ap is_live_process (sym (other q low)) ∙ alive;
      same = λ q still alive. get_insert_other vpid_total vpid_exact makers (pid next) maker q (lower_other q (live_below q alive));
      part = λ q m low found. sym (get_insert_other vpid_total vpid_exact makers (pid next) maker q (lower_other q low)) ∙ found;
    }

    pub added_makers : maker.host < 16 → maker.made < 2 ^ 32 → AreMakers processes makers → AreMakers (map.insert processes (pid next) (child_process parent next)) (map.insert makers (pid next) maker)
    added_makers host made are = record {
      same = λ q. ⊎_elim
          (λ same. subst (λ r. is_some (map.get (map.insert makers (pid next) maker) r) ≡ is_some (map.get (map.insert processes (pid next) (child_process parent next)) r)) (sym same)
          (ap is_some (get_insert_same vpid_total vpid_exact makers (pid next) maker) ∙ sym (ap is_some (get_insert_same vpid_total vpid_exact processes (pid next) (child_process parent next)))))
          (λ apart. ap is_some (get_insert_other vpid_total vpid_exact makers (pid next) maker q apart) ∙ are.same q
          ∙ sym (ap is_some (get_insert_other vpid_total vpid_exact processes (pid next) (child_process parent next) q apart)))
          (same_or_other vpid_total vpid_exact q (pid next));
      hosts = each_with vpid_total vpid_exact (λ q m. m.host < 16) makers (pid next) maker host (λ q m apart found. are.hosts q m found);
      counts = each_with vpid_total vpid_exact (λ q m. m.made < 2 ^ 32) makers (pid next) maker made (λ q m apart found. are.counts q m found);
    }

    parent_still : (q : VPid) (r : ℕ) → q.0 < next → IsParent processes makers q r → IsParent (map.insert processes (pid next) (child_process parent next)) (map.insert makers (pid next) maker) q r
    parent_still q r low one = record {
      below = one.below;
      alive = added_leaves.lives (pid r) tt one.alive;
      host = ap (λ m. same_host m (map.get (map.insert makers (pid next) maker) (pid r))) (get_insert_other vpid_total vpid_exact makers (pid next) maker q (lower_other q low))
          ∙ ap (same_host (map.get makers q)) (added_leaves.same (pid r) tt one.alive) ∙ one.host;
    }

    has_still : (q : VPid) (r : ℕ) (life : Life) → q.0 < next → HasParent processes makers q r life
        → HasParent (map.insert processes (pid next) (child_process parent next)) (map.insert makers (pid next) maker) q r life
    has_still q r Live low has = ⊎_elim (λ nobody. inl nobody) (λ one. inr (parent_still q r low one)) has
    has_still q r (Zombie status) low has = (parent_still q r low has.0, has.1)

    pub added_parents : (parent ≡ NOBODY) ⊎ ((lives_in processes (pid parent) ≡ true) × (same_host (Some maker) (map.get makers (pid parent)) ≡ true)) → AreParents processes makers → AreParents (map.insert processes (pid next) (child_process parent next)) (map.insert makers (pid next) maker)
    added_parents has are = record {
      each = each_with vpid_total vpid_exact (λ q process. HasParent (map.insert processes (pid next) (child_process parent next)) (map.insert makers (pid next) maker) q process.parent process.life)
          processes (pid next) (child_process parent next)
          (⊎_elim
          (λ nobody. inl nobody)
          (λ one. inr (record {
            below = live_below (pid parent) one.0;
            alive = added_leaves.lives (pid parent) tt one.0;
            host = ap (λ m. same_host m (map.get (map.insert makers (pid next) maker) (pid parent))) (get_insert_same vpid_total vpid_exact makers (pid next) maker)
                ∙ ap (same_host (Some maker)) (added_leaves.same (pid parent) tt one.0) ∙ one.1;
          }))
          has)
          (λ q process apart found. has_still q process.parent process.life (number_below q (map.get processes q) refl (ap is_some found)) (are.each q process found));
    }
