-- The zombies of a process that ends go, one after the other.
--     IsZombie k p q x      a child of p that has ended
--     zombie_gone           the system without it, its pair and its maker
--     zombie_real           what the real table finds is one
--     none_left             where the real table finds none
use Rattle.std.proofs.Common.{◌≡◌, ◌≢◌, ◌⊎◌, ℕ, ◌≤◌, true, false, cond, Some, None, Result, Ok, Err, inl, inr, refl, sym, ap, ◌∙◌, subst}
use Rattle.std.specs.Prelude.{◌&&◌, not, IsSome, is_some, option_map}
use Rattle.std.specs.Cmp.{nat_cmp_total}
use Rattle.std.specs.FinMap as map
use Rattle.std.specs.FinMap.{nat_cmp-IsAntisymmetric}
use Rattle.std.proofs.lemmas.Option.{none-some, same_Some}
use Rattle.views.proofs.MapLaws.{true_false, same_or_other, get_remove_same, get_remove_other}
use Rattle.views.proofs.Seen.{virt_of, real_of}
use Rattle.sys_abi.specs.declared.identity.RealPid.{RealPid}
use Rattle.sys_abi.specs.declared.identity.VPid.{VPid}
use Rattle.sys_abi.specs.declared.life.Life.TheVariants.{Zombie}
use Rattle.sys_abi.specs.Lives.{lives}
use Rattle.sys_abi.proofs.OrderLaws.{vpid_total, vpid_exact, real_pid_total, real_pid_exact}
use Rattle.proc_book.specs.declared.process.Process as real_process
use Rattle.proc_book.specs.declared.waiting.Waiting.{Waiting}
use Rattle.proc_book.specs.declared.waiting.Waiting.TheVariants as found
use Rattle.proc_book.specs.declared.proc_fault.ProcFault.{ProcFault}
use Rattle.proc_book.specs.Ends as real_ends
use Rattle.proc_book.specs.Procs.{ProcTable, waited, after_wait}
use Rattle.proc_book.specs.Processes as procs
use Rattle.proc_book.specs.Waits as waits
use Rattle.plain_tables.specs.declared.process.Process.{Process}
use Rattle.plain_tables.specs.Ends.{is_zombie_child, orphan, orphaned}
use Rattle.plain_tables.specs.Tables.{Makers, FIRST_PID, pid, is_live_process, has_thread_in}
use Rattle.plain_tables.proofs.Orphans.{look_up}
use Rattle.plain_machine.specs.declared.kernel.PlainKernel.{PlainKernel}
use Rattle.plain_machine.specs.Kernel.{is_live, without_process}
use Rattle.plain_machine.proofs.EndedKernels.{no_thread_of}
use Rattle.plain_machine.proofs.ReapedKernels.{IsEnded, whole_reaped}
use Rattle.host_tables.specs.declared.system.System.{System}
use Rattle.host_tables.specs.Processes.{SameProcess}
use Rattle.host_tables.specs.Numbers.{to_real, to_virt}
use Rattle.host_tables.specs.Stands.{Given, Stands}
use Rattle.host_tables.specs.Systems.{given_of, IsNumber}
use Rattle.host_tables.proofs.Waits.{same_parent}
use Rattle.host_tables.proofs.Ways.{lead_process}
use Rattle.wrap_names.proofs.OfHostProcesses.Reaped.{reaped_kept}
use Rattle.wrap_names.specs.OfHostProcesses.Leaves.{after_leave}
use Rattle.wrap_names.specs.Passing.{Passed}
use Rattle.wrap_names.specs.Wrapping.{IsWrapped}
use Rattle.wrap_names.proofs.Reaping.{nobody_left}
use Rattle.wrap_ends.specs.Ending.{EndsAs, IsFewer, IsAlone, HasNoZombie}
use Rattle.wrap_ends.proofs.Nearly.{nearly, without_pair, dropped, all_dropped}
use Rattle.wrap_ends.proofs.Keys.{fewer_len}
use Rattle.wrap_ends.proofs.SameEnds.{left_of, EndsAlike, same_end}
use Rattle.wrap_ends.proofs.ThreadCounts.{live_there}

pub record IsZombie (k : PlainKernel) (p q : VPid) : Type 0 where
  pub process : Process
  pub there : map.get k.processes q ≡ Some process
  pub status : ℕ
  pub life : process.life ≡ Zombie status
  pub child : is_zombie_child p process ≡ true

module _ (s : System) (next_id : ℕ) (k : PlainKernel) (w : IsWrapped s next_id k) (p : VPid) (who : RealPid)
    (paired : map.get s.ids.pids p.0 ≡ Some who) (alive : is_live k p ≡ true) where
  abbrev g : Given
  g = given_of s

  st : Stands g None s.kernel k
  st = w.stands.tables

  own : (x : Process) × (map.get k.processes p ≡ Some x)
  unfolding is_live
  own = live_there (map.get k.processes p) alive

  own_lives : lives own.0.life ≡ true
  unfolding is_live
  own_lives = ap is_live_process (sym own.1) ∙ alive

  first : FIRST_PID ≤ p.0
  first = (w.stands.kernel.processes.each p own.0 own.1).number.0

  -- a zombie of the process
  module _ (q : VPid) (zombie : IsZombie k p q) where
    abbrev k' : PlainKernel
    k' = without_process q k

    ended : IsEnded k.processes q zombie.status
    ended = record { process = zombie.process; there = zombie.there; life = zombie.life }

    differs : p ≢ q
    differs same =
        true_false (sym own_lives
        ∙ ap lives (ap (λ (x : Process). x.life) (same_Some own.0 zombie.process
        (sym own.1 ∙ ap (map.get k.processes) same ∙ zombie.there)) ∙ zombie.life))

    own_still : map.get k'.processes p ≡ map.get k.processes p
    own_still = get_remove_other vpid_total vpid_exact k.processes q p differs

    alive_still : is_live k' p ≡ true
    unfolding is_live
    alive_still = ap is_live_process own_still ∙ alive

    -- what goes
    other_by : (u : VPid) → left_of p (map.get k'.processes u) ≡ left_of p (map.get k.processes u)
    other_by u = elim (same_or_other vpid_total vpid_exact u q) [
      | inl here ↦
          ap (λ v. left_of p (map.get k'.processes v)) here
          ∙ ap (left_of p) (get_remove_same vpid_total vpid_exact k.processes q)
          ∙ sym (ap (λ v. left_of p (map.get k.processes v)) here ∙ ap (left_of p) zombie.there
          ∙ ap (λ b. option_map (orphan p) (cond (not b) (Some zombie.process) None)) zombie.child)
      | inr differ ↦ ap (left_of p) (get_remove_other vpid_total vpid_exact k.processes q u differ)
    ]

    gone_there : map.get (orphaned p k.processes) q ≡ None
    gone_there =
        look_up p k.processes q ∙ ap (left_of p) zombie.there
        ∙ ap (λ b. option_map (orphan p) (cond (not b) (Some zombie.process) None)) zombie.child

    alike : EndsAlike k k'.processes k'.makers p
    alike = record {
      own = own.0;
      own_now = own.0;
      there = own.1;
      there_now = own_still ∙ own.1;
      parent = refl;
      alive = own_lives;
      alive_now = own_lives;
      others = λ u differ. other_by u;
      made = λ u there.
          get_remove_other vpid_total vpid_exact k.makers q u (λ same.
          true_false (sym there ∙ ap is_some (ap (map.get (orphaned p k.processes)) same ∙ gone_there)));
    }

    same : (status : ℕ) → after_leave k' p status ≡ after_leave k p status
    same status = same_end k k'.processes k'.makers p alike status

    -- its number
    process_still : (v : ℕ) → IsSome (map.get k.processes (pid v)) → IsNumber k' v ⊎ (v ≡ q.0)
    process_still v is = elim (same_or_other vpid_total vpid_exact (pid v) q) [
      | inl here ↦ inr (ap (λ (u : VPid). u.0) here)
      | inr differ ↦ inl (inl
          (ap is_some (get_remove_other vpid_total vpid_exact k.processes q (pid v) differ) ∙ is))
    ]

    no_threads : (v : ℕ) (u : VPid) → has_thread_in v (map.get k.processes u) ≡ true → u ≢ q
    no_threads v u has same =
        true_false (sym has ∙ ap (λ o. has_thread_in v (map.get k.processes o)) same
        ∙ ap (has_thread_in v) zombie.there
        ∙ no_thread_of zombie.process.life zombie.process.threads zombie.process.pending v
        (ap lives zombie.life) (w.stands.kernel.processes.each q zombie.process zombie.there).life)

    numbers : (v : ℕ) → IsNumber k v → IsNumber k' v ⊎ (v ≡ q.0)
    numbers v is = elim is [
      | inl process ↦ process_still v process
      | inr thread ↦ inl (inr (
        thread.0,
        ap (has_thread_in v) (get_remove_other vpid_total vpid_exact k.processes q thread.0
            (no_threads v thread.0 thread.1)) ∙ thread.1,
      ))
    ]

    module _ (r : RealPid) (leads : map.get s.ids.pids q.0 ≡ Some r) where
      abbrev less : System
      less = record s {
        kernel = record s.kernel {
          procs = record s.kernel.procs { processes = map.remove s.kernel.procs.processes r };
        };
        conns = record s.conns { makers = map.remove s.conns.makers q };
      }

      passed : Passed s less k'
      passed = record {
        ids = refl;
        conns = refl;
        names = refl;
        stands = reaped_kept g s.kernel k st q r leads;
      }

      pub zombie_gone : IsWrapped (without_pair less q.0) next_id k'
      zombie_gone =
          all_dropped (without_pair less q.0) next_id k' (λ v. (v ≡ q.0) × (v ≢ q.0))
          (dropped less next_id k' (λ v. v ≡ q.0)
          (nearly s next_id k w less k' passed (λ v. v ≡ q.0) (record {
            numbers = numbers;
            places = λ a h. h;
            names = λ id h. h;
            channels = refl;
            next = refl;
          }) (ap (λ (m : Makers). map.remove m q) w.stands.exact.makers)
          (whole_reaped k q zombie.status w.stands.kernel ended))
          q.0 (nobody_left k w.stands.kernel q zombie.status ended))
          (λ v extra. extra.1 extra.0)

      pub reaped : EndsAs (without_pair less q.0) next_id k p who (λ kernel. IsFewer k kernel p)
      reaped = record {
        kernel = k';
        wrapped = zombie_gone;
        alive = alive_still;
        paired = get_remove_other nat_cmp_total nat_cmp-IsAntisymmetric s.ids.pids q.0 p.0
            (λ same. differs (ap pid same)) ∙ paired;
        same = same;
        also = record {
          fewer = fewer_len vpid_total k.processes q zombie.process zombie.there;
          own
              = own_still;
        };
      }

  -- what the real table finds
  zombie_on : (q : VPid) (r : RealPid) (x : Process) (y : real_process.Process)
      → SameProcess g.pids g.virts q r x y → is_zombie_child p x ≡ real_ends.is_zombie_child who y
  zombie_on q r x y same =
      let parents = same_parent g.pids g.virts st.paired.inverse p who paired first y.parent x.parent
      same.parent in
      let life = ap lives same.life in
      λ i. parents i && not (life i)

  pub record IsFound (r : RealPid) : Type 0 where
    pub number : VPid
    pub zombie : IsZombie k p number
    pub leads : map.get s.ids.pids number.0 ≡ Some r

  found_at : (r : RealPid) (status : ℕ) → waits.IsEnded s.kernel.procs.processes who r status → IsFound r
  found_at r status ended =
      let v = virt_of vpid_total vpid_exact real_pid_total real_pid_exact (to_real g.pids) (to_virt g.virts)
      (lead_process g.pids g.virts st.paired.inverse) (SameProcess g.pids g.virts) k.processes
      s.kernel.procs.processes st.processes r ended.process ended.there in
      let child : procs.is_child_of who ended.process ≡ true = ended.child in
      let dead = ap lives ended.ended in
      record {
        number = v.0;
        zombie = record {
          process = v.1.1.0;
          there = v.1.1.1.0;
          status = status;
          life = v.1.1.1.1.life ∙ ended.ended;
          child = zombie_on v.0 r v.1.1.0 ended.process v.1.1.1.1 ∙ (λ i. child i && not (dead i));
        };
        leads = v.1.0;
      }

  none_by : ((r : RealPid) (y : real_process.Process) → map.get s.kernel.procs.processes r ≡ Some y
      → real_ends.is_zombie_child who y ≡ false) → HasNoZombie k p
  none_by none = record {
    none = λ q x there.
        let v = real_of vpid_total vpid_exact real_pid_total real_pid_exact (to_real g.pids) (to_virt g.virts)
        (lead_process g.pids g.virts st.paired.inverse) (SameProcess g.pids g.virts) k.processes
        s.kernel.procs.processes st.processes q x there in
        zombie_on q v.0 x v.1.1.0 v.1.1.1.1 ∙ none v.0 v.1.1.0 v.1.1.1.0;
  }

  pub none_left : (o : Waiting) → waits.Finds s.kernel.procs.processes who o
      → ((r : RealPid) (status : ℕ) → o ≡ found.Ended r status → ⊥) → HasNoZombie k p
  none_left found.NoChild finds not_ended =
      none_by (λ r y there. let other = finds r y there in λ i. other i && not (procs.is_live y))
  none_left found.NotReady finds not_ended = none_by finds.live
  none_left (found.Ended r status) finds not_ended = absurd (not_ended r status refl)

  pub stays : HasNoZombie k p → EndsAs s next_id k p who (λ kernel. IsAlone k kernel p)
  stays none = record {
    kernel = k;
    wrapped = w;
    alive = alive;
    paired = paired;
    same = λ status. refl;
    also = record { none = none; own = refl };
  }

  ended_by : (o : Waiting) (r : RealPid) (status : ℕ) → waits.Finds s.kernel.procs.processes who o
      → o ≡ found.Ended r status → waits.IsEnded s.kernel.procs.processes who r status
  ended_by o r status finds is =
      let least : waits.IsLeastEnded s.kernel.procs.processes who r status =
      subst (waits.Finds s.kernel.procs.processes who) is finds in
      least.child

  -- a step, by what the table told
  pub step : (o : Waiting) (r : RealPid) (status : ℕ) → waits.Finds s.kernel.procs.processes who o
      → o ≡ found.Ended r status → (table : ProcTable)
      → table ≡ record s.kernel.procs { processes = after_wait o s.kernel.procs.processes } → (n : ℕ)
      → map.get s.ids.virts r ≡ Some n
      → EndsAs (without_pair (record s {
        kernel = record s.kernel { procs = table };
        conns = record s.conns { makers = map.remove s.conns.makers (pid n) };
      }) n) next_id k p who (λ kernel. IsFewer k kernel p)
  step o r status finds is table table_is n back =
      let at = found_at r status (ended_by o r status finds is) in
      let number : at.number.0 ≡ n =
      same_Some at.number.0 n (sym (st.paired.inverse.leads_back at.number.0 r at.leads) ∙ back) in
      subst (λ (t : ProcTable). EndsAs (without_pair (record s {
        kernel = record s.kernel { procs = t };
        conns = record s.conns { makers = map.remove s.conns.makers (pid n) };
      }) n) next_id k p who (λ kernel. IsFewer k kernel p))
      (sym (table_is ∙ ap (λ w. record s.kernel.procs { processes = after_wait w s.kernel.procs.processes })
      is))
      (subst (λ m. EndsAs (without_pair (record s {
        kernel = record s.kernel {
          procs = record s.kernel.procs { processes = map.remove s.kernel.procs.processes r };
        };
        conns = record s.conns { makers = map.remove s.conns.makers (pid m) };
      }) m) next_id k p who (λ kernel. IsFewer k kernel p)) number
      (reaped at.number at.zombie r at.leads))

  -- who has ended is paired
  pub always_paired : (o : Waiting) (r : RealPid) (status : ℕ) → waits.Finds s.kernel.procs.processes who o
      → o ≡ found.Ended r status → map.get s.ids.virts r ≡ None → ⊥
  always_paired o r status finds is none =
      let at = found_at r status (ended_by o r status finds is) in
      none-some at.number.0 (sym none ∙ st.paired.inverse.leads_back at.number.0 r at.leads)

ok_err : (e : RealPid × ℕ) (f : ProcFault) → ◌≡◌ {A = Result (RealPid × ℕ) ProcFault} (Ok e) (Err f) → ⊥
ok_err e f h = cc

same_ok : (a b : RealPid × ℕ) → ◌≡◌ {A = Result (RealPid × ℕ) ProcFault} (Ok a) (Ok b) → a ≡ b
same_ok a b h = cc

pub told_ended : (o : Waiting) (e : RealPid × ℕ) → Ok e ≡ waited o → o ≡ found.Ended e.0 e.1
told_ended found.NoChild e is = absurd (ok_err e _ is)
told_ended found.NotReady e is = absurd (ok_err e _ is)
told_ended (found.Ended r status) e is =
    ap (λ (x : RealPid × ℕ). found.Ended x.0 x.1) (sym (same_ok e (r, status) is))

pub not_ended : (o : Waiting) (f : ProcFault) → Err f ≡ waited o → (r : RealPid) (status : ℕ)
    → o ≡ found.Ended r status → ⊥
not_ended o f told r status is = ok_err (r, status) f (sym (told ∙ ap waited is))

pub nothing_waited : (t : ProcTable) (o : Waiting)
    → ((r : RealPid) (status : ℕ) → o ≡ found.Ended r status → ⊥)
    → record t { processes = after_wait o t.processes } ≡ t
nothing_waited t found.NoChild none = refl
nothing_waited t found.NotReady none = refl
nothing_waited t (found.Ended r status) none = absurd (none r status refl)
