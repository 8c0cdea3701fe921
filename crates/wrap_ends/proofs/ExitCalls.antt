-- The end of a thread and of a process, and the rows of exit and exit_group.
--     thread_as, one_ended      a thread ended, and its pair
--     ended                     a process ended, step by step
--     group_served, thread_served, last_served      the rows
use Rattle.std.proofs.Common.{◌≡◌, ◌≢◌, ℕ, ◌≤◌, ◌<◌, ◌^◌, Bool, true, false, cond, List, Option, Some, None, Result, Ok, Err, refl, sym, ap, ◌∙◌, subst, arith}
use Rattle.std.specs.Prelude.{◌==◌, nat_le, nat_lt}
use Rattle.std.specs.Option.{ok_or}
use Rattle.std.specs.Cmp.{nat_cmp_total}
use Rattle.std.specs.FinMap as map
use Rattle.std.specs.FinMap.{nat_cmp-IsAntisymmetric}
use Rattle.std.proofs.lemmas.Bool.{eqb-true, eq-eqb}
use Rattle.std.proofs.lemmas.Bool.Decides.{nat_tests}
use Rattle.std.proofs.lemmas.Option.{none-some}
use Rattle.views.specs.Limits.{DESCRIPTOR_LIMIT}
use Rattle.views.specs.Numbers.{Byte}
use Rattle.views.proofs.MapLaws.{true_false, get_remove_other}
use Rattle.sys_abi.specs.declared.identity.RealPid.{RealPid}
use Rattle.sys_abi.specs.declared.identity.VPid.{VPid}
use Rattle.virt_ids.specs.Pairs.{Pairs}
use Rattle.virt_ids.specs.declared.id_fault.IdFault.{IdFault}
use Rattle.plain_tables.specs.Tables.{is_live_process, thread_count_in, without_thread_entry}
use Rattle.plain_process.specs.Attempts.{Try}
use Rattle.plain_machine.specs.declared.kernel.PlainKernel.{PlainKernel}
use Rattle.plain_machine.specs.Attempts.{Served, replied}
use Rattle.plain_machine.specs.Ends.{closed_below, exit_status, after_end, thread_ended}
use Rattle.plain_machine.specs.Kernel.{is_live, has_thread, thread_count, at_process}
use Rattle.plain_machine.specs.Kernels.{IsKernel}
use Rattle.plain_machine.specs.Rows.End.{exit_row, exit_group_row}
use Rattle.plain_machine.proofs.WholeClosing.{closed_below_closes}
use Rattle.plain_machine.proofs.WholeEnds.{whole_ended}
use Rattle.host_tables.specs.declared.kernel.Kernel.{Kernel}
use Rattle.host_tables.specs.declared.reply.KernelReply.TheVariants.{Done}
use Rattle.host_tables.specs.declared.system.System.{System}
use Rattle.host_tables.specs.Stands.{Stands}
use Rattle.host_tables.specs.Systems.{given_of}
use Rattle.host_tables.proofs.LookUps.{some_value}
use Rattle.wrap_names.specs.OfHostProcesses.Leaves.{after_leave}
use Rattle.wrap_names.proofs.OfHostProcesses.Left.{end_is}
use Rattle.wrap_names.specs.Wrapping.{IsWrapped, StandsAfter}
use Rattle.wrap_ends.specs.Ending.{EndsAs, EndsOne, EndsThread, IsAlone, without_number, without_thread}
use Rattle.wrap_ends.proofs.Steps.{begun}
use Rattle.wrap_ends.proofs.ThreadEnds.{alive_still, same_left, fewer_threads, first_gone, other_gone}
use Rattle.wrap_ends.proofs.ThreadCounts.{live_there}

pub several : (n m : ℕ) → n ≡ m → true ≡ nat_lt 1 m → 1 < n
several n m e more = grind (arith, nat_tests)

pub just_one : (n m : ℕ) → n ≡ m → false ≡ nat_lt 1 m → n ≤ 1
just_one n m e few = grind (arith, nat_tests)

module _ (s : System) (next_id : ℕ) (k : PlainKernel) (w : IsWrapped s next_id k) (p : VPid) (who : RealPid)
    (paired : map.get s.ids.pids p.0 ≡ Some who) (alive : is_live k p ≡ true) where
  -- a thread
  module _ (t : ℕ) (has : has_thread k p t ≡ true) where
    module _ (others : 1 < thread_count k p) (new : Kernel)
        (stands : Stands (given_of s) None new (at_process k p (without_thread_entry t))) where
      abbrev Ended : Pairs → Type 0
      Ended ids =
          IsWrapped (record s { kernel = new; ids = ids }) next_id (at_process k p (without_thread_entry t))
          × (map.get ids.pids p.0 ≡ Some who)

      thread_by : (b : Bool) → (t == p.0) ≡ b → Ended (cond b s.ids (without_number s.ids t))
      thread_by true e =
          (first_gone s next_id k w p who paired alive t has others new stands (eqb-true t p.0 e), paired)
      thread_by false e =
          let differs : t ≢ p.0 = λ same. true_false (sym (eq-eqb t p.0 same) ∙ e) in (
            other_gone s next_id k w p who paired alive t has others new stands differs,
            get_remove_other nat_cmp_total nat_cmp-IsAntisymmetric s.ids.pids t p.0
                (λ same. differs (sym same)) ∙ paired,
          )

      pub thread_as : (ids : Pairs) → ids ≡ without_thread s.ids p.0 t
          → EndsThread s (record s { kernel = new; ids = ids }) next_id k p who t true
      thread_as ids is = (others, subst (λ (i : Pairs). Ended i) (sym is) (thread_by (t == p.0) refl))

    pub one_ended : (new : System) (b : Bool) → EndsThread s new next_id k p who t b
        → EndsOne new next_id k p who b
    one_ended new true ended = record {
      kernel = at_process k p (without_thread_entry t);
      wrapped = ended.1.0;
      alive = alive_still s next_id k w p who paired alive t has ended.0;
      paired = ended.1.1;
      same = same_left s next_id k w p who paired alive t has ended.0;
      also = fewer_threads s next_id k w p who paired alive t has ended.0;
    }
    one_ended new false ended =
        subst (λ (x : System). EndsOne x next_id k p who false) (sym ended.1)
        (begun s next_id k p who (λ kernel. thread_count kernel p ≤ 1) w alive paired ended.0)

  -- the whole end
  module _ (status : ℕ) (word : status < 2 ^ 32) where
    abbrev closed : PlainKernel
    closed = closed_below k p DESCRIPTOR_LIMIT

    pub closed_alive : is_live closed p ≡ true
    unfolding is_live
    closed_alive =
        ap (λ m. is_live_process (map.get m p)) (closed_below_closes k p DESCRIPTOR_LIMIT).processes ∙ alive

    module _ (mid : System) (threads : EndsAs mid next_id closed p who (λ kernel. thread_count kernel p ≤ 1))
        (last : System) (alone : EndsAs last next_id threads.kernel p who
        (λ kernel. IsAlone threads.kernel kernel p))
      where
        pub left_is : after_leave alone.kernel p status ≡ after_end k p status
        left_is = alone.same status ∙ threads.same status ∙ end_is k p status

        pub whole_left : IsKernel (after_leave alone.kernel p status)
        whole_left = subst IsKernel (sym left_is) (whole_ended k p status w.stands.kernel alive word)

        pub few_left : thread_count alone.kernel p ≤ 1
        few_left =
            let few = threads.also in
            let own = ap thread_count_in alone.also.own in
            omega (arith, few, own)

  -- rows

  done : (s' : System) (k' : PlainKernel) (m : Try Served) (x : List Byte) → m ≡ replied k' 0
      → IsWrapped s' next_id k' → StandsAfter s' next_id k x x (Done 0) m
  done s' k' m x is after =
      subst (λ y. StandsAfter s' next_id k x x (Done 0) y) (sym is) (after, (refl, refl))

  pub group_served : (s' : System) (code status : ℕ) (x : List Byte) → status ≡ exit_status code
      → IsWrapped s' next_id (after_end k p status)
      → StandsAfter s' next_id k x x (Done 0) (exit_group_row k p code)
  unfolding exit_group_row
  group_served s' code status x is after =
      done s' (after_end k p (exit_status code)) (exit_group_row k p code) x refl
      (subst (λ n. IsWrapped s' next_id (after_end k p n)) is after)

  pub thread_served : (s' : System) (t code : ℕ) (x : List Byte) → EndsThread s s' next_id k p who t true
      → StandsAfter s' next_id k x x (Done 0) (exit_row k p t code)
  unfolding exit_row thread_ended
  thread_served s' t code x ended =
      let several = ended.0 in
      let many : nat_le (thread_count k p) 1 ≡ false = grind (arith, nat_tests, several) in
      done s' (at_process k p (without_thread_entry t)) (exit_row k p t code) x
      (ap (λ b. replied (cond b (after_end k p (exit_status code)) (at_process k p (without_thread_entry t)))
      0) many)
      ended.1.0

  pub last_served : (s' : System) (t code status : ℕ) (x : List Byte) → thread_count k p ≤ 1
      → status ≡ exit_status code → IsWrapped s' next_id (after_end k p status)
      → StandsAfter s' next_id k x x (Done 0) (exit_row k p t code)
  unfolding exit_row thread_ended
  last_served s' t code status x few is after =
      let one : nat_le (thread_count k p) 1 ≡ true = grind (arith, nat_tests, few) in
      done s' (after_end k p (exit_status code)) (exit_row k p t code) x
      (ap (λ b. replied (cond b (after_end k p (exit_status code)) (at_process k p (without_thread_entry t)))
      0) one)
      (subst (λ n. IsWrapped s' next_id (after_end k p n)) is after)

  -- the process has a real number
  pub has_real : map.get s.ids.pids p.0 ≡ None → ⊥
  has_real none = none-some who (sym none ∙ paired)

pub real_there : (s : System) (next_id : ℕ) (k : PlainKernel) → IsWrapped s next_id k → (p : VPid)
    → is_live k p ≡ true → (who : RealPid) × (map.get s.ids.pids p.0 ≡ Some who)
unfolding is_live
real_there s next_id k w p alive =
    let x = live_there (map.get k.processes p) alive in
    some_value (map.get s.ids.pids p.0) (w.stands.tables.numbered.process p x.0 x.1)

same_real : (a b : RealPid) → ◌≡◌ {A = Result RealPid IdFault} (Ok a) (Ok b) → a ≡ b
same_real a b h = cc

differ : (r : RealPid) (f : IdFault) → ◌≡◌ {A = Result RealPid IdFault} (Ok r) (Err f) → ⊥
differ r f h = cc

pub real_told : (o : Option RealPid) (r : RealPid) (f : IdFault) → Ok r ≡ ok_or o f → o ≡ Some r
real_told None r f is = absurd (differ r f is)
real_told (Some q) r f is = ap Some (sym (same_real r q is))

pub no_real : (o : Option RealPid) (r : RealPid) (f e : IdFault) → o ≡ Some r → Err e ≡ ok_or o f → ⊥
no_real o r f e is told = differ r e (sym (told ∙ ap (λ x. ok_or x f) is))
