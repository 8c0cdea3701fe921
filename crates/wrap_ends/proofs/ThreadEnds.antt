-- A thread of a process that has others ends.
--     thread_found, thread_there      the least real thread is one of the process
--     alone, with_others              what the end of a thread leaves
use Rattle.std.proofs.Common.{◌≡◌, ◌≢◌, ◌⊎◌, ℕ, ◌≤◌, ◌<◌, true, false, cond, List, Option, Some, None, inl, inr, refl, sym, ap, ◌∙◌, subst, arith}
use Rattle.std.specs.Prelude.{nat_le, nat_lt, IsSome, is_some}
use Rattle.std.specs.Option.{option_map_or}
use Rattle.std.specs.Cmp.{nat_cmp_total}
use Rattle.std.specs.Ordering.{nat_cmp}
use Rattle.std.specs.FinMap as map
use Rattle.std.specs.FinMap.{nat_cmp-IsAntisymmetric}
use Rattle.std.proofs.lemmas.Bool.Decides.{nat_tests}
use Rattle.std.proofs.lemmas.Option.{same_Some}
use Rattle.views.specs.Numbers.{Byte}
use Rattle.views.proofs.MapLaws.{true_false, same_or_other, get_remove_same, get_remove_other}
use Rattle.views.proofs.Seen.{real_of, virt_of}
use Rattle.sys_abi.specs.declared.identity.RealPid.{RealPid}
use Rattle.sys_abi.specs.declared.identity.VPid.{VPid}
use Rattle.sys_abi.specs.declared.life.Life.{Life}
use Rattle.sys_abi.specs.declared.life.Life.TheVariants.{Live, Zombie}
use Rattle.sys_abi.specs.Lives.{lives}
use Rattle.sys_abi.proofs.OrderLaws.{vpid_total, vpid_exact}
use Rattle.proc_book.specs.declared.process.Process as real_process
use Rattle.proc_book.specs.Procs.{next_thread, threads_at}
use Rattle.plain_tables.specs.declared.process.Process.{Process}
use Rattle.plain_tables.specs.Tables.{FIRST_PID, pid, has_thread_in, thread_count_in, without_thread_entry, is_live_process}
use Rattle.plain_tables.specs.Valid.Processes.{FitsLife}
use Rattle.plain_tables.proofs.Changes.{changed_here, changed_other, changed_test}
use Rattle.plain_machine.specs.declared.kernel.PlainKernel.{PlainKernel}
use Rattle.plain_machine.specs.Ends.{exit_status, after_end, thread_ended}
use Rattle.plain_machine.specs.Kernel.{is_live, has_thread, thread_count, at_process}
use Rattle.plain_machine.specs.Kernels.{IsKernel}
use Rattle.plain_machine.specs.Rows.End.{exit_row}
use Rattle.plain_machine.proofs.WholeChanges.{whole_fewer}
use Rattle.host_tables.specs.declared.kernel.Kernel.{Kernel}
use Rattle.host_tables.specs.declared.attempt.Attempt.TheVariants as answer
use Rattle.host_tables.specs.declared.system.System.{System}
use Rattle.host_tables.specs.Numbers.{real, to_real_thread, to_virt_thread}
use Rattle.host_tables.specs.Processes.{IsSame, SameProcess}
use Rattle.host_tables.specs.Serves.{Serves, ByNumber, same}
use Rattle.host_tables.specs.Stands.{Given, Stands}
use Rattle.host_tables.specs.Systems.{given_of, IsNumber}
use Rattle.host_tables.proofs.LookUps.{some_value, real_process_of}
use Rattle.host_tables.proofs.ProcessChanges.{same_threads}
use Rattle.host_tables.proofs.Ways.{lead_thread}
use Rattle.wrap_names.specs.OfHostProcesses.Leaves.{after_leave}
use Rattle.wrap_names.specs.Passing.{Passed}
use Rattle.wrap_names.specs.Wrapping.{IsWrapped}
use Rattle.wrap_names.proofs.Reaping.{nobody}
use Rattle.wrap_ends.proofs.Keys.{fewer_len, some_entry, find_there, find_none}
use Rattle.wrap_ends.proofs.Nearly.{nearly, without_pair, dropped, all_dropped}
use Rattle.wrap_ends.proofs.SameEnds.{left_of, same_end}
use Rattle.wrap_ends.proofs.ThreadCounts.{live_there}

some_threads : (life : Life) (threads : map.FinMap nat_cmp ℕ) (pending : ℕ) → lives life ≡ true
    → FitsLife life threads pending → 1 ≤ map.len threads
some_threads Live threads pending alive fits = fits.0
some_threads (Zombie status) threads pending alive fits = true_false (sym alive)

module _ (s : System) (next_id : ℕ) (k : PlainKernel) (w : IsWrapped s next_id k) (p : VPid) (who : RealPid)
    (paired : map.get s.ids.pids p.0 ≡ Some who) (alive : is_live k p ≡ true) where
  abbrev g : Given
  g = given_of s

  st : Stands g None s.kernel k
  st = w.stands.tables

  pub own : (x : Process) × (map.get k.processes p ≡ Some x)
  unfolding is_live
  own = live_there (map.get k.processes p) alive

  pub own_lives : lives own.0.life ≡ true
  unfolding is_live
  own_lives = ap is_live_process (sym own.1) ∙ alive

  own_real : (y : real_process.Process)
      × ((map.get s.kernel.procs.processes who ≡ Some y) × SameProcess g.pids g.virts p who own.0 y)
  own_real = real_process_of g s.kernel k st p who paired own.0 own.1

  pub count_is : thread_count k p ≡ threads_at s.kernel.procs.processes who
  count_is =
      ap thread_count_in own.1 ∙ sym
      (same_threads g None s.kernel k st p who paired own.0 own_real.0 own_real.1.1)
      ∙ sym (ap (λ o. option_map_or (λ (y : real_process.Process). map.len y.threads) o 0) own_real.1.0)

  -- the least real thread
  pub record IsFound (thread : ℕ) : Type 0 where
    pub number : ℕ
    pub leads : map.get s.ids.pids number ≡ Some (real who.node thread)
    pub there : has_thread k p number ≡ true

  pub thread_found : (thread : ℕ) → next_thread 0 (map.get s.kernel.procs.processes who) ≡ Some thread
      → IsFound thread
  thread_found thread is =
      let y = own_real.0 in
      let some = find_there (nat_lt 0) y.threads thread (sym (ap (next_thread 0) own_real.1.0) ∙ is) in
      let signals = some_value (map.get y.threads thread) some in
      let v = virt_of nat_cmp_total nat_cmp-IsAntisymmetric nat_cmp_total nat_cmp-IsAntisymmetric
      (to_real_thread g.pids who.node) (to_virt_thread g.virts who.node)
      (lead_thread g.pids g.virts st.paired.inverse who.node) IsSame own.0.threads y.threads
      own_real.1.1.threads thread signals.0 signals.1 in
      record {
        number = v.0;
        leads = st.paired.inverse.leads_there v.0 (real who.node thread)
            ((lead_thread g.pids g.virts st.paired.inverse who.node).back v.0 thread v.1.0);
        there = ap (has_thread_in v.0) own.1 ∙ ap is_some v.1.1.1.0;
      }

  pub thread_there : next_thread 0 (map.get s.kernel.procs.processes who) ≡ None → ⊥
  thread_there none =
      let y = own_real.0 in
      let is = w.stands.kernel.processes.each p own.0 own.1 in
      let entry = some_entry nat_cmp_total nat_cmp-IsAntisymmetric own.0.threads
      (some_threads own.0.life own.0.threads own.0.pending own_lives is.life) in
      let v = real_of nat_cmp_total nat_cmp-IsAntisymmetric nat_cmp_total nat_cmp-IsAntisymmetric
      (to_real_thread g.pids who.node) (to_virt_thread g.virts who.node)
      (lead_thread g.pids g.virts st.paired.inverse who.node) IsSame own.0.threads y.threads
      own_real.1.1.threads entry.key entry.value entry.there in
      let leads = st.paired.inverse.leads_there entry.key (real who.node v.0)
      ((lead_thread g.pids g.virts st.paired.inverse who.node).back entry.key v.0 v.1.0) in
      let above = (st.paired.handed_out entry.key (real who.node v.0) leads).first in
      let not_above = find_none (nat_lt 0) y.threads v.0 (sym (ap (next_thread 0) own_real.1.0) ∙ none)
      (ap is_some v.1.1.1.0) in
      not_low v.0 above not_above
    where
      not_low : (n : ℕ) → 1 ≤ n → nat_lt 0 n ≡ false → ⊥
      not_low n above low = let e : nat_lt 0 n ≡ true = grind (arith, nat_tests, above) in true_false
          (sym e ∙ low)

  -- the end of a thread
  module _ (t : ℕ) (has : has_thread k p t ≡ true) (others : 1 < thread_count k p) where
    abbrev k' : PlainKernel
    k' = at_process k p (without_thread_entry t)

    its_thread : is_some (map.get own.0.threads t) ≡ true
    its_thread = sym (ap (has_thread_in t) own.1) ∙ has

    here : map.get k'.processes p ≡ Some (without_thread_entry t own.0)
    here = changed_here vpid_total vpid_exact k.processes p (without_thread_entry t) own.0 own.1

    beside : (u : VPid) → u ≢ p → map.get k'.processes u ≡ map.get k.processes u
    beside u differ = changed_other vpid_total vpid_exact k.processes p (without_thread_entry t) u differ

    whole : IsKernel k'
    whole = whole_fewer k p w.stands.kernel t others

    pub alive_still : is_live k' p ≡ true
    unfolding is_live
    alive_still = ap is_live_process here ∙ own_lives

    pub same_left : (status : ℕ) → after_leave k' p status ≡ after_leave k p status
    same_left status =
        same_end k k'.processes k.makers p (record {
          own = own.0;
          own_now = without_thread_entry t own.0;
          there = own.1;
          there_now = here;
          parent = refl;
          alive = own_lives;
          alive_now = own_lives;
          others = λ u differ. ap (left_of p) (beside u differ);
          made = λ u there. refl;
        }) status

    pub fewer_threads : thread_count k' p < thread_count k p
    fewer_threads =
        let signals = some_value (map.get own.0.threads t) its_thread in
        let less = fewer_len nat_cmp_total own.0.threads t signals.0 signals.1 in
        let now = ap thread_count_in here in
        let was = ap thread_count_in own.1 in
        omega (arith, less, now, was)

    -- numbers
    some_still : (u : VPid) → IsSome (map.get k.processes u) → IsSome (map.get k'.processes u)
    some_still u is =
        changed_test vpid_total vpid_exact k.processes p (without_thread_entry t) is_some (λ x there. refl) u
        ∙ is

    thread_still : (v : ℕ) (u : VPid) → has_thread_in v (map.get k.processes u) ≡ true
        → (has_thread_in v (map.get k'.processes u) ≡ true) ⊎ (v ≡ t)
    thread_still v u is = elim (same_or_other vpid_total vpid_exact u p) [
      | inl same ↦ elim (same_or_other nat_cmp_total nat_cmp-IsAntisymmetric v t) [
        | inl it ↦ inr it
        | inr differ ↦ inl (
            ap (λ q. has_thread_in v (map.get k'.processes q)) same ∙ ap (has_thread_in v) here
            ∙ ap is_some (get_remove_other nat_cmp_total nat_cmp-IsAntisymmetric own.0.threads t v differ)
            ∙ sym (ap (λ q. has_thread_in v (map.get k.processes q)) same ∙ ap (has_thread_in v) own.1) ∙ is)
      ]
      | inr differ ↦ inl (ap (has_thread_in v) (beside u differ) ∙ is)
    ]

    numbers : (v : ℕ) → IsNumber k v → IsNumber k' v ⊎ (v ≡ t)
    numbers v is = elim is [
      | inl process ↦ inl (inl (some_still (pid v) process))
      | inr thread ↦ elim (thread_still v thread.0 thread.1) [
        | inl still ↦ inl (inr (thread.0, still))
        | inr it ↦ inr it
      ]
    ]

    module _ (new : Kernel) (stands : Stands g None new k') where
      abbrev after : System
      after = record s { kernel = new }

      passed : Passed s after k'
      passed = record { ids = refl; conns = refl; names = refl; stands = stands }

      -- the number of its process
      pub first_gone : t ≡ p.0 → IsWrapped after next_id k'
      first_gone same =
          all_dropped after next_id k' (λ v. ⊥)
          (nearly s next_id k w after k' passed (λ v. ⊥) (record {
            numbers = λ v is. elim (numbers v is) [
              | inl there ↦ inl there
              | inr it ↦ inl (inl (ap (λ n. is_some (map.get k'.processes (pid n))) (it ∙ same)
                  ∙ ap is_some here))
            ];
            places = λ a h. h;
            names = λ id h. h;
            channels = refl;
            next = refl;
          }) w.stands.exact.makers whole) (λ v extra. extra)

      -- another
      module _ (differs : t ≢ p.0) where
        no_process_by : (o : Option Process) → map.get k.processes (pid t) ≡ o → map.get k.processes (pid t)
            ≡ None
        no_process_by None e = e
        no_process_by (Some x) e =
            absurd (differs (sym (ap (λ (u : VPid). u.0)
            (w.stands.kernel.processes.own_number p (pid t) has (ap is_some e)))))

        no_process : map.get k'.processes (pid t) ≡ None
        no_process =
            beside (pid t) (λ same. differs (ap (λ (u : VPid). u.0) same))
            ∙ no_process_by (map.get k.processes (pid t)) refl

        no_thread_by : (u : VPid) (x : Process) → u ≢ p → map.get k.processes u ≡ Some x → (o : Option ℕ)
            → map.get x.threads t ≡ o → map.get x.threads t ≡ None
        no_thread_by u x differ is None e = e
        no_thread_by u x differ is (Some signals) e =
            absurd (differ (w.stands.kernel.processes.threads_apart u p t
            (ap (has_thread_in t) is ∙ ap is_some e) has))

        no_thread : (u : VPid) (x : Process) → map.get k'.processes u ≡ Some x → map.get x.threads t ≡ None
        no_thread u x is = elim (same_or_other vpid_total vpid_exact u p) [
          | inl same ↦
              subst (λ (y : Process). map.get y.threads t ≡ None)
              (same_Some (without_thread_entry t own.0) x
              (sym here ∙ ap (map.get k'.processes) (sym same) ∙ is))
              (get_remove_same nat_cmp_total nat_cmp-IsAntisymmetric own.0.threads t)
          | inr differ ↦ no_thread_by u x differ (sym (beside u differ) ∙ is) (map.get x.threads t) refl
        ]

        first : FIRST_PID ≤ t
        first =
            let signals = some_value (map.get own.0.threads t) its_thread in
            ((w.stands.kernel.processes.each p own.0 own.1).threads t signals.0 signals.1).0.0

        pub other_gone : IsWrapped (without_pair after t) next_id k'
        other_gone =
            all_dropped (without_pair after t) next_id k' (λ v. (v ≡ t) × (v ≢ t))
            (dropped after next_id k' (λ v. v ≡ t)
            (nearly s next_id k w after k' passed (λ v. v ≡ t) (record {
              numbers = numbers;
              places = λ a h. h;
              names = λ id h. h;
              channels = refl;
              next = refl;
            }) w.stands.exact.makers whole)
            t (nobody k' whole t first no_process no_thread))
            (λ v extra. extra.1 extra.0)

  -- what the kernel's row leaves
  pub thread_stands : (new : Kernel) (t : ℕ) (x : List Byte) → 1 < thread_count k p
      → Serves ByNumber same g s.kernel new x x (answer.Gives 0) (exit_row k p t 0)
      → Stands g None new (at_process k p (without_thread_entry t))
  unfolding exit_row thread_ended
  thread_stands new t x others serves =
      let several : nat_le (thread_count k p) 1 ≡ false = grind (arith, nat_tests, others) in
      subst (λ b. Stands g None new
      (cond b (after_end k p (exit_status 0)) (at_process k p (without_thread_entry t))))
      several serves.stands
