-- A thread of another number than its process, with its signals.
--     thread_node, thread_lives            the process is on a node, and lives
--     IsThreaded-passed                    the thread of the process's own number is passed over
--     more_can, more_pends                 none is pending for a thread that was just added
--     IsThreaded-more                      it has its signals
use Rattle.std.proofs.Common.{◌≡◌, ◌≢◌, ◌⊎◌, ℕ, ◌+◌, ◌<◌, ◌≤◌, true, false, Some, None, inl, inr, refl, sym, ap, ◌∙◌, subst, length, arith}
use Rattle.std.specs.Prelude.{option_and_then, slice_index}
use Rattle.std.specs.Option.{option_map_or}
use Rattle.std.specs.Cmp.{nat_cmp_total}
use Rattle.std.specs.Ordering.{nat_cmp}
use Rattle.std.specs.FinMap as map
use Rattle.std.specs.FinMap.{FinMap, nat_cmp-IsAntisymmetric}
use Rattle.std.proofs.lemmas.List.{length-set}
use Rattle.std.proofs.Math.Nat.{eq-or-lt_of_le}
use Rattle.views.proofs.MapLaws.{same_or_other, get_insert_same, get_insert_other, insert_insert}
use Rattle.sys_abi.specs.Lives.{lives}
use Rattle.sys_abi.specs.declared.identity.VPid.{VPid}
use Rattle.sys_abi.specs.declared.identity.RealPid.{RealPid}
use Rattle.sys_abi.specs.declared.life.Life.TheVariants.{Live}
use Rattle.sys_abi.proofs.OrderLaws.{vpid_total, vpid_exact}
use Rattle.proc_book.specs.Ends.{is_live_at}
use Rattle.proc_book.specs.Processes.{is_live}
use Rattle.proc_book.specs.Procs.{ProcTable, can_raise, pending_of, next_of, after_add_thread}
use Rattle.virt_ids.specs.Changes.{at_key}
use Rattle.virt_ids.specs.Pairs.{Pairs}
use Rattle.plain_tables.specs.declared.process.Process.{Process}
use Rattle.plain_tables.specs.Tables.{FIRST_PID, Processes, with_signals, with_thread_entry}
use Rattle.plain_machine.specs.declared.kernel.PlainKernel.{PlainKernel}
use Rattle.host_tables.specs.declared.kernel.Hosts.{Hosts}
use Rattle.host_tables.specs.Numbers.{real, number_on, to_real_thread}
use Rattle.rebuild_processes.specs.declared.numbered.Numbered.{Numbered}
use Rattle.rebuild_tables.specs.Hosts.{nodes_from}
use Rattle.rebuild_processes.specs.Making.{with_set, IsTold, IsFrom, IsThreaded}
use Rattle.rebuild_processes.specs.Steps.{with_pair, HasThread}
use Rattle.rebuild_processes.proofs.Begun.{own_number}
use Rattle.rebuild_processes.proofs.Changed.{its_real, threaded, IsTold-threaded}
use Rattle.rebuild_processes.proofs.Paired.{positive_at, IsFrom-new}
use Rattle.rebuild_processes.proofs.Sets.{with_table, can, pends_none, IsTold-thread_set}

module _ (h : Hosts) (k : PlainKernel) (p : VPid) (r : RealPid) (x : Process) (t : ℕ) (m : Numbered)
    (made : IsThreaded h k p r x t m) where
  abbrev so_far : FinMap nat_cmp ℕ → Process
  so_far threads = record { parent = x.parent; life = Live; pending = 0; threads = threads }

  abbrev all : Processes
  all = map.insert made.at.done p (so_far made.threads)

  there : map.get all p ≡ Some (so_far made.threads)
  there = get_insert_same vpid_total vpid_exact made.at.done p (so_far made.threads)

  pub thread_node : r.node < length m.procs.next
  thread_node = (made.at.told.paired.handed_out p.0 r made.at.paired).node

  pub thread_lives : is_live_at m.procs.processes r ≡ true
  thread_lives =
      let y = its_real (nodes_from h) k.makers all m made.at.told p r made.at.paired (so_far made.threads) there in
      ap (λ o. option_map_or is_live o false) y.1.0 ∙ ap lives (sym y.1.1.life)

  positive : 1 ≤ slice_index m.procs.next r.node
  positive = positive_at h.pid_base m.ids.pids m.procs.next made.at.from r.node thread_node

  below : (u : ℕ) → u < t + 1 → (u ≡ t) ⊎ (u < t)
  below u less = eq-or-lt_of_le (at_most u less)
    where
      at_most : (u : ℕ) → u < t + 1 → u ≤ t
      at_most u less = omega (arith, less)

  pub IsThreaded-passed : t ≡ p.0 → IsThreaded h k p r x (t + 1) m
  IsThreaded-passed own = record {
    threads = made.threads;
    of = made.of;
    each = λ u s found place. made.each u s found (elim place [
      | inl less ↦ elim (below u less) [
        | inl same ↦ inr (same ∙ own)
        | inr lower ↦ inl lower
      ]
      | inr here ↦ inr here
    ]);
    at = made.at;
  }

  module _ (set : ℕ) (has : map.get x.threads t ≡ Some set) (first : FIRST_PID ≤ t) (differ : t ≢ p.0)
      (mid : Numbered) (n : ℕ) (begun : HasThread r t n m mid) where
    abbrev next : RealPid
    next = real r.node (next_of m.procs r.node)

    new_r : map.get m.ids.virts next ≡ None
    new_r = ap (λ v. map.get m.ids.virts (real r.node v)) (sym begun.own) ∙ begun.fresh.back

    abbrev entered : Process
    entered = with_thread_entry t (so_far made.threads)

    abbrev then_done : Processes
    then_done = map.insert made.at.done p entered

    abbrev thread_more : Numbered
    thread_more =
        threaded (nodes_from h) k.makers all m made.at.told p r made.at.paired (so_far made.threads) there t first
        thread_node positive begun.fresh.virt new_r

    mid_is : thread_more ≡ mid
    mid_is = λ i. record {
      procs = sym begun.procs i;
      ids = (ap (λ v. with_pair m.ids t (real r.node v)) (sym begun.own) ∙ sym begun.ids) i;
    }

    told_mid : IsTold (nodes_from h) k.makers then_done mid
    told_mid =
        subst (IsTold (nodes_from h) k.makers then_done) mid_is
        (subst (λ (ps : Processes). IsTold (nodes_from h) k.makers ps thread_more)
        (insert_insert vpid_total vpid_exact made.at.done p (so_far made.threads) entered)
        (IsTold-threaded (nodes_from h) k.makers all m made.at.told p r made.at.paired (so_far made.threads) there t
        first thread_node positive begun.fresh.virt new_r))

    there_mid : map.get then_done p ≡ Some entered
    there_mid = get_insert_same vpid_total vpid_exact made.at.done p entered

    paired_mid : map.get mid.ids.pids p.0 ≡ Some r
    paired_mid =
        ap (λ (ids : Pairs). map.get ids.pids p.0) begun.ids
        ∙ get_insert_other nat_cmp_total nat_cmp-IsAntisymmetric m.ids.pids t (real r.node n) p.0
        (λ same. differ (sym same))
        ∙ made.at.paired

    leads_mid : to_real_thread mid.ids.pids r.node t ≡ Some n
    leads_mid =
        ap (λ (ids : Pairs). to_real_thread ids.pids r.node t) begun.ids
        ∙ ap (option_and_then (number_on r.node))
        (get_insert_same nat_cmp_total nat_cmp-IsAntisymmetric m.ids.pids t (real r.node n))
        ∙ own_number r.node n

    has_mid : map.get entered.threads t ≡ Some 0
    has_mid = get_insert_same nat_cmp_total nat_cmp-IsAntisymmetric made.threads t 0

    pub more_can : can_raise mid.procs.processes r (Some n) ≡ true
    more_can =
        can (nodes_from h) k.makers then_done mid told_mid p r paired_mid entered there_mid t n 0 set leads_mid
        has_mid refl

    pub more_pends : pending_of (Some n) (map.get mid.procs.processes r) ≡ 0
    more_pends =
        pends_none (nodes_from h) k.makers then_done mid told_mid p r paired_mid entered there_mid t n 0 set
        leads_mid has_mid refl

    abbrev then : Numbered
    then = with_table mid (at_key mid.procs.processes r (with_set (Some n) set))

    abbrev with_it : FinMap nat_cmp ℕ
    with_it = map.insert made.threads t set

    same_done : map.insert then_done p (with_signals entered t set) ≡ map.insert made.at.done p (so_far with_it)
    same_done =
        insert_insert vpid_total vpid_exact made.at.done p entered (with_signals entered t set)
        ∙ ap (λ threads. map.insert made.at.done p (so_far threads))
        (insert_insert nat_cmp_total nat_cmp-IsAntisymmetric made.threads t 0 set)

    told : IsTold (nodes_from h) k.makers (map.insert made.at.done p (so_far with_it)) then
    told =
        subst (λ (ps : Processes). IsTold (nodes_from h) k.makers ps then) same_done
        (IsTold-thread_set (nodes_from h) k.makers then_done mid told_mid p r paired_mid entered there_mid t n 0 set
        leads_mid has_mid)

    here : map.get with_it t ≡ Some set
    here = get_insert_same nat_cmp_total nat_cmp-IsAntisymmetric made.threads t set

    beside : (u : ℕ) → u ≢ t → map.get with_it u ≡ map.get made.threads u
    beside u other = get_insert_other nat_cmp_total nat_cmp-IsAntisymmetric made.threads t set u other

    of : (u s : ℕ) → map.get with_it u ≡ Some s → map.get x.threads u ≡ Some s
    of u s found = elim (same_or_other nat_cmp_total nat_cmp-IsAntisymmetric u t) [
      | inl same ↦ ap (map.get x.threads) same ∙ has ∙ sym here ∙ ap (map.get with_it) (sym same) ∙ found
      | inr other ↦ made.of u s (sym (beside u other) ∙ found)
    ]

    lower : (u : ℕ) → u ≢ t → (u < t + 1) ⊎ (u ≡ p.0) → (u < t) ⊎ (u ≡ p.0)
    lower u other place = elim place [
      | inl less ↦ elim (below u less) [
        | inl same ↦ absurd (other same)
        | inr under ↦ inl under
      ]
      | inr own ↦ inr own
    ]

    each : (u s : ℕ) → map.get x.threads u ≡ Some s → (u < t + 1) ⊎ (u ≡ p.0) → map.get with_it u ≡ Some s
    each u s found place = elim (same_or_other nat_cmp_total nat_cmp-IsAntisymmetric u t) [
      | inl same ↦ ap (map.get with_it) same ∙ here ∙ sym has ∙ ap (map.get x.threads) (sym same) ∙ found
      | inr other ↦ beside u other ∙ made.each u s found (lower u other place)
    ]

    long : length (after_add_thread m.procs r).next ≡ h.nodes
    long = length-set m.procs.next r.node (next_of m.procs r.node + 1) ∙ made.at.nodes

    from_mid : IsFrom h.pid_base mid.ids.pids mid.procs.next
    from_mid =
        subst (λ (z : Numbered). IsFrom h.pid_base z.ids.pids z.procs.next) mid_is
        (IsFrom-new m.ids.pids m.ids.virts m.procs.next t r.node made.at.told.paired first thread_node positive
        begun.fresh.virt new_r h.pid_base made.at.from)

    pub IsThreaded-more : IsThreaded h k p r x (t + 1) then
    IsThreaded-more = record {
      threads = with_it;
      of = of;
      each = each;
      at = record {
        done = made.at.done;
        front = made.at.front;
        told = told;
        nodes = ap (λ (q : ProcTable). length q.next) begun.procs ∙ long;
        from = from_mid;
        paired = paired_mid;
      };
    }
