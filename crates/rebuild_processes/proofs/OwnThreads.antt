-- The thread of a process's own number, with its signals.
--     own_leads, own_has      it is there after the start, and none is pending for it
--     IsThreaded-own          it has its signals
--     IsThreaded-none         it has ended, where the process has none of its number
use Rattle.std.proofs.Common.{◌≡◌, ℕ, ◌<◌, true, Some, None, inl, inr, refl, sym, ap, ◌∙◌, subst, arith}
use Rattle.std.specs.Prelude.{option_and_then}
use Rattle.std.specs.Cmp.{nat_cmp_total}
use Rattle.std.specs.Ordering.{nat_cmp}
use Rattle.std.specs.FinMap as map
use Rattle.std.specs.FinMap.{FinMap, nat_cmp-IsAntisymmetric}
use Rattle.std.proofs.lemmas.Option.{none-some}
use Rattle.views.proofs.MapLaws.{same_or_other, get_insert_same, get_insert_other, insert_insert, remove_insert_new}
use Rattle.sys_abi.specs.declared.identity.VPid.{VPid}
use Rattle.sys_abi.specs.declared.identity.RealPid.{RealPid}
use Rattle.sys_abi.specs.declared.life.Life.TheVariants.{Live}
use Rattle.sys_abi.proofs.OrderLaws.{vpid_total, vpid_exact}
use Rattle.proc_book.specs.Procs.{can_raise, pending_of, without_thread}
use Rattle.virt_ids.specs.Changes.{at_key}
use Rattle.plain_tables.specs.declared.process.Process.{Process}
use Rattle.plain_tables.specs.Ends.{child_process}
use Rattle.plain_tables.specs.Tables.{Processes, with_signals}
use Rattle.plain_machine.specs.declared.kernel.PlainKernel.{PlainKernel}
use Rattle.host_tables.specs.declared.kernel.Hosts.{Hosts}
use Rattle.host_tables.specs.Numbers.{number_on, to_real_thread}
use Rattle.rebuild_processes.specs.declared.numbered.Numbered.{Numbered}
use Rattle.rebuild_tables.specs.Hosts.{nodes_from}
use Rattle.rebuild_processes.specs.Making.{with_set, IsTold, IsAt, IsThreaded}
use Rattle.rebuild_processes.proofs.Begun.{own_number}
use Rattle.rebuild_processes.proofs.Sets.{with_table, can, pends_none, IsTold-thread_set, IsTold-thread_gone}

module _ (h : Hosts) (k : PlainKernel) (p : VPid) (r : RealPid) (x : Process) (m : Numbered)
    (at : IsAt h k p r (child_process x.parent p.0) m) where
  abbrev child : Process
  child = child_process x.parent p.0

  there : map.get (map.insert at.done p child) p ≡ Some child
  there = get_insert_same vpid_total vpid_exact at.done p child

  pub own_leads : to_real_thread m.ids.pids r.node p.0 ≡ Some r.pid
  own_leads = ap (option_and_then (number_on r.node)) at.paired ∙ own_number r.node r.pid

  pub own_has : map.get child.threads p.0 ≡ Some 0
  own_has = get_insert_same nat_cmp_total nat_cmp-IsAntisymmetric map.empty p.0 0

  pub own_can : can_raise m.procs.processes r (Some r.pid) ≡ true
  own_can = can (nodes_from h) k.makers (map.insert at.done p child) m at.told p r at.paired child there p.0
      r.pid 0 0 own_leads own_has refl

  pub own_pends : pending_of (Some r.pid) (map.get m.procs.processes r) ≡ 0
  own_pends = pends_none (nodes_from h) k.makers (map.insert at.done p child) m at.told p r at.paired child there
      p.0 r.pid 0 0 own_leads own_has refl

  module _ (set : ℕ) (has : map.get x.threads p.0 ≡ Some set) where
    abbrev so_far : FinMap nat_cmp ℕ → Process
    so_far threads = record { parent = x.parent; life = Live; pending = 0; threads = threads }

    abbrev only : FinMap nat_cmp ℕ
    only = map.insert map.empty p.0 set

    abbrev then : Numbered
    then = with_table m (at_key m.procs.processes r (with_set (Some r.pid) set))

    same_done : map.insert (map.insert at.done p child) p (with_signals child p.0 set)
        ≡ map.insert at.done p (so_far only)
    same_done =
        insert_insert vpid_total vpid_exact at.done p child (with_signals child p.0 set)
        ∙ ap (λ threads. map.insert at.done p (so_far threads))
        (insert_insert nat_cmp_total nat_cmp-IsAntisymmetric map.empty p.0 0 set)

    told : IsTold (nodes_from h) k.makers (map.insert at.done p (so_far only)) then
    told =
        subst (λ (ps : Processes). IsTold (nodes_from h) k.makers ps then) same_done
        (IsTold-thread_set (nodes_from h) k.makers (map.insert at.done p child) m at.told p r at.paired child
        there p.0 r.pid 0 set own_leads own_has)

    only_here : map.get only p.0 ≡ Some set
    only_here = get_insert_same nat_cmp_total nat_cmp-IsAntisymmetric map.empty p.0 set

    of : (t s : ℕ) → map.get only t ≡ Some s → map.get x.threads t ≡ Some s
    of t s found = elim (same_or_other nat_cmp_total nat_cmp-IsAntisymmetric t p.0) [
      | inl same ↦ ap (map.get x.threads) same ∙ has ∙ sym only_here ∙ ap (map.get only) (sym same) ∙ found
      | inr differ ↦ absurd (none-some s (sym (map.get-empty {X = ℕ} nat_cmp t)
          ∙ sym (get_insert_other nat_cmp_total nat_cmp-IsAntisymmetric map.empty p.0 set t differ) ∙ found))
    ]

    none_below : (t : ℕ) → t < 0 → ⊥
    none_below t less = omega (arith, less)

    pub IsThreaded-own : IsThreaded h k p r x 0 then
    IsThreaded-own = record {
      threads = only;
      of = of;
      each = λ t s found place. elim place [
        | inl less ↦ absurd (none_below t less)
        | inr own ↦
            ap (map.get only) own ∙ only_here ∙ sym has ∙ ap (map.get x.threads) (sym own) ∙ found
      ];
      at = record {
        done = at.done;
        front = at.front;
        told = told;
        nodes = at.nodes;
        from = at.from;
        paired = at.paired;
      };
    }

  module _ (none : map.get x.threads p.0 ≡ None) where
    abbrev bare : Process
    bare = record { parent = x.parent; life = Live; pending = 0; threads = map.empty }

    abbrev ended : Numbered
    ended = with_table m (at_key m.procs.processes r (without_thread r.pid))

    bare_done : map.insert (map.insert at.done p child) p
        (record child { threads = map.remove child.threads p.0 }) ≡ map.insert at.done p bare
    bare_done =
        insert_insert vpid_total vpid_exact at.done p child
        (record child { threads = map.remove child.threads p.0 })
        ∙ ap (λ threads. map.insert at.done p (record child { threads = threads }))
        (remove_insert_new nat_cmp_total nat_cmp-IsAntisymmetric map.empty p.0 0
        (map.get-empty {X = ℕ} nat_cmp p.0))

    told_bare : IsTold (nodes_from h) k.makers (map.insert at.done p bare) ended
    told_bare =
        subst (λ (ps : Processes). IsTold (nodes_from h) k.makers ps ended) bare_done
        (IsTold-thread_gone (nodes_from h) k.makers (map.insert at.done p child) m at.told p r at.paired child
        there r.pid own_leads)

    no_number : (t : ℕ) → t < 0 → ⊥
    no_number t less = omega (arith, less)

    pub IsThreaded-none : IsThreaded h k p r x 0 ended
    IsThreaded-none = record {
      threads = map.empty;
      of = λ t s found. absurd (none-some s (sym (map.get-empty {X = ℕ} nat_cmp t) ∙ found));
      each = λ t s found place. elim place [
        | inl less ↦ absurd (no_number t less)
        | inr own ↦ absurd (none-some s (sym none ∙ ap (map.get x.threads) (sym own) ∙ found))
      ];
      at = record {
        done = at.done;
        front = at.front;
        told = told_bare;
        nodes = at.nodes;
        from = at.from;
        paired = at.paired;
      };
    }
