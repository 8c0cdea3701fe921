-- Who is there after a fork: those that were, and the child with its one thread.
--     forked_other, forked_child, child_has
use Rattle.std.proofs.Common.{◌≡◌, ◌≢◌, ℕ, false, ap, ◌∙◌}
use Rattle.std.specs.Prelude.{Some, is_some}
use Rattle.std.specs.Ordering.{nat_cmp}
use Rattle.std.specs.FinMap as map
use Rattle.plain_tables.proofs.OfViews.MapLaws.{get_insert_same, get_insert_other}
use Rattle.plain_tables.specs.OfSysAbi.declared.identity.VPid.{VPid}
use Rattle.plain_tables.proofs.OfSysAbi.OrderLaws.{vpid_total, vpid_exact}
use Rattle.plain_machine.specs.declared.kernel.PlainKernel.{PlainKernel}
use Rattle.plain_tables.specs.Tables.{pid, has_thread_in}
use Rattle.plain_tables.specs.Ends.{child_process}
use Rattle.plain_machine.specs.Kernel.{has_thread}
use Rattle.plain_machine.specs.Ends.{after_fork}
use Rattle.plain_machine.specs.RowLaws.{with_one}
use Rattle.plain_machine.proofs.ThreadKeys.{there_with}

module _ (k : PlainKernel) (p : VPid) where
  pub forked_other : (r : VPid) → r ≢ pid k.next_id → map.get (after_fork k p).processes r ≡ map.get k.processes r
  unfolding after_fork
  forked_other r other = get_insert_other vpid_total vpid_exact k.processes (pid k.next_id) (child_process p.0 k.next_id) r other

  pub forked_child : map.get (after_fork k p).processes (pid k.next_id) ≡ Some (child_process p.0 k.next_id)
  unfolding after_fork
  forked_child = get_insert_same vpid_total vpid_exact k.processes (pid k.next_id) (child_process p.0 k.next_id)

  pub child_has : (u : ℕ) → has_thread (after_fork k p) (pid k.next_id) u ≡ with_one (Some k.next_id) u false
  child_has u =
      let none : map.get (map.empty {X = ℕ} {R = nat_cmp}) u ≡ _ = map.get-empty nat_cmp u in
      ap (has_thread_in u) forked_child ∙ there_with map.empty k.next_id u 0 ∙ ap (λ found. with_one (Some k.next_id) u (is_some found)) none
