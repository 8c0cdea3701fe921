use Rattle.std.proofs.Common.{ap, ◌∙◌}
use Rattle.std.specs.Ordering.{nat_cmp}
use Rattle.std.specs.FinMap as map
use Rattle.guest_threads.specs.Threads.{ThreadTable}
use Rattle.thread_group.proofs.start.start_threads.Goals as goal

pub insert-requires-clause-free : goal.insert-requires-clause-free
insert-requires-clause-free c =
    ap (λ (table : ThreadTable). map.get table.threads c.args.t) c.in_ok-reserve.ensures.ok ∙ ap (λ (table : ThreadTable). map.get table.threads c.args.t) c.new-threads.ensures
    ∙ map.get-empty nat_cmp c.args.t
