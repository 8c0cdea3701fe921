use Rattle.std.proofs.Common.{◌≡◌, ◌+◌, ◌≤◌, []}
use Rattle.std.specs.FinMap as map
use Rattle.plain_process.specs.Start.{with_pages}
use Rattle.guest_mem.proofs.space.Space.with_zeroed.Given as goal

abbrev pub invariant-loop-number : goal.invariant-loop-number
invariant-loop-number l = record { pages : l.copy ≡ with_pages l.self l.page l.number l.rights []; room : map.len l.copy ≤ map.len l.self + l.number }
