use Rattle.std.proofs.Common.{◌≡◌, []}
use Rattle.plain_process.specs.Start.{with_pages}
use Rattle.guest_mem.proofs.space.Space.map.Given as goal

-- the pages so far are there
abbrev pub invariant-loop-number : goal.invariant-loop-number
invariant-loop-number l = l.self ≡ with_pages l.initial.self l.page l.number l.rights []
