use Rattle.std.proofs.Common.{◌≡◌, []}
use Rattle.plain_process.specs.Start.{with_pages}
use Rattle.plain_memory.proofs.pages.put_pages.Given as goal

abbrev pub invariant-loop-i : goal.invariant-loop-i
invariant-loop-i l = l.memory ≡ with_pages l.initial.memory l.first l.i l.rights []
