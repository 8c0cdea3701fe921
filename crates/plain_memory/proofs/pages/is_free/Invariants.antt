use Rattle.std.proofs.Common.{◌≡◌, true}
use Rattle.plain_process.specs.Pages.{is_free}
use Rattle.plain_memory.proofs.pages.is_free.Given as goal

abbrev pub invariant-loop-i : goal.invariant-loop-i
invariant-loop-i l = is_free l.memory l.first l.i ≡ true
