use Rattle.std.proofs.Common.{◌≡◌}
use Rattle.plain_process.specs.Pages.{without_pages}
use Rattle.plain_memory.proofs.pages.remove_pages.Given as goal

abbrev pub invariant-loop-i : goal.invariant-loop-i
invariant-loop-i l = l.memory ≡ without_pages l.initial.memory l.first l.i
