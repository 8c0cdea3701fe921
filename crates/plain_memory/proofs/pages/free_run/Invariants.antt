use Rattle.plain_process.proofs.PageByPage.{NoneBefore}
use Rattle.plain_memory.proofs.pages.free_run.Given as goal

abbrev pub invariant-loop-i : goal.invariant-loop-i
invariant-loop-i l = NoneBefore l.memory l.count 262144 l.i
