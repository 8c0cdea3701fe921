use Rattle.std.proofs.Common.{◌≡◌, ℕ, ◌+◌, ◌≤◌, true, Some}
use Rattle.std.specs.FinMap as map
use Rattle.plain_machine.specs.declared.kernel.PlainKernel.{PlainKernel}
use Rattle.plain_machine.specs.Kernel.{is_live, thread_count}
use Rattle.wrap_names.specs.Wrapping.{IsWrapped}
use Rattle.wrap_ends.specs.Ending.{EndsAs}
use Rattle.wrap_ends.proofs.threads.end_threads.Given as goal

abbrev pub invariant-loop : goal.invariant-loop
invariant-loop l =
    (k : PlainKernel) (next_id : ℕ) → IsWrapped l.fn.system next_id k
    → map.get l.fn.system.ids.pids l.p.0 ≡ Some l.who → is_live k l.p ≡ true
    → EndsAs l.system next_id k l.p l.who (λ kernel. thread_count kernel l.p + l.counter ≤ thread_count k l.p)
