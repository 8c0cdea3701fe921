use Rattle.std.proofs.Common.{◌≡◌, ℕ, Some}
use Rattle.std.specs.FinMap as map
use Rattle.sys_abi.specs.declared.identity.VPid.{VPid}
use Rattle.plain_machine.specs.declared.kernel.PlainKernel.{PlainKernel}
use Rattle.wrap_names.specs.Wrapping.{IsWrapped}
use Rattle.wrap_ends.proofs.SoFar.{IsClosedBelow}
use Rattle.wrap_ends.proofs.closing.close_all.Given as goal

abbrev pub invariant-loop : goal.invariant-loop
invariant-loop l =
    ((k : PlainKernel) (next_id : ℕ) (p : VPid) → IsWrapped l.fn.system next_id k
    → map.get l.fn.system.ids.pids p.0 ≡ Some l.who → IsClosedBelow l.system next_id k p l.counter)
    × (l.system.ids.pids ≡ l.fn.system.ids.pids)
