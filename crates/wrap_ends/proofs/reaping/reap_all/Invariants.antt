use Rattle.std.proofs.Common.{◌≡◌, ℕ, true, Some}
use Rattle.std.specs.FinMap as map
use Rattle.sys_abi.specs.declared.identity.VPid.{VPid}
use Rattle.plain_machine.specs.declared.kernel.PlainKernel.{PlainKernel}
use Rattle.plain_machine.specs.Kernel.{is_live}
use Rattle.wrap_names.specs.Wrapping.{IsWrapped}
use Rattle.wrap_ends.specs.Ending.{EndsAs}
use Rattle.wrap_ends.proofs.Steps.{IsReapedFor}
use Rattle.wrap_ends.proofs.reaping.reap_all.Given as goal

abbrev pub invariant-loop : goal.invariant-loop
invariant-loop l =
    (k : PlainKernel) (next_id : ℕ) (p : VPid) → IsWrapped l.fn.system next_id k
    → map.get l.fn.system.ids.pids p.0 ≡ Some l.who → is_live k p ≡ true
    → EndsAs l.system next_id k p l.who (IsReapedFor k p l.counter)
