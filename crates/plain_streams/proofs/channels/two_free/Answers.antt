use Rattle.std.proofs.Common.{ap, ◌∙◌, arith}
use Rattle.sys_abi.specs.declared.errors.TheConstants.{EMFILE}
use Rattle.plain_process.specs.Attempts.{found}
use Rattle.plain_machine.proofs.HeldDescriptors.{free_is}
use Rattle.plain_streams.proofs.channels.two_free.Goals as goal

pub overflow_add-first : goal.overflow_add-first
unfolding found
overflow_add-first c =
    let free = free_is c.args.kernel.now c.args.p 0 c.in-Some.first (c.free_from.ensures ∙ ap (λ o. found o EMFILE) c.in-Some.is) in
    let low = free.low in
    omega arith
