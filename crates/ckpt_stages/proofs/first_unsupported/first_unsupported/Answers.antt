use Rattle.std.proofs.Common.{Some, sym, subst}
use Rattle.ckpt_stages.proofs.FirstOnes.{AreLeast, least_begun, least_on, least_fewer, least_done}
use Rattle.ckpt_stages.proofs.first_unsupported.first_unsupported.Goals as goal

pub loop-r-init : goal.loop-r-init
loop-r-init c = least_begun _ _ _

pub loop-r-preserved : goal.loop-r-preserved
loop-r-preserved c =
    subst (λ least. AreLeast c.args.system.now.kernel.book c.args.system.now.ids.virts
    c.args.system.now.kernel.procs.processes least (Some c.in-Some.r)) (sym c.lesser-least.ensures)
    (least_on c.args.system.now.kernel.book c.args.system.now.ids.pids c.args.system.now.ids.virts
    c.whole.ensures.numbers c.args.system.now.kernel.procs.processes c.loop-r.least c.loop-r.above c.in-Some.r
    (sym c.in-Some.ensures) c.loop-r.invariant c.first_of.result c.first_of.ensures)

pub loop-r-smaller : goal.loop-r-smaller
loop-r-smaller c =
    least_fewer c.args.system.now.kernel.book c.args.system.now.ids.pids c.args.system.now.ids.virts
    c.whole.ensures.numbers c.args.system.now.kernel.procs.processes c.loop-r.least c.loop-r.above c.in-Some.r
    (sym c.in-Some.ensures) c.loop-r.invariant c.first_of.result c.first_of.ensures

pub returns : goal.returns
returns c k next_id w =
    least_done c.args.system.now next_id k w c.loop-r.least c.loop-r.above (sym c.in_default.ensures)
    c.loop-r.invariant
