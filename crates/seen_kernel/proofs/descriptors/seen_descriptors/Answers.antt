use Rattle.std.proofs.Common.{None, sym, subst}
use Rattle.seen_kernel.proofs.SeenProcesses.{processes_fewer}
use Rattle.seen_kernel.proofs.SeenDescriptors.{DescriptorsTo, descriptors_begun, descriptors_on, descriptors_done}
use Rattle.seen_kernel.proofs.descriptors.seen_descriptors.Goals as goal

pub loop-r-init : goal.loop-r-init
loop-r-init c =
    subst (λ seen. DescriptorsTo c.args.ids.now c.args.procs.now c.args.book.now seen None)
    (sym c.new-seen.ensures) (descriptors_begun c.args.ids.now c.args.procs.now c.args.book.now)

pub loop-r-preserved : goal.loop-r-preserved
loop-r-preserved c =
    descriptors_on c.args.ids.now c.args.procs.now c.args.book.now c.whole.ensures.numbers c.loop-r.seen
    c.loop-r.above c.in-Some.r _ (sym c.in-Some.ensures) c.in_ok-add_table.ensures c.loop-r.invariant

pub loop-r-smaller : goal.loop-r-smaller
loop-r-smaller c =
    processes_fewer c.args.procs.now c.loop-r.above c.in-Some.r (sym c.in-Some.ensures)

pub returns : goal.returns
returns c =
    descriptors_done c.args.ids.now c.args.procs.now c.args.book.now c.whole.ensures.numbers c.loop-r.seen
    c.loop-r.above (sym c.in_default.ensures) c.loop-r.invariant
