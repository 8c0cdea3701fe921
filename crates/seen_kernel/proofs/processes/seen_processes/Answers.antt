use Rattle.std.proofs.Common.{None, sym, subst}
use Rattle.seen_kernel.proofs.SeenProcesses.{ProcessesTo, processes_begun, processes_on, processes_fewer, processes_done}
use Rattle.seen_kernel.proofs.processes.seen_processes.Goals as goal

pub loop-r-init : goal.loop-r-init
loop-r-init c =
    subst (λ seen. ProcessesTo c.args.ids.now c.args.procs.now seen None) (sym c.new-seen.ensures)
    (processes_begun c.args.ids.now c.args.procs.now)

pub loop-r-preserved : goal.loop-r-preserved
loop-r-preserved c =
    processes_on c.args.ids.now c.args.procs.now c.loop-r.seen c.loop-r.above c.in-Some.r _
    (sym c.in-Some.ensures) c.in_ok-add_process.ensures c.loop-r.invariant

pub loop-r-smaller : goal.loop-r-smaller
loop-r-smaller c =
    processes_fewer c.args.procs.now c.loop-r.above c.in-Some.r (sym c.in-Some.ensures)

pub returns : goal.returns
returns c =
    processes_done c.args.ids.now c.args.procs.now c.loop-r.seen c.loop-r.above (sym c.in_default.ensures)
    c.loop-r.invariant
