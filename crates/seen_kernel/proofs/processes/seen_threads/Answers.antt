use Rattle.std.proofs.Common.{sym, subst}
use Rattle.std.specs.FinMap as map
use Rattle.seen_kernel.proofs.SeenThreads.{ThreadsTo, threads_begun, threads_on, threads_fewer, threads_done}
use Rattle.seen_kernel.proofs.processes.seen_threads.Goals as goal

pub loop-number-init : goal.loop-number-init
loop-number-init c =
    subst (λ threads. ThreadsTo c.args.ids.now c.args.procs.now c.args.r threads 0)
    (sym c.new-threads.ensures) (threads_begun c.args.ids.now c.args.procs.now c.args.r)

pub loop-number-preserved : goal.loop-number-preserved
loop-number-preserved c =
    subst (λ threads. ThreadsTo c.args.ids.now c.args.procs.now c.args.r threads c.in-Some.number)
    (sym c.in_ok-add_thread.ensures)
    (threads_on c.args.ids.now c.args.procs.now c.args.r c.loop-number.threads c.loop-number.above
    c.in-Some.number (sym c.in-Some.ensures) c.loop-number.invariant)

pub loop-number-smaller : goal.loop-number-smaller
loop-number-smaller c =
    threads_fewer (map.get c.args.procs.now.processes c.args.r) c.loop-number.above c.in-Some.number
    (sym c.in-Some.ensures)

pub returns : goal.returns
returns c =
    threads_done c.args.ids.now c.args.procs.now c.args.r c.loop-number.threads c.loop-number.above
    (sym c.in_default.ensures) c.loop-number.invariant
