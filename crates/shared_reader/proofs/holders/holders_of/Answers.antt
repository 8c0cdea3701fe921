use Rattle.shared_reader.proofs.HolderPasses.{nobody_holds, process_more}
use Rattle.shared_reader.proofs.holders.holders_of.Goals as goal

pub loop-process-init : goal.loop-process-init
loop-process-init c = nobody_holds c.new-holders.result c.new-holders.ensures

pub loop-process-preserved : goal.loop-process-preserved
loop-process-preserved c =
    process_more c.loop-process.holders c.note_process.new.holders c.args.processes.now c.loop-process.process-index c.process-item.result c.loop-process-test.true c.process-item.is
    c.in_ok-note_process.ensures c.loop-process.invariant
