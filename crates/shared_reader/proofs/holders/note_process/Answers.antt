use Rattle.shared_reader.proofs.HolderPasses.{descriptor_more}
use Rattle.shared_reader.proofs.holders.note_process.Goals as goal

pub loop-descriptor-preserved : goal.loop-descriptor-preserved
loop-descriptor-preserved c =
    descriptor_more c.args.holders.now c.loop-descriptor.holders c.note_holder.new.holders c.args.process.now.host c.as_slice-descriptors.result.now c.loop-descriptor.descriptor-index _ c.loop-descriptor-test.true
    c.in_ok-note_holder.ensures c.loop-descriptor.invariant
