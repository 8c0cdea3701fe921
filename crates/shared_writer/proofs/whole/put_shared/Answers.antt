use Rattle.std.proofs.Common.{sym, subst}
use Rattle.std.specs.Prelude.{All}
use Rattle.shared_items.specs.declared.shared.DescriptionImage.{DescriptionImage}
use Rattle.shared_items.specs.SharedTexts.{HasFileCounts, HasSideCounts, HasQueueCount, HasCounts}
use Rattle.shared_items.proofs.SharedLaws.{file_counts, side_counts, queue_counts, counts}
use Rattle.shared_writer.proofs.whole.put_shared.Goals as goal

pub put_files-requires-clause-counts : goal.put_files-requires-clause-counts
put_files-requires-clause-counts c = subst (All HasFileCounts) (sym c.as_slice.ensures) (file_counts c.args.s.now c.requires)

pub put_channels-requires-clause-sides : goal.put_channels-requires-clause-sides
put_channels-requires-clause-sides c = subst (All HasSideCounts) (sym c.as_slice-2.ensures) (side_counts c.args.s.now c.requires)

pub put_descriptions-requires-clause-queues : goal.put_descriptions-requires-clause-queues
put_descriptions-requires-clause-queues c = subst (All (λ (d : DescriptionImage). HasQueueCount d.object)) (sym c.as_slice-3.ensures) (queue_counts c.args.s.now c.requires)

pub put_processes-requires-clause-counts : goal.put_processes-requires-clause-counts
put_processes-requires-clause-counts c = subst (All HasCounts) (sym c.as_slice-4.ensures) (counts c.args.s.now c.requires)
