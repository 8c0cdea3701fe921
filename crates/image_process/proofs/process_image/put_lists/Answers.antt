use Rattle.std.proofs.Common.{[]}
use Rattle.image_process.proofs.ProcessFiles.{few_contexts, waiter_count-below}
use Rattle.image_process.proofs.process_image.put_lists.Goals as goal

pub put_waiters-requires : goal.put_waiters-requires
put_waiters-requires c = rw c.as_slice-3.ensures (waiter_count-below _ _ c.args.p.now c.requires.image.fields)

pub put_threads-requires-clause-contexts : goal.put_threads-requires-clause-contexts
put_threads-requires-clause-contexts c = rw c.as_slice-4.ensures (few_contexts _ [] c.args.p.now.threads c.requires.image.fields.threads)
