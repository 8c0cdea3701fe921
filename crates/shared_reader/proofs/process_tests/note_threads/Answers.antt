use Rattle.shared_reader.proofs.KnownThreads.{thread_more}
use Rattle.shared_reader.proofs.process_tests.note_threads.Goals as goal

pub loop-thread-preserved : goal.loop-thread-preserved
loop-thread-preserved c =
    thread_more c.args.tids.now c.loop-thread.tids c.insert.new.self c.args.threads.now c.loop-thread.thread-index _ c.loop-thread-test.true c.in_ok-insert.ensures.ok c.loop-thread.invariant
