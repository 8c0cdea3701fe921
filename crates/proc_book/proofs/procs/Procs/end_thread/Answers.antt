use Rattle.proc_book.specs.Procs.{without_thread}
use Rattle.proc_book.proofs.HandedOut.{handed_out-shrink, handed_out-same, shrinks-at_key, fewer-without_thread}
use Rattle.proc_book.proofs.procs.Procs.end_thread.Goals as goal

pub invariant_of-self : goal.invariant_of-self
invariant_of-self c =
    let all = c.self.inside in
    handed_out-same _ c.end_thread_at.new.processes all.next.items (handed_out-shrink all.processes _ all.next.items c.self.invariant (shrinks-at_key c.self.inside.processes c.args.p (without_thread c.args.t) (fewer-without_thread c.args.t))) c.end_thread_at.ensures
