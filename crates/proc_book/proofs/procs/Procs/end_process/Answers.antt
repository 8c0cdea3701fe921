use Rattle.proc_book.proofs.HandedOut.{handed_out-shrink, handed_out-same, shrinks-after_end}
use Rattle.proc_book.proofs.procs.Procs.end_process.Goals as goal

pub invariant_of-self : goal.invariant_of-self
invariant_of-self c =
    let all = c.self.inside in
    handed_out-same _ c.end.new.processes all.next.items (handed_out-shrink all.processes _ all.next.items c.self.invariant (shrinks-after_end c.self.inside.processes c.args.p c.args.status)) c.end.ensures
