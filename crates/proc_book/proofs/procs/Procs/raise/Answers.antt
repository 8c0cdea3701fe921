use Rattle.proc_book.proofs.HandedOut.{handed_out-shrink, handed_out-same, shrinks-after_raise}
use Rattle.proc_book.proofs.procs.Procs.raise.Goals as goal

pub invariant_of-self : goal.invariant_of-self
invariant_of-self c =
    let all = c.self.inside in
    handed_out-same _ c.raise_at.new.processes all.next.items (handed_out-shrink all.processes _ all.next.items c.self.invariant (shrinks-after_raise c.self.inside.processes c.args.p c.args.t c.args.s.0)) c.raise_at.ensures
