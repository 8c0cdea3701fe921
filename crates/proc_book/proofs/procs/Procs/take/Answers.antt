use Rattle.proc_book.specs.Processes.{after_take}
use Rattle.proc_book.proofs.HandedOut.{handed_out-shrink, handed_out-same, shrinks-at_key, fewer-after_take}
use Rattle.proc_book.proofs.procs.Procs.take.Goals as goal

pub invariant_of-self : goal.invariant_of-self
invariant_of-self c =
    let all = c.self.inside in
    handed_out-same _ c.take_at.new.processes all.next.items (handed_out-shrink all.processes _ all.next.items c.self.invariant (shrinks-at_key c.self.inside.processes c.args.p (after_take c.args.t c.args.s.0) (fewer-after_take c.args.t c.args.s.0))) c.take_at.ensures.taken
