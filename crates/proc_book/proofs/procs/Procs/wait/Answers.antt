use Rattle.proc_book.proofs.HandedOut.{handed_out-shrink, handed_out-same, shrinks-remove}
use Rattle.proc_book.proofs.Leasts.{finds_for}
use Rattle.proc_book.proofs.procs.Procs.wait.Goals as goal

pub invariant_of-self : goal.invariant_of-self
invariant_of-self c =
    let all = c.self.inside in
    handed_out-same _ c.remove.new.self all.next.items (handed_out-shrink all.processes _ all.next.items c.self.invariant (shrinks-remove all.processes c.in-Ended.r)) c.remove.ensures.removed

pub returns-in-NoChild-clause-least : goal.returns-in-NoChild-clause-least
returns-in-NoChild-clause-least c = finds_for c.args.p c.args.self.now.processes c.args.child

pub returns-in-NotReady-clause-least : goal.returns-in-NotReady-clause-least
returns-in-NotReady-clause-least c = finds_for c.args.p c.args.self.now.processes c.args.child

pub returns-in-Ended-clause-least : goal.returns-in-Ended-clause-least
returns-in-Ended-clause-least c = finds_for c.args.p c.args.self.now.processes c.args.child
