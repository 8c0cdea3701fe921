use Rattle.std.proofs.Common.{sym, ap, ◌∙◌}
use Rattle.std.specs.Option.{option_copied}
use Rattle.computation.specs.Computations.{plain_of}
use Rattle.computation.proofs.Threads.{part_of, none_due, due_is, due_can}
use Rattle.computation.proofs.computation.Computation.due_signal.Goals as goal

pub returns-in_default-clause-due : goal.returns-in_default-clause-due
returns-in_default-clause-due c =
    none_due (plain_of c.args.self.now) c.args.p c.args.t.0 (part_of c.args.self.now.guests c.args.p _ (sym (ap option_copied c.in_default.is) ∙ c.get.ensures))

pub returns-clause-due : goal.returns-clause-due
returns-clause-due c =
    let g = plain_of c.args.self.now in
    c.signal_due.ensures g.users
    ∙ sym (due_is g c.args.p c.args.t.0 c.in-Some.guest.now.user (part_of c.args.self.now.guests c.args.p _ (sym (ap option_copied c.in-Some.is) ∙ c.get.ensures)))

pub returns-clause-can : goal.returns-clause-can
returns-clause-can c =
    let g = plain_of c.args.self.now in
    due_can g c.args.p c.args.t c.in-Some.guest.now.user c.signal_due.result
    (part_of c.args.self.now.guests c.args.p _ (sym (ap option_copied c.in-Some.is) ∙ c.get.ensures)) (c.signal_due.ensures g.users)
