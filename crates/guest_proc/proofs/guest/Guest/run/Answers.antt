use Rattle.std.proofs.Common.{sym}
use Rattle.guest_proc.proofs.GuestLemmas.{waits_on, no_steps}
use Rattle.guest_proc.proofs.guest.Guest.run.Goals as goal

pub returns-then-waits-clause-steps : goal.returns-then-waits-clause-steps
returns-then-waits-clause-steps c = no_steps c.args.self.now.user c.args.t.0

pub returns-then-waits-clause-place : goal.returns-then-waits-clause-place
returns-then-waits-clause-place c = waits_on c.args.self.now.user c.args.t.0 c.requires.thread (sym c.if-waits.ensures)
