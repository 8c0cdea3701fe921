use Rattle.barrier_core.proofs.Closing.{closed_waited, open_waited}
use Rattle.barrier_core.proofs.barrier.Barrier.waited.Goals as goal

pub returns-then-not-self : goal.returns-then-not-self
returns-then-not-self c = closed_waited (record { is_open = c.self.inside.is_open; members = c.self.inside.members }) c.args.self.now c.self.view_is c.if-not-self.true

pub returns : goal.returns
returns c = open_waited (record { is_open = c.self.inside.is_open; members = c.self.inside.members }) c.args.self.now c.released.result c.next_stage.result c.self.view_is c.if-not-self.false c.released.ensures.released c.next_stage.ensures
