use Rattle.barrier_core.proofs.Closing.{closed_released, open_released, some_released, none_released}
use Rattle.barrier_core.proofs.barrier.Barrier.released.Goals as goal

pub returns-then-not-self-clause-released : goal.returns-then-not-self-clause-released
returns-then-not-self-clause-released c = closed_released (record { is_open = c.self.inside.is_open; members = c.self.inside.members }) c.args.self.now c.self.view_is c.if-not-self.true

pub returns-clause-released : goal.returns-clause-released
returns-clause-released c = open_released (record { is_open = c.self.inside.is_open; members = c.self.inside.members }) c.args.self.now c.latest_reached.result c.self.view_is c.if-not-self.false c.latest_reached.ensures

pub returns-clause-some : goal.returns-clause-some
returns-clause-some c = some_released c.args.self.now c.latest_reached.result (open_released (record { is_open = c.self.inside.is_open; members = c.self.inside.members }) c.args.self.now c.latest_reached.result c.self.view_is c.if-not-self.false c.latest_reached.ensures)

pub returns-clause-none : goal.returns-clause-none
returns-clause-none c = none_released c.args.self.now c.latest_reached.result (open_released (record { is_open = c.self.inside.is_open; members = c.self.inside.members }) c.args.self.now c.latest_reached.result c.self.view_is c.if-not-self.false c.latest_reached.ensures)
