use Rattle.barrier_core.proofs.Closing.{none_awaits, some_awaits}
use Rattle.barrier_core.proofs.barrier.Barrier.awaits.Goals as goal

pub returns-in-None : goal.returns-in-None
returns-in-None c = none_awaits (record { is_open = c.self.inside.is_open; members = c.self.inside.members }) c.args.self.now c.args.p c.args.s c.self.view_is c.in-None.ensures

pub returns-in-Some : goal.returns-in-Some
returns-in-Some c = some_awaits (record { is_open = c.self.inside.is_open; members = c.self.inside.members }) c.args.self.now c.args.p c.args.s c.in-Some.member c.waited-waited.result c.lacks.result c.self.view_is c.waited-waited.ensures c.in-Some.ensures c.lacks.ensures
