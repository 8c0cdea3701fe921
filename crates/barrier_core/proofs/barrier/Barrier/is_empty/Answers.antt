use Rattle.barrier_core.proofs.Closing.{empty_test}
use Rattle.barrier_core.proofs.barrier.Barrier.is_empty.Goals as goal

pub returns : goal.returns
returns c = empty_test (record { is_open = c.self.inside.is_open; members = c.self.inside.members }) c.args.self.now c.len.result c.self.view_is c.len.ensures
