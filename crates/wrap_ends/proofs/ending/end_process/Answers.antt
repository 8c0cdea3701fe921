use Rattle.wrap_ends.proofs.ExitCalls.{real_there, real_told, no_real}
use Rattle.wrap_ends.proofs.ending.end_process.Goals as goal

pub unreachable-requires : goal.unreachable-requires
unreachable-requires c =
    no_real _ _ _ _ (real_there c.args.system.now c.args.next_id c.args.stood.now.kernel c.requires.wrapped
    c.args.p
    c.requires.alive).1 c.in_default.ensures

pub returns : goal.returns
returns c =
    c.end.ensures c.args.stood.now.kernel c.args.next_id c.requires.wrapped (real_told _ _ _ c.in-Ok.ensures)
    c.requires.alive
