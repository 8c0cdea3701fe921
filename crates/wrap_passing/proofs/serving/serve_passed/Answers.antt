use Rattle.wrap_passing.proofs.KeptRows.{passed_keeps}
use Rattle.wrap_names.proofs.Kept.{passed_on}
use Rattle.wrap_passing.proofs.serving.serve_passed.Goals as goal

pub returns : goal.returns
returns c =
    passed_on c.args.system.now c.args.next_id c.args.stood.now.kernel c.requires.wrapped c.args.p c.args.t.0
    c.args.request.now c.args.transfer.now c.requires.asked
    (passed_keeps c.args.stood.now.kernel c.args.p c.args.t.0 c.args.request.now c.args.transfer.now c.requires.passed)
    c.ask.new.system c.ask.ensures.conns c.ask.new.transfer c.ask.result c.ask.ensures.asks
