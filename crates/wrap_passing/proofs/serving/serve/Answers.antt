use Rattle.std.proofs.Common.{sym, ◌∙◌}
use Rattle.wrap_passing.proofs.OwnNumber.{own_number_told}
use Rattle.wrap_passing.proofs.serving.serve.Goals as goal

pub returns-then-asks_own_number : goal.returns-then-asks_own_number
returns-then-asks_own_number c =
    own_number_told c.args.system.now c.args.next_id c.args.stood.now.kernel c.requires.wrapped c.args.p c.args.t.0
    c.args.request.now c.args.transfer.now (sym c.asks_own_number.ensures ∙ c.if-asks_own_number.true)
