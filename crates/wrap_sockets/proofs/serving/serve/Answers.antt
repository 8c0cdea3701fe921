use Rattle.std.proofs.Common.{sym, ◌∙◌}
use Rattle.wrap_sockets.proofs.Meetings.{connect_left}
use Rattle.wrap_sockets.proofs.serving.serve.Goals as goal

pub connect-requires-clause-connects : goal.connect-requires-clause-connects
connect-requires-clause-connects c =
    connect_left c.args.request.now c.requires.family (sym c.is_listen.ensures ∙ c.if-is_listen.false)
    (sym c.is_accept.ensures ∙ c.if-is_accept.false)
