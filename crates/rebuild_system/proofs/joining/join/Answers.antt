use Rattle.std.proofs.Common.{ap, ◌∙◌}
use Rattle.std.specs.Prelude.{is_some}
use Rattle.std.specs.FinMap as map
use Rattle.wire_net.specs.Networks.{Network, accept_answer}
use Rattle.rebuild_system.proofs.FoundEnds.{heard, joined}
use Rattle.rebuild_system.proofs.joining.join.Goals as goal

pub accept-requires : goal.accept-requires
accept-requires c =
    ap (λ (n : Network). is_some (map.get n.listeners c.in-Ok.at)) c.in_ok-connect.ensures.net
    ∙ ap is_some (heard c.args.net.now c.listen.new.self c.in-Ok.at c.args.id c.in-Ok.ensures.ok)

pub unreachable-requires : goal.unreachable-requires
unreachable-requires c =
    c.in_default-accept.not-Ok c.args.id
    (c.accept.ensures.answer
    ∙ ap (λ (n : Network). accept_answer (map.get n.listeners c.in-Ok.at)) c.in_ok-connect.ensures.net
    ∙ ap accept_answer (heard c.args.net.now c.listen.new.self c.in-Ok.at c.args.id c.in-Ok.ensures.ok))

pub returns-clause-net : goal.returns-clause-net
returns-clause-net c =
    joined c.args.net.now c.in-Ok.at c.args.id c.in-Ok.ensures.port.free c.listen.new.self c.connect.new.net
    c.accept.new.self c.close_listener.new.self c.in-Ok.ensures.ok c.in_ok-connect.ensures.net
    c.in-Ok-accept.ensures.ok c.close_listener.ensures
