use Rattle.std.proofs.Common.{List, sym, ap, ◌∙◌}
use Rattle.std.specs.FinMap as map
use Rattle.views.proofs.MapLaws.{insert_same}
use Rattle.views.proofs.Outcomes.{on_some}
use Rattle.sys_abi.specs.declared.identity.ConnId.{ConnId}
use Rattle.wire_channels.specs.Listeners.{without_first}
use Rattle.wire_channels.proofs.ClosedEnds.{rest-none}
use Rattle.wire_channels.proofs.OfVirtIds.Lends.{changed-found}
use Rattle.sys_abi.proofs.OrderLaws.{real_address_total, real_address_exact}
use Rattle.wire_net.proofs.listening.accept_at.Goals as goal

pub returns-in-None-clause-err : goal.returns-in-None-clause-err
returns-in-None-clause-err c =
    on_some c.in-Some.is (c.get_mut.follows.holds (record c.in-Some.listener.now { queue = c.pop_first.new.self }))
    ∙ ap (λ (queue : List ConnId). map.insert c.args.listeners.now c.args.at (record c.in-Some.listener.now { queue = queue }))
    (rest-none c.in-Some.listener.now.queue c.pop_first.new.self c.in-None.ensures.first c.pop_first.ensures.rest)
    ∙ insert_same real_address_total real_address_exact c.args.listeners.now c.args.at c.in-Some.listener.now (sym c.in-Some.ensures.value)

pub returns-in-Some-pop_first-clause-ok : goal.returns-in-Some-pop_first-clause-ok
returns-in-Some-pop_first-clause-ok c =
    on_some c.in-Some.is (c.get_mut.follows.holds (record c.in-Some.listener.now { queue = c.pop_first.new.self }))
    ∙ ap (λ (queue : List ConnId). map.insert c.args.listeners.now c.args.at (record c.in-Some.listener.now { queue = queue })) c.pop_first.ensures.rest
    ∙ changed-found c.args.listeners.now c.args.at without_first c.in-Some.listener.now c.in-Some.ensures.value
