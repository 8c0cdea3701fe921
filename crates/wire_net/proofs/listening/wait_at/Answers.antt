use Rattle.std.proofs.Common.{List, sym, ap, ◌∙◌}
use Rattle.std.specs.FinMap as map
use Rattle.views.proofs.MapLaws.{insert_same}
use Rattle.views.proofs.Outcomes.{on_some, on_ok_then, on_err_then}
use Rattle.sys_abi.specs.declared.identity.ConnId.{ConnId}
use Rattle.wire_channels.specs.Listeners.{with_last}
use Rattle.wire_channels.proofs.OfVirtIds.Lends.{changed-found}
use Rattle.sys_abi.proofs.OrderLaws.{real_address_total, real_address_exact}
use Rattle.wire_net.proofs.listening.wait_at.Goals as goal

pub returns-clause-ok : goal.returns-clause-ok
returns-clause-ok c = on_ok_then c.push_last.result c.push_last.ensures.ok (λ is.
    on_some c.in-Some.is (c.get_mut.follows.holds (record c.in-Some.listener.now { queue = c.push_last.new.self }))
    ∙ ap (λ (queue : List ConnId). map.insert c.args.listeners.now c.args.at (record c.in-Some.listener.now { queue = queue })) is
    ∙ changed-found c.args.listeners.now c.args.at (with_last c.args.id) c.in-Some.listener.now c.in-Some.ensures.value)

pub returns-clause-err : goal.returns-clause-err
returns-clause-err c = on_err_then c.push_last.result c.push_last.ensures.err (λ same.
    on_some c.in-Some.is (c.get_mut.follows.holds (record c.in-Some.listener.now { queue = c.push_last.new.self }))
    ∙ ap (λ (queue : List ConnId). map.insert c.args.listeners.now c.args.at (record c.in-Some.listener.now { queue = queue })) same
    ∙ insert_same real_address_total real_address_exact c.args.listeners.now c.args.at c.in-Some.listener.now (sym c.in-Some.ensures.value))
