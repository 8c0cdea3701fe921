use Rattle.std.proofs.Common.{false, sym, ap, ◌∙◌}
use Rattle.std.specs.Prelude.{Option}
use Rattle.std.specs.Option.{option_map_or}
use Rattle.std.specs.Ordering.{is_eq, eq_by_cmp}
use Rattle.std.specs.FinMap as map
use Rattle.sys_abi.specs.declared.identity.ConnId.{ConnId}
use Rattle.sys_abi.specs.Orders.{conn_cmp}
use Rattle.leader_vote.proofs.Acting.{not_queued, is_queued}
use Rattle.leader_vote.proofs.agents.waits_at.Goals as goal

pub returns-then-is_eq : goal.returns-then-is_eq
returns-then-is_eq c =
    sym (is_queued (map.get c.args.net.now.listeners c.args.at) c.args.conn c.in-Some.backlog
    c.loop-place.place
    (sym c.in-Some.ensures) c.loop-place-test.true
    (ap (λ (found : Option ConnId). option_map_or (eq_by_cmp conn_cmp c.args.conn) found false) (sym c.in-Some-queued.ensures)
    ∙ ap is_eq (sym c.cmp.ensures) ∙ sym c.is_eq.ensures ∙ c.if-is_eq.true))

pub loop-place-preserved : goal.loop-place-preserved
loop-place-preserved c =
    not_queued (map.get c.args.net.now.listeners c.args.at) c.args.conn c.loop-place.place
    c.loop-place.invariant
    (ap (λ (found : Option ConnId). option_map_or (eq_by_cmp conn_cmp c.args.conn) found false) (sym c.in-Some-queued.ensures)
    ∙ ap is_eq (sym c.cmp.ensures) ∙ sym c.is_eq.ensures ∙ c.if-is_eq.false)
