use Rattle.std.proofs.Common.{sym, ◌∙◌}
use Rattle.leader_vote.proofs.Acting.{others_begun, others_on, others_fewer, leader_found, others_done}
use Rattle.leader_vote.proofs.agents.agent_after.Goals as goal

pub loop-id-init : goal.loop-id-init
loop-id-init c = others_begun c.args.book.now c.args.net.now.listeners c.args.conn c.args.side c.args.after

pub loop-id-preserved : goal.loop-id-preserved
loop-id-preserved c =
    others_on c.args.book.now c.args.net.now.listeners c.args.conn c.args.side c.args.after c.loop-id.above c.in-Some.id
    (sym c.in-Some.ensures) c.loop-id.invariant (sym c.leader_at.ensures ∙ c.in_default-leader_at.is)

pub loop-id-smaller : goal.loop-id-smaller
loop-id-smaller c =
    others_fewer c.args.book.now c.args.net.now.listeners c.args.conn c.args.side c.args.after c.loop-id.above c.in-Some.id
    (sym c.in-Some.ensures)

pub returns-in-Some-leader_at : goal.returns-in-Some-leader_at
returns-in-Some-leader_at c =
    leader_found c.args.book.now c.args.net.now.listeners c.args.conn c.args.side c.args.after c.loop-id.above c.in-Some.id
    (sym c.in-Some.ensures) c.in-Some-leader_at.leader (sym c.leader_at.ensures ∙ c.in-Some-leader_at.is)

pub returns : goal.returns
returns c =
    others_done c.args.book.now c.args.net.now.listeners c.args.conn c.args.side c.args.after c.loop-id.above
    (sym c.in_default.ensures) c.loop-id.invariant
