use Rattle.std.proofs.Common.{Some, None, sym, ap, subst, ◌∙◌}
use Rattle.std.specs.FinMap as map
use Rattle.leader_vote.proofs.KeptOwners.{AreKept, kept_begun, kept_on, kept_fewer, kept_done}
use Rattle.leader_vote.proofs.owners.keep_owners.Goals as goal

pub loop-id-init : goal.loop-id-init
loop-id-init c =
    subst (λ owners. AreKept c.args.book.now owners None) (sym c.new-owners.ensures) (kept_begun
    c.args.book.now)

pub loop-id-preserved : goal.loop-id-preserved
loop-id-preserved c =
    subst (λ owners. AreKept c.args.book.now owners (Some c.in-Some.id))
    (sym (c.in_ok-insert.ensures.ok ∙ ap (map.insert c.loop-id.owners c.in-Some.id) c.owner.ensures))
    (kept_on c.args.book.now c.loop-id.owners c.loop-id.above c.in-Some.id (sym c.in-Some.ensures)
    c.loop-id.invariant)

pub loop-id-smaller : goal.loop-id-smaller
loop-id-smaller c =
    kept_fewer c.args.book.now c.loop-id.owners c.loop-id.above c.in-Some.id (sym c.in-Some.ensures)
    c.loop-id.invariant

pub returns : goal.returns
returns c = kept_done c.args.book.now c.loop-id.owners c.loop-id.above (sym c.in_default.ensures)
    c.loop-id.invariant
