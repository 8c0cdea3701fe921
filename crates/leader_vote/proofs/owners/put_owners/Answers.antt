use Rattle.std.proofs.Common.{Some, sym, ap, subst, ◌∙◌}
use Rattle.fd_book.specs.Books.{with_changed}
use Rattle.fd_tables.specs.Parts.{with_owner}
use Rattle.leader_vote.proofs.KeptOwners.{ArePut, put_begun, put_on, put_fewer, put_done}
use Rattle.leader_vote.proofs.owners.put_owners.Goals as goal

pub loop-id-init : goal.loop-id-init
loop-id-init c = put_begun _ _

pub loop-id-preserved : goal.loop-id-preserved
loop-id-preserved c =
    subst (λ now. ArePut c.args.owners.now c.args.book.now now (Some c.in-Some.id))
    (sym (c.set_owner.ensures ∙ ap (λ owner. with_changed (with_owner owner) c.loop-id.book c.in-Some.id)
    c.kept_owner.ensures))
    (put_on c.args.owners.now c.args.book.now c.loop-id.book c.loop-id.above c.in-Some.id (sym
    c.in-Some.ensures)
    c.loop-id.invariant)

pub loop-id-smaller : goal.loop-id-smaller
loop-id-smaller c =
    put_fewer c.args.owners.now c.args.book.now c.loop-id.book c.loop-id.above c.in-Some.id (sym
    c.in-Some.ensures)
    c.loop-id.invariant

pub returns : goal.returns
returns c =
    put_done c.args.owners.now c.args.book.now c.loop-id.book c.loop-id.above (sym c.in_default.ensures)
    c.loop-id.invariant
