use Rattle.std.proofs.Common.{ℕ, List, ◌-◌, length, sym, ◌∙◌, refl, subst, inl, inr}
use Rattle.shared_items.specs.SharedFormat.{shared, DamagedShared}
use Rattle.shared_items.specs.WholeShared.{is_whole_shared}
use Rattle.image_format.proofs.Numerals.{fit_bytes}
use Rattle.shared_items.proofs.RisingItems.{shared_rises}
use Rattle.shared_items.proofs.SharedLaws as law
use Rattle.image_format.proofs.WholeFiles as whole
use Rattle.shared_reader.proofs.reader.read_shared.Goals as goal

pub is_whole_shared-requires-clause-channels : goal.is_whole_shared-requires-clause-channels
is_whole_shared-requires-clause-channels c = (shared_rises c.args.bytes.now c.in-Ok.rest.now c.in-Ok.s (fit_bytes _ c.type_inv.bytes) c.in-Ok.ensures).0

pub is_whole_shared-requires-clause-processes : goal.is_whole_shared-requires-clause-processes
is_whole_shared-requires-clause-processes c = (shared_rises c.args.bytes.now c.in-Ok.rest.now c.in-Ok.s (fit_bytes _ c.type_inv.bytes) c.in-Ok.ensures).1

pub damaged-requires : goal.damaged-requires
damaged-requires c = whole.rest-le shared is_whole_shared c.args.bytes.now c.in-Ok.s c.in-Ok.rest.now (fit_bytes _ c.type_inv.bytes) c.in-Ok.ensures

pub damaged-requires-in-Err-Left : goal.damaged-requires-in-Err-Left
damaged-requires-in-Err-Left c =
    rw c.in-Err-Left.field-0-is (whole.left-le shared is_whole_shared c.args.bytes.now c.in-Err-Left.left (fit_bytes _ c.type_inv.bytes) (rw c.in-Err-Left.field-0-is at c.in-Err-Left.ensures))

pub returns-then-not-is_empty-clause-only : goal.returns-then-not-is_empty-clause-only
returns-then-not-is_empty-clause-only c =
    rw c.damaged.ensures
    (law.none_after c.args.bytes.now c.in-Ok.s c.in-Ok.rest.now c.in-Ok.ensures (inl (whole.something c.in-Ok.rest.now (sym c.is_empty.ensures ∙ c.if-not-is_empty.true))))

pub returns-then-not-is_empty-clause-exact : goal.returns-then-not-is_empty-clause-exact
returns-then-not-is_empty-clause-exact c =
    rw c.damaged.ensures (
      refl,
      whole.damaged_after shared is_whole_shared c.args.bytes.now c.in-Ok.s c.in-Ok.rest.now (fit_bytes _ c.type_inv.bytes) c.in-Ok.ensures
          (inl (whole.something c.in-Ok.rest.now (sym c.is_empty.ensures ∙ c.if-not-is_empty.true))),
    )

pub returns-then-not-branch-clause-only : goal.returns-then-not-branch-clause-only
returns-then-not-branch-clause-only c =
    rw c.damaged-then-not-branch.ensures
    (law.none_after c.args.bytes.now c.in-Ok.s c.in-Ok.rest.now c.in-Ok.ensures (inr (sym c.in_ok-is_whole_shared-in-Ok.ensures ∙ c.if-not-branch.true)))

pub returns-then-not-branch-clause-exact : goal.returns-then-not-branch-clause-exact
returns-then-not-branch-clause-exact c =
    let none = whole.nothing c.in-Ok.rest.now (sym c.is_empty.ensures ∙ c.if-not-is_empty.false) in
    rw c.damaged-then-not-branch.ensures (
      refl,
      subst (λ (r : List ℕ). DamagedShared c.args.bytes.now (length c.args.bytes.now - length r)) none
          (whole.damaged_after shared is_whole_shared c.args.bytes.now c.in-Ok.s c.in-Ok.rest.now (fit_bytes _ c.type_inv.bytes) c.in-Ok.ensures
          (inr (sym c.in_ok-is_whole_shared-in-Ok.ensures ∙ c.if-not-branch.true))),
    )

pub returns-else-not-branch-clause-found : goal.returns-else-not-branch-clause-found
returns-else-not-branch-clause-found c =
    law.found c.args.bytes.now c.in-Ok.s c.in-Ok.rest.now (fit_bytes _ c.type_inv.bytes) c.in-Ok.ensures
    (whole.nothing c.in-Ok.rest.now (sym c.is_empty.ensures ∙ c.if-not-is_empty.false)) (sym c.in_ok-is_whole_shared-in-Ok.ensures ∙ c.if-not-branch.false)

pub returns-else-not-branch-clause-only : goal.returns-else-not-branch-clause-only
returns-else-not-branch-clause-only c = law.only c.args.bytes.now c.in-Ok.s c.in-Ok.rest.now c.in-Ok.ensures

pub returns-in-Err-Left-clause-only : goal.returns-in-Err-Left-clause-only
returns-in-Err-Left-clause-only c =
    rw c.damaged-in-Err-Left.ensures (law.none_left c.args.bytes.now c.in-Err-Left.left (rw c.in-Err-Left.field-0-is at c.in-Err-Left.ensures))

pub returns-in-Err-Left-clause-exact : goal.returns-in-Err-Left-clause-exact
returns-in-Err-Left-clause-exact c =
    rw (c.damaged-in-Err-Left.ensures, c.in-Err-Left.field-0-is)
    (refl, whole.damaged_left shared is_whole_shared c.args.bytes.now c.in-Err-Left.left (fit_bytes _ c.type_inv.bytes) (rw c.in-Err-Left.field-0-is at c.in-Err-Left.ensures))
