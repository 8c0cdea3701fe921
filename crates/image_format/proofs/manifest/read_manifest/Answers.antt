use Rattle.std.proofs.Common.{sym, ◌∙◌, refl, inl}
use Rattle.image_format.specs.Format.{any}
use Rattle.image_format.specs.Manifests.{manifest_format}
use Rattle.image_format.proofs.ManifestLaws as law
use Rattle.image_format.proofs.Numerals.{fit_bytes}
use Rattle.image_format.proofs.WholeFiles as whole
use Rattle.image_format.proofs.manifest.read_manifest.Goals as goal

pub damaged-requires : goal.damaged-requires
damaged-requires c = whole.rest-le manifest_format any c.args.bytes.now c.in-Ok.m c.in-Ok.rest.now (fit_bytes _ c.type_inv.bytes) c.in-Ok.ensures

pub damaged-requires-in-Err-Left : goal.damaged-requires-in-Err-Left
damaged-requires-in-Err-Left c =
    whole.left-le manifest_format any c.args.bytes.now c.in-Err-Left.left (fit_bytes _ c.type_inv.bytes) (rw c.in-Err-Left.field-0-is at c.in-Err-Left.ensures)

pub returns-then-is_empty-clause-found : goal.returns-then-is_empty-clause-found
returns-then-is_empty-clause-found c =
    law.found c.args.bytes.now c.in-Ok.m c.in-Ok.rest.now (fit_bytes _ c.type_inv.bytes) c.in-Ok.ensures (whole.nothing c.in-Ok.rest.now (sym c.is_empty.ensures ∙ c.if-is_empty.true))

pub returns-then-is_empty-clause-only : goal.returns-then-is_empty-clause-only
returns-then-is_empty-clause-only c = law.only c.args.bytes.now c.in-Ok.m c.in-Ok.rest.now c.in-Ok.ensures

pub returns-else-is_empty-clause-only : goal.returns-else-is_empty-clause-only
returns-else-is_empty-clause-only c =
    rw c.damaged.ensures (law.none_after c.args.bytes.now c.in-Ok.m c.in-Ok.rest.now c.in-Ok.ensures (whole.something c.in-Ok.rest.now (sym c.is_empty.ensures ∙ c.if-is_empty.false)))

pub returns-else-is_empty-clause-exact : goal.returns-else-is_empty-clause-exact
returns-else-is_empty-clause-exact c =
    rw c.damaged.ensures (
      refl,
      whole.damaged_after manifest_format any c.args.bytes.now c.in-Ok.m c.in-Ok.rest.now (fit_bytes _ c.type_inv.bytes) c.in-Ok.ensures
          (inl (whole.something c.in-Ok.rest.now (sym c.is_empty.ensures ∙ c.if-is_empty.false))),
    )

pub returns-in-Err-Left-clause-only : goal.returns-in-Err-Left-clause-only
returns-in-Err-Left-clause-only c =
    rw c.damaged-in-Err-Left.ensures (law.none_left c.args.bytes.now c.in-Err-Left.left (rw c.in-Err-Left.field-0-is at c.in-Err-Left.ensures))

pub returns-in-Err-Left-clause-exact : goal.returns-in-Err-Left-clause-exact
returns-in-Err-Left-clause-exact c =
    rw c.damaged-in-Err-Left.ensures
    (refl, whole.damaged_left manifest_format any c.args.bytes.now c.in-Err-Left.left (fit_bytes _ c.type_inv.bytes) (rw c.in-Err-Left.field-0-is at c.in-Err-Left.ensures))
