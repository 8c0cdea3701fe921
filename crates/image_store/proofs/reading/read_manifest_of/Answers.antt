use Rattle.std.proofs.Common.{ℕ, List, sym, subst, ◌∙◌}
use Rattle.image_format.specs.Manifests.{SpellsManifest, DamagedManifest}
use Rattle.image_store.specs.Slots.{manifest_of}
use Rattle.image_store.proofs.ManifestFronts.{few}
use Rattle.image_store.proofs.LongManifests.{front_found, front_only, front_damaged, told_only, told_damaged}
use Rattle.image_store.proofs.reading.read_manifest_of.Goals as goal

pub returns-in_err-read_manifest-clause-only : goal.returns-in_err-read_manifest-clause-only
returns-in_err-read_manifest-clause-only g c files is m spelled =
    let same = c.deref.ensures.value ∙ c.in_ok-bytes.ensures.bytes files is in
    let front = subst (λ (t : List ℕ). SpellsManifest t m) (sym same) (front_only (manifest_of files c.args.slot) m spelled) in
    told_only _ c.in_err-read_manifest.field-0.0 m c.from_residual-in_err-read_manifest.ensures.1 (c.in_err-read_manifest.ensures.only m front)

pub returns-in_err-read_manifest-clause-damaged : goal.returns-in_err-read_manifest-clause-damaged
returns-in_err-read_manifest-clause-damaged g c d told files is =
    let same = c.deref.ensures.value ∙ c.in_ok-bytes.ensures.bytes files is in
    let found = told_damaged _ c.in_err-read_manifest.field-0.0 d (DamagedManifest c.deref.result.now) c.from_residual-in_err-read_manifest.ensures.1 told c.in_err-read_manifest.ensures.exact in
    (found.0, front_damaged (manifest_of files c.args.slot) d.offset (subst (λ (t : List ℕ). DamagedManifest t d.offset) same found.1))

pub returns-clause-found : goal.returns-clause-found
returns-clause-found g c files is =
    let same = c.deref.ensures.value ∙ c.in_ok-bytes.ensures.bytes files is in
    front_found (manifest_of files c.args.slot) c.in_ok-read_manifest.field-0 (subst (λ (t : List ℕ). SpellsManifest t c.in_ok-read_manifest.field-0) same c.in_ok-read_manifest.ensures.found)

pub returns-clause-only : goal.returns-clause-only
returns-clause-only g c files is m spelled =
    let same = c.deref.ensures.value ∙ c.in_ok-bytes.ensures.bytes files is in
    c.in_ok-read_manifest.ensures.only m (subst (λ (t : List ℕ). SpellsManifest t m) (sym same) (front_only (manifest_of files c.args.slot) m spelled))

pub returns-clause-few : goal.returns-clause-few
returns-clause-few g c = few c.deref.result.now c.in_ok-read_manifest.field-0 c.in_ok-read_manifest.ensures.found
