use Rattle.std.proofs.Common.{◌≡◌, ◌∙◌, ap, sym, subst, List, ℕ, length}
use Rattle.std.specs.Prelude.{Err, Some, map}
use Rattle.std.proofs.lemmas.Result.{err_from_is_err_and}
use Rattle.image_store.specs.FoundSets.{file_at, files_from}
use Rattle.image_store.specs.SetDamages.{damage_from}
use Rattle.image_store.specs.StoreCauses.{TellsDamage}
use Rattle.image_store.specs.declared.store_fault.StoreFault.{StoreFault}
use Rattle.image_store.proofs.Passing.{nothing_then}
use Rattle.image_store.proofs.SetReadings.{only_manifest, damaged_manifest, only_lengths, damaged_lengths, found_set, only_set}
use Rattle.image_store.proofs.reading.read_set.Goals as goal

pub returns-in_err-check_lengths-clause-nothing : goal.returns-in_err-check_lengths-clause-nothing
returns-in_err-check_lengths-clause-nothing g c = nothing_then c.read_manifest_of.ensures.nothing c.check_lengths.ensures.nothing

pub returns-in_err-files-clause-nothing : goal.returns-in_err-files-clause-nothing
returns-in_err-files-clause-nothing g c = nothing_then (nothing_then c.read_manifest_of.ensures.nothing c.check_lengths.ensures.nothing) c.read_images.ensures.nothing

pub returns-clause-nothing : goal.returns-clause-nothing
returns-clause-nothing g c = nothing_then (nothing_then c.read_manifest_of.ensures.nothing c.check_lengths.ensures.nothing) c.read_images.ensures.nothing

pub returns-in_err-manifest-clause-only : goal.returns-in_err-manifest-clause-only
returns-in_err-manifest-clause-only g c = λ files is.
    let p = err_from_is_err_and c.from_residual.result c.from_residual.ensures.1 in
    only_manifest files c.args.info c.from_residual.result p.0 c.in_err-manifest.field-0.0 p.1 p.2 (c.in_err-manifest.ensures.only files is)

pub returns-in_err-manifest-clause-damaged : goal.returns-in_err-manifest-clause-damaged
returns-in_err-manifest-clause-damaged g c = λ d found files is.
    let p = err_from_is_err_and c.from_residual.result c.from_residual.ensures.1 in
    let fault = c.in_err-manifest.field-0.0 in
    damaged_manifest files c.args.info c.from_residual.result p.0 fault d p.1 p.2 (λ named. c.in_err-manifest.ensures.damaged d (ap (λ (e : StoreFault). Err e) named) files is) found

pub returns-in_err-check_lengths-clause-only : goal.returns-in_err-check_lengths-clause-only
returns-in_err-check_lengths-clause-only g c = λ files is.
    let r = c.from_residual-in_err-check_lengths in
    let p = err_from_is_err_and r.result r.ensures.1 in
    let m = c.in_ok-manifest.manifest in
    let told = subst (λ (xs : List ℕ). TellsDamage {A = Unit} (Err c.in_err-check_lengths.field-0.0) (damage_from 1 xs (files_from (file_at files c.args.info.slot) 1 (length xs)))) c.as_slice-lengths.ensures (c.in_err-check_lengths.ensures.found files (c.read_manifest_of.ensures.nothing.same ∙ is)) in
    only_lengths files c.args.info m r.result p.0 c.in_err-check_lengths.field-0.0 (c.in_ok-manifest.ensures.found files is) (c.in_ok-manifest.ensures.only files is) p.1 p.2 told c.in_err-check_lengths.ensures.read

pub returns-in_err-check_lengths-clause-damaged : goal.returns-in_err-check_lengths-clause-damaged
returns-in_err-check_lengths-clause-damaged g c = λ d found files is.
    let r = c.from_residual-in_err-check_lengths in
    let p = err_from_is_err_and r.result r.ensures.1 in
    let m = c.in_ok-manifest.manifest in
    let told = subst (λ (xs : List ℕ). TellsDamage {A = Unit} (Err c.in_err-check_lengths.field-0.0) (damage_from 1 xs (files_from (file_at files c.args.info.slot) 1 (length xs)))) c.as_slice-lengths.ensures (c.in_err-check_lengths.ensures.found files (c.read_manifest_of.ensures.nothing.same ∙ is)) in
    damaged_lengths files c.args.info m r.result p.0 c.in_err-check_lengths.field-0.0 d (c.in_ok-manifest.ensures.found files is) p.1 p.2 told found

pub returns-clause-found : goal.returns-clause-found
returns-clause-found g c = λ files is.
    let m = c.in_ok-manifest.manifest in
    let start = c.check_lengths.ensures.nothing.same ∙ c.read_manifest_of.ensures.nothing.same ∙ is in
    let images = c.of_files.result.files in
    let named = c.of_files.ensures in
    let read = subst (λ (xs : List ℕ). files_from (file_at files c.args.info.slot) 1 (length xs) ≡ map Some images) c.as_slice-lengths.ensures (c.in_ok-files.ensures.found files start ∙ ap (λ (xs : List (List ℕ)). map Some xs) (sym named)) in
    let lengths = ap (λ (xs : List (List ℕ)). map length xs) named ∙ c.in_ok-files.ensures.lengths ∙ c.as_slice-lengths.ensures in
    found_set files c.args.info m images (c.in_ok-manifest.ensures.found files is) (c.requires files is) lengths read

pub returns-clause-only : goal.returns-clause-only
returns-clause-only g c = λ files is n bytes set.
    let m = c.in_ok-manifest.manifest in
    let start = c.check_lengths.ensures.nothing.same ∙ c.read_manifest_of.ensures.nothing.same ∙ is in
    let images = c.of_files.result.files in
    let named = c.of_files.ensures in
    let read = subst (λ (xs : List ℕ). files_from (file_at files c.args.info.slot) 1 (length xs) ≡ map Some images) c.as_slice-lengths.ensures (c.in_ok-files.ensures.found files start ∙ ap (λ (xs : List (List ℕ)). map Some xs) (sym named)) in
    only_set files c.args.info m images (c.in_ok-manifest.ensures.found files is) read n bytes set
