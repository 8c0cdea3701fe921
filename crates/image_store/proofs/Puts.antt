-- What a `put_set` does to the sets of a folder that its store fits.
--     Ready              the slot, the manifest and the generation are the right ones
--     ready_of           from what the calls before the writing say
--     ready_image, ready_set     what a crash leaves, and what is there in the end
--     put_fits           the store that comes back fits
--     next_next          and its next generation is one more
use Rattle.std.proofs.Common.{◌≡◌, ◌≢◌, ◌⊎◌, ℕ, zero, suc, ◌<◌, max, inl, inr, List, length, sym, ap, ◌∙◌, subst, arith}
use Rattle.std.specs.Prelude.{Option, Some, None, IfSome, map}
use Rattle.std.specs.Option.{option_map_or}
use Rattle.std.proofs.lemmas.Option.{slice_get-get_or}
use Rattle.disk_folder.specs.Files.{FolderFiles}
use Rattle.disk_folder.specs.Crash.{Only}
use Rattle.image_format.specs.Manifests.{SpellsManifest}
use Rattle.image_store.specs.Slots.{gate_of, manifest_of, last, slot_to_write}
use Rattle.image_store.specs.FoundSets.{FoundSet, last_set, HasSet}
use Rattle.image_store.specs.StoreStates.{Known, FitsFiles, generation_after, next_generation, gate_known, with_set}
use Rattle.image_store.specs.StoreCrashes.{OldOrNew}
use Rattle.image_store.specs.SlotImages.{IsInPut, IsPut}
use Rattle.image_store.specs.declared.set_info.SetInfo.{SetInfo}
use Rattle.image_store.proofs.ManifestFronts.{spelled_gate, spelled_length}
use Rattle.image_store.proofs.LastSets.{old_or_new, other_manifest, put_last, put_set_is, to_write_small}

-- the manifest and the images as they are written, and the set that was asked for
pub record Ready (files : FolderFiles) (slot g : ℕ) (text : List ℕ) (list : List (List ℕ)) (number : ℕ) (images : List (List ℕ)) : Type 0 where
  pub slot_is : slot ≡ slot_to_write (last files)
  pub spelled : SpellsManifest text (record { generation = g; lengths = map length list })
  pub greater : IfSome (last files) (λ i. i.generation < g)
  pub number_is : g ≡ number
  pub images_are : list ≡ images

greater_next : (floor : ℕ) (found : Option SetInfo) (g : ℕ) → g ≡ generation_after floor found → IfSome found (λ i. i.generation < g)
unfolding generation_after
greater_next floor None g is = tt
greater_next floor (Some i) g is = omega arith

pub ready_of : (store : Known) (files : FolderFiles) (outcomes : FolderFiles → Type 0) (inside : Option SetInfo) (slot g : ℕ) (text items : List ℕ) (list images : List (List ℕ)) → FitsFiles store files outcomes → inside ≡ store.last → slot ≡ slot_to_write inside → g ≡ next_generation store → text ≡ items → SpellsManifest items (record { generation = g; lengths = map length list }) → list ≡ images → Ready files slot g text list (next_generation store) images
ready_of store files outcomes inside slot g text items list images fits inside_is slot_is g_is text_is spelled list_is = record {
  slot_is = slot_is ∙ ap slot_to_write (inside_is ∙ sym fits.last);
  spelled = subst (λ bytes. SpellsManifest bytes (record { generation = g; lengths = map length list })) (sym text_is) spelled;
  greater = subst (λ found. IfSome found (λ i. i.generation < g)) (sym fits.last) (greater_next store.floor store.last g g_is);
  number_is = g_is;
  images_are = list_is;
}

module _ (files : FolderFiles) (slot g : ℕ) (text : List ℕ) (list : List (List ℕ)) (number : ℕ) (images : List (List ℕ)) (ready : Ready files slot g text list number images) where
  -- the set that was asked for is the one that is written
  as_asked : (found : Option FoundSet) → HasSet found g list → HasSet found number images
  as_asked found has =
      let named : HasSet found number list = subst (λ n. HasSet found n list) ready.number_is has in
      subst (λ xs. HasSet found number xs) ready.images_are named

  asked_image : (before found : Option FoundSet) → (found ≡ before) ⊎ HasSet found g list → (found ≡ before) ⊎ HasSet found number images
  asked_image before found (inl same) = inl same
  asked_image before found (inr has) = inr (as_asked found has)

  pub ready_image : (image : FolderFiles) → IsInPut slot files text list image → OldOrNew (last_set files) number images image
  ready_image image in_put = asked_image (last_set files) (last_set image) (old_or_new files image text g list ready.spelled ready.greater (subst (λ s. IsInPut s files text list image) ready.slot_is in_put))

  pub ready_set : (image : FolderFiles) → IsPut slot files text list image → HasSet (last_set image) number images
  ready_set image put = as_asked (last_set image) (put_set_is files image text g list (subst (λ s. IsPut s files text list image) ready.slot_is put) ready.spelled ready.greater)

  ready_last : (image : FolderFiles) → IsPut slot files text list image → last image ≡ Some (record { slot = slot; generation = g })
  ready_last image put =
      put_last files image text _ list (subst (λ s. IsPut s files text list image) ready.slot_is put) ready.spelled ready.greater
      ∙ ap (λ s. let i : SetInfo = record { slot = s; generation = g } in Some i) (sym ready.slot_is)

  text_gate : gate_of text ≡ Some 1
  text_gate =
      let long = spelled_length text _ ready.spelled in
      slice_get-get_or text 0 0 (omega arith) ∙ ap (λ (n : ℕ). Some n) (spelled_gate text _ ready.spelled)

  gate_written : (image : FolderFiles) → IsPut slot files text list image → gate_of (manifest_of image slot) ≡ Some 1
  gate_written image put = ap gate_of put.manifest ∙ text_gate

gate_kept : (slot other : ℕ) (files image : FolderFiles) (text : List ℕ) (list : List (List ℕ)) → IsPut slot files text list image → other ≢ slot → gate_of (manifest_of image other) ≡ gate_of (manifest_of files other)
gate_kept slot other files image text list put differs = ap gate_of (other_manifest slot files image other put.others differs)

pub put_fits : (slot : ℕ) (store : Known) (files after : FolderFiles) (before outcomes : FolderFiles → Type 0) (g : ℕ) (text : List ℕ) (list : List (List ℕ)) (number : ℕ) (images : List (List ℕ)) → slot < 2 → FitsFiles store files before → Only after outcomes → Ready files slot g text list number images → IsPut slot files text list after → FitsFiles (with_set store slot g) after outcomes
put_fits zero store files after before outcomes g text list number images small fits only ready put = record {
  settled = only;
  first = gate_written files 0 g text list number images ready after put;
  second = gate_kept 0 1 files after text list put (λ e. omega arith) ∙ fits.second;
  last = ready_last files 0 g text list number images ready after put;
}
put_fits (suc zero) store files after before outcomes g text list number images small fits only ready put = record {
  settled = only;
  first = gate_kept 1 0 files after text list put (λ e. omega arith) ∙ fits.first;
  second = gate_written files 1 g text list number images ready after put;
  last = ready_last files 1 g text list number images ready after put;
}
put_fits (suc (suc n)) store files after before outcomes g text list number images small fits only ready put = absurd (omega arith)

pub gate_is : (slot : ℕ) (store : Known) (files : FolderFiles) (outcomes : FolderFiles → Type 0) → slot < 2 → FitsFiles store files outcomes → gate_of (manifest_of files slot) ≡ gate_known store slot
gate_is zero store files outcomes small fits = fits.first
gate_is (suc zero) store files outcomes small fits = fits.second
gate_is (suc (suc n)) store files outcomes small fits = absurd (omega arith)

pub small_slot : (slot : ℕ) (found : Option SetInfo) → slot ≡ slot_to_write found → slot < 2
small_slot slot found is = omega (arith, to_write_small found)

pub next_next : (store after : Known) (slot g : ℕ) → after ≡ with_set store slot g → g ≡ next_generation store → next_generation after ≡ suc (next_generation store)
unfolding generation_after
next_next store after slot g is number =
    ap next_generation is ∙ at_number store.floor (option_map_or (λ info. info.generation) store.last 0) g number
  where
    at_number : (floor n g : ℕ) → g ≡ suc (max floor n) → suc (max floor g) ≡ suc (suc (max floor n))
    at_number floor n g e = omega arith
