-- What a crash leaves in the three steps of a `put_set`, and what reads give after them.
--     closing_image, closed_files       while the gate is closed, and after it
--     filling_image, filled_files       while the slot is filled behind a shut gate, and after it
--     opening_image, opened_files       while the gate is opened, and after it
use Rattle.std.proofs.Common.{◌≡◌, ◌≢◌, ◌⊎◌, ℕ, suc, ◌<◌, ◌≤◌, zero, inl, inr, List, [], ◌∷◌, ◌++◌, length, take, drop, refl, sym, ap, subst, ◌∙◌, arith, length-take, length-append}
use Rattle.std.specs.Prelude.{Bool, true, false, if◌then◌else◌, ◌==◌, Option, Some, None, unwrap_or, map, slice_index}
use Rattle.std.specs.FinMap as files_by_name
use Rattle.std.proofs.lemmas.Bool.{cases_eq}
use Rattle.std.proofs.lemmas.Bool.Decides.{nat_tests}
use Rattle.std.proofs.lemmas.List.{drop_more, drop_at, get_or-take}
use Rattle.std.proofs.lemmas.Option.{get_or_from_slice_get}
use Rattle.disk_folder.specs.Files.{FolderFiles, with_write}
use Rattle.disk_folder.specs.Crash.{Torn, TornBytes}
use Rattle.disk_folder.specs.declared.file_name.FileName.{FileName}
use Rattle.disk_folder.proofs.FilesAfter.{contents-write, get-write_other}
use Rattle.disk_folder.proofs.TornFiles.{write_torn}
use Rattle.views.proofs.MapLaws.{get_insert_same, get_insert_other}
use Rattle.disk_folder.proofs.NameOrder.{name_total, name_exact}
use Rattle.image_store.specs.Slots.{manifest_name, manifest_of, gate_of, info_of}
use Rattle.image_store.specs.FoundSets.{file_at, files_from}
use Rattle.image_store.specs.SlotWrites.{with_closed, closing_step, with_images, with_manifest, KeepsGate}
use Rattle.image_store.specs.SlotImages.{KeepsOthers, NoneOrKept, IsBeforePut, IsPut, IsInPut}
use Rattle.image_store.proofs.ManifestFronts.{info_shut, info_short}
use Rattle.image_store.proofs.SlotSteps.{other_name}
use Rattle.image_store.proofs.SlotFiles.{images_keep, images_there}

-- a manifest whose gate is there and is shut
pub record IsShut (manifest : List ℕ) : Type 0 where
  pub some : 0 < length manifest
  pub shut : slice_index manifest 0 ≢ 1

pub others_same : (slot : ℕ) (files : FolderFiles) → KeepsOthers slot files files
others_same slot files = record { others = λ q other. refl }

pub others_then : (slot : ℕ) (a b c : FolderFiles) → KeepsOthers slot a b → KeepsOthers slot b c → KeepsOthers slot a c
others_then slot a b c first second = record { others = λ q other. second.others q other ∙ first.others q other }

others_torn : (slot at n : ℕ) (old new : FolderFiles) → Torn (manifest_name slot) at n old new → KeepsOthers slot old new
others_torn slot at n old new torn = record { others = λ q other. torn.others q (other_name slot q other) }

others_gate : (slot : ℕ) (old new : FolderFiles) → KeepsGate slot old new → KeepsOthers slot old new
others_gate slot old new keeps = record { others = keeps.others }

-- a torn gate: any byte, and the rest as it was
torn_front : (old new : List ℕ) → TornBytes 0 1 old new → 0 < length old → new ≡ slice_index new 0 ∷ drop 1 old
torn_front old new torn some =
    let long = torn.no_shorter in
    drop_more new 0 0 (omega arith) ∙ ap (λ rest. slice_index new 0 ∷ rest) torn.behind

whole_front : (bytes : List ℕ) (b : ℕ) → 0 < length bytes → slice_index bytes 0 ≡ b → bytes ≡ b ∷ drop 1 bytes
whole_front bytes b some is = drop_more bytes 0 0 some ∙ ap (λ x. x ∷ drop 1 bytes) is

-- the same gate byte stands there again
torn_back : (old new : List ℕ) → TornBytes 0 1 old new → 0 < length old → slice_index new 0 ≡ slice_index old 0 → new ≡ old
torn_back old new torn some is = torn_front old new torn some ∙ ap (λ x. x ∷ drop 1 old) is ∙ sym (whole_front old (slice_index old 0) some refl)

gate_some : (manifest : List ℕ) (gate : ℕ) → gate_of manifest ≡ Some gate → (0 < length manifest) × (slice_index manifest 0 ≡ gate)
gate_some [] gate is = (cc)
gate_some (b ∷ manifest) gate is = (omega arith, get_or_from_slice_get (b ∷ manifest) 0 gate 0 is)

gate_none : (manifest : List ℕ) → gate_of manifest ≡ None → manifest ≡ []
gate_none [] is = refl
gate_none (b ∷ manifest) is = (cc)

torn_gate : (slot : ℕ) (files image : FolderFiles) → Torn (manifest_name slot) 0 1 files image → slice_index (manifest_of files slot) 0 ≡ 1 → 0 < length (manifest_of files slot) → NoneOrKept files image slot
torn_gate slot files image torn one some = elim (cases_eq (slice_index (manifest_of image slot) 0) 1) [
  | inl same ↦ inr (ap (info_of slot) (torn_back (manifest_of files slot) (manifest_of image slot) torn.bytes some (same ∙ sym one)))
  | inr shut ↦ inl (info_shut slot (manifest_of image slot) shut)
]

torn_none : (slot : ℕ) (files image : FolderFiles) → Torn (manifest_name slot) 0 1 files image → manifest_of files slot ≡ [] → NoneOrKept files image slot
torn_none slot files image torn none =
    let short = torn.bytes.no_longer in let l : length (manifest_of files slot) ≡ 0 = ap length none in
    inl (info_short slot (manifest_of image slot) (omega arith))

pub closing_image : (slot : ℕ) (gate : Option ℕ) (files image : FolderFiles) → gate_of (manifest_of files slot) ≡ gate → closing_step slot gate files image → IsBeforePut slot files image
closing_image slot None files image is torn = record { others = others_torn slot 0 1 files image torn; info = torn_none slot files image torn (gate_none (manifest_of files slot) is) }
closing_image slot (Some gate) files image is (inl same) = record {
  others = subst (KeepsOthers slot files) (sym same) (others_same slot files);
  info = inr (ap (λ f. info_of slot (manifest_of f slot)) same);
}
closing_image slot (Some gate) files image is (inr (one, torn)) =
    let there = gate_some (manifest_of files slot) gate is in
    record { others = others_torn slot 0 1 files image torn; info = torn_gate slot files image torn (there.1 ∙ one) there.0 }

-- after the gate is closed
written_gate : (slot gate : ℕ) (files : FolderFiles) → manifest_of (with_write files (manifest_name slot) 0 (gate ∷ [])) slot ≡ gate ∷ drop 1 (manifest_of files slot)
written_gate slot gate files = contents-write files (manifest_name slot) 0 (gate ∷ [])

write_shut : (slot : ℕ) (files : FolderFiles) → IsShut (manifest_of (with_write files (manifest_name slot) 0 (0 ∷ [])) slot)
write_shut slot files =
    let is = written_gate slot 0 files in
    let first : slice_index (manifest_of (with_write files (manifest_name slot) 0 (0 ∷ [])) slot) 0 ≡ 0 = ap (λ bytes. slice_index bytes 0) is in
    record { some = omega (arith, ap length is); shut = λ one. omega arith }

others_write : (slot gate : ℕ) (files : FolderFiles) → KeepsOthers slot files (with_write files (manifest_name slot) 0 (gate ∷ []))
others_write slot gate files = record { others = λ q other. get-write_other files (manifest_name slot) 0 (gate ∷ []) q (other_name slot q other) }

pub record IsClosed (slot : ℕ) (files closed : FolderFiles) : Type 0 where
  pub others : KeepsOthers slot files closed
  pub shut : IsShut (manifest_of closed slot)

written_closed : (slot : ℕ) (files : FolderFiles) → IsClosed slot files (with_write files (manifest_name slot) 0 (0 ∷ []))
written_closed slot files = record { others = others_write slot 0 files; shut = write_shut slot files }

closed_by : (slot gate : ℕ) (files : FolderFiles) (b : Bool) → gate_of (manifest_of files slot) ≡ Some gate → (b ≡ false → gate ≢ 1) → IsClosed slot files (if b then with_write files (manifest_name slot) 0 (0 ∷ []) else files)
closed_by slot gate files true is other = written_closed slot files
closed_by slot gate files false is other =
    let there = gate_some (manifest_of files slot) gate is in
    record { others = others_same slot files; shut = record { some = there.0; shut = λ one. other refl (sym there.1 ∙ one) } }

not_one : (gate : ℕ) → (gate == 1) ≡ false → gate ≢ 1
not_one gate is = grind (arith, nat_tests)

pub closed_files : (slot : ℕ) (gate : Option ℕ) (files : FolderFiles) → gate_of (manifest_of files slot) ≡ gate → IsClosed slot files (with_closed slot gate files)
closed_files slot None files is = written_closed slot files
closed_files slot (Some gate) files is = closed_by slot gate files (gate == 1) is (not_one gate)

-- behind a shut gate
front_byte : (old new : List ℕ) → take 1 new ≡ take 1 old → slice_index new 0 ≡ slice_index old 0
front_byte old new same = sym (get_or-take 1 new 0 0 (omega arith)) ∙ ap (λ bytes. slice_index bytes 0) same ∙ get_or-take 1 old 0 0 (omega arith)

pub filling_image : (slot : ℕ) (files closed image : FolderFiles) → IsClosed slot files closed → KeepsGate slot closed image → IsBeforePut slot files image
filling_image slot files closed image before keeps =
    let same = front_byte (manifest_of closed slot) (manifest_of image slot) (keeps.gate before.shut.some) in
    record {
      others = others_then slot files closed image before.others (others_gate slot closed image keeps);
      info = inl (info_shut slot (manifest_of image slot) (λ one. before.shut.shut (sym same ∙ one)));
    }

-- the slot has all but its gate
pub record IsFilled (slot : ℕ) (files : FolderFiles) (text : List ℕ) (images : List (List ℕ)) (filled : FolderFiles) : Type 0 where
  pub others : KeepsOthers slot files filled
  pub some : 0 < length (manifest_of filled slot)
  pub behind : drop 1 (manifest_of filled slot) ≡ drop 1 text
  pub there : files_from (file_at filled slot) 1 (length images) ≡ map Some images

files_same : (f g : ℕ → Option (List ℕ)) (index n : ℕ) → ((k : ℕ) → index ≤ k → f k ≡ g k) → files_from f index n ≡ files_from g index n
files_same f g index zero same = refl
files_same f g index (suc n) same = λ i. same index (omega arith) i ∷ files_same f g (suc index) n (λ k le. same k (omega arith)) i

behind_name : (slot index : ℕ) → 1 ≤ index → record { slot = slot; index = index } ≢ manifest_name slot
behind_name slot index le same = let i : index ≡ 0 = ap (λ (n : FileName). n.index) same in absurd (omega arith)

pub filled_files : (slot : ℕ) (files closed : FolderFiles) (text : List ℕ) (images : List (List ℕ)) → IsClosed slot files closed → IsFilled slot files text images (with_manifest slot text (with_images slot 1 images closed))
unfolding with_manifest
filled_files slot files closed text images before =
    let name = manifest_name slot in
    let with = with_images slot 1 images closed in
    let kept : manifest_of with slot ≡ manifest_of closed slot = ap (λ found. unwrap_or found []) (images_keep slot 1 images closed name (inr (omega arith))) in
    let bytes = take 1 (manifest_of with slot) ++ drop 1 text in
    let after = files_by_name.insert with name bytes in
    let is : manifest_of after slot ≡ bytes = ap (λ found. unwrap_or found []) (get_insert_same name_total name_exact with name bytes) in
    let some : 0 < length (manifest_of with slot) = (let s = before.shut.some in omega (arith, ap length kept)) in
    record {
      others = record { others = λ q other. get_insert_other name_total name_exact with name bytes q (other_name slot q other) ∙ images_keep slot 1 images closed q (inl other) ∙ before.others.others q other };
      some = omega (arith, ap length is, length-append (take 1 (manifest_of with slot)) (drop 1 text), length-take 1 (manifest_of with slot));
      behind = ap (drop 1) is ∙ drop_at (take 1 (manifest_of with slot)) (drop 1 text) 1 (omega (arith, length-take 1 (manifest_of with slot)));
      there = files_same (file_at after slot) (file_at with slot) 1 (length images) (λ k le. get_insert_other name_total name_exact with name bytes (record { slot = slot; index = k }) (behind_name slot k le)) ∙ images_there slot 1 images closed;
    }

-- the gate of a filled slot
module _ (slot : ℕ) (files : FolderFiles) (text : List ℕ) (images : List (List ℕ)) (filled : FolderFiles) (before : IsFilled slot files text images filled) (some : 0 < length text) (one : slice_index text 0 ≡ 1) (image : FolderFiles) (torn : Torn (manifest_name slot) 0 1 filled image) where
  others_now : KeepsOthers slot files image
  others_now = others_then slot files filled image before.others (others_torn slot 0 1 filled image torn)

  pub put_image : slice_index (manifest_of image slot) 0 ≡ 1 → IsPut slot files text images image
  put_image is = record {
    others = others_now;
    manifest = torn_front (manifest_of filled slot) (manifest_of image slot) torn.bytes before.some
        ∙ ap (λ b. b ∷ drop 1 (manifest_of filled slot)) is ∙ ap (λ rest. 1 ∷ rest) before.behind
        ∙ sym (whole_front text 1 some one);
    there = files_same (file_at image slot) (file_at filled slot) 1 (length images) (λ k le. torn.others (record { slot = slot; index = k }) (behind_name slot k le)) ∙ before.there;
  }

  pub opening_image : IsInPut slot files text images image
  opening_image = elim (cases_eq (slice_index (manifest_of image slot) 0) 1) [
    | inl is ↦ inr (put_image is)
    | inr shut ↦ inl (record { others = others_now; info = inl (info_shut slot (manifest_of image slot) shut) })
  ]

pub opened_files : (slot : ℕ) (files : FolderFiles) (text : List ℕ) (images : List (List ℕ)) (filled : FolderFiles) → IsFilled slot files text images filled → 0 < length text → slice_index text 0 ≡ 1 → IsPut slot files text images (with_write filled (manifest_name slot) 0 (1 ∷ []))
opened_files slot files text images filled before some one =
    put_image slot files text images filled before some one (with_write filled (manifest_name slot) 0 (1 ∷ [])) (write_torn (manifest_name slot) 0 1 (1 ∷ []) filled refl)
    (ap (λ bytes. slice_index bytes 0) (written_gate slot 1 filled))

-- the step of a gate that is closed by a write, and of one that stays
pub closing_torn : (slot : ℕ) (gate : Option ℕ) (old new : FolderFiles) → (gate ≡ None) ⊎ (gate ≡ Some 1) → Torn (manifest_name slot) 0 1 old new → closing_step slot gate old new
closing_torn slot None old new is torn = torn
closing_torn slot (Some gate) old new (inl is) torn = (cc)
closing_torn slot (Some gate) old new (inr is) torn = inr (let one : gate ≡ 1 = cc in one, torn)

pub closing_same : (slot : ℕ) (gate : Option ℕ) (found : ℕ) (files : FolderFiles) → gate ≡ Some found → closing_step slot gate files files
closing_same slot None found files is = (cc)
closing_same slot (Some gate) found files is = inl refl
