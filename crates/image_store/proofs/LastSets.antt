-- Which set counts when one slot changes, the one that a set is written into.
--     to_write_differs, to_write_small      that slot is another than the one of the set that counts
--     set_stays          it has no set that counts, or has what it had: the set that counts is the same
--     put_set_is         it has a complete set of a greater generation: that one counts
--     old_or_new         one or the other
use Rattle.std.proofs.Common.{◌≡◌, ◌≢◌, ◌⊎◌, ℕ, ◌<◌, ◌≤◌, inl, inr, List, refl, sym, ap, subst, ◌∙◌, arith}
use Rattle.std.specs.Prelude.{length, map, [], unwrap_or, Bool, true, false, if◌then◌else◌, ◌==◌, nat_lt, Option, Some, None, IfSome, option_map}
use Rattle.std.proofs.lemmas.Bool.{cases_eq}
use Rattle.std.proofs.lemmas.List.{length-map}
use Rattle.std.proofs.lemmas.Bool.Decides.{nat_tests}
use Rattle.disk_folder.specs.Files.{FolderFiles}
use Rattle.image_store.specs.Slots.{manifest_of, file_count, info_of, later, last, slot_to_write}
use Rattle.image_store.specs.SlotImages.{KeepsOthers, NoneOrKept, IsBeforePut, IsPut, IsInPut}
use Rattle.image_store.specs.FoundSets.{FoundSet, file_at, files_from, set_of, last_set, IsSet, HasSet}
use Rattle.image_format.specs.declared.manifest.Manifest.{Manifest}
use Rattle.image_format.specs.Manifests.{SpellsManifest}
use Rattle.image_store.specs.StoreCrashes.{OldOrNew}
use Rattle.image_store.specs.declared.set_info.SetInfo.{SetInfo}
use Rattle.image_store.proofs.ManifestFronts.{info_some, info_open, spelled_gate, spelled_length, spelled_generation, spelled_count}

in_slot : (slot : ℕ) (manifest : List ℕ) → IfSome (info_of slot manifest) (λ info. info.slot ≡ slot)
in_slot slot manifest = at_found (info_of slot manifest) refl
  where
    at_found : (found : Option SetInfo) → info_of slot manifest ≡ found → IfSome found (λ info. info.slot ≡ slot)
    at_found None is = tt
    at_found (Some info) is = (info_some slot manifest info is).0

chosen_first : (b : Bool) (x y i : SetInfo) → (if b then Some y else Some x) ≡ Some i → i.slot ≡ 0 → y.slot ≡ 1 → x ≡ i
chosen_first true x y i is zeroth one = absurd (let same : y ≡ i = cc in omega (arith, ap (λ info. info.slot) same))
chosen_first false x y i is zeroth one = (cc)

chosen_second : (b : Bool) (x y i : SetInfo) → (if b then Some y else Some x) ≡ Some i → i.slot ≢ 0 → x.slot ≡ 0 → y ≡ i
chosen_second true x y i is other zeroth = (cc)
chosen_second false x y i is other zeroth = absurd (let same : x ≡ i = cc in other (sym (ap (λ info. info.slot) same) ∙ zeroth))

-- the set that counts is the one of its slot
first_counts : (a b : Option SetInfo) (i : SetInfo) → later a b ≡ Some i → i.slot ≡ 0 → IfSome b (λ info. info.slot ≡ 1) → a ≡ Some i
unfolding later
first_counts None None i is zeroth b_in = (cc)
first_counts None (Some y) i is zeroth b_in = absurd (let same : y ≡ i = cc in omega (arith, ap (λ info. info.slot) same))
first_counts (Some x) None i is zeroth b_in = is
first_counts (Some x) (Some y) i is zeroth b_in = ap Some (chosen_first (nat_lt x.generation y.generation) x y i is zeroth b_in)

second_counts : (a b : Option SetInfo) (i : SetInfo) → later a b ≡ Some i → i.slot ≢ 0 → IfSome a (λ info. info.slot ≡ 0) → b ≡ Some i
unfolding later
second_counts None b i is other a_in = is
second_counts (Some x) None i is other a_in = absurd (let same : x ≡ i = cc in other (sym (ap (λ info. info.slot) same) ∙ a_in))
second_counts (Some x) (Some y) i is other a_in = ap Some (chosen_second (nat_lt x.generation y.generation) x y i is other a_in)

none_first : (a b : Option SetInfo) → later a b ≡ None → a ≡ None
unfolding later
none_first None b is = refl
none_first (Some x) None is = (cc)
none_first (Some x) (Some y) is = absurd (some_none (nat_lt x.generation y.generation) is)
  where
    some_none : (c : Bool) → (if c then Some y else Some x) ≡ None → ⊥
    some_none true e = (cc)
    some_none false e = (cc)

none_second : (a b : Option SetInfo) → later a b ≡ None → b ≡ None
unfolding later
none_second None b is = is
none_second (Some x) b is = absurd (some_none (Some x) b is refl)
  where
    some_none : (a b : Option SetInfo) → later a b ≡ None → a ≡ Some x → ⊥
    some_none a b e f = let n = none_first a b e in (cc)

-- what the slots have after a change of one of them: it has nothing, or what it had
module _ (a b c : Option SetInfo) where
  alone_first : (i : SetInfo) → a ≡ Some i → (c ≡ None) ⊎ (c ≡ b) → later a b ≡ Some i → later a c ≡ Some i
  unfolding later
  alone_first i first (inl none) is = λ k. later (first k) (none k)
  alone_first i first (inr same) is = ap (later a) same ∙ is

  alone_second : (i : SetInfo) → b ≡ Some i → (c ≡ None) ⊎ (c ≡ a) → later a b ≡ Some i → later c b ≡ Some i
  unfolding later
  alone_second i second (inl none) is = ap (λ x. later x b) none ∙ second
  alone_second i second (inr same) is = ap (λ x. later x b) same ∙ is

no_slot : slot_to_write None ≡ 0
unfolding slot_to_write
no_slot = refl

other_slot : (i : SetInfo) → i.slot ≡ 0 → slot_to_write (Some i) ≡ 1
unfolding slot_to_write
other_slot i zeroth = ap (λ slot. if slot == 0 then 1 else 0) zeroth

this_slot : (i : SetInfo) → i.slot ≢ 0 → slot_to_write (Some i) ≡ 0
unfolding slot_to_write
this_slot i other = grind (arith, nat_tests)

pub to_write_differs : (i : SetInfo) → i.slot ≢ slot_to_write (Some i)
to_write_differs i = elim (cases_eq i.slot 0) [
  | inl zeroth ↦ λ same. let s = other_slot i zeroth in omega arith
  | inr other ↦ λ same. other (same ∙ this_slot i other)
]

pub to_write_small : (found : Option SetInfo) → slot_to_write found < 2
unfolding slot_to_write
to_write_small None = omega arith
to_write_small (Some i) = grind (arith, nat_tests)

-- the slot's set in both folders
abbrev pub Kept : FolderFiles → FolderFiles → ℕ → Type 0
Kept files image slot = info_of slot (manifest_of image slot) ≡ info_of slot (manifest_of files slot)

module _ (files image : FolderFiles) where
  both_same : (a b : Option SetInfo) → info_of 0 (manifest_of image 0) ≡ a → info_of 1 (manifest_of image 1) ≡ b → last image ≡ later a b
  unfolding last
  both_same a b first second = λ k. later (first k) (second k)

  by_slots : last files ≡ later (info_of 0 (manifest_of files 0)) (info_of 1 (manifest_of files 1))
  unfolding last
  by_slots = refl

  stays_none : last files ≡ None → Kept files image 1 → NoneOrKept files image 0 → last image ≡ None
  unfolding later
  stays_none none kept (inl shut) = both_same None _ shut kept ∙ none_second _ _ (sym by_slots ∙ none)
  stays_none none kept (inr same) = both_same _ _ same kept ∙ sym by_slots ∙ none

  stays_first : (i : SetInfo) → last files ≡ Some i → i.slot ≡ 0 → Kept files image 0 → NoneOrKept files image 1 → last image ≡ Some i
  stays_first i is zeroth kept changed =
      let was = sym by_slots ∙ is in
      let first = first_counts _ _ i was zeroth (in_slot 1 (manifest_of files 1)) in
      both_same _ _ kept refl ∙ alone_first _ _ _ i first changed was

  stays_second : (i : SetInfo) → last files ≡ Some i → i.slot ≢ 0 → Kept files image 1 → NoneOrKept files image 0 → last image ≡ Some i
  stays_second i is other kept changed =
      let was = sym by_slots ∙ is in
      let second = second_counts _ _ i was other (in_slot 0 (manifest_of files 0)) in
      both_same _ _ refl kept ∙ alone_second _ _ _ i second changed was

  -- with the slot that is written, and each other one as it was
  pub last_stays : (found : Option SetInfo) → last files ≡ found → ((slot : ℕ) → slot ≢ slot_to_write found → Kept files image slot) → NoneOrKept files image (slot_to_write found) → last image ≡ last files
  last_stays None is others changed = stays_none is (others 1 (λ e. let s = no_slot in omega arith)) (subst (NoneOrKept files image) no_slot changed) ∙ sym is
  last_stays (Some i) is others changed = elim (cases_eq i.slot 0) [
    | inl zeroth ↦ stays_first i is zeroth (others 0 (λ e. let s = other_slot i zeroth in omega arith)) (subst (NoneOrKept files image) (other_slot i zeroth) changed) ∙ sym is
    | inr other ↦ stays_second i is other (others 1 (λ e. let s = this_slot i other in omega arith)) (subst (NoneOrKept files image) (this_slot i other) changed) ∙ sym is
  ]

  -- a complete set of a greater generation
  new_alone : (s : ℕ) (g : ℕ) → last files ≡ None → Kept files image 1 → info_of 0 (manifest_of image 0) ≡ Some (record { slot = s; generation = g }) → last image ≡ Some (record { slot = s; generation = g })
  unfolding later
  new_alone s g none kept new = both_same _ None new (kept ∙ none_second _ _ (sym by_slots ∙ none))

  greater_second : (i new : SetInfo) → i.generation < new.generation → later (Some i) (Some new) ≡ Some new
  unfolding later
  greater_second i new less = at_test (nat_lt i.generation new.generation) (grind (arith, nat_tests))
    where
      at_test : (b : Bool) → b ≡ true → (if b then Some new else Some i) ≡ Some new
      at_test true e = refl
      at_test false e = (cc)

  greater_first : (i new : SetInfo) → i.generation < new.generation → later (Some new) (Some i) ≡ Some new
  unfolding later
  greater_first i new less = at_test (nat_lt new.generation i.generation) (grind (arith, nat_tests))
    where
      at_test : (b : Bool) → b ≡ false → (if b then Some i else Some new) ≡ Some new
      at_test true e = (cc)
      at_test false e = refl

  new_second : (i new : SetInfo) → last files ≡ Some i → i.slot ≡ 0 → Kept files image 0 → info_of 1 (manifest_of image 1) ≡ Some new → i.generation < new.generation → last image ≡ Some new
  new_second i new is zeroth kept info less =
      let first = first_counts _ _ i (sym by_slots ∙ is) zeroth (in_slot 1 (manifest_of files 1)) in
      both_same (Some i) (Some new) (kept ∙ first) info ∙ greater_second i new less

  new_first : (i new : SetInfo) → last files ≡ Some i → i.slot ≢ 0 → Kept files image 1 → info_of 0 (manifest_of image 0) ≡ Some new → i.generation < new.generation → last image ≡ Some new
  new_first i new is other kept info less =
      let second = second_counts _ _ i (sym by_slots ∙ is) other (in_slot 0 (manifest_of files 0)) in
      both_same (Some new) (Some i) info (kept ∙ second) ∙ greater_first i new less

  abbrev Info : ℕ → SetInfo → Type 0
  Info slot new = info_of slot (manifest_of image slot) ≡ Some new

  pub last_new : (found : Option SetInfo) (new : SetInfo) → last files ≡ found → ((slot : ℕ) → slot ≢ slot_to_write found → Kept files image slot) → info_of (slot_to_write found) (manifest_of image (slot_to_write found)) ≡ Some new → IfSome found (λ i. i.generation < new.generation) → last image ≡ Some new
  last_new None new is others info less = new_alone new.slot new.generation is (others 1 (λ e. let s = no_slot in omega arith)) (subst (λ slot. Info slot new) no_slot info)
  last_new (Some i) new is others info less = elim (cases_eq i.slot 0) [
    | inl zeroth ↦ new_second i new is zeroth (others 0 (λ e. let s = other_slot i zeroth in omega arith)) (subst (λ slot. Info slot new) (other_slot i zeroth) info) less
    | inr other ↦ new_first i new is other (others 1 (λ e. let s = this_slot i other in omega arith)) (subst (λ slot. Info slot new) (this_slot i other) info) less
  ]

-- the files of another slot
other_files : (s : ℕ) (files image : FolderFiles) (slot : ℕ) → KeepsOthers s files image → slot ≢ s → file_at image slot ≡ file_at files slot
other_files s files image slot keeps differs = λ i index. keeps.others (record { slot = slot; index = index }) differs i

abbrev manifest_in : (ℕ → Option (List ℕ)) → List ℕ
manifest_in there = unwrap_or (there 0) []

pub other_manifest : (s : ℕ) (files image : FolderFiles) (slot : ℕ) → KeepsOthers s files image → slot ≢ s → manifest_of image slot ≡ manifest_of files slot
other_manifest s files image slot keeps differs = ap manifest_in (other_files s files image slot keeps differs)

other_kept : (s : ℕ) (files image : FolderFiles) (slot : ℕ) → KeepsOthers s files image → slot ≢ s → Kept files image slot
other_kept s files image slot keeps differs = ap (info_of slot) (other_manifest s files image slot keeps differs)

other_set : (s : ℕ) (files image : FolderFiles) (info : SetInfo) → KeepsOthers s files image → info.slot ≢ s → set_of image info ≡ set_of files info
unfolding set_of
other_set s files image info keeps differs =
    ap (λ (there : ℕ → Option (List ℕ)). let found : FoundSet = record { slot = info.slot; generation = info.generation; manifest = manifest_in there; files = files_from there 1 (file_count (manifest_in there)) } in found)
    (other_files s files image info.slot keeps differs)

same_sets : (files image : FolderFiles) (found : Option SetInfo) → last image ≡ found → last files ≡ found → ((info : SetInfo) → found ≡ Some info → set_of image info ≡ set_of files info) → last_set image ≡ last_set files
unfolding last_set
same_sets files image None now was each = ap (option_map (set_of image)) now ∙ sym (ap (option_map (set_of files)) was)
same_sets files image (Some info) now was each = ap (option_map (set_of image)) now ∙ ap Some (each info refl) ∙ sym (ap (option_map (set_of files)) was)

pub set_stays : (files image : FolderFiles) → IsBeforePut (slot_to_write (last files)) files image → last_set image ≡ last_set files
set_stays files image before =
    let s = slot_to_write (last files) in
    let now : last image ≡ last files = last_stays files image (last files) refl (λ slot differs. other_kept s files image slot before.others differs) before.info in
    same_sets files image (last files) now refl (λ info is. other_set s files image info before.others (λ e. to_write_differs info (e ∙ ap slot_to_write is)))

pub last_set_is : (files : FolderFiles) (info : SetInfo) → last files ≡ Some info → last_set files ≡ Some (set_of files info)
unfolding last_set
last_set_is files info is = ap (option_map (set_of files)) is

-- the set that was put
pub put_last : (files image : FolderFiles) (text : List ℕ) (m : Manifest) (images : List (List ℕ)) → IsPut (slot_to_write (last files)) files text images image → SpellsManifest text m → IfSome (last files) (λ i. i.generation < m.generation) → last image ≡ Some (record { slot = slot_to_write (last files); generation = m.generation })
put_last files image text m images put spelled less =
    let s = slot_to_write (last files) in
    let long : 16 ≤ length text = (let l = spelled_length text m spelled in omega arith) in
    let info : info_of s (manifest_of image s) ≡ Some (record { slot = s; generation = m.generation }) =
    ap (info_of s) put.manifest ∙ info_open s text long (spelled_gate text m spelled)
    ∙ ap (λ g. let i : SetInfo = record { slot = s; generation = g } in Some i) (spelled_generation text m spelled) in
    last_new files image (last files) (record { slot = s; generation = m.generation }) refl (λ slot differs. other_kept s files image slot put.others differs) info less

whole_set : (files image : FolderFiles) (s : ℕ) (text : List ℕ) (g : ℕ) (images : List (List ℕ)) → IsPut s files text images image → SpellsManifest text (record { generation = g; lengths = map length images }) → IsSet (set_of image (record { slot = s; generation = g })) g images
unfolding set_of
whole_set files image s text g images put spelled = record {
  generation = refl;
  manifest = subst (λ bytes. SpellsManifest bytes (record { generation = g; lengths = map length images })) (sym put.manifest) spelled;
  files = ap (files_from (file_at image s) 1) (ap file_count put.manifest ∙ spelled_count text _ spelled ∙ length-map images length) ∙ put.there;
}

pub put_set_is : (files image : FolderFiles) (text : List ℕ) (g : ℕ) (images : List (List ℕ)) → IsPut (slot_to_write (last files)) files text images image → SpellsManifest text (record { generation = g; lengths = map length images }) → IfSome (last files) (λ i. i.generation < g) → HasSet (last_set image) g images
put_set_is files image text g images put spelled less =
    let info : SetInfo = record { slot = slot_to_write (last files); generation = g } in
    (set_of image info, last_set_is image info (put_last files image text _ images put spelled less), whole_set files image (slot_to_write (last files)) text g images put spelled)

pub old_or_new : (files image : FolderFiles) (text : List ℕ) (g : ℕ) (images : List (List ℕ)) → SpellsManifest text (record { generation = g; lengths = map length images }) → IfSome (last files) (λ i. i.generation < g) → IsInPut (slot_to_write (last files)) files text images image → OldOrNew (last_set files) g images image
old_or_new files image text g images spelled less (inl before) = inl (set_stays files image before)
old_or_new files image text g images spelled less (inr put) = inr (put_set_is files image text g images put spelled less)
