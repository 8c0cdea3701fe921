-- What the front of a manifest tells.
--     info_open, info_shut, info_short      the set of a slot whose gate is 1, whose gate is another byte, whose manifest is too short
--     spelled_gate, spelled_generation, spelled_count, spelled_length      the fields of a spelled manifest
--     spelled_longest          it has no more bytes
use Rattle.std.proofs.Common.{◌≡◌, ◌≢◌, ℕ, ◌+◌, ◌*◌, ◌<◌, ◌≤◌, List, [], ◌∷◌, ◌++◌, length, take, drop, refl, sym, ap, ◌∙◌, arith, append_assoc, length-append, length-take}
use Rattle.std.specs.Prelude.{Bool, true, false, ◌&&◌, if◌then◌else◌, ◌==◌, nat_le, Option, Some, None, slice_index}
use Rattle.std.specs.Int.{w32, w64, from_le_bytes}
use Rattle.std.specs.List.{flat_map}
use Rattle.std.proofs.lemmas.Bool.Decides.{nat_tests}
use Rattle.std.proofs.lemmas.List.{take_at, drop_at, get_or-take, get_or-drop, take-take, drop-take}
use Rattle.std.proofs.lemmas.Nat.{from_le_bytes-to_le_bytes_4, from_le_bytes-to_le_bytes_8}
use Rattle.image_format.specs.declared.manifest.Manifest.{Manifest}
use Rattle.image_format.specs.Format.{number_text, n8, n32, n64}
use Rattle.image_format.specs.Manifests.{SpellsManifest, MANIFEST_MAGIC, COMPLETE}
use Rattle.image_format.specs.ManifestTexts.{manifest_text, IsManifestText}
use Rattle.image_format.proofs.ManifestLaws.{text_of}
use Rattle.image_store.specs.Slots.{has_open_gate, generation_of, file_count, info_of}
use Rattle.image_store.specs.declared.set_info.SetInfo.{SetInfo}

chosen_by : (b : Bool) (info : SetInfo) → b ≡ true → (if b then Some info else None) ≡ Some info
chosen_by true info is = refl
chosen_by false info is = (cc)

none_by : (b : Bool) (info : SetInfo) → b ≡ false → (if b then Some info else None) ≡ None
none_by true info is = (cc)
none_by false info is = refl

pub info_open : (slot : ℕ) (manifest : List ℕ) → 16 ≤ length manifest → slice_index manifest 0 ≡ 1 → info_of slot manifest ≡ Some (record { slot = slot; generation = generation_of manifest })
unfolding info_of has_open_gate
info_open slot manifest long one = chosen_by _ _ (grind (arith, nat_tests))

pub info_shut : (slot : ℕ) (manifest : List ℕ) → slice_index manifest 0 ≢ 1 → info_of slot manifest ≡ None
unfolding info_of has_open_gate
info_shut slot manifest shut = none_by _ _ (grind (arith, nat_tests))

pub info_short : (slot : ℕ) (manifest : List ℕ) → length manifest < 16 → info_of slot manifest ≡ None
unfolding info_of has_open_gate
info_short slot manifest short = none_by _ _ (grind (arith, nat_tests))

-- a slot that has a set
some_by : (b : Bool) (info other : SetInfo) → (if b then Some info else None) ≡ Some other → info ≡ other
some_by true info other is = (cc)
some_by false info other is = (cc)

pub info_some : (slot : ℕ) (manifest : List ℕ) (info : SetInfo) → info_of slot manifest ≡ Some info → (info.slot ≡ slot) × (generation_of manifest ≡ info.generation)
unfolding info_of
info_some slot manifest info is = let same = some_by (has_open_gate manifest) (record { slot = slot; generation = generation_of manifest }) info is in (sym (ap (λ i. i.slot) same), ap (λ i. i.generation) same)

abbrev info_if : ℕ → Bool → List ℕ → Option SetInfo
info_if slot whole bytes = if whole then Some (record { slot = slot; generation = from_le_bytes w64 bytes }) else None

-- the first 16 bytes tell all
pub info_front : (slot : ℕ) (manifest : List ℕ) → info_of slot (take 16 manifest) ≡ info_of slot manifest
unfolding info_of has_open_gate generation_of
info_front slot manifest =
    let long : nat_le 16 (length (take 16 manifest)) ≡ nat_le 16 (length manifest) = grind (arith, nat_tests, length-take 16 manifest) in
    let gate : slice_index (take 16 manifest) 0 ≡ slice_index manifest 0 = get_or-take 16 manifest 0 0 (omega arith) in
    let middle : take 8 (drop 8 (take 16 manifest)) ≡ take 8 (drop 8 manifest) = ap (take 8) (drop-take 8 8 manifest) ∙ take-take 8 8 (drop 8 manifest) (omega arith) in
    λ i. info_if slot (long i && (gate i == 1)) (middle i)

lengths_size : (lengths : List ℕ) → length (flat_map (number_text n64) lengths) ≡ 8 * length lengths
unfolding number_text
lengths_size [] = refl
lengths_size (size ∷ lengths) =
    let more = lengths_size lengths in
    let one : length (number_text n64 size) ≡ 8 = refl in
    omega (arith, more, one, length-append (number_text n64 size) (flat_map (number_text n64) lengths))

module _ (text : List ℕ) (m : Manifest) (spelled : SpellsManifest text m) where
  in_words : IsManifestText text m
  in_words = text_of text m spelled

  abbrev front : List ℕ
  front = number_text n8 COMPLETE ++ MANIFEST_MAGIC

  abbrev rest : List ℕ
  rest = flat_map (number_text n64) m.lengths

  text_parts : text ≡ front ++ (number_text n64 m.generation ++ (number_text n32 (length m.lengths) ++ rest))
  unfolding manifest_text
  text_parts = in_words.text_is
      ∙ append_assoc (front ++ number_text n64 m.generation) (number_text n32 (length m.lengths)) rest
      ∙ append_assoc front (number_text n64 m.generation) (number_text n32 (length m.lengths) ++ rest)

  front_length : length front ≡ 8
  unfolding number_text
  front_length = refl

  generation_length : length (number_text n64 m.generation) ≡ 8
  unfolding number_text
  generation_length = refl

  count_length : length (number_text n32 (length m.lengths)) ≡ 4
  unfolding number_text
  count_length = refl

  pub spelled_gate : slice_index text 0 ≡ 1
  unfolding number_text
  spelled_gate = ap (λ bytes. slice_index bytes 0) text_parts

  pub spelled_length : 20 ≤ length text
  spelled_length =
      let whole = ap length text_parts in
      let a = front_length in let b = generation_length in let c = count_length in
      omega (arith, length-append front (number_text n64 m.generation ++ (number_text n32 (length m.lengths) ++ rest)), length-append (number_text n64 m.generation) (number_text n32 (length m.lengths) ++ rest), length-append (number_text n32 (length m.lengths)) rest)

  pub spelled_longest : length text ≤ 1052
  spelled_longest =
      let whole = ap length text_parts in
      let a = front_length in let b = generation_length in let c = count_length in let d = lengths_size m.lengths in
      let most : length m.lengths ≤ 129 = grind (arith, nat_tests, in_words.keeps.count) in
      omega (arith, most, length-append front (number_text n64 m.generation ++ (number_text n32 (length m.lengths) ++ rest)), length-append (number_text n64 m.generation) (number_text n32 (length m.lengths) ++ rest), length-append (number_text n32 (length m.lengths)) rest)

  behind_front : drop 8 text ≡ number_text n64 m.generation ++ (number_text n32 (length m.lengths) ++ rest)
  behind_front = ap (drop 8) text_parts ∙ drop_at front _ 8 front_length

  read_generation : from_le_bytes w64 (number_text n64 m.generation) ≡ m.generation
  unfolding number_text
  read_generation = from_le_bytes-to_le_bytes_8 m.generation in_words.generation

  pub spelled_generation : generation_of text ≡ m.generation
  unfolding generation_of
  spelled_generation =
      ap (λ bytes. from_le_bytes w64 bytes) (ap (take 8) behind_front ∙ take_at (number_text n64 m.generation) _ 8 generation_length) ∙ read_generation

  pub few : length m.lengths ≤ 129
  few = grind (arith, nat_tests, in_words.keeps.count)

  read_count : from_le_bytes w32 (number_text n32 (length m.lengths)) ≡ length m.lengths
  unfolding number_text
  read_count = from_le_bytes-to_le_bytes_4 (length m.lengths) (let l = few in omega arith)

  behind_generation : drop 16 text ≡ number_text n32 (length m.lengths) ++ rest
  behind_generation =
      ap (drop 16) (text_parts ∙ sym (append_assoc front (number_text n64 m.generation) (number_text n32 (length m.lengths) ++ rest)))
      ∙ drop_at (front ++ number_text n64 m.generation) _ 16 (let a = front_length in let b = generation_length in omega (arith, length-append front (number_text n64 m.generation)))

  pub spelled_count : file_count text ≡ length m.lengths
  unfolding file_count
  spelled_count =
      ap (λ bytes. from_le_bytes w32 bytes) (ap (take 4) behind_generation ∙ take_at (number_text n32 (length m.lengths)) rest 4 count_length) ∙ read_count

-- the generation from its bytes
generation_byte : (manifest : List ℕ) (k : ℕ) → k < 8 → slice_index manifest (8 + k) ≡ slice_index (take 8 (drop 8 manifest)) k
generation_byte manifest k lt = sym (get_or-take 8 (drop 8 manifest) k 0 lt ∙ get_or-drop 8 manifest k 0)

pub generation_bytes : (m : List ℕ) → from_le_bytes w64 (slice_index m 8 ∷ slice_index m 9 ∷ slice_index m 10 ∷ slice_index m 11 ∷ slice_index m 12 ∷ slice_index m 13 ∷ slice_index m 14 ∷ slice_index m 15 ∷ []) ≡ generation_of m
unfolding generation_of
generation_bytes m =
    let at : (k : ℕ) → k < 8 → slice_index m (8 + k) ≡ slice_index (take 8 (drop 8 m)) k = generation_byte m in
    λ i. from_le_bytes w64 (at 0 (omega arith) i ∷ at 1 (omega arith) i ∷ at 2 (omega arith) i ∷ at 3 (omega arith) i ∷ at 4 (omega arith) i ∷ at 5 (omega arith) i ∷ at 6 (omega arith) i ∷ at 7 (omega arith) i ∷ [])

-- what a read of so many bytes places at the front of a buffer
pub read_take : (n size : ℕ) (buf old bytes : List ℕ) → n ≡ length (take size bytes) → buf ≡ take size bytes ++ drop n old → take n buf ≡ take size bytes
read_take n size buf old bytes count is = ap (take n) is ∙ take_at (take size bytes) (drop n old) n (sym count)
