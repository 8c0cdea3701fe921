-- The format of a manifest's file and its text say the same, and what a reading of it tells
use Rattle.std.proofs.Common.{◌≡◌, ℕ, ◌<◌, ◌^◌, inl, IsTrue, List, [], length, Ok, Err, refl, sym, ap, subst, append_assoc, append-nil, arith, lit<}
use Rattle.std.specs.Prelude.{All}
use Rattle.std.proofs.lemmas.Bool.Decides.{nat_tests}
use Rattle.std.proofs.lemmas.List.Elements.{All-weaker}
use Rattle.std.proofs.lemmas.Slice.Eq.{bytes_eq-Decides}
use Rattle.image_format.specs.declared.manifest.Manifest.{Manifest}
use Rattle.image_format.specs.Fields.{is_bytes}
use Rattle.image_format.specs.Files.{FileLaws}
use Rattle.image_format.specs.Format.{n8, n64, any, number_text, Spells, SpellsFile}
use Rattle.image_format.specs.Reading.{read}
use Rattle.image_format.specs.Texts.{FitsField}
use Rattle.image_format.specs.Manifests.{COMPLETE, MANIFEST_MAGIC, manifest_format, length_format, is_gate, is_image_count, SpellsManifest, DamagedManifest}
use Rattle.image_format.specs.ManifestTexts.{manifest_text, IsManifest, IsManifestText}
use Rattle.image_format.proofs.Numerals.{AllBytes}
use Rattle.image_format.proofs.Texts.{Law, in_words, next_law, unsigned_law, raw_law, counted_law, give_law, all_from_each, each_from_all}
use Rattle.image_format.proofs.WholeFiles.{spells_whole, only_value, no_value, no_value_after, laws_of}

pub record Facts (m : Manifest) : Type 0 where
  pub keeps : IsManifest m
  pub generation : m.generation < 2 ^ 64
  pub lengths : All (λ size. size < 2 ^ 64) m.lengths

length_law : Law length_format (number_text n64) (FitsField n64 any)
unfolding length_format
length_law = unsigned_law n64 any

count-below : (n : ℕ) → IsTrue (is_image_count n) → n < 2 ^ 32
count-below n h = grind (arith, nat_tests)

is-complete : (gate : ℕ) → IsTrue (is_gate gate) → gate ≡ COMPLETE
is-complete gate h = grind (arith, nat_tests)

is-magic : (bytes wanted : List ℕ) → IsTrue (is_bytes wanted bytes) → bytes ≡ wanted
is-magic bytes wanted h = (bytes_eq-Decides bytes wanted).0 h

pub manifest_law : Law manifest_format manifest_text Facts
unfolding manifest_format manifest_text
manifest_law =
    in_words _ _ _ _ _
    (λ m h. simp (append_assoc, append-nil))
    (λ m h.
    let (gate, (magic, (generation, (lengths, is)))) = h in
    record { keeps = record { count = lengths.0.1 }; generation = generation.0; lengths = All-weaker (FitsField n64 any) (λ size. size < 2 ^ 64) (λ size fits. fits.0) m.lengths (all_from_each (FitsField n64 any) [] m.lengths lengths.1) })
    (λ m h. ((lit< tt, refl), ((refl, refl), ((h.generation, refl), (((count-below _ h.keeps.count, h.keeps.count), each_from_all (FitsField n64 any) [] m.lengths (All-weaker (λ size. size < 2 ^ 64) (FitsField n64 any) (λ size fits. (fits, refl)) m.lengths h.lengths)), refl)))))
    (next_law _ _ _ _ _ _ (λ (m : Manifest). COMPLETE) (unsigned_law n8 is_gate) (λ b m h o. is-complete b h.1) (λ _.
    next_law _ _ _ _ _ _ (λ (m : Manifest). MANIFEST_MAGIC) (raw_law 7 (is_bytes MANIFEST_MAGIC)) (λ b m h o. is-magic b _ h.1) (λ _.
    next_law _ _ _ _ _ _ (λ (m : Manifest). m.generation) (unsigned_law n64 any) (λ b m h o. sym (ap (λ (m : Manifest). m.generation) o.1)) (λ _.
    next_law _ _ _ _ _ _ (λ (m : Manifest). m.lengths) (counted_law is_image_count (λ _. length_format) (number_text n64) (λ _. FitsField n64 any) (λ _. length_law)) (λ b m h o. sym (ap (λ (m : Manifest). m.lengths) o)) (λ _.
    give_law _)))))

-- in the words of the writer

pub text_of : (text : List ℕ) (m : Manifest) → SpellsManifest text m → IsManifestText text m
unfolding SpellsFile
text_of text m s =
    let (text_is, facts) = manifest_law.only text m s.0 in
    record { keeps = facts.keeps; generation = facts.generation; lengths = facts.lengths; text_is = text_is }

pub of_text : (text : List ℕ) (m : Manifest) → IsManifestText text m → SpellsManifest text m
unfolding SpellsFile
of_text text m s =
    let facts : Facts m = record { keeps = s.keeps; generation = s.generation; lengths = s.lengths } in
    (subst (λ (t : List ℕ). Spells manifest_format t m) (sym s.text_is) (manifest_law.again m facts), refl)

pub laws : FileLaws SpellsManifest DamagedManifest
laws = laws_of manifest_format any manifest_text Facts manifest_law

pub found : (text : List ℕ) (m : Manifest) (rest : List ℕ) → AllBytes text → read manifest_format text ≡ Ok (m, rest) → rest ≡ [] → SpellsManifest text m
found text m rest bytes e none = spells_whole manifest_format any text m rest bytes e none refl

pub only : (text : List ℕ) (m : Manifest) (rest : List ℕ) → read manifest_format text ≡ Ok (m, rest) → (k : Manifest) → SpellsManifest text k → m ≡ k
only text m rest e k s = only_value manifest_format any text m k rest e s

pub none_left : (text : List ℕ) (left : ℕ) → read manifest_format text ≡ Err left → (k : Manifest) → SpellsManifest text k → ⊥
none_left text left e k s = no_value manifest_format any text left k e s

pub none_after : (text : List ℕ) (m : Manifest) (rest : List ℕ) → read manifest_format text ≡ Ok (m, rest) → 0 < length rest → (k : Manifest) → SpellsManifest text k → ⊥
none_after text m rest e more k s = no_value_after manifest_format any text m rest k e (inl more) s
