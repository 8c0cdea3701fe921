-- What the front of a manifest's file tells, which is one byte longer than the longest manifest.
--     front_found, front_only      it spells the manifest that the whole file spells
--     front_damaged                it is damaged where the whole file is
--     told_only, told_damaged      what the reader of a manifest refuses, as the store tells it
use Rattle.std.proofs.Common.{◌≡◌, ℕ, zero, suc, ◌+◌, ◌*◌, ◌<◌, ◌≤◌, inl, inr, IsTrue, List, [], ◌∷◌, ◌++◌, length, take, drop, sym, ap, subst, ◌∙◌, arith, append_assoc, length-append, length-take}
use Rattle.std.specs.Prelude.{Bool, true, Result, Ok, Err, IsErrAnd}
use Rattle.std.proofs.lemmas.Bool.{cases_lt}
use Rattle.std.proofs.lemmas.Bool.Decides.{nat_tests}
use Rattle.std.proofs.lemmas.List.{take-append-drop, take_all}
use Rattle.image_format.specs.declared.damage.Damage.{Damage}
use Rattle.image_format.specs.declared.damage.ReadFault.{ReadFault}
use Rattle.image_format.specs.declared.damage.ReadFault.TheVariants as of_reader
use Rattle.image_format.specs.declared.manifest.Manifest.{Manifest}
use Rattle.image_format.specs.Files.{IsRead, IsDamagedAt}
use Rattle.image_format.specs.Fields.{is_bytes}
use Rattle.image_format.specs.Format.{Size, n8, n32, n64, byte_count, FormatOf, unsigned, raw, give, next, each, counted, any, Spells, Breaks, BreaksField, Damaged}
use Rattle.image_format.specs.Manifests.{MANIFEST_MAGIC, manifest_format, length_format, is_gate, is_image_count, SpellsManifest, DamagedManifest}
use Rattle.image_format.proofs.DamageLaws.{stays}
use Rattle.image_format.proofs.Numerals.{length-number_text}
use Rattle.image_store.specs.declared.store_fault.StoreFault.{StoreFault}
use Rattle.image_store.specs.declared.store_fault.StoreFault.TheVariants.{Damaged as Told, Memory as out_of_memory}
use Rattle.image_store.specs.FaultsOf.{of_reading}
use Rattle.image_store.specs.StoreCauses.{IsManifestOrOutside, IsOutside}
use Rattle.image_store.proofs.ManifestFronts.{spelled_longest}

-- where a field breaks whose bytes are there
field_place : (size : ℕ) (allowed : Bool) (text : List ℕ) (n : ℕ) → size ≤ length text → BreaksField size allowed text n → n ≡ 0
field_place size allowed text n full (inl (short, place)) = absurd (omega arith)
field_place size allowed text n full (inr (_, _, place)) = place

field_inside : (size : ℕ) (allowed : Bool) (text : List ℕ) (n : ℕ) → size ≤ length text → 0 < length text → BreaksField size allowed text n → n < length text
field_inside size allowed text n full some breaks = let place = field_place size allowed text n full breaks in omega (arith, place)

any_holds : (size : ℕ) (text : List ℕ) (n : ℕ) → size ≤ length text → BreaksField size true text n → ⊥
any_holds size text n full (inl (short, place)) = absurd (omega arith)
any_holds size text n full (inr (_, refused, _)) = cc

-- behind the first field
unsigned_length : (size : Size) (ok : ℕ → Bool) (first : List ℕ) (b : ℕ) → Spells (unsigned size ok) first b → length first ≡ byte_count size
unfolding Spells
unsigned_length size ok first b spelled = ap length spelled.0 ∙ length-number_text size b

raw_length : (size : ℕ) (ok : List ℕ → Bool) (first b : List ℕ) → Spells (raw size ok) first b → length first ≡ size
unfolding Spells
raw_length size ok first b spelled = ap length spelled.0 ∙ spelled.1

behind : (text first rest : List ℕ) (size least : ℕ) → text ≡ first ++ rest → length first ≡ size → size + least ≤ length text → least ≤ length rest
behind text first rest size least is first_size long = let whole = ap length is ∙ length-append first rest in omega (arith, whole, first_size, long)

inside : (text first rest : List ℕ) (n m : ℕ) → text ≡ first ++ rest → n ≡ length first + m → m < length rest → n < length text
inside text first rest n m is place below = let whole = ap length is ∙ length-append first rest in omega (arith, whole, place, below)

-- lengths whose bytes are there are no damage
each_holds : (count : ℕ) (front text : List ℕ) (n : ℕ) → 8 * count ≤ length text → Breaks (each (λ _. length_format) count front) text n → ⊥
unfolding Breaks each length_format byte_count
each_holds zero front text n full breaks = breaks
each_holds (suc count) front text n full (inl breaks) = any_holds 8 text n (omega arith) breaks
each_holds (suc count) front text n full (inr (b, first, rest, m, is, spelled, breaks, place)) =
    each_holds count (front ++ b ∷ []) rest m (behind text first rest 8 (8 * count) is (unsigned_length n64 any first b spelled) (omega arith)) breaks

few : (count : ℕ) → IsTrue (is_image_count count) → count ≤ 129
few count ok = grind (arith, nat_tests)

file_count : (first : List ℕ) (count : ℕ) → Spells (unsigned n32 is_image_count) first count → count ≤ 129
unfolding Spells
file_count first count spelled = few count spelled.2

counted_inside : (text : List ℕ) (n : ℕ) → 1036 ≤ length text → Breaks (counted is_image_count (λ _. length_format)) text n → n < length text
unfolding Breaks counted byte_count
counted_inside text n long (inl breaks) = field_inside 4 _ text n (omega arith) (omega arith) breaks
counted_inside text n long (inr (count, first, rest, m, is, spelled, breaks, place)) =
    let most = file_count first count spelled in
    absurd (each_holds count [] rest m (behind text first rest 4 (8 * count) is (unsigned_length n32 is_image_count first count spelled) (omega (arith, most))) breaks)

-- the manifest from a field on
abbrev lengths_part : ℕ → FormatOf Manifest
lengths_part generation = next (counted is_image_count (λ _. length_format)) (λ lengths. give (record { generation = generation; lengths = lengths }))

abbrev generation_part : FormatOf Manifest
generation_part = next (unsigned n64 any) (λ generation. lengths_part generation)

abbrev magic_part : FormatOf Manifest
magic_part = next (raw 7 (is_bytes MANIFEST_MAGIC)) (λ magic. generation_part)

lengths_inside : (generation : ℕ) (text : List ℕ) (n : ℕ) → 1036 ≤ length text → Breaks (lengths_part generation) text n → n < length text
unfolding Breaks
lengths_inside generation text n long (inl breaks) = counted_inside text n long breaks
lengths_inside generation text n long (inr (lengths, first, rest, m, is, spelled, breaks, place)) = elim breaks [ ]

generation_inside : (text : List ℕ) (n : ℕ) → 1044 ≤ length text → Breaks generation_part text n → n < length text
unfolding Breaks byte_count
generation_inside text n long (inl breaks) = field_inside 8 _ text n (omega arith) (omega arith) breaks
generation_inside text n long (inr (generation, first, rest, m, is, spelled, breaks, place)) =
    inside text first rest n m is place
    (lengths_inside generation rest m (behind text first rest 8 1036 is (unsigned_length n64 any first generation spelled) long) breaks)

magic_inside : (text : List ℕ) (n : ℕ) → 1051 ≤ length text → Breaks magic_part text n → n < length text
unfolding Breaks
magic_inside text n long (inl breaks) = field_inside 7 _ text n (omega arith) (omega arith) breaks
magic_inside text n long (inr (magic, first, rest, m, is, spelled, breaks, place)) =
    inside text first rest n m is place
    (generation_inside rest m (behind text first rest 7 1044 is (raw_length 7 (is_bytes MANIFEST_MAGIC) first magic spelled) long) breaks)

manifest_inside : (text : List ℕ) (n : ℕ) → 1052 ≤ length text → Breaks manifest_format text n → n < length text
unfolding Breaks manifest_format byte_count
manifest_inside text n long (inl breaks) = field_inside 1 _ text n (omega arith) (omega arith) breaks
manifest_inside text n long (inr (gate, first, rest, m, is, spelled, breaks, place)) =
    inside text first rest n m is place
    (magic_inside rest m (behind text first rest 1 1051 is (unsigned_length n8 is_gate first gate spelled) long) breaks)

-- of a file that is longer
longer_damaged : (front more : List ℕ) (n : ℕ) → 1052 ≤ length front → DamagedManifest front n → DamagedManifest (front ++ more) n
unfolding Damaged
longer_damaged front more n long (inl breaks) = inl (stays manifest_format front more n breaks (manifest_inside front n long breaks))
longer_damaged front more n long (inr (m, first, rest, is, spelled, inl some, place)) =
    inr (m, first, rest ++ more, ap (λ (t : List ℕ). t ++ more) is ∙ append_assoc first rest more, spelled, inl (omega (arith, some, length-append rest more)), place)
longer_damaged front more n long (inr (m, first, rest, is, spelled, inr ends, place)) = absurd (cc)

pub front_damaged : (text : List ℕ) (n : ℕ) → DamagedManifest (take 1053 text) n → DamagedManifest text n
front_damaged text n damaged =
    elim (cases_lt (length text) 1053) [
      | inl short ↦ subst (λ (t : List ℕ). DamagedManifest t n) (take_all 1053 text (omega arith)) damaged
      | inr long ↦ subst (λ (t : List ℕ). DamagedManifest t n) (take-append-drop 1053 text) (longer_damaged (take 1053 text) (drop 1053 text) n (omega (arith, length-take 1053 text)) damaged)
    ]

pub front_found : (text : List ℕ) (m : Manifest) → SpellsManifest (take 1053 text) m → SpellsManifest text m
front_found text m spelled =
    let most = spelled_longest (take 1053 text) m spelled in
    subst (λ (t : List ℕ). SpellsManifest t m) (take_all 1053 text (omega (arith, most, length-take 1053 text))) spelled

pub front_only : (text : List ℕ) (m : Manifest) → SpellsManifest text m → SpellsManifest (take 1053 text) m
front_only text m spelled =
    let most = spelled_longest text m spelled in
    subst (λ (t : List ℕ). SpellsManifest t m) (sym (take_all 1053 text (omega (arith, most)))) spelled

-- as the store tells it
pub told_only : (result : Result Manifest StoreFault) (fault : ReadFault) (m : Manifest) → IsErrAnd result (λ made. made ≡ of_reading fault) → IsRead {A = Manifest} (Err fault) m → IsManifestOrOutside result m
told_only (Ok found) fault m is read = absurd is
told_only (Err made) (of_reader.Damaged damage) m is read = absurd read
told_only (Err made) of_reader.Memory m is read = subst (λ (f : StoreFault). IsOutside f) (sym is) tt

same_damage : (found damage : Damage) → Told found ≡ Told damage → found ≡ damage
same_damage found damage is = (cc)

told_of : (made fault : StoreFault) → ◌≡◌ {A = Result Manifest StoreFault} (Err made) (Err fault) → made ≡ fault
told_of made fault is = (cc)

pub told_damaged : (result : Result Manifest StoreFault) (fault : ReadFault) (damage : Damage) (P : ℕ → Type 0) → IsErrAnd result (λ made. made ≡ of_reading fault) → result ≡ Err (Told damage) → IsDamagedAt {A = Manifest} 0 P (Err fault) → (damage.file ≡ 0) × P damage.offset
told_damaged (Ok found) fault damage P is told exact = absurd is
told_damaged (Err made) (of_reader.Damaged found) damage P is told exact =
    subst (λ (d : Damage). (d.file ≡ 0) × P d.offset) (same_damage found damage (sym is ∙ told_of made (Told damage) told)) exact
told_damaged (Err made) of_reader.Memory damage P is told exact = let none : out_of_memory ≡ Told damage = sym is ∙ told_of made (Told damage) told in absurd (cc)
