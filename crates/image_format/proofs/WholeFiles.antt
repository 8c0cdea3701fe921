-- A reading of a whole file: what is spelled, what is damaged, and that there is no other value
use Rattle.std.proofs.Common.{◌≡◌, ◌==◌, ℕ, ◌+◌, ◌-◌, ◌<◌, ◌≤◌, ◌⊎◌, inl, inr, Bool, true, false, IsTrue, List, [], ◌∷◌, ◌++◌, length, take, Result, Ok, Err, refl, sym, ap, subst, ◌∙◌, append_assoc, append-nil, length-append, arith}
use Rattle.std.proofs.lemmas.Bool.Decides.{nat_tests}
use Rattle.std.proofs.lemmas.List.{nil_from_length, take_at}
use Rattle.std.proofs.lemmas.Bool.{cases_Bool}
use Rattle.image_format.specs.Format.{FormatOf, Spells, Breaks, SpellsFile, Damaged}
use Rattle.image_format.specs.Reading.{read}
use Rattle.image_format.specs.Files.{FileLaws}
use Rattle.image_format.proofs.Numerals.{AllBytes}
use Rattle.image_format.proofs.Laws.{read_spelled, spelled_read, read_broken, broken_read, place-le}
use Rattle.image_format.proofs.DamageLaws as damage
use Rattle.image_format.proofs.Texts.{Law}

pub nothing : (rest : List ℕ) → (length rest == 0) ≡ true → rest ≡ []
nothing rest h = nil_from_length rest (grind (arith, nat_tests))

pub something : (rest : List ℕ) → (length rest == 0) ≡ false → 0 < length rest
something [] h = cc
something (b ∷ rest) h = omega arith

module _ {A : Type 0} (f : FormatOf A) (end : A → Bool) where
  reads_all : (text : List ℕ) (a : A) → Spells f text a → read f text ≡ Ok (a, [])
  reads_all text a s = ap (read f) (sym (append-nil text)) ∙ read_spelled f text [] a s

  same_value : (text : List ℕ) (a b : A) (rest : List ℕ) → read f text ≡ Ok (a, rest) → Spells f text b → (a ≡ b) × (rest ≡ [])
  same_value text a b rest e s =
      let same : ◌≡◌ {A = Result (A × List ℕ) ℕ} (Ok (a, rest)) (Ok (b, [])) = sym e ∙ reads_all text b s in
      let pairs : ◌≡◌ {A = A × List ℕ} (a, rest) (b, []) = cc in
      (ap (λ (p : A × List ℕ). p.0) pairs, ap (λ (p : A × List ℕ). p.1) pairs)

  -- a file that is read whole
  pub spells_whole : (text : List ℕ) (a : A) (rest : List ℕ) → AllBytes text → read f text ≡ Ok (a, rest) → rest ≡ [] → IsTrue (end a) → SpellsFile f end text a
  unfolding SpellsFile
  spells_whole text a rest bytes e none passes =
      let front = spelled_read f text a rest bytes e in
      let same : text ≡ front.first = front.whole ∙ ap (λ (r : List ℕ). front.first ++ r) none ∙ append-nil front.first in
      (subst (λ (t : List ℕ). Spells f t a) (sym same) front.spells, passes)

  pub only_value : (text : List ℕ) (a b : A) (rest : List ℕ) → read f text ≡ Ok (a, rest) → SpellsFile f end text b → a ≡ b
  unfolding SpellsFile
  only_value text a b rest e s = (same_value text a b rest e s.0).0

  pub rest-le : (text : List ℕ) (a : A) (rest : List ℕ) → AllBytes text → read f text ≡ Ok (a, rest) → length rest ≤ length text
  rest-le text a rest bytes e =
      let front = spelled_read f text a rest bytes e in
      omega (arith, ap length front.whole ∙ length-append front.first rest)

  -- a file of which no value is read
  pub left-le : (text : List ℕ) (left : ℕ) → AllBytes text → read f text ≡ Err left → left ≤ length text
  left-le text left bytes e = let front = broken_read f text left bytes e in omega (arith, front.whole)

  pub damaged_left : (text : List ℕ) (left : ℕ) → AllBytes text → read f text ≡ Err left → Damaged f end text (length text - left)
  unfolding Damaged
  damaged_left text left bytes e =
      let front = broken_read f text left bytes e in
      let same : front.place ≡ length text - left = omega (arith, front.whole) in
      inl (subst (Breaks f text) same front.breaks)

  pub no_value : (text : List ℕ) (left : ℕ) (b : A) → read f text ≡ Err left → SpellsFile f end text b → ⊥
  unfolding SpellsFile
  no_value text left b e s =
      let same : ◌≡◌ {A = Result (A × List ℕ) ℕ} (Err left) (Ok (b, [])) = sym e ∙ reads_all text b s.0 in
      cc

  -- a value that bytes follow, or that fails the test at the end
  pub damaged_after : (text : List ℕ) (a : A) (rest : List ℕ) → AllBytes text → read f text ≡ Ok (a, rest) → (0 < length rest) ⊎ (end a ≡ false) → Damaged f end text (length text - length rest)
  unfolding Damaged
  damaged_after text a rest bytes e why =
      let front = spelled_read f text a rest bytes e in
      let size : length text ≡ length front.first + length rest = ap length front.whole ∙ length-append front.first rest in
      inr (a, front.first, rest, front.whole, front.spells, why, omega arith)

  pub damaged_end : (text : List ℕ) (a : A) (rest : List ℕ) → AllBytes text → read f text ≡ Ok (a, rest) → rest ≡ [] → end a ≡ false → Damaged f end text (length text - 0)
  damaged_end text a rest bytes e none fails =
      subst (λ (r : List ℕ). Damaged f end text (length text - length r)) none (damaged_after text a rest bytes e (inr fails))

  pub no_value_after : (text : List ℕ) (a : A) (rest : List ℕ) (b : A) → read f text ≡ Ok (a, rest) → (0 < length rest) ⊎ (end a ≡ false) → SpellsFile f end text b → ⊥
  unfolding SpellsFile
  no_value_after text a rest b e (inl more) s =
      let same = same_value text a b rest e s.0 in
      omega (arith, ap length same.1)
  no_value_after text a rest b e (inr fails) s =
      let same = same_value text a b rest e s.0 in
      let passes : end a ≡ true = ap end same.0 ∙ s.1 in
      cc

  -- the laws of a file

  damage_reads : (text : List ℕ) (n : ℕ) → Damaged f end text n
      → ((read f text ≡ Err (length text - n)) × (n ≤ length text))
      ⊎ ((a : A) × (rest : List ℕ) × (read f text ≡ Ok (a, rest)) × ((0 < length rest) ⊎ (end a ≡ false)) × (n + length rest ≡ length text))
  unfolding Damaged
  damage_reads text n (inl b) = inl (read_broken f text n b, place-le f text n b)
  damage_reads text n (inr (a, first, rest, e, s, why, place)) =
      let size : length text ≡ length first + length rest = ap length e ∙ length-append first rest in
      inr (a, rest, ap (read f) e ∙ read_spelled f first rest a s, why, omega arith)

  one_place : (text : List ℕ) (n m : ℕ) → Damaged f end text n → Damaged f end text m → n ≡ m
  one_place text n m d c = both (damage_reads text n d) (damage_reads text m c)
    where
      Reads : ℕ → Type 0
      Reads p = ((read f text ≡ Err (length text - p)) × (p ≤ length text))
          ⊎ ((a : A) × (rest : List ℕ) × (read f text ≡ Ok (a, rest)) × ((0 < length rest) ⊎ (end a ≡ false)) × (p + length rest ≡ length text))

      both : Reads n → Reads m → n ≡ m
      both (inl (e, h)) (inl (g, k)) =
          let same : ◌≡◌ {A = Result (A × List ℕ) ℕ} (Err (length text - n)) (Err (length text - m)) = sym e ∙ g in
          let left : length text - n ≡ length text - m = cc in
          omega arith
      both (inl (e, h)) (inr (b, rest, g, why, place)) =
          let same : ◌≡◌ {A = Result (A × List ℕ) ℕ} (Err (length text - n)) (Ok (b, rest)) = sym e ∙ g in
          absurd (cc)
      both (inr (b, rest, g, why, place)) (inl (e, h)) =
          let same : ◌≡◌ {A = Result (A × List ℕ) ℕ} (Err (length text - m)) (Ok (b, rest)) = sym e ∙ g in
          absurd (cc)
      both (inr (a, rest, e, why, place)) (inr (b, tail, g, cause, spot)) =
          let same : ◌≡◌ {A = Result (A × List ℕ) ℕ} (Ok (a, rest)) (Ok (b, tail)) = sym e ∙ g in
          let pairs : ◌≡◌ {A = A × List ℕ} (a, rest) (b, tail) = cc in
          omega (arith, ap (λ (p : A × List ℕ). length p.1) pairs)

  apart : (text : List ℕ) (a : A) (n : ℕ) → SpellsFile f end text a → Damaged f end text n → ⊥
  apart text a n s d =
      elim (damage_reads text n d) [
        | inl (e, h) ↦ no_value text _ a e s
        | inr (b, rest, e, why, place) ↦ no_value_after text b rest a e why s
      ]

  either_read : (text : List ℕ) (answer : Result (A × List ℕ) ℕ) → read f text ≡ answer → AllBytes text → ((a : A) × SpellsFile f end text a) ⊎ ((n : ℕ) × Damaged f end text n)
  either_read text (Err left) e bytes = inr (length text - left, damaged_left text left bytes e)
  either_read text (Ok (a, (b ∷ rest))) e bytes = inr (length text - length (b ∷ rest), damaged_after text a (b ∷ rest) bytes e (inl (omega arith)))
  either_read text (Ok (a, [])) e bytes =
      elim (cases_Bool (end a)) [
        | inl passes ↦ inl (a, spells_whole text a [] bytes e refl passes)
        | inr fails ↦ inr (length text - 0, damaged_after text a [] bytes e (inr fails))
      ]

  cut : (text : List ℕ) (a : A) (n : ℕ) → SpellsFile f end text a → n < length text → Damaged f end (take n text) n
  unfolding SpellsFile Damaged
  cut text a n s h = inl (damage.cut f text a n s.0 h)

  stays : (text more : List ℕ) (n : ℕ) → Damaged f end text n → n < length text → Damaged f end (text ++ more) n
  unfolding Damaged
  stays text more n (inl b) h = inl (damage.stays f text more n b h)
  stays text more n (inr (a, first, rest, e, s, why, place)) h =
      let size : length text ≡ length first + length rest = ap length e ∙ length-append first rest in
      inr (a, first, rest ++ more, ap (λ (t : List ℕ). t ++ more) e ∙ append_assoc first rest more, s, inl (rw length-append (omega arith)), place)

  before : (text : List ℕ) (n : ℕ) → Damaged f end text n → Damaged f end (take n text) n ⊎ ((a : A) × SpellsFile f end (take n text) a)
  unfolding SpellsFile Damaged
  before text n (inl b) = inl (inl (damage.before f text n b))
  before text n (inr (a, first, rest, e, s, why, place)) =
      let front : take n text ≡ first = ap (take n) e ∙ take_at first rest n (sym place) in
      elim (cases_Bool (end a)) [
        | inl passes ↦ inr (a, (rw front s, passes))
        | inr fails ↦ inl (inr (a, first, [], front ∙ sym (append-nil first), s, inr fails, place))
      ]

  pub laws_of : (words : A → List ℕ) (Facts : A → Type 0) → Law f words Facts → FileLaws (SpellsFile f end) (Damaged f end)
  unfolding SpellsFile
  laws_of words Facts law = record {
    one_value = λ text a b s t. only_value text a b [] (reads_all text a s.0) t;
    one_text = λ text other a s t. (law.only text a s.0).0 ∙ sym (law.only other a t.0).0;
    one_place = one_place;
    apart = apart;
    either = λ text bytes. either_read text (read f text) refl bytes;
    cut = cut;
    stays = stays;
    before = before;
  }
