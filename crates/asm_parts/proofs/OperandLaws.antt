-- The operands of a text by where its commas are.
use Rattle.std.proofs.Common.{◌≡◌, ◌==◌, ℕ, ◌+◌, ◌<◌, ◌≤◌, Bool, true, false, List, [], ◌∷◌, length, Option, Some, None, refl, sym, ap, ◌∙◌, arith, map}
use Rattle.std.specs.Prelude.{if◌then◌else◌, not, option_map}
use Rattle.std.specs.List.{position_or_len, before_first, after_first, onto_first}
use Rattle.std.proofs.lemmas.Bool.Decides.{nat_tests}
use Rattle.std.proofs.lemmas.List.Splits.{slice_split-cons_no, slice_split_first}
use Rattle.asm_parts.specs.Texts.{Text, COMMA, has_byte, parts_at, cut, without_spaces}
use Rattle.asm_parts.specs.Operands.{operands, one, two, three}

pos_le : (p : ℕ → Bool) (text : Text) → position_or_len p text ≤ length text
pos_le p [] = omega arith
pos_le p (b ∷ rest) = le_by (p b) (pos_le p rest)
  where
    le_by : (t : Bool) → position_or_len p rest ≤ length rest → (if not t then 1 + position_or_len p rest else 0) ≤ length (b ∷ rest)
    le_by true h = omega arith
    le_by false h = omega arith

whole_by : (c b : ℕ) (rest : Text) (t : Bool) → (b == c) ≡ t → (position_or_len (λ x. x == c) rest ≡ length rest → parts_at c rest ≡ rest ∷ [])
    → (if not t then 1 + position_or_len (λ x. x == c) rest else 0) ≡ length (b ∷ rest) → parts_at c (b ∷ rest) ≡ (b ∷ rest) ∷ []
whole_by c b rest true e later h = absurd (omega arith)
whole_by c b rest false e later h = slice_split-cons_no (λ x. x == c) b rest e ∙ ap (onto_first b) (later (omega arith))

whole : (c : ℕ) (text : Text) → position_or_len (λ x. x == c) text ≡ length text → parts_at c text ≡ text ∷ []
whole c [] h = refl
whole c (b ∷ rest) h = whole_by c b rest (b == c) refl (whole c rest) h

abbrev parts_by : ℕ → Text → Option (Text × Text) → List Text
parts_by c text None = text ∷ []
parts_by c text (Some p) = p.0 ∷ parts_at c p.1

at_most : (c : ℕ) (text : Text) → has_byte c text ≡ false → position_or_len (λ x. x == c) text ≡ length text
at_most c text h = let le = pos_le (λ x. x == c) text in grind (arith, nat_tests)

within : (c : ℕ) (text : Text) → has_byte c text ≡ true → position_or_len (λ x. x == c) text < length text
within c text h = grind (arith, nat_tests)

parts-test : (c : ℕ) (text : Text) (t : Bool) → has_byte c text ≡ t
    → parts_at c text ≡ parts_by c text (if t then Some (before_first (λ b. b == c) text, after_first (λ b. b == c) text) else None)
parts-test c text true h = slice_split_first (λ b. b == c) text 0 (within c text h)
parts-test c text false h = whole c text (at_most c text h)

parts_is : (c : ℕ) (text : Text) → parts_at c text ≡ parts_by c text (cut c text)
unfolding cut
parts_is c text = parts-test c text (has_byte c text) refl

parts_when : (c : ℕ) (text : Text) (o : Option (Text × Text)) → o ≡ cut c text → parts_at c text ≡ parts_by c text o
parts_when c text o is = parts_is c text ∙ ap (parts_by c text) (sym is)

-- ---- one, two and three operands

some_part-by : (text : Text) (o : Option (Text × Text)) (a : Text) → one (a ∷ map without_spaces (parts_by COMMA text o)) ≡ None
unfolding one
some_part-by text None a = refl
some_part-by text (Some p) a = refl

pub one_last : (text : Text) → None ≡ cut COMMA text → one (operands (Some text)) ≡ Some (without_spaces text)
unfolding one
one_last text is = ap (λ parts. one (map without_spaces parts)) (parts_when COMMA text None is)

pub one_more : (text : Text) (p : Text × Text) → Some p ≡ cut COMMA text → one (operands (Some text)) ≡ None
one_more text p is =
    ap (λ parts. one (map without_spaces parts)) (parts_when COMMA text (Some p) is)
    ∙ ap (λ parts. one (without_spaces p.0 ∷ map without_spaces parts)) (parts_is COMMA p.1)
    ∙ some_part-by p.1 (cut COMMA p.1) (without_spaces p.0)

two_by : (a : Text) (rest : List Text) → two (a ∷ rest) ≡ option_map (λ b. (a, b)) (one rest)
unfolding one two
two_by a [] = refl
two_by a (b ∷ []) = refl
two_by a (b ∷ c ∷ rest) = refl

three_by : (a : Text) (rest : List Text) → three (a ∷ rest) ≡ option_map (λ t. (a, t.0, t.1)) (two rest)
unfolding two three
three_by a [] = refl
three_by a (b ∷ []) = refl
three_by a (b ∷ c ∷ []) = refl
three_by a (b ∷ c ∷ d ∷ rest) = refl

pub two_none : (text : Text) → None ≡ cut COMMA text → two (operands (Some text)) ≡ None
unfolding two
two_none text is = ap (λ parts. two (map without_spaces parts)) (parts_when COMMA text None is)

pub two_some : (text : Text) (p : Text × Text) → Some p ≡ cut COMMA text → two (operands (Some text)) ≡ option_map (λ b. (without_spaces p.0, b)) (one (operands (Some p.1)))
two_some text p is = ap (λ parts. two (map without_spaces parts)) (parts_when COMMA text (Some p) is) ∙ two_by (without_spaces p.0) (operands (Some p.1))

pub three_none : (text : Text) → None ≡ cut COMMA text → three (operands (Some text)) ≡ None
unfolding three
three_none text is = ap (λ parts. three (map without_spaces parts)) (parts_when COMMA text None is)

pub three_some : (text : Text) (p : Text × Text) → Some p ≡ cut COMMA text
    → three (operands (Some text)) ≡ option_map (λ t. (without_spaces p.0, t.0, t.1)) (two (operands (Some p.1)))
three_some text p is = ap (λ parts. three (map without_spaces parts)) (parts_when COMMA text (Some p) is) ∙ three_by (without_spaces p.0) (operands (Some p.1))

pub none_given : (one (operands None) ≡ None) × (two (operands None) ≡ None) × (three (operands None) ≡ None)
unfolding one two three
none_given = (refl, refl, refl)
