-- Reading finds exactly what is spelled, and breaks off exactly where the format is broken
use Rattle.std.proofs.Common.{◌≡◌, ℕ, ◌+◌, ◌-◌, ◌<◌, ◌≤◌, ◌⊎◌, inl, inr, nat_le, Bool, true, false, zero, suc, List, [], ◌∷◌, ◌++◌, length, take, drop, Result, Ok, Err, refl, sym, ap, ◌∙◌, append_assoc, length-append, arith, lit<}
use Rattle.std.proofs.lemmas.List.{take-append-drop, length-take-le, take_at, drop_at, get_or-drop, get_or-append-add}
use Rattle.std.proofs.lemmas.Bool.Decides.{nat_tests}
use Rattle.image_format.specs.Format.{FormatOf, unsigned, raw, give, next, byte_count, number_in, Spells, Breaks, BreaksField}
use Rattle.image_format.specs.Reading.{read, read_if, read_next}
use Rattle.image_format.proofs.Numerals.{AllBytes, length-number_text, number_in-number_text, number_text-number_in, number_in-below}

-- the answer of one field

ok_injective : {X : Type 0} (x y : X) → ◌≡◌ {A = Result X ℕ} (Ok x) (Ok y) → x ≡ y
ok_injective x y e = cc

pub read_if-ok : {A : Type 0} (full allowed : Bool) (a : A) (rest : List ℕ) (left : ℕ) (b : A) (tail : List ℕ) → read_if full allowed a rest left ≡ Ok (b, tail) → (full ≡ true) × (allowed ≡ true) × (b ≡ a) × (tail ≡ rest)
unfolding read_if
read_if-ok false allowed a rest left b tail e = cc
read_if-ok true false a rest left b tail e = cc
read_if-ok {A} true true a rest left b tail e =
    let same : (b, tail) ≡ (a, rest) = ok_injective _ _ (sym e) in
    (refl, refl, ap (λ (p : A × List ℕ). p.0) same, ap (λ (p : A × List ℕ). p.1) same)

read_if-err : {A : Type 0} (full allowed : Bool) (a : A) (rest : List ℕ) (left m : ℕ) → read_if full allowed a rest left ≡ Err m → ((full ≡ false) × (m ≡ 0)) ⊎ ((full ≡ true) × (allowed ≡ false) × (m ≡ left))
unfolding read_if
read_if-err false allowed a rest left m e = inl (refl, cc)
read_if-err true false a rest left m e = inr (refl, refl, cc)
read_if-err true true a rest left m e = cc

pub read_if-gives : {A : Type 0} (full allowed : Bool) (a : A) (rest : List ℕ) (left : ℕ) → full ≡ true → allowed ≡ true → read_if full allowed a rest left ≡ Ok (a, rest)
unfolding read_if
read_if-gives full allowed a rest left f h = rw (f, h) refl

read_if-lacks : {A : Type 0} (full allowed : Bool) (a : A) (rest : List ℕ) (left : ℕ) → full ≡ false → read_if full allowed a rest left ≡ Err 0
unfolding read_if
read_if-lacks full allowed a rest left f = rw f refl

pub read_if-refuses : {A : Type 0} (full allowed : Bool) (a : A) (rest : List ℕ) (left : ℕ) → full ≡ true → allowed ≡ false → read_if full allowed a rest left ≡ Err left
unfolding read_if
read_if-refuses full allowed a rest left f h = rw (f, h) refl

test_le : (m n : ℕ) → nat_le m n ≡ true → m ≤ n
test_le m n h = grind (arith, nat_tests)

test_not_le : (m n : ℕ) → nat_le m n ≡ false → n < m
test_not_le m n h = grind (arith, nat_tests)

le_test : (m n : ℕ) → m ≤ n → nat_le m n ≡ true
le_test m n h = grind (arith, nat_tests)

not_le_test : (m n : ℕ) → n < m → nat_le m n ≡ false
not_le_test m n h = grind (arith, nat_tests)

-- parts of bytes are bytes

zero_byte : (text : List ℕ) → AllBytes text → AllBytes []
zero_byte text h i = lit< tt

pub AllBytes-front : (first rest : List ℕ) → AllBytes (first ++ rest) → AllBytes first
AllBytes-front [] rest h i = lit< tt
AllBytes-front (b ∷ first) rest h zero = h 0
AllBytes-front (b ∷ first) rest h (suc i) = AllBytes-front first rest (λ j. h (suc j)) i

pub AllBytes-back : (first rest : List ℕ) → AllBytes (first ++ rest) → AllBytes rest
AllBytes-back first rest h i = rw (← get_or-append-add first rest i 0) (h (length first + i))

pub AllBytes-take : (n : ℕ) (text : List ℕ) → AllBytes text → AllBytes (take n text)
AllBytes-take n text h = AllBytes-front (take n text) (drop n text) (rw take-append-drop h)

pub AllBytes-drop : (n : ℕ) (text : List ℕ) → AllBytes text → AllBytes (drop n text)
AllBytes-drop n text h i = rw get_or-drop (h (n + i))

-- what a field's bytes are, at the front of longer ones

front_full : (size : ℕ) (first rest : List ℕ) → length first ≡ size → nat_le size (length (first ++ rest)) ≡ true
front_full size first rest e = le_test size _ (rw (length-append first rest, e) (omega arith))

pub record SpellsFront {A : Type 0} (f : FormatOf A) (text : List ℕ) (a : A) (rest : List ℕ) : Type 0 where
  pub first : List ℕ
  pub whole : text ≡ first ++ rest
  pub spells : Spells f first a

pub record BreaksBefore {A : Type 0} (f : FormatOf A) (text : List ℕ) (left : ℕ) : Type 0 where
  pub place : ℕ
  pub whole : place + left ≡ length text
  pub breaks : Breaks f text place

read_if_spelled : {A : Type 0} (size : ℕ) (allowed : Bool) (first rest : List ℕ) (a : A) → length first ≡ size → allowed ≡ true → read_if (nat_le size (length (first ++ rest))) allowed a (drop size (first ++ rest)) (length (first ++ rest)) ≡ Ok (a, rest)
read_if_spelled size allowed first rest a e h = read_if-gives _ _ _ _ _ (front_full size first rest e) h ∙ ap (λ (r : List ℕ). Ok (a, r)) (drop_at first rest size e)

pub read_spelled : {A : Type 0} (f : FormatOf A) (first rest : List ℕ) (a : A) → Spells f first a → read f (first ++ rest) ≡ Ok (a, rest)
unfolding read read_next Spells
read_spelled (unsigned size ok) first rest n s =
    let front : take (byte_count size) (first ++ rest) ≡ first = take_at first rest (byte_count size) (ap length s.0 ∙ length-number_text size n) in
    let same : number_in size (take (byte_count size) (first ++ rest)) ≡ n = ap (number_in size) (front ∙ s.0) ∙ number_in-number_text size n s.1 in
    rw same (read_if_spelled (byte_count size) (ok n) first rest n (ap length s.0 ∙ length-number_text size n) s.2)
read_spelled (raw size ok) first rest bytes s =
    let front : take size (first ++ rest) ≡ bytes = take_at first rest size (ap length s.0 ∙ s.1) ∙ s.0 in
    rw front (read_if_spelled size (ok bytes) first rest bytes (ap length s.0 ∙ s.1) s.2)
read_spelled (give a) first rest b s = rw (s.0, s.1) refl
read_spelled (next f k) text rest a (b, first, more, e, s, t) =
    rw (e, append_assoc, read_spelled f first (more ++ rest) b s) (read_spelled (k b) more rest a t)

next_spelled : {A B : Type 0} (f : FormatOf B) (k : B → FormatOf A) (text : List ℕ) (a : A) (rest : List ℕ) (answer : Result (B × List ℕ) ℕ)
    → AllBytes text
    → ((b : B) (more : List ℕ) → answer ≡ Ok (b, more) → SpellsFront f text b more)
    → ((b : B) (more : List ℕ) → AllBytes more → read (k b) more ≡ Ok (a, rest) → SpellsFront (k b) more a rest)
    → read_next answer (λ b more. read (k b) more) ≡ Ok (a, rest) → SpellsFront (next f k) text a rest
unfolding read_next Spells
next_spelled f k text a rest (Err left) h first_law next_law e = cc
next_spelled f k text a rest (Ok (b, more)) h first_law next_law e =
    let one = first_law b more refl in
    let two = next_law b more (AllBytes-back one.first more (rw (← one.whole) h)) e in
    record {
      first = one.first ++ two.first;
      whole = one.whole ∙ ap (λ (r : List ℕ). one.first ++ r) two.whole ∙ sym (append_assoc one.first two.first rest);
      spells = (b, one.first, two.first, refl, one.spells, two.spells);
    }

pub spelled_read : {A : Type 0} (f : FormatOf A) (text : List ℕ) (a : A) (rest : List ℕ) → AllBytes text → read f text ≡ Ok (a, rest) → SpellsFront f text a rest
unfolding read Spells
spelled_read (unsigned size ok) text n rest h e =
    let (full, allowed, value, tail) = read_if-ok _ _ _ _ _ _ _ e in
    let bytes = take (byte_count size) text in
    let enough : length bytes ≡ byte_count size = length-take-le _ _ (test_le _ _ full) in
    record {
      first = bytes;
      whole = sym (take-append-drop (byte_count size) text) ∙ ap (λ (r : List ℕ). bytes ++ r) (sym tail);
      spells = rw value (sym (number_text-number_in size bytes enough (AllBytes-take _ _ h)), number_in-below size bytes (AllBytes-take _ _ h), allowed);
    }
spelled_read (raw size ok) text bytes rest h e =
    let (full, allowed, value, tail) = read_if-ok _ _ _ _ _ _ _ e in
    record {
      first = take size text;
      whole = sym (take-append-drop size text) ∙ ap (λ (r : List ℕ). take size text ++ r) (sym tail);
      spells = rw value (refl, length-take-le _ _ (test_le _ _ full), allowed);
    }
spelled_read {A} (give a) text b rest h e =
    let same : (a, text) ≡ (b, rest) = ok_injective _ _ e in
    record { first = []; whole = ap (λ (p : A × List ℕ). p.1) same; spells = (refl, sym (ap (λ (p : A × List ℕ). p.0) same)) }
spelled_read (next f k) text a rest h e =
    next_spelled f k text a rest (read f text) h (λ b more. spelled_read f text b more h) (λ b more. spelled_read (k b) more a rest) e

-- breaking off

read_broken_field : {A : Type 0} (size : ℕ) (allowed : Bool) (a : A) (rest text : List ℕ) (n : ℕ) → BreaksField size allowed text n → read_if (nat_le size (length text)) allowed a rest (length text) ≡ Err (length text - n)
read_broken_field size allowed a rest text n (inl (short, place)) = read_if-lacks _ _ _ _ _ (not_le_test _ _ short) ∙ ap Err (omega arith)
read_broken_field size allowed a rest text n (inr (full, not_allowed, place)) = read_if-refuses _ _ _ _ _ (le_test _ _ full) not_allowed ∙ ap Err (omega arith)

pub read_broken : {A : Type 0} (f : FormatOf A) (text : List ℕ) (n : ℕ) → Breaks f text n → read f text ≡ Err (length text - n)
unfolding read read_next Breaks
read_broken (unsigned size ok) text n b = read_broken_field (byte_count size) _ _ _ text n b
read_broken (raw size ok) text n b = read_broken_field size _ _ _ text n b
read_broken (give a) text n b = elim b [ ]
read_broken (next f k) text n (inl b) = rw (read_broken f text n b) refl
read_broken (next f k) text n (inr (b, first, rest, m, e, s, t, place)) =
    rw (e, read_spelled f first rest b s, read_broken (k b) rest m t) (ap Err (rw (place, length-append first rest) (omega arith)))

pub place-le : {A : Type 0} (f : FormatOf A) (text : List ℕ) (n : ℕ) → Breaks f text n → n ≤ length text
unfolding Breaks
place-le (unsigned size ok) text n (inl b) = omega arith
place-le (unsigned size ok) text n (inr b) = omega arith
place-le (raw size ok) text n (inl b) = omega arith
place-le (raw size ok) text n (inr b) = omega arith
place-le (give a) text n b = elim b [ ]
place-le (next f k) text n (inl b) = place-le f text n b
place-le (next f k) text n (inr (b, first, rest, m, e, s, t, place)) =
    let below = place-le (k b) rest m t in
    rw (e, length-append first rest, place) (omega arith)

broken_read_field : {A : Type 0} (size : ℕ) (allowed : Bool) (a : A) (rest text : List ℕ) (left : ℕ) → read_if (nat_le size (length text)) allowed a rest (length text) ≡ Err left → (place : ℕ) × (place + left ≡ length text) × BreaksField size allowed text place
broken_read_field size allowed a rest text left e =
    elim (read_if-err _ _ _ _ _ _ e) [
      | inl (short, none) ↦ (length text, rw none (omega arith), inl (test_not_le _ _ short, refl))
      | inr (full, not_allowed, all) ↦ (0, rw all (omega arith), inr (test_le _ _ full, not_allowed, refl))
    ]

next_broken : {A B : Type 0} (f : FormatOf B) (k : B → FormatOf A) (text : List ℕ) (left : ℕ) (answer : Result (B × List ℕ) ℕ)
    → AllBytes text
    → ((b : B) (more : List ℕ) → answer ≡ Ok (b, more) → SpellsFront f text b more)
    → (answer ≡ Err left → BreaksBefore f text left)
    → ((b : B) (more : List ℕ) → AllBytes more → read (k b) more ≡ Err left → BreaksBefore (k b) more left)
    → read_next answer (λ b more. read (k b) more) ≡ Err left → BreaksBefore (next f k) text left
unfolding read_next Breaks
next_broken f k text left (Err other) h first_law first_breaks next_breaks e =
    let same : other ≡ left = cc in
    let one = first_breaks (ap Err same) in
    record { place = one.place; whole = one.whole; breaks = inl one.breaks }
next_broken f k text left (Ok (b, more)) h first_law first_breaks next_breaks e =
    let one = first_law b more refl in
    let two = next_breaks b more (AllBytes-back one.first more (rw (← one.whole) h)) e in
    record {
      place = length one.first + two.place;
      whole = rw (one.whole, length-append one.first more, ← two.whole) (omega arith);
      breaks = inr (b, one.first, more, two.place, one.whole, one.spells, two.breaks, refl);
    }

pub broken_read : {A : Type 0} (f : FormatOf A) (text : List ℕ) (left : ℕ) → AllBytes text → read f text ≡ Err left → BreaksBefore f text left
unfolding read Breaks
broken_read (unsigned size ok) text left h e =
    let (place, whole, breaks) = broken_read_field (byte_count size) _ _ _ text left e in
    record { place = place; whole = whole; breaks = breaks }
broken_read (raw size ok) text left h e =
    let (place, whole, breaks) = broken_read_field size _ _ _ text left e in
    record { place = place; whole = whole; breaks = breaks }
broken_read (give a) text left h e = cc
broken_read (next f k) text left h e =
    next_broken f k text left (read f text) h (λ b more. spelled_read f text b more h) (broken_read f text left h) (λ b more. broken_read (k b) more left) e
