-- The stack at the start: the strings' places by a loop over the bytes, and the stack's parts put together.
use Rattle.std.proofs.Common.{◌≡◌, ◌∙◌, ℕ, ◌+◌, ◌-◌, ◌*◌, ◌/◌, ◌<◌, ◌≤◌, Bool, true, false, List, [], ◌∷◌, ◌++◌, length, get_or, drop, replicate, refl, ap, sym, append_assoc, add-one, arith, length-append, drop-cons}
use Rattle.std.specs.Prelude.{◌==◌}
use Rattle.std.proofs.lemmas.List.{length-replicate, append-nil, drop_all}
use Rattle.plain_process.specs.Start.{string_places, start_words, argument_places, words_bytes, start_sp, start_stack}

-- a byte where a string begins
pub places-fresh : (items all xs : List ℕ) (first i : ℕ) → i < length xs → items ++ string_places (first + i) true (drop i xs) ≡ all
    → (items ++ (first + i) ∷ []) ++ string_places (first + (i + 1)) (get_or xs i 0 == 0) (drop (i + 1) xs) ≡ all
unfolding string_places
places-fresh items all xs first i inside so_far =
    let split = ap (λ (ys : List ℕ). items ++ string_places (first + i) true ys) (drop-cons xs i 0 inside) in
    let next : first + i + 1 ≡ first + (i + 1) = omega arith in
    rw (append_assoc, ← next, add-one i) (sym split ∙ so_far)

-- a byte within a string
pub places-within : (items all xs : List ℕ) (first i : ℕ) → i < length xs → items ++ string_places (first + i) false (drop i xs) ≡ all
    → items ++ string_places (first + (i + 1)) (get_or xs i 0 == 0) (drop (i + 1) xs) ≡ all
unfolding string_places
places-within items all xs first i inside so_far =
    let split = ap (λ (ys : List ℕ). items ++ string_places (first + i) false ys) (drop-cons xs i 0 inside) in
    let next : first + i + 1 ≡ first + (i + 1) = omega arith in
    rw (← next, add-one i) (sym split ∙ so_far)

-- the same of what a push gave, at the flag as it was tested
pub step-fresh : (before after all xs : List ℕ) (first i : ℕ) (fresh : Bool) → i < length xs → fresh ≡ true → after ≡ before ++ (first + i) ∷ []
    → before ++ string_places (first + i) fresh (drop i xs) ≡ all → after ++ string_places (first + (i + 1)) (get_or xs i 0 == 0) (drop (i + 1) xs) ≡ all
step-fresh before after all xs first i fresh inside is pushed so_far =
    ap (λ (items : List ℕ). items ++ string_places (first + (i + 1)) (get_or xs i 0 == 0) (drop (i + 1) xs)) pushed
    ∙ places-fresh before all xs first i inside (ap (λ (f : Bool). before ++ string_places (first + i) f (drop i xs)) (sym is) ∙ so_far)

pub step-within : (before after all xs : List ℕ) (first i : ℕ) (fresh : Bool) → i < length xs → fresh ≡ false → after ≡ before
    → before ++ string_places (first + i) fresh (drop i xs) ≡ all → after ++ string_places (first + (i + 1)) (get_or xs i 0 == 0) (drop (i + 1) xs) ≡ all
step-within before after all xs first i fresh inside is kept so_far =
    ap (λ (items : List ℕ). items ++ string_places (first + (i + 1)) (get_or xs i 0 == 0) (drop (i + 1) xs)) kept
    ∙ places-within before all xs first i inside (ap (λ (f : Bool). before ++ string_places (first + i) f (drop i xs)) (sym is) ∙ so_far)

-- at the end of the bytes
pub places-end : (items all xs : List ℕ) (first i : ℕ) (fresh : Bool) → length xs ≤ i → items ++ string_places (first + i) fresh (drop i xs) ≡ all → items ≡ all
unfolding string_places
places-end items all xs first i fresh ends so_far =
    let none = ap (λ (ys : List ℕ). items ++ string_places (first + i) fresh ys) (drop_all i xs ends) in
    sym (append-nil items) ∙ sym none ∙ so_far

pub length-words_bytes : (words : List ℕ) → length (words_bytes words) ≡ 4 * length words
length-words_bytes [] = refl
length-words_bytes (word ∷ words) = omega (arith, length-words_bytes words)

pub length-start_words : (places : List ℕ) → length (start_words places) ≡ length places + 5
length-start_words places = omega (arith, length-append places (0 ∷ 0 ∷ 0 ∷ 0 ∷ []))

-- the parts of the stack in order: zeros, the words, zeros, the strings
abbrev pub parts : List ℕ → ℕ → List ℕ → ℕ → List ℕ
parts arguments zeros words gap = replicate zeros 0 ++ words ++ replicate gap 0 ++ arguments

pub parts-stack : (arguments places : List ℕ) (sp count : ℕ) → places ≡ argument_places arguments → length places ≡ count
    → sp ≡ 16 * ((2147483648 - length arguments - 4 * (count + 5)) / 16)
    → parts arguments (sp - 2147221504) (words_bytes (start_words places)) (2147483648 - length arguments - (sp + 4 * (count + 5))) ≡ start_stack arguments
unfolding start_stack start_sp
parts-stack arguments places sp count placed counted below =
    let many : count ≡ length (argument_places arguments) = sym counted ∙ ap (λ (ps : List ℕ). length ps) placed in
    let at : sp ≡ 16 * ((2147483648 - length arguments - 4 * (length (argument_places arguments) + 5)) / 16) = below ∙ ap (λ (n : ℕ). 16 * ((2147483648 - length arguments - 4 * (n + 5)) / 16)) many in
    let size : 4 * (count + 5) ≡ length (words_bytes (start_words (argument_places arguments))) =
    ap (λ (n : ℕ). 4 * (n + 5)) many ∙ sym (length-words_bytes (start_words (argument_places arguments)) ∙ ap (λ (n : ℕ). 4 * n) (length-start_words (argument_places arguments))) in
    ap (λ (ps : List ℕ). parts arguments (sp - 2147221504) (words_bytes (start_words ps)) (2147483648 - length arguments - (sp + 4 * (count + 5)))) placed
    ∙ ap (λ (n : ℕ). parts arguments (sp - 2147221504) (words_bytes (start_words (argument_places arguments))) (2147483648 - length arguments - (sp + n))) size
    ∙ ap (λ (s : ℕ). parts arguments (s - 2147221504) (words_bytes (start_words (argument_places arguments))) (2147483648 - length arguments - (s + length (words_bytes (start_words (argument_places arguments)))))) at

-- what has these lengths fills 64 pages
filled : (a b d e sp n count : ℕ) → a ≡ sp - 2147221504 → b ≡ 4 * (count + 5) → d ≡ 2147483648 - n - (sp + 4 * (count + 5)) → e ≡ n
    → 2147221504 ≤ sp → sp + 4 * (count + 5) + n ≤ 2147483648 → a + b + d + e ≡ 262144
filled a b d e sp n count is_a is_b is_d is_e low room = omega arith

pub parts-length : (arguments places : List ℕ) (sp count : ℕ) → length places ≡ count → 2147221504 ≤ sp → sp + 4 * (count + 5) + length arguments ≤ 2147483648
    → length (parts arguments (sp - 2147221504) (words_bytes (start_words places)) (2147483648 - length arguments - (sp + 4 * (count + 5)))) ≡ 262144
parts-length arguments places sp count counted low room =
    let zeros : List ℕ = replicate (sp - 2147221504) 0 in
    let words : List ℕ = words_bytes (start_words places) in
    let gap : List ℕ = replicate (2147483648 - length arguments - (sp + 4 * (count + 5))) 0 in
    let size : length words ≡ 4 * (count + 5) = length-words_bytes (start_words places) ∙ ap (λ (n : ℕ). 4 * n) (length-start_words places ∙ ap (λ (n : ℕ). n + 5) counted) in
    length-append ((zeros ++ words) ++ gap) arguments
    ∙ ap (λ (n : ℕ). n + length arguments) (length-append (zeros ++ words) gap ∙ ap (λ (n : ℕ). n + length gap) (length-append zeros words))
    ∙ filled (length zeros) (length words) (length gap) (length arguments) sp (length arguments) count
    (length-replicate (sp - 2147221504) 0) size (length-replicate (2147483648 - length arguments - (sp + 4 * (count + 5))) 0) refl low room

-- what the calls appended, put together
pub together : (b0 b1 b2 b3 b4 arguments places slice words shown : List ℕ) (zeros gap : ℕ) → b0 ≡ [] → b1 ≡ b0 ++ replicate zeros 0 → shown ≡ words → words ≡ start_words slice → slice ≡ places
    → b2 ≡ b1 ++ words_bytes shown → b3 ≡ b2 ++ replicate gap 0 → b4 ≡ b3 ++ arguments
    → b4 ≡ parts arguments zeros (words_bytes (start_words places)) gap
together b0 b1 b2 b3 b4 arguments places slice words shown zeros gap is0 is1 is_shown is_words is_slice is2 is3 is4 =
    let first : b1 ≡ replicate zeros 0 = is1 ∙ ap (λ (b : List ℕ). b ++ replicate zeros 0) is0 in
    let made : words_bytes shown ≡ words_bytes (start_words places) = ap (λ (ws : List ℕ). words_bytes ws) (is_shown ∙ is_words ∙ ap (λ (ps : List ℕ). start_words ps) is_slice) in
    is4 ∙ ap (λ (b : List ℕ). b ++ arguments) (is3 ∙ ap (λ (b : List ℕ). b ++ replicate gap 0) (is2 ∙ ap (λ (b : List ℕ). b ++ words_bytes shown) first ∙ ap (λ (ws : List ℕ). replicate zeros 0 ++ ws) made))
