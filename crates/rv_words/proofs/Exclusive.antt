-- No two instructions have one word: where two rows' fixed bits overlap, some of them differ.
use Rattle.std.proofs.Common.{◌≡◌, ℕ, ◌==◌, Bool, true, false, bit_and, find, Some, List, [], ◌∷◌, if◌then◌else◌, sym, refl, ◌∙◌, ap, subst}
use Rattle.std.specs.List.{list_all}
use Rattle.std.proofs.lemmas.Bool.{and_parts, eqb-true, eq-eqb, false≢true}
use Rattle.std.proofs.lemmas.Nat.{and_assoc, and_comm}
use Rattle.std.proofs.lemmas.Option.{same_Some, none-some}
use Rattle.plain_process.specs.declared.instruction.Op.{Op}
use Rattle.plain_process.specs.declared.instruction.Op.TheVariants.{Lui}
use Rattle.plain_process.specs.Instructions.{encoding, mask_of, match_of, has_match, row_of, rows}

-- two rows agree on the bits that both fix
abbrev overlap : Op → Op → Bool
overlap a b = bit_and (match_of a) (mask_of b) == bit_and (match_of b) (mask_of a)

abbrev same_match : Op → Op → Bool
same_match a b = match_of b == match_of a

abbrev told_apart : Op → Op → Bool
told_apart a b = if overlap a b then same_match a b else true

all_told_apart : list_all (λ a. list_all (told_apart a) rows) rows ≡ true
unfolding encoding mask_of match_of
all_told_apart = refl

-- each row is the one in the table that has its match
row_by_match : (op : Op) → find (same_match op) rows ≡ Some op
unfolding encoding match_of
row_by_match Lui = refl
row_by_match _ = refl

-- what holds of each row holds of each instruction
all_at-by : (p q : Op → Bool) (x : Op) (xs : List Op) (op : Op) (b : Bool) → list_all q (x ∷ xs) ≡ true → p x ≡ b
    → (list_all q xs ≡ true → find p xs ≡ Some op → q op ≡ true) → (if b then Some x else find p xs) ≡ Some op → q op ≡ true
all_at-by p q x xs op true all e later found = subst (λ o. q o ≡ true) (same_Some _ _ found) (and_parts _ _ all).0
all_at-by p q x xs op false all e later found = later (and_parts _ _ all).1 found

all_at : (p q : Op → Bool) (xs : List Op) (op : Op) → list_all q xs ≡ true → find p xs ≡ Some op → q op ≡ true
all_at p q [] op all found = absurd (none-some _ found)
all_at p q (x ∷ xs) op all found = all_at-by p q x xs op (p x) all refl (λ a f. all_at p q xs op a f) found

told_apart-at : (a b : Op) → told_apart a b ≡ true
told_apart-at a b = all_at (same_match b) (told_apart a) rows b (all_at (same_match a) (λ o. list_all (told_apart o) rows) rows a all_told_apart (row_by_match a)) (row_by_match b)

-- two rows that match one word overlap
overlap-matched : (w : ℕ) (a b : Op) → has_match w a ≡ true → has_match w b ≡ true → overlap a b ≡ true
overlap-matched w a b h g =
    let ma : bit_and w (mask_of a) ≡ match_of a = eqb-true _ _ h in
    let mb : bit_and w (mask_of b) ≡ match_of b = eqb-true _ _ g in
    eq-eqb _ _
    (ap (λ n. bit_and n (mask_of b)) (sym ma) ∙ and_assoc (mask_of b) w (mask_of a) ∙ ap (bit_and w) (and_comm (mask_of a) (mask_of b))
    ∙ sym (and_assoc (mask_of a) w (mask_of b)) ∙ ap (λ n. bit_and n (mask_of a)) mb)

one_match : (w : ℕ) (a b : Op) → has_match w a ≡ true → has_match w b ≡ true → same_match a b ≡ true
one_match w a b h g = subst (λ t. (if t then same_match a b else true) ≡ true) (overlap-matched w a b h g) (told_apart-at a b)

one_row : (w : ℕ) (a b : Op) → has_match w a ≡ true → has_match w b ≡ true → a ≡ b
one_row w a b h g =
    let e : match_of b ≡ match_of a = eqb-true _ _ (one_match w a b h g) in
    same_Some _ _ (sym (row_by_match a) ∙ ap (λ n. find (λ x. match_of x == n) rows) (sym e) ∙ row_by_match b)

-- the first row that matches is the one that does
past : (w : ℕ) (x : Op) (xs : List Op) (op : Op) (c : Bool) → has_match w op ≡ true → has_match w x ≡ false
    → (find (same_match op) xs ≡ Some op → find (has_match w) xs ≡ Some op) → (if c then Some x else find (same_match op) xs) ≡ Some op → find (has_match w) xs ≡ Some op
past w x xs op true h e later found = absurd (false≢true (sym e ∙ ap (has_match w) (same_Some _ _ found) ∙ h))
past w x xs op false h e later found = later found

first_match-by : (w : ℕ) (x : Op) (xs : List Op) (op : Op) (b : Bool) → has_match w op ≡ true → has_match w x ≡ b
    → (find (same_match op) xs ≡ Some op → find (has_match w) xs ≡ Some op) → find (same_match op) (x ∷ xs) ≡ Some op → (if b then Some x else find (has_match w) xs) ≡ Some op
first_match-by w x xs op true h e later found = ap (λ (o : Op). Some o) (one_row w x op e h)
first_match-by w x xs op false h e later found = past w x xs op (same_match op x) h e later found

first_match : (w : ℕ) (xs : List Op) (op : Op) → has_match w op ≡ true → find (same_match op) xs ≡ Some op → find (has_match w) xs ≡ Some op
first_match w [] op h found = absurd (none-some _ found)
first_match w (x ∷ xs) op h found = first_match-by w x xs op (has_match w x) h refl (λ f. first_match w xs op h f) found

pub row_of-match : (w : ℕ) (op : Op) → has_match w op ≡ true → row_of w ≡ Some op
unfolding row_of
row_of-match w op h = first_match w rows op h (row_by_match op)
