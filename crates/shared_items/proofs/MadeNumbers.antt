-- A search for a process's next number in names that rise tells whether all the names that it gave are below
--     at_number      a name has the number      all_below      none is above it      next_other      the first one that is above it
use Rattle.std.proofs.Common.{◌≡◌, ◌==◌, ◌&&◌, ◌||◌, ◌<◌, ◌≤◌, ℕ, zero, suc, Bool, true, false, Ordering, Less, Equal, Greater, List, [], ◌∷◌, length, map as mapped, get_or, ⊎_elim, refl, sym, ap, subst, ◌∙◌, arith}
use Rattle.std.specs.Prelude.{not, nat_lt}
use Rattle.std.specs.List.{list_all, HoldsAt}
use Rattle.std.specs.List.Sorted.{IsStrictlySortedBy, IsPartitionPoint}
use Rattle.std.specs.Cmp.{IsTotalOrder}
use Rattle.std.specs.Ordering.{nat_cmp, ordering_then}
use Rattle.std.proofs.lemmas.Bool.{cases_lt}
use Rattle.std.proofs.lemmas.List.{get_or_default}
use Rattle.std.proofs.lemmas.Bool.Decides.{nat_tests}
use Rattle.shared_items.specs.SharedTests.{is_number_below}
use Rattle.shared_items.proofs.Searched.{below}

all_true : {X : Type 0} (test : X → Bool) (xs : List X) → ((j : ℕ) (d : X) → j < length xs → test (get_or xs j d) ≡ true) → list_all test xs ≡ true
all_true test [] h = refl
all_true test (x ∷ xs) h = ap (λ b. b && list_all test xs) (h 0 x (omega arith)) ∙ all_true test xs (λ j d l. h (suc j) d (omega arith))

one_false : {X : Type 0} (test : X → Bool) (xs : List X) (i : ℕ) → i < length xs → HoldsAt (λ x. test x ≡ false) xs i → list_all test xs ≡ false
one_false test [] i l h = absurd (omega arith)
one_false test (x ∷ xs) zero l h = ap (λ b. b && list_all test xs) (h x)
one_false test (x ∷ xs) (suc i) l h = ap (λ b. test x && b) (one_false test xs i (omega arith) h) ∙ and_false (test x)
  where
    and_false : (b : Bool) → (b && false) ≡ false
    and_false true = refl
    and_false false = refl

-- a name by its maker a and its number b, beside number n of p

is_there : (p n a b : ℕ) → ordering_then (nat_cmp a p) (nat_cmp b n) ≡ Equal → is_number_below p n a b ≡ false
is_there p n a b h = grind (arith, nat_tests)

is_below : (p n a b : ℕ) → ordering_then (nat_cmp a p) (nat_cmp b n) ≡ Less → is_number_below p n a b ≡ true
is_below p n a b h = grind (arith, nat_tests)

is_above : (p n a b : ℕ) → ordering_then (nat_cmp a p) (nat_cmp b n) ≡ Greater → (a == p) ≡ true → is_number_below p n a b ≡ false
is_above p n a b h same = grind (arith, nat_tests)

is_later : (p n a b : ℕ) → ordering_then (nat_cmp a p) (nat_cmp b n) ≡ Greater → (a == p) ≡ false → p < a
is_later p n a b h other = grind (arith, nat_tests)

of_later : (p n a b : ℕ) → p < a → is_number_below p n a b ≡ true
of_later p n a b h = grind (arith, nat_tests)

no_earlier : (p a b c d : ℕ) → ordering_then (nat_cmp a c) (nat_cmp b d) ≡ Less → p < a → p < c
no_earlier p a b c d h l = grind (arith, nat_tests)

module _ {K : Type 0} {R : K → K → Ordering} (o : IsTotalOrder R) {X : Type 0} (key : X → K) (maker num : X → ℕ) (k : K) (p n : ℕ)
    (ranks : (x : X) → R (key x) k ≡ ordering_then (nat_cmp (maker x) p) (nat_cmp (num x) n))
    (orders : (x y : X) → R (key x) (key y) ≡ ordering_then (nat_cmp (maker x) (maker y)) (nat_cmp (num x) (num y)))
  where
    abbrev are_below : List X → Bool
    are_below xs = list_all (λ x. is_number_below p n (maker x) (num x)) xs

    pub at_number : (xs : List X) (i : ℕ) → i < length xs → HoldsAt (λ y. R (key y) k ≡ Equal) xs i → are_below xs ≡ false
    at_number xs i l h =
        one_false (λ x. is_number_below p n (maker x) (num x)) xs i l (λ d. is_there p n (maker (get_or xs i d)) (num (get_or xs i d)) (sym (ranks (get_or xs i d)) ∙ h d))

    module _ (xs : List X) (i : ℕ) (parts : IsPartitionPoint (λ y. R (key y) k ≡ Less) (λ y. R (key y) k ≡ Greater) xs i) where
      front_below : (j : ℕ) (d : X) → j < i → is_number_below p n (maker (get_or xs j d)) (num (get_or xs j d)) ≡ true
      front_below j d l = is_below p n (maker (get_or xs j d)) (num (get_or xs j d)) (sym (ranks (get_or xs j d)) ∙ parts.0 j d (omega arith) l)

      pub all_below : length xs ≤ i → are_below xs ≡ true
      all_below l = all_true (λ x. is_number_below p n (maker x) (num x)) xs (λ j d h. front_below j d (omega arith))

      module _ (sorted : IsStrictlySortedBy R (mapped key xs)) (x : X) (inside : i < length xs) (is : x ≡ get_or xs i x) where
        above : R (key x) k ≡ Greater
        above = ap (λ y. R (key y) k) is ∙ parts.1 i x (omega arith) inside

        back_below : p < maker x → (j : ℕ) (d : X) → i ≤ j → j < length xs → p < maker (get_or xs j d)
        back_below later j d from l = ⊎_elim
            (λ b.
            let at : get_or xs i d ≡ x = get_or_default xs i d x inside ∙ sym is in
            no_earlier p (maker x) (num x) (maker (get_or xs j d)) (num (get_or xs j d)) (sym (orders x (get_or xs j d)) ∙ ap (λ y. R (key y) (key (get_or xs j d))) (sym at) ∙ below o key xs i j d sorted b l) later)
            (λ b.
            let same : j ≡ i = omega arith in
            subst (λ y. p < maker y) (is ∙ get_or_default xs i x d inside ∙ ap (λ k. get_or xs k d) (sym same)) later)
            (cases_lt i j)

        pub next_other : are_below xs ≡ not (maker x == p)
        next_other = elim (maker x == p) as (λ b. (maker x == p) ≡ b → are_below xs ≡ not b) [
          | true ↦ λ e.
              one_false (λ x. is_number_below p n (maker x) (num x)) xs i inside (λ d. ap (λ y. is_number_below p n (maker y) (num y)) (get_or_default xs i d x inside ∙ sym is) ∙ is_above p n (maker x) (num x) (sym (ranks x) ∙ above) e)
          | false ↦ λ e.
              let later = is_later p n (maker x) (num x) (sym (ranks x) ∙ above) e in
              all_true (λ x. is_number_below p n (maker x) (num x)) xs
              (λ j d l. ⊎_elim (front_below j d) (λ b. of_later p n (maker (get_or xs j d)) (num (get_or xs j d)) (back_below later j d b l)) (cases_lt j i))
        ] refl
