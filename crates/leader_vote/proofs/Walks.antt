-- A walk over the keys of a map by the least one above the last.
--     next_is                      the next one is a key, and comes after the last one
--     walked                       a key that does not come after the next one is it, or did not come after
--                                  the last
--     narrower, itself             what comes after the next one came after the last;  the next one itself
--                                  does not
--     none_left                    no key comes after the last one
--     count_of, fewer_left         how many are left;  one fewer is left
use Rattle.std.proofs.Common.{◌≡◌, ◌<◌, ◌≤◌, ◌⊎◌, ℕ, suc, Ordering, Less, Bool, true, false, cond, T, List, [], ◌∷◌, map as mapped, inl, inr, refl, sym, ap, subst, ◌∙◌, arith}
use Rattle.std.specs.Prelude.{Option, Some, None, is_some, IsSome, find}
use Rattle.std.specs.Ordering.{is_lt, eq_by_cmp}
use Rattle.std.specs.Cmp.{IsTotalOrder, tied_itself}
use Rattle.std.specs.FinMap as map
use Rattle.std.specs.FinMap.{FinMap, IsAntisymmetric, is_sorted}
use Rattle.std.specs.FinMap.Entries.{below_all}
use Rattle.std.proofs.lemmas.Option.{same_Some, none-some}
use Rattle.views.proofs.MapLaws.{true_false, same_key, key_tied}
use Rattle.views.proofs.Passes.{first, second, less}

-- how many of the keys pass
abbrev pub count_of : {K : Type 0} → (K → Bool) → List K → ℕ
count_of p [] = 0
count_of p (k ∷ ks) = cond (p k) (suc (count_of p ks)) (count_of p ks)

at_most : (a b : Bool) (n k : ℕ) → (a ≡ true → b ≡ true) → n ≤ k → cond a (suc n) n ≤ cond b (suc k) k
at_most true true n k then rest = omega (arith, rest)
at_most true false n k then rest = true_false (sym (then refl))
at_most false true n k then rest = omega (arith, rest)
at_most false false n k then rest = rest

no_more : {K : Type 0} (p q : K → Bool) → ((k : K) → q k ≡ true → p k ≡ true) → (ks : List K)
    → count_of q ks ≤ count_of p ks
no_more p q narrower [] = let none : 0 ≤ 0 = omega arith in none
no_more p q narrower (k ∷ ks) =
    at_most (q k) (p k) (count_of q ks) (count_of p ks) (narrower k) (no_more p q narrower ks)

module _ {K X : Type 0} {R : K → K → Ordering} (o : IsTotalOrder R) (exact : IsAntisymmetric R) where
  abbrev keys_in : List (K × X) → List K
  keys_in es = mapped (λ e. e.0) es

  later : (x k : K) (v : X) (es : List (K × X)) → T (below_all R x es) → map.find R k es ≡ Some v → R x k ≡
      Less
  later x k v [] below is = absurd (none-some v is)
  later x k v (e ∷ es) below is =
      elim (eq_by_cmp R k e.0) as (λ b. eq_by_cmp R k e.0 ≡ b
      → cond b (Some e.1) (map.find R k es) ≡ Some v → R x k ≡ Less) [
        | true ↦ λ tied same. ap (R x) (same_key o exact k e.0 tied) ∙ less _ (first _ _ below)
        | false ↦ λ apart same. later x k v es (second _ _ below) same
      ] refl is

  walked_in : (p : K → Bool) (id k : K) (v : X) (es : List (K × X)) → T (is_sorted R es)
      → find p (keys_in es) ≡ Some id → map.find R k es ≡ Some v → is_lt (R id k) ≡ false
      → (k ≡ id) ⊎ (p k ≡ false)
  walked_in p id k v [] sorted next is behind = absurd (none-some v is)
  walked_in p id k v (e ∷ es) sorted next is behind =
      elim (p e.0) as (λ b. p e.0 ≡ b → cond b (Some e.0) (find p (keys_in es)) ≡ Some id
      → (k ≡ id) ⊎ (p k ≡ false)) [
        | true ↦ λ here same.
            let head : e.0 ≡ id = same_Some e.0 id same in
            elim (eq_by_cmp R k e.0) as (λ t. eq_by_cmp R k e.0 ≡ t
            → cond t (Some e.1) (map.find R k es) ≡ Some v → (k ≡ id) ⊎ (p k ≡ false)) [
              | true ↦ λ tied found. inl (same_key o exact k e.0 tied ∙ head)
              | false ↦ λ apart found. true_false (sym (ap is_lt (ap (λ i. R i k) (sym head)
                  ∙ later e.0 k v es (first _ _ sorted) found)) ∙ behind)
            ] refl is
        | false ↦ λ fails same.
            elim (eq_by_cmp R k e.0) as (λ t. eq_by_cmp R k e.0 ≡ t
            → cond t (Some e.1) (map.find R k es) ≡ Some v → (k ≡ id) ⊎ (p k ≡ false)) [
              | true ↦ λ tied found. inr (ap p (same_key o exact k e.0 tied) ∙ fails)
              | false ↦ λ apart found. walked_in p id k v es (second _ _ sorted) same found behind
            ] refl is
      ] refl next

  none_in : (p : K → Bool) (k : K) (v : X) (es : List (K × X)) → find p (keys_in es) ≡ None
      → map.find R k es ≡ Some v → p k ≡ false
  none_in p k v [] none is = absurd (none-some v is)
  none_in p k v (e ∷ es) none is =
      elim (p e.0) as (λ b. p e.0 ≡ b → cond b (Some e.0) (find p (keys_in es)) ≡ None → p k ≡ false) [
        | true ↦ λ here same. absurd (none-some e.0 (sym same))
        | false ↦ λ fails same.
            elim (eq_by_cmp R k e.0) as (λ t. eq_by_cmp R k e.0 ≡ t
            → cond t (Some e.1) (map.find R k es) ≡ Some v → p k ≡ false) [
              | true ↦ λ tied found. ap p (same_key o exact k e.0 tied) ∙ fails
              | false ↦ λ apart found. none_in p k v es same found
            ] refl is
      ] refl none

  either_way : (b : Bool) (x : X) (rest : Option X) → is_some rest ≡ true → is_some (cond b (Some x) rest)
      ≡ true
  either_way true x rest is = refl
  either_way false x rest is = is

  next_in : (p : K → Bool) (id : K) (es : List (K × X)) → find p (keys_in es) ≡ Some id
      → (is_some (map.find R id es) ≡ true) × (p id ≡ true)
  next_in p id [] next = absurd (none-some id next)
  next_in p id (e ∷ es) next =
      elim (p e.0) as (λ b. p e.0 ≡ b → cond b (Some e.0) (find p (keys_in es)) ≡ Some id
      → (is_some (cond (eq_by_cmp R id e.0) (Some e.1) (map.find R id es)) ≡ true) × (p id ≡ true)) [
        | true ↦ λ here same.
            let head : e.0 ≡ id = same_Some e.0 id same in (
              ap (λ i. is_some (cond (eq_by_cmp R i e.0) (Some e.1) (map.find R i es))) (sym head)
                  ∙ ap (λ b. is_some (cond b (Some e.1) (map.find R e.0 es))) (key_tied o exact e.0),
              ap p (sym head) ∙ here,
            )
        | false ↦ λ fails same.
            let rest = next_in p id es same in
            (either_way (eq_by_cmp R id e.0) e.1 (map.find R id es) rest.0, rest.1)
      ] refl next

  one_fewer : (p q : K → Bool) (id : K) (v : X) → ((k : K) → q k ≡ true → p k ≡ true) → p id ≡ true
      → q id ≡ false → (es : List (K × X)) → map.find R id es ≡ Some v
      → count_of q (keys_in es) < count_of p (keys_in es)
  one_fewer p q id v narrower here out [] is = absurd (none-some v is)
  one_fewer p q id v narrower here out (e ∷ es) is =
      elim (eq_by_cmp R id e.0) as (λ t. eq_by_cmp R id e.0 ≡ t → cond t (Some e.1) (map.find R id es) ≡
      Some v
      → cond (q e.0) (suc (count_of q (keys_in es))) (count_of q (keys_in es))
      < cond (p e.0) (suc (count_of p (keys_in es))) (count_of p (keys_in es))) [
        | true ↦ λ tied same.
            let rest : count_of q (keys_in es) ≤ count_of p (keys_in es) = no_more p q narrower (keys_in
            es) in
            let head : id ≡ e.0 = same_key o exact id e.0 tied in
            this_one (q e.0) (p e.0) (count_of q (keys_in es)) (count_of p (keys_in es))
            (ap q (sym head) ∙ out) (ap p (sym head) ∙ here) rest
        | false ↦ λ apart same.
            let rest : count_of q (keys_in es) < count_of p (keys_in es) =
            one_fewer p q id v narrower here out es same in
            another (q e.0) (p e.0) (count_of q (keys_in es)) (count_of p (keys_in es)) (narrower e.0) rest
      ] refl is
    where
      this_one : (a b : Bool) (n k : ℕ) → a ≡ false → b ≡ true → n ≤ k → cond a (suc n) n < cond b (suc k) k
      this_one true b n k fails passes rest = true_false fails
      this_one false true n k fails passes rest = omega (arith, rest)
      this_one false false n k fails passes rest = true_false (sym passes)

      another : (a b : Bool) (n k : ℕ) → (a ≡ true → b ≡ true) → n < k → cond a (suc n) n < cond b (suc k) k
      another true true n k then rest = omega (arith, rest)
      another true false n k then rest = true_false (sym (then refl))
      another false true n k then rest = omega (arith, rest)
      another false false n k then rest = rest

  module _ (m : FinMap R X) (after : Option K → K → Bool) (from_first : (k : K) → after None k ≡ true)
      (from_next : (a k : K) → after (Some a) k ≡ is_lt (R a k)) where
    pub next_is : (above : Option K) (id : K) → find (after above) (map.keys m) ≡ Some id
        → IsSome (map.get m id) × (after above id ≡ true)
    next_is above id next =
        let is = next_in (after above) id (map.entries m) next in
        (ap is_some (map.get-entries m id) ∙ is.0, is.1)

    pub walked : (above : Option K) (id k : K) (v : X) → find (after above) (map.keys m) ≡ Some id
        → map.get m k ≡ Some v → after (Some id) k ≡ false → (k ≡ id) ⊎ (after above k ≡ false)
    walked above id k v next is behind =
        walked_in (after above) id k v (map.entries m) (map.entries_sorted m) next
        (sym (map.get-entries m k) ∙ is) (sym (from_next id k) ∙ behind)

    pub none_left : (above : Option K) (k : K) (v : X) → find (after above) (map.keys m) ≡ None
        → map.get m k ≡ Some v → after above k ≡ false
    none_left above k v none is =
        none_in (after above) k v (map.entries m) none (sym (map.get-entries m k) ∙ is)

    pub narrower : (above : Option K) (id : K) → after above id ≡ true
        → (k : K) → after (Some id) k ≡ true → after above k ≡ true
    narrower None id here k then = from_first k
    narrower (Some a) id here k then =
        from_next a k ∙ ap is_lt (o.trans a id k (less _ (subst T (sym (sym (from_next a id) ∙ here)) tt))
        (less _ (subst T (sym (sym (from_next id k) ∙ then)) tt)))

    pub itself : (id : K) → after (Some id) id ≡ false
    itself id = from_next id id ∙ ap is_lt (tied_itself o id)

    pub fewer_left : (above : Option K) (id : K) → IsSome (map.get m id) → after above id ≡ true
        → count_of (after (Some id)) (map.keys m) < count_of (after above) (map.keys m)
    fewer_left above id there here = by_found (map.get m id) refl there
      where
        by_found : (found : Option X) → map.get m id ≡ found → IsSome found
            → count_of (after (Some id)) (map.keys m) < count_of (after above) (map.keys m)
        by_found None is none = true_false (sym none)
        by_found (Some v) is some =
            one_fewer (after above) (after (Some id)) id v (narrower above id here) here (itself id)
            (map.entries m) (sym (map.get-entries m id) ∙ is)
