-- What a walk over a map's entries, in rising order, has left.
--     IsRest number m n rest      the entries at keys from n on, in their order
--     rest_all, rest_head, rest_next      all of them;  from the first one on;  those after it
--     rest_first, rest_none       the first one is an entry;  where none is left, all keys are below n
--     nat_rises                   numbers are in their own order
use Rattle.std.proofs.Common.{◌≡◌, ◌⊎◌, ℕ, ◌+◌, ◌<◌, ◌≤◌, Ordering, Less, false, cond, T, List, [], ◌∷◌, Some, inl, inr, sym, ap, ◌∙◌, subst, arith}
use Rattle.std.specs.Ordering.{eq_by_cmp, nat_cmp}
use Rattle.std.proofs.lemmas.Bool.Decides.{nat_tests}
use Rattle.std.specs.Cmp.{IsTotalOrder}
use Rattle.std.specs.FinMap as map
use Rattle.std.specs.FinMap.{FinMap, IsAntisymmetric, is_sorted}
use Rattle.std.specs.FinMap.Entries.{below_all}
use Rattle.std.proofs.lemmas.Option.{none-some}
use Rattle.views.proofs.MapLaws.{same_or_other, key_tied, other_key}
use Rattle.views.proofs.Passes.{first, second, less}

pub record IsRest {K X : Type 0} {R : K → K → Ordering} (number : K → ℕ) (m : FinMap R X) (n : ℕ)
    (rest : List (K × X)) : Type 0 where
  pub sorted : T (is_sorted R rest)
  pub of : (k : K) (x : X) → map.find R k rest ≡ Some x → (map.get m k ≡ Some x) × (n ≤ number k)
  pub each : (k : K) (x : X) → map.get m k ≡ Some x → (number k < n) ⊎ (map.find R k rest ≡ Some x)

zero_least : (n : ℕ) → 0 ≤ n
zero_least n = omega arith

next_most : (a b : ℕ) → a < b → a + 1 ≤ b
next_most a b less = omega (arith, less)

further : (a n b : ℕ) → a < n → n ≤ b → a < b
further a n b less more = omega (arith, less, more)

up : (a n b : ℕ) → a < n → n ≤ b → a < b + 1
up a n b less more = omega (arith, less, more)

here_up : (a b : ℕ) → a ≡ b → a < b + 1
here_up a b same = omega (arith, same)

not_self : (a b : ℕ) → a < b → b ≡ a → ⊥
not_self a b less same = omega (arith, less, same)

module _ {K X : Type 0} {R : K → K → Ordering} (o : IsTotalOrder R) (exact : IsAntisymmetric R)
    (number : K → ℕ) (rises : (a b : K) → R a b ≡ Less → number a < number b) where
  find_here : (k : K) (v : X) (es : List (K × X)) → map.find R k ((k, v) ∷ es) ≡ Some v
  find_here k v es = ap (λ b. cond b (Some v) (map.find R k es)) (key_tied o exact k)

  find_past : (k : K) (e : K × X) (es : List (K × X)) → eq_by_cmp R k e.0 ≡ false
      → map.find R k (e ∷ es) ≡ map.find R k es
  find_past k e es apart = ap (λ b. cond b (Some e.1) (map.find R k es)) apart

  -- what is found among entries above a key has a greater number

  above : (x k : K) (v : X) (es : List (K × X)) → T (below_all R x es) → map.find R k es ≡ Some v
      → number x < number k
  above x k v [] below is = absurd (none-some v is)
  above x k v (e ∷ es) below is = elim (same_or_other o exact k e.0) [
    | inl same ↦ subst (λ j. number x < number j) (sym same) (rises x e.0 (less _ (first _ _ below)))
    | inr differ ↦
        above x k v es (second _ _ below) (sym (find_past k e es (other_key o exact k e.0 differ)) ∙ is)
  ]

  pub rest_all : (m : FinMap R X) → IsRest number m 0 (map.entries m)
  rest_all m = record {
    sorted = map.entries_sorted m;
    of = λ k x found. (map.get-entries m k ∙ found, zero_least (number k));
    each = λ k x is. inr (sym (map.get-entries m k) ∙ is);
  }

  module _ (m : FinMap R X) (n : ℕ) (k : K) (v : X) (es : List (K × X))
      (rest : IsRest number m n ((k, v) ∷ es)) where
    pub rest_first : (map.get m k ≡ Some v) × (n ≤ number k)
    rest_first = rest.of k v (find_here k v es)

    beside : (j : K) (x : X) → map.find R j es ≡ Some x → number k < number j
    beside j x found = above k j x es (first _ _ rest.sorted) found

    past : (j : K) (x : X) → map.find R j es ≡ Some x → map.find R j ((k, v) ∷ es) ≡ Some x
    past j x found =
        find_past j (k, v) es (other_key o exact j k
        (λ same. not_self (number k) (number j) (beside j x found) (ap number same)))
        ∙ found

    from_first : (j : K) (x : X) → map.find R j ((k, v) ∷ es) ≡ Some x → number k ≤ number j
    from_first j x found = elim (same_or_other o exact j k) [
      | inl same ↦ subst (λ i. number k ≤ number i) (sym same) (itself (number k))
      | inr differ ↦ lower (number k) (number j)
          (beside j x (sym (find_past j (k, v) es (other_key o exact j k differ)) ∙ found))
    ]
      where
        itself : (a : ℕ) → a ≤ a
        itself a = omega arith

        lower : (a b : ℕ) → a < b → a ≤ b
        lower a b h = omega (arith, h)

    pub rest_head : IsRest number m (number k) ((k, v) ∷ es)
    rest_head = record {
      sorted = rest.sorted;
      of = λ j x found. ((rest.of j x found).0, from_first j x found);
      each = λ j x is. elim (rest.each j x is) [
        | inl lower ↦ inl (further (number j) n (number k) lower rest_first.1)
        | inr found ↦ inr found
      ];
    }

    pub rest_next : IsRest number m (number k + 1) es
    rest_next = record {
      sorted = second _ _ rest.sorted;
      of = λ j x found. (
        (rest.of j x (past j x found)).0,
        next_most (number k) (number j) (beside j x found),
      );
      each = λ j x is. elim (rest.each j x is) [
        | inl lower ↦ inl (up (number j) n (number k) lower rest_first.1)
        | inr found ↦ elim (same_or_other o exact j k) [
          | inl same ↦ inl (here_up (number j) (number k) (ap number same))
          | inr differ ↦ inr (sym (find_past j (k, v) es (other_key o exact j k differ)) ∙ found)
        ]
      ];
    }

  pub rest_none : (m : FinMap R X) (n : ℕ) → IsRest number m n [] → (k : K) (x : X) → map.get m k ≡ Some x
      → number k < n
  rest_none m n rest k x is = elim (rest.each k x is) [
    | inl lower ↦ lower
    | inr found ↦ absurd (none-some x found)
  ]

pub nat_rises : (a b : ℕ) → nat_cmp a b ≡ Less → a < b
nat_rises a b is = grind (arith, nat_tests)
