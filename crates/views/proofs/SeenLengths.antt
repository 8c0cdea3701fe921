-- Two maps that stand for each other have the same number of entries.
use Rattle.std.proofs.Common.{◌≡◌, ◌≢◌, ℕ, zero, suc, ◌-◌, cond, List, [], ◌∷◌, Option, Some, None, refl, sym}
use Rattle.std.proofs.Common.{ap, ◌∙◌, arith, length}
use Rattle.std.specs.Prelude.{is_some}
use Rattle.std.proofs.lemmas.Option.{none-some}
use Rattle.std.specs.declared.cmp.Ordering.{Ordering}
use Rattle.std.specs.Cmp.{IsTotalOrder}
use Rattle.std.specs.FinMap as map
use Rattle.std.specs.FinMap.{FinMap, IsAntisymmetric}
use Rattle.views.proofs.MapValues.{EachEntry, each_entry}
use Rattle.views.specs.Seen.{LeadBack, SeenBy}
use Rattle.views.proofs.Seen.{real_of, virt_of, SeenBy-remove}

one_more : (x n : ℕ) → x - 1 ≡ n → x ≢ 0 → x ≡ suc n
one_more x n e h = omega (arith, e, h)

one_less : (x n : ℕ) → x ≡ suc n → x - 1 ≡ n
one_less x n e = omega (arith, e)

module _ {K L X Y : Type 0} {R : K → K → Ordering} {S : L → L → Ordering}
    (ro : IsTotalOrder R) (rs : IsAntisymmetric R) (so : IsTotalOrder S) (ss : IsAntisymmetric S)
    (to : K → Option L) (from : L → Option K) (lead : LeadBack to from) (Is : K → L → X → Y → Type 0) where
  not_empty : (b : FinMap S Y) (l : L) (y : Y) → map.get b l ≡ Some y → map.len b ≢ 0
  not_empty b l y is e =
      none-some y (sym (map.get-empty {X = Y} S l) ∙ sym (ap (λ m. map.get m l) (map.empty_of_len b e)) ∙ is)

  less : {Z M : Type 0} {T : M → M → Ordering} (o : IsTotalOrder T) (m : FinMap T Z) (k : M) (z : Z)
      → map.get m k ≡ Some z → map.len (map.remove m k) ≡ map.len m - 1
  less o m k z is = map.len-remove o m k ∙ ap (λ c. cond (is_some c) (map.len m - 1) (map.len m)) is

  nothing : (a : FinMap R X) (b : FinMap S Y) → map.len a ≡ 0 → SeenBy to from Is a b → map.len b ≡ 0
  nothing a b e seen =
      ap map.len
      (map.same_map so ss b map.empty (λ l. none l (map.get b l) refl ∙ sym (map.get-empty {X = Y} S l)))
      ∙ map.len-empty S Y
    where
      none : (l : L) (o : Option Y) → map.get b l ≡ o → map.get b l ≡ None
      none l None is = is
      none l (Some y) is =
          let v = virt_of ro rs so ss to from lead Is a b seen l y is in
          let is_empty = ap (λ m. map.get m v.0) (map.empty_of_len a e) ∙ map.get-empty {X = X} R v.0 in
          absurd (none-some v.1.1.0 (sym is_empty ∙ v.1.1.1.0))

  module _ (n : ℕ)
      (shorter : (a : FinMap R X) (b : FinMap S Y) → map.len a ≡ n → SeenBy to from Is a b → map.len b ≡ n)
      (a : FinMap R X) (b : FinMap S Y) (e : map.len a ≡ suc n) (seen : SeenBy to from Is a b) where
    at_first : (k : K) (x : X) → map.get a k ≡ Some x → map.len b ≡ suc n
    at_first k x is =
        let r = real_of ro rs so ss to from lead Is a b seen k x is in
        one_more (map.len b) n
        (sym (less so b r.0 r.1.1.0 r.1.1.1.0)
        ∙ shorter (map.remove a k) (map.remove b r.0) (less ro a k x is ∙ one_less (map.len a) n e)
        (SeenBy-remove ro rs so ss to from lead Is a b seen k r.0 r.1.0))
        (not_empty b r.0 r.1.1.0 r.1.1.1.0)

    by_first : (es : List (K × X)) → length es ≡ suc n → EachEntry (λ q v. map.get a q ≡ Some v) es
        → map.len b ≡ suc n
    by_first [] z h = absurd (never n z)
      where
        never : (n : ℕ) → 0 ≡ suc n → ⊥
        never n z = omega (arith, z)
    by_first (x ∷ es) z h = at_first x.0 x.1 h.0

  same_from : (n : ℕ) (a : FinMap R X) (b : FinMap S Y) → map.len a ≡ n → SeenBy to from Is a b
      → map.len b ≡ n
  same_from zero a b e seen = nothing a b e seen
  same_from (suc n) a b e seen =
      by_first n (same_from n) a b e seen (map.entries a) (sym (map.len-entries a) ∙ e)
      (each_entry ro rs (λ q v. map.get a q ≡ Some v) a (λ q v is. is))

  pub same_len : (a : FinMap R X) (b : FinMap S Y) → SeenBy to from Is a b → map.len b ≡ map.len a
  same_len a b seen = same_from (map.len a) a b refl seen
