-- A map that is filled on a walk over another one.
--     filled_none          nothing is filled at the beginning
--     filled_on            one entry more, where nothing else is passed
--     filled_past          fewer are left, of those that are there
--     IsPassed             what leads to a key is there, and isn't left
--     filled_whole         it is the whole map, where all that lead to its keys are passed
--     filled_seen          also where the other map stands for the whole, and nothing of it is left
use Rattle.std.proofs.Common.{◌≡◌, ◌⊎◌, Ordering, Bool, true, false, Option, Some, None, inl, inr, refl, sym, ap, ◌∙◌}
use Rattle.std.specs.Cmp.{IsTotalOrder}
use Rattle.std.specs.FinMap as map
use Rattle.std.specs.FinMap.{FinMap, IsAntisymmetric}
use Rattle.std.proofs.lemmas.Option.{none-some, same_Some}
use Rattle.views.proofs.MapLaws.{true_false, same_or_other, get_insert_same, get_insert_other}
use Rattle.views.proofs.Seen.{real_of}
use Rattle.views.specs.Seen.{LeadBack, SeenBy}
use Rattle.seen_kernel.specs.Filling.{IsFilled}

pub record IsPassed {K L Y : Type 0} {S : L → L → Ordering} (from : L → Option K) (other : FinMap S Y)
    (left : L → Bool) (k : K) : Type 0 where
  pub key : L
  pub value : Y
  pub there : map.get other key ≡ Some value
  pub leads : from key ≡ Some k
  pub behind : left key ≡ false

module _ {K L X Y : Type 0} {R : K → K → Ordering} {S : L → L → Ordering} (o : IsTotalOrder R)
    (exact : IsAntisymmetric R) (from : L → Option K) (other : FinMap S Y) (whole : FinMap R X) where
  pub filled_none : (left : L → Bool) → ((l : L) → left l ≡ true) → IsFilled from other left whole map.empty
  filled_none left all = record {
    right = λ k x is. absurd (none-some x (sym (map.get-empty R k) ∙ is));
    passed = λ l k y is leads behind. true_false (sym (all l) ∙ behind);
  }

  pub filled_past : (left left' : L → Bool) (part : FinMap R X)
      → ((l : L) (k : K) (y : Y) → map.get other l ≡ Some y → from l ≡ Some k → left' l ≡ false
      → left l ≡ false)
      → IsFilled from other left whole part → IsFilled from other left' whole part
  filled_past left left' part before filled = record {
    right = filled.right;
    passed = λ l k y is leads behind. filled.passed l k y is leads (before l k y is leads behind);
  }

  pub filled_on : (left left' : L → Bool) (part : FinMap R X) (id : L) (at : K) (v : X)
      → from id ≡ Some at → map.get whole at ≡ Some v
      → ((l : L) (y : Y) → map.get other l ≡ Some y → left' l ≡ false → (l ≡ id) ⊎ (left l ≡ false))
      → IsFilled from other left whole part → IsFilled from other left' whole (map.insert part at v)
  filled_on left left' part id at v leads there before filled = record {
    right = λ k x is. elim (same_or_other o exact k at) [
      | inl same ↦
          ap (map.get whole) same ∙ there ∙ sym (get_insert_same o exact part at v)
          ∙ ap (map.get (map.insert part at v)) (sym same) ∙ is
      | inr differ ↦ filled.right k x (sym (get_insert_other o exact part at v k differ) ∙ is)
    ];
    passed = λ l k y is to_k behind. elim (same_or_other o exact k at) [
      | inl same ↦ here k same
      | inr differ ↦ elim (before l y is behind) [
        | inl same ↦ absurd (differ (same_Some k at (sym to_k ∙ ap from same ∙ leads)))
        | inr passed ↦
            get_insert_other o exact part at v k differ ∙ filled.passed l k y is to_k passed
      ]
    ];
  }
    where
      here : (k : K) → k ≡ at → map.get (map.insert part at v) k ≡ map.get whole k
      here k same =
          ap (map.get (map.insert part at v)) same ∙ get_insert_same o exact part at v ∙ sym there
          ∙ ap (map.get whole) (sym same)

  pub filled_whole : (left : L → Bool) (part : FinMap R X)
      → ((k : K) (x : X) → map.get whole k ≡ Some x → IsPassed from other left k)
      → IsFilled from other left whole part → part ≡ whole
  filled_whole left part each filled =
      map.same_map o exact part whole (λ k. by k (map.get whole k) (map.get part k) refl refl)
    where
      by : (k : K) (w p : Option X) → map.get whole k ≡ w → map.get part k ≡ p
          → map.get part k ≡ map.get whole k
      by k None None is at = at ∙ sym is
      by k None (Some x) is at = absurd (none-some x (sym is ∙ filled.right k x at))
      by k (Some x) p is at =
          let e = each k x is in
          filled.passed e.key k e.value e.there e.leads e.behind

module _ {K L X Y : Type 0} {R : K → K → Ordering} {S : L → L → Ordering} (ro : IsTotalOrder R)
    (rs : IsAntisymmetric R) (so : IsTotalOrder S) (ss : IsAntisymmetric S) (to : K → Option L)
    (from : L → Option K) (lead : LeadBack to from) (Is : K → L → X → Y → Type 0) (whole : FinMap R X)
    (other : FinMap S Y) (same : SeenBy to from Is whole other) where
  pub filled_seen : (left : L → Bool) (part : FinMap R X)
      → ((l : L) (y : Y) → map.get other l ≡ Some y → left l ≡ false)
      → IsFilled from other left whole part → part ≡ whole
  filled_seen left part behind filled = filled_whole ro rs from other whole left part passed filled
    where
      passed : (k : K) (x : X) → map.get whole k ≡ Some x → IsPassed from other left k
      passed k x is =
          let l = real_of ro rs so ss to from lead Is whole other same k x is in
          record {
            key = l.0;
            value = l.1.1.0;
            there = l.1.1.1.0;
            leads = lead.back k l.0 l.1.0;
            behind = behind l.0 l.1.1.0 l.1.1.1.0;
          }
