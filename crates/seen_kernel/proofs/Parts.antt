-- Maps that have a part of another's entries, until they have all of them.
--     nothing_yet, part_more       the empty part, and one entry more
--     has_more, has_this           what has an entry after an insert
--     all_of_it                    a part that has each entry is the whole
--     with_entry seen k found      one entry more, if there is one
--     entry_part, entry_kept, entry_there
use Rattle.std.proofs.Common.{◌≡◌, Ordering, true, inl, inr, refl, sym, ap, ◌∙◌}
use Rattle.std.specs.Prelude.{Option, Some, None, is_some}
use Rattle.std.specs.Option.{option_map_or}
use Rattle.std.specs.Cmp.{IsTotalOrder}
use Rattle.std.specs.FinMap as map
use Rattle.std.specs.FinMap.{FinMap, IsAntisymmetric}
use Rattle.std.proofs.lemmas.Option.{none-some}
use Rattle.views.proofs.MapLaws.{true_false, same_or_other, get_insert_same, get_insert_other}
use Rattle.seen_kernel.specs.Parts.{IsPart}

pub nothing_yet : {K X : Type 0} {R : K → K → Ordering} (all : FinMap R X) → IsPart all map.empty
nothing_yet {R = R} all k v is = absurd (none-some v (sym (map.get-empty R k) ∙ is))

abbrev pub with_entry : {K V : Type 0} {R : K → K → Ordering} → FinMap R V → K → Option V → FinMap R V
with_entry seen k found = option_map_or (λ v. map.insert seen k v) found seen

module _ {K X : Type 0} {R : K → K → Ordering} (o : IsTotalOrder R) (exact : IsAntisymmetric R) where
  pub part_more : (all part : FinMap R X) (k : K) (v : X) → IsPart all part → map.get all k ≡ Some v
      → IsPart all (map.insert part k v)
  part_more all part k v is there q w found = elim (same_or_other o exact q k) [
    | inl same ↦ ap (map.get all) same ∙ there ∙ sym (get_insert_same o exact part k v)
        ∙ sym (ap (map.get (map.insert part k v)) same) ∙ found
    | inr differ ↦ is q w (sym (get_insert_other o exact part k v q differ) ∙ found)
  ]

  pub has_this : (part : FinMap R X) (k : K) (v : X) (q : K) → q ≡ k
      → is_some (map.get (map.insert part k v) q) ≡ true
  has_this part k v q same =
      ap (λ x. is_some (map.get (map.insert part k v) x)) same ∙ ap is_some (get_insert_same o exact part k v)

  pub has_more : (part : FinMap R X) (k : K) (v : X) (q : K) → is_some (map.get part q) ≡ true
      → is_some (map.get (map.insert part k v) q) ≡ true
  has_more part k v q has = elim (same_or_other o exact q k) [
    | inl same ↦ has_this part k v q same
    | inr differ ↦ ap is_some (get_insert_other o exact part k v q differ) ∙ has
  ]

  pub all_of_it : (all part : FinMap R X) → IsPart all part
      → ((k : K) → is_some (map.get all k) ≡ true → is_some (map.get part k) ≡ true) → part ≡ all
  all_of_it all part is has =
      map.same_map o exact part all (λ k. by k (map.get all k) (map.get part k) refl refl)
    where
      by : (k : K) (there found : Option X) → map.get all k ≡ there → map.get part k ≡ found
          → map.get part k ≡ map.get all k
      by k there (Some v) at got = got ∙ sym (is k v got)
      by k None None at got = got ∙ sym at
      by k (Some w) None at got = true_false (sym (has k (ap is_some at)) ∙ ap is_some got)

  pub entry_part : (all seen : FinMap R X) (k : K) (found : Option X) → IsPart all seen
      → ((v : X) → found ≡ Some v → map.get all k ≡ Some v) → IsPart all (with_entry seen k found)
  entry_part all seen k None part right = part
  entry_part all seen k (Some v) part right = part_more all seen k v part (right v refl)

  pub entry_kept : (seen : FinMap R X) (k : K) (found : Option X) (q : K)
      → is_some (map.get seen q) ≡ true → is_some (map.get (with_entry seen k found) q) ≡ true
  entry_kept seen k None q has = has
  entry_kept seen k (Some v) q has = has_more seen k v q has

  pub entry_there : (seen : FinMap R X) (k : K) (found : Option X) (q : K) → q ≡ k
      → is_some found ≡ true → is_some (map.get (with_entry seen k found) q) ≡ true
  entry_there seen k None q same some = true_false (sym some)
  entry_there seen k (Some v) q same some = has_this seen k v q same
