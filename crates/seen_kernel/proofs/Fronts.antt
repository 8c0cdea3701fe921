-- A map made from another's entries, in the order of the keys.
--     IsFront m all seen ahead      of the entries that it will have it has those whose keys are not ahead
--     front_on, front_fewer, front_done
use Rattle.std.proofs.Common.{◌≡◌, ◌<◌, Ordering, Bool, true, false, inl, inr, sym, ◌∙◌}
use Rattle.std.specs.Prelude.{Option, Some, None, is_some, find}
use Rattle.std.specs.Ordering.{is_lt}
use Rattle.std.specs.Cmp.{IsTotalOrder}
use Rattle.std.specs.FinMap as map
use Rattle.std.specs.FinMap.{FinMap, IsAntisymmetric}
use Rattle.seen_kernel.specs.Parts.{IsPart}
use Rattle.leader_vote.proofs.KeptOwners.{value_of}
use Rattle.leader_vote.proofs.Walks.{count_of, next_is, walked, none_left, fewer_left}
use Rattle.seen_kernel.proofs.Parts.{part_more, has_this, has_more, all_of_it}

pub record IsFront {K X Y : Type 0} {R : K → K → Ordering} (m : FinMap R X) (all seen : FinMap R Y)
    (ahead : K → Bool) : Type 0 where
  pub part : IsPart all seen
  pub passed : (k : K) → is_some (map.get m k) ≡ true → ahead k ≡ false
      → is_some (map.get seen k) ≡ true

module _ {K X : Type 0} {R : K → K → Ordering} (o : IsTotalOrder R) (exact : IsAntisymmetric R)
    (m : FinMap R X) (after : Option K → K → Bool) (from_first : (k : K) → after None k ≡ true)
    (from_next : (a k : K) → after (Some a) k ≡ is_lt (R a k)) where
  pub front_on : {Y : Type 0} (all seen : FinMap R Y) (above : Option K) (id : K) (v : Y)
      → find (after above) (map.keys m) ≡ Some id → map.get all id ≡ Some v
      → IsFront m all seen (after above) → IsFront m all (map.insert seen id v) (after (Some id))
  front_on all seen above id v next there front = record {
    part = part_more o exact all seen id v front.part there;
    passed = λ k has behind.
        let x = value_of (map.get m k) has in
        elim (walked o exact m after from_first from_next above id k x.0 next x.1 behind) [
          | inl same ↦ has_this o exact seen id v k same
          | inr before ↦ has_more o exact seen id v k (front.passed k has before)
        ];
  }

  pub front_fewer : (above : Option K) (id : K) → find (after above) (map.keys m) ≡ Some id
      → count_of (after (Some id)) (map.keys m) < count_of (after above) (map.keys m)
  front_fewer above id next =
      let is = next_is o exact m after from_first from_next above id next in
      fewer_left o exact m after from_first from_next above id is.0 is.1

  pub front_done : {Y : Type 0} (all seen : FinMap R Y) (above : Option K)
      → ((k : K) → is_some (map.get all k) ≡ is_some (map.get m k))
      → find (after above) (map.keys m) ≡ None → IsFront m all seen (after above) → seen ≡ all
  front_done all seen above same none front =
      all_of_it o exact all seen front.part (λ k has.
      let there : is_some (map.get m k) ≡ true = sym (same k) ∙ has in
      let x = value_of (map.get m k) there in
      front.passed k there (none_left o exact m after from_first from_next above k x.0 none x.1))
