-- The owners of a book, kept one after the other, and put into it.
--     AreKept b owners above       the owners of all that do not come after the last one are kept
--     kept_begun, kept_on, kept_done
--     ArePut owners b now above    all that do not come after the last one have their kept owners, and
--                                  others are as they were
--     put_begun, put_on, put_left, put_done
use Rattle.std.proofs.Common.{◌≡◌, ◌≢◌, ◌<◌, Bool, true, false, inl, inr, refl, sym, ap, ◌∙◌}
use Rattle.std.specs.Prelude.{Option, Some, None, is_some, IsSome, find, option_map, option_and_then}
use Rattle.std.specs.FinMap as map
use Rattle.std.proofs.lemmas.Option.{none-some}
use Rattle.views.proofs.MapLaws.{true_false, same_or_other, get_insert_same, get_insert_other}
use Rattle.sys_abi.specs.declared.identity.DescId.{DescId}
use Rattle.sys_abi.specs.declared.identity.RealPid.{RealPid}
use Rattle.sys_abi.specs.Orders.{desc_cmp}
use Rattle.sys_abi.proofs.OrderLaws.{desc_total, desc_exact}
use Rattle.fd_tables.specs.declared.description.Desc.{Desc}
use Rattle.fd_tables.specs.Parts.{with_owner, is_after}
use Rattle.fd_book.specs.Books.{Books, changed_or_same, with_changed}
use Rattle.leader_vote.proofs.Entries.{get-map_entries}
use Rattle.leader_vote.specs.Owners.{Owners, kept_owner, KeepsOwners, owned_as_kept, with_owners}
use Rattle.leader_vote.proofs.Walks.{count_of, next_is, walked, none_left, narrower, itself, fewer_left}

pub value_of : {X : Type 0} (o : Option X) → IsSome o → (x : X) × (o ≡ Some x)
value_of None is = true_false (sym is)
value_of (Some x) is = (x, refl)

abbrev owner_of : Desc → Option RealPid
owner_of d = d.owner

-- owners kept

pub record AreKept (b : Books) (owners : Owners) (above : Option DescId) : Type 0 where
  pub right : (id : DescId) (owner : Option RealPid) → map.get owners id ≡ Some owner
      → option_map owner_of (map.get b.descriptions id) ≡ Some owner
  pub passed : (id : DescId) (d : Desc) → map.get b.descriptions id ≡ Some d → is_after above id ≡ false
      → map.get owners id ≡ Some d.owner

pub kept_begun : (b : Books) → AreKept b map.empty None
kept_begun b = record {
  right = λ id owner is. absurd (none-some owner (sym (map.get-empty desc_cmp id) ∙ is));
  passed = λ id d is behind. true_false behind;
}

module _ (b : Books) (owners : Owners) (above : Option DescId) (id : DescId)
    (next : find (is_after above) (map.keys b.descriptions) ≡ Some id) (kept : AreKept b owners above) where
  abbrev owner : Option RealPid
  owner = option_and_then owner_of (map.get b.descriptions id)

  here : (d : Desc) → map.get b.descriptions id ≡ Some d → owner ≡ d.owner
  here d is = ap (option_and_then owner_of) is

  put_here : (q : DescId) (d : Desc) → map.get b.descriptions q ≡ Some d → q ≡ id
      → map.get (map.insert owners id owner) q ≡ Some d.owner
  put_here q d is same =
      ap (map.get (map.insert owners id owner)) same ∙ get_insert_same desc_total desc_exact owners id owner
      ∙ ap Some (here d (ap (map.get b.descriptions) (sym same) ∙ is))

  pub kept_on : AreKept b (map.insert owners id owner) (Some id)
  kept_on = record {
    right = λ q kept_one is. elim (same_or_other desc_total desc_exact q id) [
      | inl same ↦
          let there = value_of (map.get b.descriptions id)
          (next_is desc_total desc_exact b.descriptions is_after (λ k. refl) (λ a k. refl) above id next).0 in
          let d = there.0 in
          ap (λ x. option_map owner_of (map.get b.descriptions x)) same ∙ ap (option_map owner_of) there.1
          ∙ ap Some (sym (here d there.1))
          ∙ sym (get_insert_same desc_total desc_exact owners id owner)
          ∙ ap (map.get (map.insert owners id owner)) (sym same) ∙ is
      | inr differ ↦
          kept.right q kept_one (sym (get_insert_other desc_total desc_exact owners id owner q differ) ∙ is)
    ];
    passed = λ q d is behind.
        elim (walked desc_total desc_exact b.descriptions is_after (λ k. refl) (λ a k. refl) above id q d
        next is behind) [
          | inl same ↦ put_here q d is same
          | inr before ↦ elim (same_or_other desc_total desc_exact q id) [
            | inl same ↦ put_here q d is same
            | inr differ ↦
                get_insert_other desc_total desc_exact owners id owner q differ ∙ kept.passed q d is before
          ]
        ];
  }

  pub kept_fewer : count_of (is_after (Some id)) (map.keys b.descriptions)
      < count_of (is_after above) (map.keys b.descriptions)
  kept_fewer =
      let is = next_is desc_total desc_exact b.descriptions is_after (λ k. refl) (λ a k. refl) above id
      next in
      fewer_left desc_total desc_exact b.descriptions is_after (λ k. refl) (λ a k. refl) above id is.0 is.1

pub kept_done : (b : Books) (owners : Owners) (above : Option DescId)
    → find (is_after above) (map.keys b.descriptions) ≡ None → AreKept b owners above → KeepsOwners b owners
kept_done b owners above none kept id = by_found (map.get b.descriptions id) (map.get owners id) refl refl
  where
    by_found : (found : Option Desc) (had : Option (Option RealPid)) → map.get b.descriptions id ≡ found
        → map.get owners id ≡ had → map.get owners id ≡ option_map owner_of (map.get b.descriptions id)
    by_found (Some d) had is has =
        kept.passed id d is
        (none_left desc_total desc_exact b.descriptions is_after (λ k. refl) (λ a k. refl) above id d none is)
        ∙ sym (ap (option_map owner_of) is)
    by_found None None is has = has ∙ sym (ap (option_map owner_of) is)
    by_found None (Some owner) is has =
        absurd (none-some owner (sym (ap (option_map owner_of) is) ∙ kept.right id owner has))

-- owners put

pub record ArePut (owners : Owners) (b now : Books) (above : Option DescId) : Type 0 where
  pub descriptors : now.descriptors ≡ b.descriptors
  pub passed : (id : DescId) → is_after above id ≡ false
      → map.get now.descriptions id ≡ option_map (owned_as_kept owners id) (map.get b.descriptions id)
  pub left : (id : DescId) → is_after above id ≡ true
      → map.get now.descriptions id ≡ map.get b.descriptions id

pub put_begun : (owners : Owners) (b : Books) → ArePut owners b b None
put_begun owners b = record {
  descriptors = refl;
  passed = λ id behind. true_false behind;
  left = λ id ahead. refl;
}

module _ (owners : Owners) (b now : Books) (above : Option DescId) (id : DescId)
    (next : find (is_after above) (map.keys now.descriptions) ≡ Some id) (put : ArePut owners b now above)
  where
    its : IsSome (map.get now.descriptions id) × (is_after above id ≡ true)
    its = next_is desc_total desc_exact now.descriptions is_after (λ k. refl) (λ a k. refl) above id next

    was : map.get now.descriptions id ≡ map.get b.descriptions id
    was = put.left id its.1

    abbrev then : Books
    then = with_changed (with_owner (kept_owner owners id)) now id

    changed : (d : Desc) → map.get now.descriptions id ≡ Some d
        → then ≡ record now { descriptions = map.insert now.descriptions id (owned_as_kept owners id d) }
    unfolding with_changed
    changed d is = ap (changed_or_same (with_owner (kept_owner owners id)) now id) is

    abbrev d : Desc
    d = (value_of (map.get now.descriptions id) its.0).0

    d_is : map.get now.descriptions id ≡ Some d
    d_is = (value_of (map.get now.descriptions id) its.0).1

    at_id : map.get then.descriptions id ≡ option_map (owned_as_kept owners id) (map.get b.descriptions id)
    at_id =
        ap (λ (x : Books). map.get x.descriptions id) (changed d d_is)
        ∙ get_insert_same desc_total desc_exact now.descriptions id (owned_as_kept owners id d)
        ∙ sym (ap (option_map (owned_as_kept owners id)) (sym was ∙ d_is))

    beside : (q : DescId) → q ≢ id → map.get then.descriptions q ≡ map.get now.descriptions q
    beside q differ =
        ap (λ (x : Books). map.get x.descriptions q) (changed d d_is)
        ∙ get_insert_other desc_total desc_exact now.descriptions id (owned_as_kept owners id d) q differ

    behind_now : (q : DescId) → q ≢ id → is_after (Some id) q ≡ false
        → map.get now.descriptions q ≡ option_map (owned_as_kept owners q) (map.get b.descriptions q)
    behind_now q differ behind = by (is_after above q) (map.get now.descriptions q) refl refl
      where
        by : (ahead : Bool) (found : Option Desc) → is_after above q ≡ ahead → map.get now.descriptions q ≡
            found
            → map.get now.descriptions q ≡ option_map (owned_as_kept owners q) (map.get b.descriptions q)
        by false found is at = put.passed q is
        by true None is at = at ∙ sym (ap (option_map (owned_as_kept owners q)) (sym (put.left q is) ∙ at))
        by true (Some e) is at =
            elim (walked desc_total desc_exact now.descriptions is_after (λ k. refl) (λ a k. refl) above id q
            e next at behind) [
              | inl same ↦ absurd (differ same)
              | inr before ↦ put.passed q before
            ]

    pub put_on : ArePut owners b then (Some id)
    put_on = record {
      descriptors = ap (λ (x : Books). x.descriptors) (changed d d_is) ∙ put.descriptors;
      passed = λ q behind. elim (same_or_other desc_total desc_exact q id) [
        | inl same ↦ ap (map.get then.descriptions) same ∙ at_id
            ∙ (λ i. option_map (owned_as_kept owners (sym same i)) (map.get b.descriptions (sym same i)))
        | inr differ ↦ beside q differ ∙ behind_now q differ behind
      ];
      left = λ q ahead.
          beside q (λ same. true_false (sym ahead ∙ ap (is_after (Some id)) same
          ∙ itself desc_total desc_exact now.descriptions is_after (λ k. refl) (λ a k. refl) id))
          ∙ put.left q (narrower desc_total desc_exact now.descriptions is_after (λ k. refl) (λ a k. refl)
          above id its.1 q ahead);
    }

    pub put_fewer : count_of (is_after (Some id)) (map.keys b.descriptions)
        < count_of (is_after above) (map.keys b.descriptions)
    put_fewer =
        fewer_left desc_total desc_exact b.descriptions is_after (λ k. refl) (λ a k. refl) above id
        (ap is_some (sym was) ∙ its.0) its.1

pub get-with_owners : (owners : Owners) (b : Books) (id : DescId)
    → map.get (with_owners owners b).descriptions id
    ≡ option_map (owned_as_kept owners id) (map.get b.descriptions id)
unfolding with_owners
get-with_owners owners b id = get-map_entries desc_total desc_exact (owned_as_kept owners) b.descriptions id

pub with_owners-descriptors : (owners : Owners) (b : Books) → (with_owners owners b).descriptors ≡
    b.descriptors
unfolding with_owners
with_owners-descriptors owners b = refl

pub same_books : (a b : Books) → a.descriptors ≡ b.descriptors
    → ((id : DescId) → map.get a.descriptions id ≡ map.get b.descriptions id) → a ≡ b
same_books a b descriptors each =
    let descriptions = map.same_map desc_total desc_exact a.descriptions b.descriptions each in
    λ i. record { descriptions = descriptions i; descriptors = descriptors i }

pub put_done : (owners : Owners) (b now : Books) (above : Option DescId)
    → find (is_after above) (map.keys now.descriptions) ≡ None → ArePut owners b now above
    → now ≡ with_owners owners b
put_done owners b now above none put =
    same_books now (with_owners owners b) (put.descriptors ∙ sym (with_owners-descriptors owners b))
    (λ id. by id (is_after above id) (map.get now.descriptions id) refl refl ∙ sym (get-with_owners owners
    b id))
  where
    by : (id : DescId) (ahead : Bool) (found : Option Desc) → is_after above id ≡ ahead
        → map.get now.descriptions id ≡ found
        → map.get now.descriptions id ≡ option_map (owned_as_kept owners id) (map.get b.descriptions id)
    by id false found is at = put.passed id is
    by id true None is at = at ∙ sym (ap (option_map (owned_as_kept owners id)) (sym (put.left id is) ∙ at))
    by id true (Some e) is at =
        true_false (sym is ∙ none_left desc_total desc_exact now.descriptions is_after (λ k. refl)
        (λ a k. refl) above id e none at)
