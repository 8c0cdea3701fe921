-- A vote, descriptor by descriptor: as far as it has come, each description is owned by the voter or as before.
--     IsVoting b now p n        the book after the descriptors below n have voted
--     voting_begun, voting_goes_on, voting_done
use Rattle.std.proofs.Common.{◌≡◌, ℕ, ◌+◌, ◌<◌, Bool, true, false, cond, ◌||◌, refl, sym, ap, subst, ◌∙◌, arith, inl, inr}
use Rattle.std.specs.Prelude.{Option, Some, None, is_some, IsSome, IfSome}
use Rattle.std.specs.Option.{option_map, option_and_then, unwrap_or}
use Rattle.std.specs.Ordering.{eq_by_cmp}
use Rattle.std.specs.FinMap as map
use Rattle.std.proofs.lemmas.Bool.{cases_lt}
use Rattle.views.proofs.MapLaws.{true_false, same_key}
use Rattle.sys_abi.specs.declared.identity.DescId.{DescId}
use Rattle.sys_abi.specs.declared.identity.RealPid.{RealPid}
use Rattle.sys_abi.specs.Orders.{desc_cmp}
use Rattle.sys_abi.proofs.OrderLaws.{desc_total, desc_exact}
use Rattle.fd_tables.specs.declared.description.Desc.{Desc}
use Rattle.sys_abi.specs.declared.descriptor.Descriptor.{Descriptor}
use Rattle.fd_book.specs.Books.{Books, changed_or_same, with_changed}
use Rattle.fd_tables.specs.Slots.{slot, refers_to, IsHolder}
use Rattle.fd_tables.specs.Parts.{with_owner}
use Rattle.fd_tables.specs.Numbers.{NoneOpen, IsLowestOpen}
use Rattle.leader_vote.specs.Elections.{leader_of, is_holder, after_vote_of, after_vote, after_vote_by}
use Rattle.leader_vote.proofs.Entries.{get-map_entries}
use Rattle.leader_vote.proofs.Holders.{refers-same, same-refers, is_holder-from_IsHolder, IsHolder-from_is_holder}

-- the description, owned by the voter where this is true
abbrev pub owned_if : Bool → RealPid → Desc → Desc
owned_if b p d = cond b (with_owner (Some p) d) d

pub record IsDecided (b now : Books) (p : RealPid) (n : ℕ) (id : DescId) : Type 0 where
  pub voted : Bool
  pub is : map.get now.descriptions id ≡ option_map (owned_if voted p) (map.get b.descriptions id)
  pub holds : voted ≡ true → IsHolder b.descriptors id p
  pub there : voted ≡ true → IsSome (map.get b.descriptions id)
  pub so_far : (fd : ℕ) (d : Descriptor) → fd < n → map.get b.descriptors (slot p fd) ≡ Some d → d.desc ≡ id → voted ≡ true

pub record IsVoting (b now : Books) (p : RealPid) (n : ℕ) : Type 0 where
  pub same : now.descriptors ≡ b.descriptors
  pub each : (id : DescId) → IsDecided b now p n id

unowned : (p : RealPid) (found : Option Desc) → found ≡ option_map (owned_if false p) found
unowned p None = refl
unowned p (Some d) = refl

owned_twice : (first second : Bool) (p : RealPid) (found : Option Desc) → option_map (owned_if second p) (option_map (owned_if first p) found) ≡ option_map (owned_if (first || second) p) found
owned_twice first second p None = refl
owned_twice true true p (Some d) = refl
owned_twice true false p (Some d) = refl
owned_twice false second p (Some d) = refl

pub voting_begun : (b : Books) (p : RealPid) → IsVoting b b p 0
voting_begun b p = record {
  same = refl;
  each = λ id. record {
    voted = false;
    is = unowned p (map.get b.descriptions id);
    holds = λ is. true_false (sym is);
    there = λ is. true_false (sym is);
    so_far = λ fd d below at same. absurd (omega arith);
  };
}

-- one description changed
same_descriptors : (f : Desc → Desc) (b : Books) (j : DescId) (found : Option Desc) → (changed_or_same f b j found).descriptors ≡ b.descriptors
same_descriptors f b j None = refl
same_descriptors f b j (Some d) = refl

get_changed : (f : Desc → Desc) (b : Books) (j id : DescId) (found : Option Desc) (same : Bool) → map.get b.descriptions j ≡ found → eq_by_cmp desc_cmp id j ≡ same
    → map.get (changed_or_same f b j found).descriptions id ≡ option_map (λ d. cond same (f d) d) (map.get b.descriptions id)
get_changed f b j id None true is tied =
    let none : map.get b.descriptions id ≡ None = ap (map.get b.descriptions) (same_key desc_total desc_exact id j tied) ∙ is in
    none ∙ ap (option_map f) (sym none)
get_changed f b j id None false is apart = unchanged (map.get b.descriptions id)
  where
    unchanged : (found : Option Desc) → found ≡ option_map (λ d. d) found
    unchanged None = refl
    unchanged (Some d) = refl
get_changed f b j id (Some d) true is tied =
    map.get-insert desc_total b.descriptions j (f d) id ∙ ap (λ t. cond t (Some (f d)) (map.get b.descriptions id)) tied
    ∙ ap (option_map f) (sym (ap (map.get b.descriptions) (same_key desc_total desc_exact id j tied) ∙ is))
get_changed f b j id (Some d) false is apart =
    map.get-insert desc_total b.descriptions j (f d) id ∙ ap (λ t. cond t (Some (f d)) (map.get b.descriptions id)) apart
    ∙ unchanged (map.get b.descriptions id)
  where
    unchanged : (found : Option Desc) → found ≡ option_map (λ d. d) found
    unchanged None = refl
    unchanged (Some d) = refl

either_true : {P : Type 0} (a b : Bool) → (a || b) ≡ true → (a ≡ true → P) → (b ≡ true → P) → P
either_true true b is in_first in_second = in_first refl
either_true false b is in_first in_second = in_second is

left_true : (a b : Bool) → a ≡ true → (a || b) ≡ true
left_true true b is = refl
left_true false b is = true_false (sym is)

right_true : (a b : Bool) → b ≡ true → (a || b) ≡ true
right_true true b is = refl
right_true false b is = is

there_before : (f : Desc → Desc) (found : Option Desc) → IsSome (option_map f found) → IsSome found
there_before f None is = is
there_before f (Some d) is = refl

the_descriptor : (d e : Descriptor) → Some d ≡ Some e → d ≡ e
the_descriptor d e same = ap (λ x. unwrap_or x d) same

module _ (b now next : Books) (p : RealPid) (n fd : ℕ) (so_far : IsVoting b now p n) (lowest : IsLowestOpen now.descriptors p n fd) where
  at_before : (q : ℕ) → map.get now.descriptors (slot p q) ≡ map.get b.descriptors (slot p q)
  at_before q = ap (λ m. map.get m (slot p q)) so_far.same

  decided : (d : Descriptor) → map.get now.descriptors (slot p fd) ≡ Some d → IsSome (map.get now.descriptions d.desc)
      → next ≡ after_vote_by now p (Some d) → (id : DescId) → IsDecided b next p (fd + 1) id
  unfolding with_changed
  decided d at there changed id =
      let before : IsDecided b now p n id = so_far.each id in
      record {
        voted = before.voted || refers_to id d;
        is = ap (λ (x : Books). map.get x.descriptions id) changed
            ∙ get_changed (with_owner (Some p)) now d.desc id (map.get now.descriptions d.desc) (refers_to id d) refl refl
            ∙ ap (option_map (owned_if (refers_to id d) p)) before.is ∙ owned_twice before.voted (refers_to id d) p (map.get b.descriptions id);
        holds = λ is. either_true before.voted (refers_to id d) is before.holds (λ refers. (fd, d, sym (at_before fd) ∙ at, same-refers id d refers));
        there = λ is. either_true before.voted (refers_to id d) is before.there (λ refers.
            there_before (owned_if before.voted p) (map.get b.descriptions id)
            (subst IsSome before.is (subst (λ j. IsSome (map.get now.descriptions j)) (same-refers id d refers) there)));
        so_far = λ q e below is same. elim (cases_lt q n) [
          | inl earlier ↦ left_true before.voted (refers_to id d) (before.so_far q e earlier is same)
          | inr from_on ↦ elim (cases_lt q fd) [
            | inl between ↦ true_false (ap is_some (sym is ∙ sym (at_before q) ∙ lowest.lowest q from_on between))
            | inr past ↦
                let at_fd : q ≡ fd = omega arith in
                let same_one : e ≡ d = the_descriptor e d (sym is ∙ sym (at_before q) ∙ ap (λ x. map.get now.descriptors (slot p x)) at_fd ∙ at) in
                right_true before.voted (refers_to id d) (refers-same id d (ap (λ x. x.desc) (sym same_one) ∙ same))
          ]
        ];
      }

  one_more : (found : Option Descriptor) → map.get now.descriptors (slot p fd) ≡ found → IfSome found (λ d. IsSome (map.get now.descriptions d.desc))
      → next ≡ after_vote_by now p found → IsVoting b next p (fd + 1)
  unfolding with_changed
  one_more None at there changed = true_false (sym lowest.open_there ∙ ap is_some at)
  one_more (Some d) at there changed = record {
    same = ap (λ (x : Books). x.descriptors) changed ∙ same_descriptors (with_owner (Some p)) now d.desc (map.get now.descriptions d.desc) ∙ so_far.same;
    each = decided d at there changed;
  }

  pub voting_goes_on : IfSome (map.get now.descriptors (slot p fd)) (λ d. IsSome (map.get now.descriptions d.desc))
      → next ≡ after_vote_by now p (map.get now.descriptors (slot p fd)) → IsVoting b next p (fd + 1)
  voting_goes_on there changed = one_more (map.get now.descriptors (slot p fd)) refl there changed

module _ (b now : Books) (p : RealPid) (n : ℕ) (so_far : IsVoting b now p n) (none : NoneOpen now.descriptors p n) where
  voted-from_holder : (id : DescId) → IsHolder b.descriptors id p → (so_far.each id).voted ≡ true
  voted-from_holder id holds = elim (cases_lt holds.0 n) [
    | inl below ↦ (so_far.each id).so_far holds.0 holds.1 below holds.2 holds.3
    | inr past ↦ true_false (ap is_some (sym holds.2 ∙ sym (ap (λ m. map.get m (slot p holds.0)) so_far.same) ∙ none holds.0 past))
  ]

  voted-holder : (id : DescId) → (so_far.each id).voted ≡ is_holder b.descriptors id p
  voted-holder id = by_tests (so_far.each id).voted (is_holder b.descriptors id p)
      (λ voted. is_holder-from_IsHolder b.descriptors id p ((so_far.each id).holds voted))
      (λ holds. voted-from_holder id (IsHolder-from_is_holder b.descriptors id p holds))
    where
      by_tests : (x y : Bool) → (x ≡ true → y ≡ true) → (y ≡ true → x ≡ true) → x ≡ y
      by_tests true y there back = sym (there refl)
      by_tests false true there back = back refl
      by_tests false false there back = refl

  pub voting_done : now ≡ after_vote b p
  unfolding after_vote
  voting_done =
      let descriptions = map.same_map desc_total desc_exact now.descriptions (after_vote b p).descriptions (λ id.
      (so_far.each id).is ∙ ap (λ t. option_map (owned_if t p) (map.get b.descriptions id)) (voted-holder id)
      ∙ sym (get-map_entries desc_total desc_exact (after_vote_of b.descriptors p) b.descriptions id)) in
      λ i. record { descriptions = descriptions i; descriptors = so_far.same i }

  led : (id : DescId) (found : Option Desc) (voted : Bool) → IsSome found → voted ≡ true → option_and_then (λ d. d.owner) (option_map (owned_if voted p) found) ≡ Some p
  led id None voted there is = true_false (sym there)
  led id (Some d) true there is = refl
  led id (Some d) false there is = true_false (sym is)

  pub voter_leads : (id : DescId) → IsHolder b.descriptors id p → leader_of now id ≡ Some p
  voter_leads id holds =
      let voted = voted-from_holder id holds in
      ap (option_and_then (λ (d : Desc). d.owner)) (so_far.each id).is ∙ led id (map.get b.descriptions id) (so_far.each id).voted ((so_far.each id).there voted) voted
