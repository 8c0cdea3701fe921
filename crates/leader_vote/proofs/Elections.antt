-- What votes alone come to.
--     last_voter_leads, none_without_vote, votes_give_leaders, owners_alone, one_more_vote      the laws of elections
use Rattle.std.proofs.Common.{◌≡◌, Bool, true, false, cond, ◌||◌, List, [], ◌∷◌, refl, sym, ap, subst, ◌∙◌}
use Rattle.std.specs.Prelude.{Option, Some, None, is_some, IsSome, find, reverse, Contains}
use Rattle.std.specs.Option.{option_map, option_and_then, option_or, unwrap_or}
use Rattle.std.specs.List.{list_any}
use Rattle.std.specs.FinMap as map
use Rattle.std.proofs.lemmas.List.{reverse-append}
use Rattle.std.proofs.lemmas.List.Sums.{fold-append}
use Rattle.std.proofs.lemmas.List.Folds.{find-append, Any-from_list_any, list_any-from_Any}
use Rattle.std.proofs.lemmas.List.Sorted.{IsPermutation-reverse, list_any-IsPermutation}
use Rattle.views.proofs.MapLaws.{true_false}
use Rattle.sys_abi.specs.declared.identity.ConnId.{ConnId}
use Rattle.sys_abi.specs.declared.identity.DescId.{DescId}
use Rattle.sys_abi.specs.declared.identity.RealPid.{RealPid}
use Rattle.sys_abi.proofs.OrderLaws.{desc_total, desc_exact}
use Rattle.fd_tables.specs.declared.description.Desc.{Desc}
use Rattle.fd_book.specs.Books.{Books}
use Rattle.fd_tables.specs.Parts.{with_owner}
use Rattle.fd_tables.specs.Slots.{IsHolder}
use Rattle.leader_vote.specs.Elections.{leader_of, is_holder, after_vote_of, after_vote, after_votes, IsHeld, HasOneLeader, Pending, HasOneActor, IsPendingAt, NoneOwned, HaveVoted, LastVoterLeads, NoneWithoutVote, VotesGiveLeaders, OwnersAlone, OneMoreVote}
use Rattle.leader_vote.proofs.Entries.{get-map_entries}
use Rattle.leader_vote.proofs.Holders.{is_holder-from_IsHolder, IsHolder-from_is_holder}

-- one vote
pub get-after_vote : (b : Books) (p : RealPid) (id : DescId) → map.get (after_vote b p).descriptions id ≡ option_map (after_vote_of b.descriptors p id) (map.get b.descriptions id)
unfolding after_vote
get-after_vote b p id = get-map_entries desc_total desc_exact (after_vote_of b.descriptors p) b.descriptions id

pub after_vote-descriptors : (b : Books) (p : RealPid) → (after_vote b p).descriptors ≡ b.descriptors
unfolding after_vote
after_vote-descriptors b p = refl

-- votes
pub after_votes-descriptors : (b : Books) (voters : List RealPid) → (after_votes b voters).descriptors ≡ b.descriptors
after_votes-descriptors b [] = refl
after_votes-descriptors b (p ∷ voters) = after_votes-descriptors (after_vote b p) voters ∙ after_vote-descriptors b p

-- the last voter, or else the owner before
regrouped : (later : Option RealPid) (holds : Bool) (p : RealPid) (d : Desc)
    → option_or later (cond holds (with_owner (Some p) d) d).owner ≡ option_or (option_or later (cond holds (Some p) None)) d.owner
regrouped None true p d = refl
regrouped None false p d = refl
regrouped (Some q) holds p d = refl

last_or_owner : (b : Books) (voters : List RealPid) (id : DescId) (d : Desc) → map.get b.descriptions id ≡ Some d
    → leader_of (after_votes b voters) id ≡ option_or (find (is_holder b.descriptors id) (reverse voters)) d.owner
last_or_owner b [] id d is = ap (option_and_then (λ (d : Desc). d.owner)) is
last_or_owner b (p ∷ voters) id d is =
    let holds = is_holder b.descriptors id p in
    let here : map.get (after_vote b p).descriptions id ≡ Some (after_vote_of b.descriptors p id d) = get-after_vote b p id ∙ ap (option_map (after_vote_of b.descriptors p id)) is in
    last_or_owner (after_vote b p) voters id (after_vote_of b.descriptors p id d) here
    ∙ ap (λ m. option_or (find (is_holder m id) (reverse voters)) (after_vote_of b.descriptors p id d).owner) (after_vote-descriptors b p)
    ∙ regrouped (find (is_holder b.descriptors id) (reverse voters)) holds p d
    ∙ ap (λ found. option_or found d.owner) (sym (find-append (is_holder b.descriptors id) (reverse voters) (p ∷ [])))
    ∙ ap (λ list. option_or (find (is_holder b.descriptors id) list) d.owner) (sym (reverse-append (p ∷ []) voters))

or_none : {A : Type 0} (found : Option A) → option_or found None ≡ found
or_none None = refl
or_none (Some x) = refl

by_description : (b : Books) (voters : List RealPid) (id : DescId) (found : Option Desc) → map.get b.descriptions id ≡ found → leader_of b id ≡ None → IsSome found
    → leader_of (after_votes b voters) id ≡ find (is_holder b.descriptors id) (reverse voters)
by_description b voters id None is none there = true_false (sym there)
by_description b voters id (Some d) is none there =
    last_or_owner b voters id d is
    ∙ ap (option_or (find (is_holder b.descriptors id) (reverse voters))) (sym (ap (option_and_then (λ (d : Desc). d.owner)) is) ∙ none)
    ∙ or_none (find (is_holder b.descriptors id) (reverse voters))

pub last_voter_leads : LastVoterLeads
last_voter_leads b voters id none there = by_description b voters id (map.get b.descriptions id) refl (none id) there

-- what a search finds
find_passes : {A : Type 0} (test : A → Bool) (xs : List A) (x : A) → find test xs ≡ Some x → test x ≡ true
find_passes test [] x is = true_false (ap is_some (sym is))
find_passes test (y ∷ xs) x is =
    elim (test y) as (λ t. test y ≡ t → cond t (Some y) (find test xs) ≡ Some x → test x ≡ true) [
      | true ↦ λ passes same. ap test (sym (ap (λ o. unwrap_or o y) same)) ∙ passes
      | false ↦ λ fails later. find_passes test xs x later
    ] refl is

is_some-find : {A : Type 0} (test : A → Bool) (xs : List A) → is_some (find test xs) ≡ list_any test xs
is_some-find test [] = refl
is_some-find test (x ∷ xs) = elim (test x) as (λ t. is_some (cond t (Some x) (find test xs)) ≡ (t || list_any test xs)) [ true ↦ refl | false ↦ is_some-find test xs ]

is_some-last : {A : Type 0} (test : A → Bool) (xs : List A) → is_some (find test (reverse xs)) ≡ list_any test xs
is_some-last test xs = is_some-find test (reverse xs) ∙ sym (list_any-IsPermutation test xs (reverse xs) (IsPermutation-reverse xs))

found_among : {A : Type 0} (test : A → Bool) (xs : List A) (x : A) → Contains xs x → test x ≡ true → list_any test xs ≡ true
found_among test xs x among passes = list_any-from_Any test xs (among.0, x, among.1, among.2, passes)

-- a holder among the voters makes a leader
someone_leads : (b : Books) (voters : List RealPid) (id : DescId) (p : RealPid) → NoneOwned b → IsSome (map.get b.descriptions id) → IsHolder b.descriptors id p → Contains voters p
    → is_some (leader_of (after_votes b voters) id) ≡ true
someone_leads b voters id p none there holds voted =
    ap is_some (last_voter_leads b voters id none there) ∙ is_some-last (is_holder b.descriptors id) voters
    ∙ found_among (is_holder b.descriptors id) voters p voted (is_holder-from_IsHolder b.descriptors id p holds)

-- who leads holds
leader_holds : (b : Books) (voters : List RealPid) (id : DescId) (p : RealPid) → NoneOwned b → IsSome (map.get b.descriptions id) → leader_of (after_votes b voters) id ≡ Some p → IsHolder b.descriptors id p
leader_holds b voters id p none there leads =
    IsHolder-from_is_holder b.descriptors id p
    (find_passes (is_holder b.descriptors id) (reverse voters) p (sym (last_voter_leads b voters id none there) ∙ leads))

none_if : {A : Type 0} (found : Option A) → is_some found ≡ false → found ≡ None
none_if None is = refl
none_if (Some x) is = true_false is

no_holder : (b : Books) (voters : List RealPid) (id : DescId) (any : Bool) → list_any (is_holder b.descriptors id) voters ≡ any
    → ((p : RealPid) → IsHolder b.descriptors id p → Contains voters p → ⊥) → any ≡ false
no_holder b voters id false is nobody = refl
no_holder b voters id true is nobody =
    let one = Any-from_list_any (is_holder b.descriptors id) voters is in
    absurd (nobody one.1 (IsHolder-from_is_holder b.descriptors id one.1 one.4) (one.0, one.2, one.3))

pub none_without_vote : NoneWithoutVote
none_without_vote b voters id none there = (
  λ nobody p holds voted. true_false (sym (someone_leads b voters id p none there holds voted) ∙ ap is_some nobody),
  λ nobody. none_if _ (ap is_some (last_voter_leads b voters id none there) ∙ is_some-last (is_holder b.descriptors id) voters
      ∙ no_holder b voters id (list_any (is_holder b.descriptors id) voters) refl nobody),
)

the_leader : (p q : RealPid) → Some p ≡ Some q → q ≡ p
the_leader p q same = ap (λ x. unwrap_or x p) (sym same)

-- votes change owners alone
forgotten : (holds : Bool) (p : RealPid) (found : Option Desc) → option_map (with_owner None) (option_map (λ d. cond holds (with_owner (Some p) d) d) found) ≡ option_map (with_owner None) found
forgotten holds p None = refl
forgotten true p (Some d) = refl
forgotten false p (Some d) = refl

but_for_owners : (b : Books) (voters : List RealPid) (id : DescId)
    → option_map (with_owner None) (map.get (after_votes b voters).descriptions id) ≡ option_map (with_owner None) (map.get b.descriptions id)
but_for_owners b [] id = refl
but_for_owners b (p ∷ voters) id =
    but_for_owners (after_vote b p) voters id ∙ ap (option_map (with_owner None)) (get-after_vote b p id)
    ∙ forgotten (is_holder b.descriptors id p) p (map.get b.descriptions id)

pub owners_alone : OwnersAlone
owners_alone b voters = (after_votes-descriptors b voters, but_for_owners b voters)

is_some-option_map : {A B : Type 0} (f : A → B) (found : Option A) → is_some found ≡ is_some (option_map f found)
is_some-option_map f None = refl
is_some-option_map f (Some x) = refl

there_before : (b : Books) (voters : List RealPid) (id : DescId) → IsSome (map.get (after_votes b voters).descriptions id) → IsSome (map.get b.descriptions id)
there_before b voters id there =
    is_some-option_map (with_owner None) (map.get b.descriptions id) ∙ ap is_some (sym (but_for_owners b voters id))
    ∙ sym (is_some-option_map (with_owner None) (map.get (after_votes b voters).descriptions id)) ∙ there

module _ (b : Books) (voters : List RealPid) (none : NoneOwned b) (voted : HaveVoted b voters) where
  holder_before : (id : DescId) (p : RealPid) → IsHolder (after_votes b voters).descriptors id p → IsHolder b.descriptors id p
  holder_before id p holds = subst (λ m. IsHolder m id p) (after_votes-descriptors b voters) holds

  by_leader : (id : DescId) (found : Option RealPid) → leader_of (after_votes b voters) id ≡ found → is_some found ≡ true → IsSome (map.get b.descriptions id) → HasOneLeader (after_votes b voters) id
  by_leader id None leads some there = true_false (sym some)
  by_leader id (Some p) leads some there = record {
    leader = p;
    leads = leads;
    holds = subst (λ m. IsHolder m id p) (sym (after_votes-descriptors b voters)) (leader_holds b voters id p none there leads);
    only = λ q also. the_leader p q (sym leads ∙ also);
  }

  one_leader : (id : DescId) → IsHeld (after_votes b voters) id → HasOneLeader (after_votes b voters) id
  one_leader id held =
      let there = there_before b voters id held.there in
      let holds = holder_before id held.holder held.holds in
      by_leader id (leader_of (after_votes b voters) id) refl (someone_leads b voters id held.holder none there holds (voted id held.holder holds)) there

  one_actor : (pending : Pending) (c : ConnId) (listener : DescId) → IsPendingAt pending c listener → IsHeld (after_votes b voters) listener → HasOneActor (after_votes b voters) pending c listener
  one_actor pending c listener at held =
      let one = one_leader listener held in
      record {
        actor = one.leader;
        acts = (listener, at.listed, one.leads);
        leads = one.leads;
        holds = one.holds;
        only = λ p acts. one.only p (ap (leader_of (after_votes b voters)) (sym (at.alone acts.0 acts.1)) ∙ acts.2);
      }

pub votes_give_leaders : VotesGiveLeaders
votes_give_leaders b voters pending none voted = record {
  descriptions = one_leader b voters none voted;
  connections = one_actor b voters none voted pending;
}

pub one_more_vote : OneMoreVote
one_more_vote b voters p = fold-append after_vote b voters (p ∷ [])
