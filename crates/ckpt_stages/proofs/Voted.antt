-- A vote in a suspension.
--     voted_on      the system goes on being suspended
use Rattle.std.proofs.Common.{◌≡◌, ℕ, Bool, true, List, [], ◌∷◌, ◌++◌, Option, Some, None, inl, inr, refl, sym, ap, subst, ◌∙◌, arith}
use Rattle.std.specs.Prelude.{IsSome, is_some, Contains}
use Rattle.std.specs.Option.{option_map_or}
use Rattle.std.specs.FinMap as map
use Rattle.std.proofs.lemmas.List.Elements.{Contains-append_left, Contains-append_right}
use Rattle.views.proofs.MapLaws.{true_false, same_or_other, get_insert_same, get_insert_other}
use Rattle.sys_abi.specs.declared.identity.Dir.{Dir}
use Rattle.sys_abi.specs.declared.identity.RealPid.{RealPid}
use Rattle.sys_abi.specs.declared.identity.VPid.{VPid}
use Rattle.sys_abi.proofs.OrderLaws.{vpid_total, vpid_exact}
use Rattle.fd_book.specs.Books.{Books}
use Rattle.leader_vote.specs.Elections.{after_vote}
use Rattle.leader_vote.proofs.Elections.{one_more_vote}
use Rattle.virt_ids.specs.Pairs.{AreInverse}
use Rattle.plain_machine.specs.declared.kernel.PlainKernel.{PlainKernel}
use Rattle.wire_net.specs.declared.agents.AgentEnd.{AgentEnd}
use Rattle.wire_net.specs.CutRooms.{RoomView}
use Rattle.wire_net.specs.Reserves.{Reserve}
use Rattle.host_tables.specs.declared.system.System.{System}
use Rattle.host_tables.specs.Numbers.{Pids}
use Rattle.leader_vote.specs.Owners.{Owners}
use Rattle.leader_vote.specs.Voters.{Voters, Virts, voter, marked}
use Rattle.cut_stages.specs.Cuts.{with_book, voted_by}
use Rattle.ckpt_stages.specs.Suspensions.{IsVoting, AreVoters, IsSuspended}
use Rattle.cut_stages.proofs.OtherOwners.{owners_voted}

-- one voter more has voted
marked_there : (voters : Voters) (p q : VPid) → IsSome (map.get voters q) → IsSome (map.get (marked voters
    p) q)
marked_there voters p q there = by_found (map.get voters p)
  where
    by_found : (found : Option Bool) → IsSome (map.get (option_map_or (λ _. map.insert voters p true) found
        voters) q)
    by_found None = there
    by_found (Some voted) = elim (same_or_other vpid_total vpid_exact q p) [
      | inl same ↦ ap is_some (ap (map.get (map.insert voters p true)) same
          ∙ get_insert_same vpid_total vpid_exact voters p true)
      | inr differ ↦ ap is_some (get_insert_other vpid_total vpid_exact voters p true q differ) ∙ there
    ]

marked_was : (voters : Voters) (p q : VPid) (voted : Bool) → map.get (marked voters p) q ≡ Some voted
    → IsSome (map.get voters q)
marked_was voters p q voted = by_found (map.get voters p) refl
  where
    by_found : (found : Option Bool) → map.get voters p ≡ found
        → map.get (option_map_or (λ _. map.insert voters p true) found voters) q ≡ Some voted
        → IsSome (map.get voters q)
    by_found None at is = ap is_some is
    by_found (Some before) at is = elim (same_or_other vpid_total vpid_exact q p) [
      | inl same ↦ ap is_some (ap (map.get voters) same ∙ at)
      | inr differ ↦ ap is_some (sym (get_insert_other vpid_total vpid_exact voters p true q differ) ∙ is)
    ]

unmarked : (voters : Voters) (p : VPid) → map.get voters p ≡ None → marked voters p ≡ voters
unmarked voters p none = ap (λ found. option_map_or (λ _. map.insert voters p true) found voters) none

module _ (virts : Virts) (pids : Pids) (inverse : AreInverse pids virts) (book : Books) (voters : Voters)
    (voting : IsVoting book virts voters) (p : VPid) (r : RealPid) (paired : map.get pids p.0 ≡ Some r) where
  abbrev order : List RealPid
  order = voting.order ++ r ∷ []

  abbrev HasVoted : VPid → Type 0
  HasVoted q = (r : RealPid) × ((map.get virts r ≡ Some q.0) × Contains order r)

  this_voted : HasVoted p
  this_voted = (
    r,
    (
      inverse.leads_back p.0 r paired,
      Contains-append_right voting.order (r ∷ []) r (0, omega arith, refl),
    ),
  )

  before_voted : (q : VPid) → map.get voters q ≡ Some true → HasVoted q
  before_voted q is =
      let one = voting.voted q is in
      (one.0, (one.1.0, Contains-append_left voting.order (r ∷ []) one.0 one.1.1))

  voted_then : (q : VPid) → map.get (marked voters p) q ≡ Some true → HasVoted q
  voted_then q = by_found (map.get voters p)
    where
      by_found : (found : Option Bool)
          → map.get (option_map_or (λ _. map.insert voters p true) found voters) q ≡ Some true → HasVoted q
      by_found None is = before_voted q is
      by_found (Some before) is = elim (same_or_other vpid_total vpid_exact q p) [
        | inl same ↦ subst HasVoted (sym same) this_voted
        | inr differ ↦ before_voted q (sym (get_insert_other vpid_total vpid_exact voters p true q differ)
            ∙ is)
      ]

  pub vote_counted : IsVoting (after_vote book r) virts (marked voters p)
  vote_counted = record {
    unowned = voting.unowned;
    none = voting.none;
    order = order;
    book_is = ap (λ b. after_vote b r) voting.book_is ∙ sym (one_more_vote voting.unowned voting.order r);
    voted = voted_then;
  }

voters_still : (s : System) (voters : Voters) (p : VPid) → AreVoters s voters → AreVoters s (marked voters p)
voters_still s voters p are = record {
  live = λ r v live paired. marked_there voters p (voter v) (are.live r v live paired);
  paired = λ q there. are.paired q (was q (map.get (marked voters p) q) refl there);
}
  where
    was : (q : VPid) (found : Option Bool) → map.get (marked voters p) q ≡ found → IsSome found
        → IsSome (map.get voters q)
    was q None is there = true_false (sym there)
    was q (Some voted) is there = marked_was voters p q voted is

module _ (s : System) (next_id : ℕ) (k : PlainKernel) (owners : Owners) (voters : Voters) (dirs : List Dir)
    (ends : Reserve AgentEnd) (room : RoomView)
    (is : IsSuspended s next_id k owners voters dirs ends room) (p : VPid) where
  abbrev IsThen : System → Voters → Type 0
  IsThen s voters = IsSuspended s next_id k owners voters dirs ends room

  inverse : AreInverse s.ids.pids s.ids.virts
  inverse =
      subst (λ (x : System). AreInverse x.ids.pids x.ids.virts) (sym is.cut.rest)
      is.cut.wrapped.stands.tables.paired.inverse

  by_real : (r : RealPid) → map.get s.ids.pids p.0 ≡ Some r
      → IsThen (with_book s (after_vote s.kernel.book r)) (marked voters p)
  by_real r paired = record {
    cut = record {
      before = is.cut.before;
      wrapped = is.cut.wrapped;
      plain = is.cut.plain;
      kept = is.cut.kept;
      book = owners_voted is.cut.before.kernel.book s.kernel.book r is.cut.book;
      frames = is.cut.frames;
      bytes = is.cut.bytes;
      rest = ap (λ (x : System). with_book x (after_vote s.kernel.book r)) is.cut.rest;
    };
    still = is.still;
    voting = vote_counted s.ids.virts s.ids.pids inverse s.kernel.book voters is.voting p r paired;
    voters_are = record {
      live = (voters_still s voters p is.voters_are).live;
      paired = (voters_still s voters p is.voters_are).paired;
    };
    listed = is.listed;
    reserved = record { ends_are = is.reserved.ends_are; room_is = is.reserved.room_is };
  }

  no_voter : map.get s.ids.pids p.0 ≡ None → map.get voters p ≡ None
  no_voter none = by_found (map.get voters p) refl
    where
      by_found : (found : Option Bool) → map.get voters p ≡ found → map.get voters p ≡ None
      by_found None at = at
      by_found (Some voted) at =
          true_false (sym (is.voters_are.paired p (ap is_some at)) ∙ ap is_some none)

  pub voted_on : IsThen (voted_by s p) (marked voters p)
  voted_on = by_found (map.get s.ids.pids p.0) refl
    where
      by_found : (found : Option RealPid) → map.get s.ids.pids p.0 ≡ found
          → IsThen (option_map_or (λ (r : RealPid). with_book s (after_vote s.kernel.book r)) found s)
          (marked voters p)
      by_found None at = subst (IsThen s) (sym (unmarked voters p (no_voter at))) is
      by_found (Some r) at = by_real r at
