-- Elections of leaders by F_SETOWN: a voter owns what it holds, and the last owner set leads.
-- Source: `man 2 fcntl` (F_SETOWN); DMTCP's election of leaders of shared descriptors.
--     leader_of b id            the process that leads a description
--     is_holder                 whether a process has a descriptor of a description, the test of `IsHolder`
--     after_vote, after_votes   the book after a vote;  after votes alone, one after another
--     after_vote_by b p found   the book after a vote by one descriptor
--     IsHeld b id               a description that some process holds
--     HasOneLeader b id         exactly one process leads the description, and it is one of its holders
--     ActsFor b pending c p     the process leads a listener at which the connection is pending
--     HasOneActor               exactly one process acts for the connection, the leader of its listener
--     IsLed b pending           the leader law: each description that a process holds has one leader, and each connection that is pending at one
--                               listener alone, which a process holds, has one actor
--     NoneOwned, HaveVoted      no description has an owner;  each holder is among the voters
--     LastVoterLeads, NoneWithoutVote, VotesGiveLeaders, OwnersAlone, OneMoreVote      what votes come to
--     TestsHolders              the test of a holder is the fact
use Rattle.std.specs.Prelude.{◌≡◌, Bool, true, ◌&&◌, if◌then◌else◌, List, [], ◌∷◌, ◌++◌, map as mapped, reverse, fold, find, Option, Some, None, IsSome, Contains, ◌↔◌}
use Rattle.std.specs.Option.{option_map, option_and_then}
use Rattle.std.specs.List.{list_any}
use Rattle.std.specs.Ordering.{eq_by_cmp}
use Rattle.std.specs.declared.cmp.Ordering.{Ordering}
use Rattle.std.specs.FinMap as map
use Rattle.std.specs.FinMap.{FinMap}
use Rattle.sys_abi.specs.declared.identity.ConnId.{ConnId}
use Rattle.sys_abi.specs.declared.identity.DescId.{DescId}
use Rattle.sys_abi.specs.declared.identity.RealPid.{RealPid}
use Rattle.sys_abi.specs.Orders.{real_pid_cmp}
use Rattle.fd_tables.specs.declared.description.Desc.{Desc}
use Rattle.sys_abi.specs.declared.descriptor.Descriptor.{Descriptor}
use Rattle.fd_tables.specs.Orders.{real_slot_cmp}
use Rattle.fd_book.specs.Books.{Books, with_changed}
use Rattle.fd_tables.specs.Slots.{refers_to, IsHolder}
use Rattle.fd_tables.specs.Parts.{with_owner}

abbrev pub leader_of : Books → DescId → Option RealPid
leader_of b id = option_and_then (λ d. d.owner) (map.get b.descriptions id)

unfoldable pub is_holder : FinMap real_slot_cmp Descriptor → DescId → RealPid → Bool
is_holder descriptors id p = list_any (λ e. eq_by_cmp real_pid_cmp p e.0.pid && refers_to id e.1) (map.entries descriptors)

-- f of each key and value, at the same keys
unfoldable pub map_entries : {K X : Type 0} {R : K → K → Ordering} → (K → X → X) → FinMap R X → FinMap R X
map_entries f m = map.from_sorted (mapped (λ e. (e.0, f e.0 e.1)) (map.entries m))

-- the description, owned by the voter where it holds it
abbrev pub after_vote_of : FinMap real_slot_cmp Descriptor → RealPid → DescId → Desc → Desc
after_vote_of descriptors p id d = if is_holder descriptors id p then with_owner (Some p) d else d

unfoldable pub after_vote : Books → RealPid → Books
after_vote b p = record { descriptions = map_entries (after_vote_of b.descriptors p) b.descriptions; descriptors = b.descriptors }

abbrev pub after_votes : Books → List RealPid → Books
after_votes b voters = fold after_vote b voters

abbrev pub after_vote_by : Books → RealPid → Option Descriptor → Books
after_vote_by b p None = b
after_vote_by b p (Some d) = with_changed (with_owner (Some p)) b d.desc

pub record IsHeld (b : Books) (id : DescId) : Type 0 where
  pub there : IsSome (map.get b.descriptions id)
  pub holder : RealPid
  pub holds : IsHolder b.descriptors id holder

pub record HasOneLeader (b : Books) (id : DescId) : Type 0 where
  pub leader : RealPid
  pub leads : leader_of b id ≡ Some leader
  pub holds : IsHolder b.descriptors id leader
  pub only : (p : RealPid) → leader_of b id ≡ Some p → p ≡ leader

-- the connections that are pending, each with the listener at which it is
abbrev pub Pending : Type 0
Pending = List (ConnId × DescId)

abbrev pub ActsFor : Books → Pending → ConnId → RealPid → Type 0
ActsFor b pending c p = (listener : DescId) × Contains pending (c, listener) × (leader_of b listener ≡ Some p)

pub record HasOneActor (b : Books) (pending : Pending) (c : ConnId) (listener : DescId) : Type 0 where
  pub actor : RealPid
  pub acts : ActsFor b pending c actor
  pub leads : leader_of b listener ≡ Some actor
  pub holds : IsHolder b.descriptors listener actor
  pub only : (p : RealPid) → ActsFor b pending c p → p ≡ actor

-- the connection is pending at this listener alone
pub record IsPendingAt (pending : Pending) (c : ConnId) (listener : DescId) : Type 0 where
  pub listed : Contains pending (c, listener)
  pub alone : (other : DescId) → Contains pending (c, other) → other ≡ listener

pub record IsLed (b : Books) (pending : Pending) : Type 0 where
  pub descriptions : (id : DescId) → IsHeld b id → HasOneLeader b id
  pub connections : (c : ConnId) (listener : DescId) → IsPendingAt pending c listener → IsHeld b listener → HasOneActor b pending c listener

abbrev pub NoneOwned : Books → Type 0
NoneOwned b = (id : DescId) → leader_of b id ≡ None

abbrev pub HaveVoted : Books → List RealPid → Type 0
HaveVoted b voters = (id : DescId) (p : RealPid) → IsHolder b.descriptors id p → Contains voters p

abbrev pub LastVoterLeads : Type 0
LastVoterLeads = (b : Books) (voters : List RealPid) (id : DescId) → NoneOwned b → IsSome (map.get b.descriptions id)
    → leader_of (after_votes b voters) id ≡ find (is_holder b.descriptors id) (reverse voters)

abbrev pub NoneWithoutVote : Type 0
NoneWithoutVote = (b : Books) (voters : List RealPid) (id : DescId) → NoneOwned b → IsSome (map.get b.descriptions id)
    → (leader_of (after_votes b voters) id ≡ None) ↔ ((p : RealPid) → IsHolder b.descriptors id p → Contains voters p → ⊥)

abbrev pub VotesGiveLeaders : Type 0
VotesGiveLeaders = (b : Books) (voters : List RealPid) (pending : Pending) → NoneOwned b → HaveVoted b voters → IsLed (after_votes b voters) pending

-- descriptors stay, and of a description all but its owner
abbrev pub OwnersAlone : Type 0
OwnersAlone = (b : Books) (voters : List RealPid)
    → ((after_votes b voters).descriptors ≡ b.descriptors)
    × ((id : DescId) → option_map (with_owner None) (map.get (after_votes b voters).descriptions id) ≡ option_map (with_owner None) (map.get b.descriptions id))

abbrev pub OneMoreVote : Type 0
OneMoreVote = (b : Books) (voters : List RealPid) (p : RealPid) → after_votes b (voters ++ p ∷ []) ≡ after_vote (after_votes b voters) p

abbrev pub TestsHolders : Type 0
TestsHolders = (descriptors : FinMap real_slot_cmp Descriptor) (id : DescId) (p : RealPid) → (is_holder descriptors id p ≡ true) ↔ IsHolder descriptors id p
