-- A network whose bytes were taken off it for a checkpoint, and the lists that have them.
-- Source: the DMTCP paper (IPDPS 2009), "drain kernel buffers" and "refill kernel buffers".
--     list_on d lists            the list of a direction
--     IsListOf m list            what a list says of its direction: of a live channel it has all bytes, and none is left in the queues; of another
--                                one all bytes can be read where they are, and the list has the same
--     IsDrained m lists          so it is with all lists, and no two are of one direction
--     HasLists m lists           each direction of the network has one
--     IsNamingLists lengths lists      a room names each direction once, and that of each list with at least the length of the list
--     agents_of_lists lists      what is held of each direction: the list of one that was taken off; a list that was left in place is held by nobody
use Rattle.std.specs.Prelude.{◌≡◌, ◌<◌, ◌≤◌, ℕ, Bool, true, false, not, List, [], ◌∷◌, length, map as each, find, Option, IsSome, IfSome, All, if◌then◌else◌}
use Rattle.std.specs.FinMap as map
use Rattle.std.specs.List.{list_any}
use Rattle.std.specs.Ordering.{eq_by_cmp}
use Rattle.sys_abi.specs.declared.identity.Dir.{Dir}
use Rattle.sys_abi.specs.Orders.{dir_cmp}
use Rattle.wire_net.specs.declared.cut_room.DirBytes.{DirBytes}
use Rattle.wire_channels.specs.declared.limits.TheConstants.{QUEUE_LIMIT}
use Rattle.wire_channels.specs.Channels.{Channels, direction_at, is_live_at}
use Rattle.wire_net.specs.CutRooms.{Named}
use Rattle.wire_channels.specs.Answers.{received_on}
use Rattle.wire_net.specs.Noted.{Apart}
use Rattle.wire_net.specs.Whereabouts.{Held, Agents, stream_on}

abbrev pub list_on : Dir → List DirBytes → Option DirBytes
list_on d lists = find (λ list. eq_by_cmp dir_cmp list.dir d) lists

-- the bytes of a list, those in the queues of its direction, and those of them that can be read
abbrev pub StandsIf : Bool → List ℕ → List ℕ → List ℕ → Type 0
StandsIf false bytes stream received = stream ≡ []
StandsIf true bytes stream received = (stream ≡ received) × (received ≡ bytes)

pub record IsListOf (m : Channels) (list : DirBytes) : Type 0 where
  pub side : list.dir.side < 2
  pub few : length list.bytes ≤ QUEUE_LIMIT
  pub place : list.in_place ≡ not (is_live_at m list.dir.conn)
  pub stands : StandsIf list.in_place list.bytes (stream_on (direction_at m list.dir)) (received_on (direction_at m list.dir))

pub record IsDrained (m : Channels) (lists : List DirBytes) : Type 0 where
  pub apart : Apart (each (λ list. list.dir) lists)
  pub lists_of : All (IsListOf m) lists

abbrev pub HasLists : Channels → List DirBytes → Type 0
HasLists m lists = (d : Dir) → d.side < 2 → IsSome (direction_at m d) → IsSome (list_on d lists)

pub record IsNamingLists (lengths : List Named) (lists : List DirBytes) : Type 0 where
  pub apart : Apart (each (λ named. named.0) lengths)
  pub sides : All (λ named. named.0.side < 2) lengths
  pub room : All (λ named. IfSome (list_on named.0 lists) (λ list. length list.bytes ≤ named.1)) lengths
  pub whole : (d : Dir) → IsSome (list_on d lists) → list_any (λ named. eq_by_cmp dir_cmp named.0 d) lengths ≡ true

-- these bytes, and nothing in the queues
abbrev pub taken_off : List ℕ → Held
taken_off bytes = record { drained = bytes; foreign = 0; plain = 0; returned = []; header = 0; framed = 0; unframed = [] }

abbrev pub agents_of_lists : List DirBytes → Agents
agents_of_lists [] = map.empty
agents_of_lists (list ∷ lists) = if list.in_place then agents_of_lists lists else map.insert (agents_of_lists lists) list.dir (taken_off list.bytes)
