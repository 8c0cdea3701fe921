-- Datagram pairs, and the inboxes of a plain kernel part.
-- Source: `man 2 socketpair`.
--     peer_of pairs id queue side       the description of the other end of this one
--     IsOpenEnd pairs id queue side     an open end, which is that of this description
--     SameInboxes                       each description's inbox is what waits at the end that it names
use Rattle.std.specs.Prelude.{◌≡◌, ℕ, ◌-◌, ◌<◌, Bool, true, List, Option, Some, None, option_map, option_and_then}
use Rattle.std.specs.Option.{option_map_or}
use Rattle.std.specs.FinMap as map
use Rattle.std.specs.FinMap.{FinMap}
use Rattle.views.specs.Numbers.{Byte}
use Rattle.sys_abi.specs.declared.identity.DescId.{DescId}
use Rattle.sys_abi.specs.Orders.{desc_cmp}
use Rattle.conn_table.specs.declared.pairs.DatagramPair.{DatagramPair}
use Rattle.conn_table.specs.Pairs.{Pairs, end_of, is_open}
use Rattle.fd_tables.specs.declared.description.Desc.{Desc}
use Rattle.fd_tables.specs.declared.description.Object.{Object}
use Rattle.fd_tables.specs.declared.description.Object.TheVariants as real_object
use Rattle.plain_machine.specs.OfPlainTables.Tables.{Inboxes}

abbrev pub RealDescriptions : Type 0
RealDescriptions = FinMap desc_cmp Desc

-- the other end may have closed
abbrev pub peer_of : Pairs → DescId → ℕ → ℕ → DescId
peer_of pairs id queue side =
    option_map_or (λ pair. (end_of (1 - side) pair).desc) (map.get pairs queue) id

abbrev pub told_end : ℕ → DatagramPair → DescId × Bool
told_end side pair = ((end_of side pair).desc, (end_of side pair).is_open)

abbrev pub IsOpenEnd : Pairs → DescId → ℕ → ℕ → Type 0
IsOpenEnd pairs id queue side =
    (side < 2) × (option_map (told_end side) (map.get pairs queue) ≡ Some (id, true))

abbrev pub inbox_of : Pairs → Object → Option (List (List Byte))
inbox_of pairs (real_object.Datagram queue side) =
    option_map (λ pair. (end_of side pair).inbox) (map.get pairs queue)
inbox_of pairs _ = None

-- and each open end is that of a description, and each pair has one
pub record SameInboxes (pairs : Pairs) (inboxes : Inboxes) (real : RealDescriptions) : Type 0 where
  pub each : (id : DescId)
      → map.get inboxes id ≡ option_and_then (λ d. inbox_of pairs d.object) (map.get real id)
  pub described : (queue side : ℕ) (pair : DatagramPair) → map.get pairs queue ≡ Some pair → side < 2
      → (end_of side pair).is_open ≡ true
      → option_map (λ d. d.object) (map.get real (end_of side pair).desc)
      ≡ Some (real_object.Datagram queue side)
  pub opened : (queue : ℕ) (pair : DatagramPair) → map.get pairs queue ≡ Some pair → is_open pair ≡ true
