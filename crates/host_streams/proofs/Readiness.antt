-- Whether a read or a write of a channel has an answer yet, on both sides.
--     direction_found, direction_gone      the direction of a channel that is there, and of one that is not
--     received_count, standing_count       how many bytes are where, by the lengths of the queues
--     broken_found                         whether a direction that is there is broken
--     receivable_told, sendable_told       the answers
use Rattle.std.proofs.Common.{◌≡◌, ℕ, ◌+◌, ◌<◌, ◌≤◌, Bool, true, false, ◌&&◌, ◌||◌, [], ◌∷◌, length, Option, Some, None, refl, sym, ap, ◌∙◌, arith}
use Rattle.std.specs.Prelude.{◌==◌, not, nat_lt, is_some, option_map, slice_index, IfSome}
use Rattle.std.specs.Option.{option_map_or}
use Rattle.std.specs.FinMap as map
use Rattle.views.specs.Limits.{DIRECTION_LIMIT}
use Rattle.views.proofs.MapLaws.{true_false}
use Rattle.sys_abi.specs.declared.identity.Dir.{Dir}
use Rattle.plain_tables.specs.declared.channel.Direction as plain_direction
use Rattle.plain_machine.specs.declared.kernel.PlainKernel.{PlainKernel}
use Rattle.plain_machine.specs.Transfers.Streams.{is_receivable, is_sendable}
use Rattle.wire_channels.specs.declared.channel.Channel.{Channel}
use Rattle.wire_channels.specs.Answers.{received_on, counts_of}
use Rattle.wire_channels.specs.Channels as channels
use Rattle.wire_channels.specs.Directions.{Direction, standing}
use Rattle.wire_net.specs.Networks.{Network}
use Rattle.host_processes.proofs.HandedOn.{plain_of}
use Rattle.host_processes.specs.OfHostTables.declared.kernel.Kernel.{Kernel}
use Rattle.host_processes.specs.OfHostTables.Stands.{Given, Stands}
use Rattle.host_processes.proofs.OfHostTables.DirectionChanges.{IsSeen, seen_direction}
use Rattle.host_streams.specs.Lanes.{is_broken_at, can_receive, can_send}
use Rattle.host_streams.proofs.DirectionBytes.{standing_is}
use Rattle.host_streams.proofs.ReadRows.{no_direction}

gone_by : (side : ℕ) (o : Option Channel) → is_some o ≡ false
    → option_map (channels.direction_of side) o ≡ None
gone_by side None none = refl
gone_by side (Some channel) none = true_false none

pub direction_gone : (m : channels.Channels) (d : Dir) → is_some (map.get m d.conn) ≡ false
    → channels.direction_at m d ≡ None
direction_gone m d none = gone_by d.side (map.get m d.conn) none

found_by : (side : ℕ) (o : Option Channel) → is_some o ≡ true
    → (y : Direction) × (option_map (channels.direction_of side) o ≡ Some y)
found_by side None some = true_false (sym some)
found_by side (Some channel) some = (channels.direction_of side channel, refl)

pub direction_found : (m : channels.Channels) (d : Dir) → is_some (map.get m d.conn) ≡ true
    → (y : Direction) × (channels.direction_at m d ≡ Some y)
direction_found m d some = found_by d.side (map.get m d.conn) some

-- lengths of queues

pub received_count : (o : Option Direction)
    → slice_index (option_map_or counts_of o (0 ∷ 0 ∷ 0 ∷ [])) 2 ≡ length (received_on o)
received_count None = refl
received_count (Some y) = refl

pub received_few : (o : Option Direction) → IfSome o (λ direction. standing direction ≤ 65536)
    → length (received_on o) ≤ 65536
received_few None few = omega arith
received_few (Some y) few = omega (arith, few)

pub standing_count : (o : Option Direction) →
    let counts = option_map_or counts_of o (0 ∷ 0 ∷ 0 ∷ []) in
    slice_index counts 0 + slice_index counts 1 + slice_index counts 2 ≡ option_map_or standing o 0
standing_count None = refl
standing_count (Some y) = refl

pub standing_few : (o : Option Direction) → IfSome o (λ direction. standing direction ≤ 65536)
    → option_map_or standing o 0 ≤ 65536
standing_few None few = omega arith
standing_few (Some y) few = few

-- answers

module _ (g : Given) (real : Kernel) (k : PlainKernel) (st : Stands g None real k) (d : Dir)
    (less : d.side < 2) (count : ℕ) where
  abbrev on : Option Channel → Option Direction
  on o = option_map (channels.direction_of d.side) o

  abbrev broken_on : Option Channel → Bool
  broken_on o =
      option_map_or (λ (y : Direction). y.is_ended) (on o) false
      || option_map_or (λ (y : Direction). y.is_unread) (on o) false

  abbrev receive_on : Option Channel → Bool
  receive_on o =
      not (is_some o) || (count == 0) || nat_lt 0 (length (received_on (on o)))
      || (broken_on o && (option_map_or standing (on o) 0 == 0))

  abbrev send_on : Option Channel → Bool
  send_on o =
      not (is_some o) || (count == 0) || broken_on o
      || nat_lt (option_map_or standing (on o) 0) DIRECTION_LIMIT

  module _ (y : Direction) (there : channels.direction_at real.net.channels d ≡ Some y) where
    abbrev x : plain_direction.Direction
    x = (plain_of g real k st d less y there).0

    at : map.get k.directions d ≡ Some x
    at = (plain_of g real k st d less y there).1.0

    seen : IsSeen x y
    seen = seen_direction real.net d x y there (plain_of g real k st d less y there).1.1

    received_same :
        ((count == 0) || nat_lt 0 (length y.received) || ((y.is_ended || y.is_unread) && (standing y == 0)))
        ≡ is_receivable count (map.get k.directions d)
    received_same =
        sym (ap (is_receivable count) at
        ∙ (λ i. (count == 0) || nat_lt 0 (seen.arrived i)
        || ((seen.ended i || seen.unread i)
        && (standing_is x y seen i == 0))))

    sent_same :
        ((count == 0) || (y.is_ended || y.is_unread) || nat_lt (standing y) DIRECTION_LIMIT)
        ≡ is_sendable count (map.get k.directions d)
    sent_same =
        sym (ap (is_sendable count) at
        ∙ (λ i. (count == 0) || (seen.ended i || seen.unread i)
        || nat_lt (standing_is x y seen i) DIRECTION_LIMIT))

  received_by : (o : Option Channel) → map.get real.net.channels d.conn ≡ o
      → receive_on o ≡ is_receivable count (map.get k.directions d)
  received_by None is = sym (ap (is_receivable count) (no_direction g real k st d less (ap on is)))
  received_by (Some channel) is = received_same (channels.direction_of d.side channel) (ap on is)

  pub receivable_told : can_receive real.net d count ≡ is_receivable count (map.get k.directions d)
  receivable_told =
      received_by (map.get real.net.channels d.conn) refl

  sent_by : (o : Option Channel) → map.get real.net.channels d.conn ≡ o
      → send_on o ≡ is_sendable count (map.get k.directions d)
  sent_by None is = sym (ap (is_sendable count) (no_direction g real k st d less (ap on is)))
  sent_by (Some channel) is = sent_same (channels.direction_of d.side channel) (ap on is)

  pub sendable_told : can_send real.net d count ≡ is_sendable count (map.get k.directions d)
  sendable_told = sent_by (map.get real.net.channels d.conn) refl

pub broken_found : (t : Network) (d : Dir) (y : Direction) → channels.direction_at t.channels d ≡ Some y
    → (y.is_ended || y.is_unread) ≡ is_broken_at t d
broken_found t d y there =
    sym (ap (λ o. option_map_or (λ (z : Direction). z.is_ended) o false
    || option_map_or (λ (z : Direction). z.is_unread) o false) there)
