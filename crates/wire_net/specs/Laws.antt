-- What calls do to the bytes of a direction, wherever they are: none is lost, doubled or put out of order.
-- Source: `man 7 tcp` (a reliable, ordered stream of bytes).
--     SendsAtEnd             what is sent stands behind all that was sent before
--     ReceivesFromFront      what is read stood before all that is still to be read
--     MovesKeepBytes         a move from queue to queue changes the bytes of no direction, whatever agents hold
--     QueuesAlone            without agents the bytes are those in the queues
use Rattle.std.specs.Prelude.{◌≡◌, ℕ, List, ◌++◌, take}
use Rattle.std.specs.FinMap as map
use Rattle.sys_abi.specs.declared.identity.Dir.{Dir}
use Rattle.wire_channels.specs.declared.place.Place.{Place}
use Rattle.wire_channels.specs.Directions.{Direction, after_send, after_receive, after_move}
use Rattle.wire_channels.specs.Channels.{direction_at, at_direction}
use Rattle.wire_net.specs.Networks.{Network}
use Rattle.wire_net.specs.Whereabouts.{Agents, stream, stream_on, whereabouts}

abbrev pub SendsAtEnd : Type 0
SendsAtEnd = (piece : List ℕ) (direction : Direction) → stream (after_send piece direction) ≡ stream direction ++ piece

abbrev pub ReceivesFromFront : Type 0
ReceivesFromFront = (n : ℕ) (direction : Direction) → take n direction.received ++ stream (after_receive n direction) ≡ stream direction

abbrev pub MovesKeepBytes : Type 0
MovesKeepBytes = (t : Network) (agents : Agents) (d e : Dir) (place : Place) (n : ℕ)
    → whereabouts (record t { channels = at_direction t.channels d (after_move place n) }) agents e ≡ whereabouts t agents e

abbrev pub QueuesAlone : Type 0
QueuesAlone = (t : Network) (d : Dir) → whereabouts t map.empty d ≡ stream_on (direction_at t.channels d)
