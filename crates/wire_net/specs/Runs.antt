-- Whole runs of a stage of a checkpoint: steps of agents and moves of bytes, in any order.
-- Source: the DMTCP paper (IPDPS 2009), "drain kernel buffers" and "refill kernel buffers".
--     Event                      a step of an agent, or a move of bytes from queue to queue
--     IsAllowed e                a move names side 0 or 1
--     UnderWay                   the network, and what the agents have noted
--     after step e s             what an event leaves, by what a step of an agent leaves
--     run step events s          what a list of events leaves
--     moving moves e s           the event moves bytes of a noted direction, by whether a step does
--     moves_made step moves events s      how many of the events do
use Rattle.std.specs.Prelude.{◌<◌, ℕ, ◌+◌, nat_lt, Bool, ◌&&◌, List, [], ◌∷◌, length, if◌then◌else◌}
use Rattle.sys_abi.specs.declared.identity.Dir.{Dir}
use Rattle.sys_abi.specs.declared.identity.RealPid.{RealPid}
use Rattle.wire_channels.specs.declared.place.Place.{Place}
use Rattle.wire_channels.specs.Directions.{after_move}
use Rattle.wire_channels.specs.Channels.{direction_at, at_direction}
use Rattle.wire_net.specs.Networks.{Network}
use Rattle.wire_channels.specs.Answers.{bytes_on}
use Rattle.wire_net.specs.Noted.{Notes, has_notes}

pub data Event : Type 0 where
  Step : (agent : RealPid) → Event
  Move : (d : Dir) → (place : Place) → (n : ℕ) → Event

abbrev pub IsAllowed : Event → Type 0
IsAllowed (Step p) = Unit {0}
IsAllowed (Move d place n) = d.side < 2

pub record UnderWay : Type 0 where
  pub net : Network
  pub notes : Notes

abbrev pub Steps : Type 0
Steps = RealPid → UnderWay → UnderWay

abbrev pub after : Steps → Event → UnderWay → UnderWay
after step (Step p) s = step p s
after step (Move d place n) s = record s { net = record s.net { channels = at_direction s.net.channels d (after_move place n) } }

abbrev pub run : Steps → List Event → UnderWay → UnderWay
run step [] s = s
run step (e ∷ events) s = run step events (after step e s)

abbrev pub moving : (RealPid → UnderWay → Bool) → Event → UnderWay → Bool
moving moves (Step p) s = moves p s
moving moves (Move d place n) s = has_notes d s.notes && (nat_lt 0 n && nat_lt 0 (length (bytes_on place (direction_at s.net.channels d))))

abbrev pub moves_made : Steps → (RealPid → UnderWay → Bool) → List Event → UnderWay → ℕ
moves_made step moves [] s = 0
moves_made step moves (e ∷ events) s = (if moving moves e s then 1 else 0) + moves_made step moves events (after step e s)
