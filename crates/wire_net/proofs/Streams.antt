-- Which calls leave the bytes of every direction as they are: a move from queue to queue, and an end.
--     stream-move                  the bytes of a direction after a move
--     stream-at_direction          a change of one direction that keeps its bytes keeps those of every direction
--     whereabouts-at_direction     and so also where agents hold a part of them
--     whereabouts-move             a move from queue to queue
--     whereabouts-none             without agents
--     stream-send, stream-receive  the bytes of a direction after a send, and after what was received
use Rattle.std.proofs.Common.{◌≡◌, ℕ, ◌==◌, Bool, true, false, List, ◌++◌, take, drop, append_assoc, refl, sym, ap, ◌∙◌, inl, inr}
use Rattle.std.specs.Prelude.{Option, Some, None, if◌then◌else◌}
use Rattle.std.specs.Option.{option_map, option_map_or}
use Rattle.std.specs.FinMap as map
use Rattle.std.proofs.lemmas.List.{take-append-drop}
use Rattle.views.proofs.MapLaws.{same_or_other, get_insert_same, get_insert_other}
use Rattle.sys_abi.specs.declared.identity.ConnId.{ConnId}
use Rattle.sys_abi.specs.declared.identity.Dir.{Dir}
use Rattle.sys_abi.specs.Orders.{dir_cmp}
use Rattle.sys_abi.proofs.OrderLaws.{conn_total, conn_exact}
use Rattle.wire_channels.specs.declared.channel.Channel.{Channel}
use Rattle.wire_channels.specs.declared.place.Place.{Place}
use Rattle.wire_channels.specs.declared.place.Place.TheVariants.{Send, Wire}
use Rattle.wire_channels.specs.Directions.{Direction, after_send, after_receive, after_move}
use Rattle.wire_channels.specs.Channels.{Channels, direction_of, at_side, direction_at, at_direction}
use Rattle.wire_net.specs.Networks.{Network}
use Rattle.wire_net.specs.Whereabouts.{Agents, stream, stream_on, reverse, placed, whereabouts}

pub stream-move : (place : Place) (n : ℕ) (direction : Direction) → stream (after_move place n direction) ≡ stream direction
stream-move Send n direction =
    ap (λ bytes. bytes ++ drop n direction.sent) (sym (append_assoc direction.received direction.wire (take n direction.sent)))
    ∙ append_assoc (direction.received ++ direction.wire) (take n direction.sent) (drop n direction.sent)
    ∙ ap (λ bytes. direction.received ++ direction.wire ++ bytes) (take-append-drop n direction.sent)
stream-move Wire n direction =
    ap (λ bytes. bytes ++ direction.sent) (append_assoc direction.received (take n direction.wire) (drop n direction.wire)
    ∙ ap (λ bytes. direction.received ++ bytes) (take-append-drop n direction.wire))

abbrev KeepsBytes : (Direction → Direction) → Type 0
KeepsBytes f = (direction : Direction) → stream (f direction) ≡ stream direction

abbrev chosen : Bool → Channel → Direction
chosen b channel = if b then channel.first else channel.second

abbrev changed : Bool → (Direction → Direction) → Channel → Channel
changed b f channel = if b then record channel { first = f channel.first } else record channel { second = f channel.second }

stream-changed : (a b : Bool) (f : Direction → Direction) (channel : Channel) → KeepsBytes f → stream (chosen a (changed b f channel)) ≡ stream (chosen a channel)
stream-changed true true f channel keeps = keeps channel.first
stream-changed true false f channel keeps = refl
stream-changed false true f channel keeps = refl
stream-changed false false f channel keeps = keeps channel.second

-- of the channel that was found at a name
stream-found : (m : Channels) (id : ConnId) (side : ℕ) (f : Direction → Direction) (e : Dir) (found : Option Channel) → KeepsBytes f → map.get m id ≡ found
    → stream_on (option_map (direction_of e.side) (map.get (option_map_or (λ channel. map.insert m id (at_side side f channel)) found m) e.conn))
    ≡ stream_on (option_map (direction_of e.side) (map.get m e.conn))
stream-found m id side f e None keeps is = refl
stream-found m id side f e (Some channel) keeps is = elim (same_or_other conn_total conn_exact e.conn id) [
  | inl same ↦
      ap (λ found. stream_on (option_map (direction_of e.side) found)) (ap (map.get (map.insert m id (at_side side f channel))) same ∙ get_insert_same conn_total conn_exact m id (at_side side f channel))
      ∙ stream-changed (e.side == 0) (side == 0) f channel keeps
      ∙ ap (λ found. stream_on (option_map (direction_of e.side) found)) (sym (ap (map.get m) same ∙ is))
  | inr differ ↦ ap (λ found. stream_on (option_map (direction_of e.side) found)) (get_insert_other conn_total conn_exact m id (at_side side f channel) e.conn differ)
]

pub stream-at_direction : (m : Channels) (d e : Dir) (f : Direction → Direction) → KeepsBytes f → stream_on (direction_at (at_direction m d f) e) ≡ stream_on (direction_at m e)
stream-at_direction m d e f keeps = stream-found m d.conn d.side f e (map.get m d.conn) keeps refl

pub whereabouts-at_direction : (t : Network) (agents : Agents) (d e : Dir) (f : Direction → Direction) → KeepsBytes f
    → whereabouts (record t { channels = at_direction t.channels d f }) agents e ≡ whereabouts t agents e
whereabouts-at_direction t agents d e f keeps =
    ap (λ (own : List ℕ). placed own (stream_on (direction_at (at_direction t.channels d f) (reverse e))) (map.get agents e)) (stream-at_direction t.channels d e f keeps)
    ∙ ap (λ (other : List ℕ). placed (stream_on (direction_at t.channels e)) other (map.get agents e)) (stream-at_direction t.channels d (reverse e) f keeps)

pub whereabouts-move : (t : Network) (agents : Agents) (d e : Dir) (place : Place) (n : ℕ)
    → whereabouts (record t { channels = at_direction t.channels d (after_move place n) }) agents e ≡ whereabouts t agents e
whereabouts-move t agents d e place n = whereabouts-at_direction t agents d e (after_move place n) (stream-move place n)

pub whereabouts-none : (t : Network) (d : Dir) → whereabouts t map.empty d ≡ stream_on (direction_at t.channels d)
whereabouts-none t d = ap (placed (stream_on (direction_at t.channels d)) (stream_on (direction_at t.channels (reverse d)))) (map.get-empty dir_cmp d)

pub stream-send : (piece : List ℕ) (direction : Direction) → stream (after_send piece direction) ≡ stream direction ++ piece
stream-send piece direction = sym (append_assoc (direction.received ++ direction.wire) direction.sent piece)

pub stream-receive : (n : ℕ) (direction : Direction) → take n direction.received ++ stream (after_receive n direction) ≡ stream direction
stream-receive n direction =
    sym (append_assoc (take n direction.received) (drop n direction.received ++ direction.wire) direction.sent)
    ∙ ap (λ bytes. bytes ++ direction.sent) (sym (append_assoc (take n direction.received) (drop n direction.received) direction.wire)
    ∙ ap (λ bytes. bytes ++ direction.wire) (take-append-drop n direction.received))
