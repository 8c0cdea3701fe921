-- What a step of an agent does to the network, and what a move of bytes from queue to queue does while agents
-- drain.
--     IsStepOf p x before after y      a step of p on a direction with these notes: it takes bytes only from the front of the receiver's queue, and only for
--                                      the reading end, adds bytes only at the back of the sender's, and only for the sending end, and the list grows by
--                                      a stretch of what was taken
--     StepsAtEnds      so it is on each noted direction
--     OthersStay       a direction without notes is left as it is
--     MoveFits         the notes fit the network after a move
--     MoveLowers       less is left to do where bytes of a noted direction were moved
use Rattle.std.specs.Prelude.{◌≡◌, ◌<◌, ℕ, length, take, true, false, Some, IfSome, All}
use Rattle.sys_abi.specs.declared.identity.Dir.{Dir}
use Rattle.sys_abi.specs.declared.identity.RealPid.{RealPid}
use Rattle.wire_net.specs.declared.cut_room.DirNotes.{DirNotes}
use Rattle.wire_channels.specs.declared.place.Place.{Place}
use Rattle.wire_net.specs.AgentSteps.{IsStepOn, GrowsBy}
use Rattle.wire_channels.specs.Directions.{Direction, after_move}
use Rattle.wire_channels.specs.Channels.{Channels, direction_at, at_direction}
use Rattle.wire_channels.specs.Answers.{bytes_on}
use Rattle.drain_core.specs.Tasks.{is_agent, note_after}
use Rattle.drain_core.specs.Drains.{Notes, Fits, has_notes, channels_after}
use Rattle.drain_core.specs.Work.{work_left}

pub record IsStepOf (p : RealPid) (x : DirNotes) (before after : Direction) (y : DirNotes) : Type 0 where
  pub on : IsStepOn (is_agent p x.reader) (is_agent p x.sender) before after
  pub drained : GrowsBy (take on.taken before.received) x.drained.items y.drained.items
  pub returned : y.returned ≡ x.returned

abbrev pub StepsAtEnds : Type 0
StepsAtEnds = (p : RealPid) (m : Channels) (notes : Notes) → Fits m notes
    → All (λ x. IfSome (direction_at m x.dir) (λ before. IfSome (direction_at (channels_after p notes m) x.dir) (λ after. IsStepOf p x before after (note_after p (Some before) x)))) notes

abbrev pub OthersStay : Type 0
OthersStay = (p : RealPid) (m : Channels) (notes : Notes) (d : Dir) → d.side < 2 → Fits m notes → has_notes d notes ≡ false → direction_at (channels_after p notes m) d ≡ direction_at m d

abbrev pub MoveFits : Type 0
MoveFits = (m : Channels) (notes : Notes) (d : Dir) (place : Place) (n : ℕ) → d.side < 2 → Fits m notes → Fits (at_direction m d (after_move place n)) notes

abbrev pub MoveLowers : Type 0
MoveLowers = (m : Channels) (notes : Notes) (d : Dir) (place : Place) (n : ℕ) → d.side < 2 → Fits m notes → has_notes d notes ≡ true → 0 < n → 0 < length (bytes_on place (direction_at m d))
    → work_left (at_direction m d (after_move place n)) notes < work_left m notes
