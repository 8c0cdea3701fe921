-- What steps of agents and moves of bytes from queue to queue do while agents refill, how a refill begins,
-- and what it holds all along.
--     acts p found       p acts for the end that sends the direction with these notes
--     IsNotedStep before after x y
--                        the notes x may become y, by the bytes that can be read off the other direction before and
--                        after: of what was read off its front all that stands behind the length of the frame is added
--                        to what is back, the drained bytes and the agent stay
--     StepsOn p e s      what a step of p may do to the queues of the direction
--     readable e s       what can be read off the other direction
--     IsStepAt p e s t   from s to t bytes are taken off the front of the direction's receiving queue only if p acts for
--                        its reading end, and added at the back of its sending queue only if p acts for its sending end;
--                        its notes change in this way
--     StepsAtEnds        so it is on each direction with each step of p
--     MoveFits           the notes fit the network after a move
--     MoveLowers         less is left to do where bytes of a noted direction were moved
--     BeginFits          the notes of a refill of which no byte has moved fit the network
--     HoldsDrained       all along, the bytes of a direction that is refilled are what was drained of it
use Rattle.std.specs.Prelude.{◌≡◌, ◌<◌, ℕ, ◌+◌, ◌-◌, Bool, true, false, List, ◌++◌, drop, length, Option, IfSome, is_some}
use Rattle.std.specs.Option.{option_map_or}
use Rattle.sys_abi.specs.declared.identity.Dir.{Dir}
use Rattle.sys_abi.specs.declared.identity.RealPid.{RealPid}
use Rattle.wire_net.specs.declared.cut_room.DirNotes.{DirNotes}
use Rattle.wire_channels.specs.declared.place.Place.{Place}
use Rattle.wire_net.specs.AgentSteps.{IsStepOn}
use Rattle.wire_channels.specs.Directions.{Direction, after_move}
use Rattle.wire_channels.specs.Channels.{Channels, direction_at, at_direction}
use Rattle.wire_net.specs.Networks.{Network}
use Rattle.wire_channels.specs.Answers.{bytes_on, received_on}
use Rattle.wire_net.specs.Whereabouts.{stream_on, reverse}
use Rattle.refill_core.specs.declared.limits.TheConstants.{HEADER_LENGTH}
use Rattle.refill_core.specs.Tasks.{is_agent}
use Rattle.refill_core.specs.Refills.{Notes, Fits, Refilling, dirs_of, has_notes, notes_at, turns_after}
use Rattle.refill_core.specs.Beginnings.{IsBeginning}
use Rattle.refill_core.specs.Holding.{agents_of, own_bytes, whereabouts}
use Rattle.refill_core.specs.Work.{work_left}

abbrev pub acts : RealPid → Option DirNotes → Bool
acts p found = option_map_or (λ x. is_agent p x.sender) found false

pub record IsNotedStep (before after : List ℕ) (x y : DirNotes) : Type 0 where
  pub read : List ℕ
  pub front : before ≡ read ++ after
  pub counted : y.read ≡ x.read + length read
  pub returned : y.returned.items ≡ x.returned.items ++ drop (HEADER_LENGTH - x.read) read
  pub drained : y.drained ≡ x.drained
  pub sender : y.sender ≡ x.sender

-- the agent of the reading end is the one that sends the other direction
abbrev pub StepsOn : RealPid → Dir → Refilling → Direction → Direction → Type 0
StepsOn p e s before after = IsStepOn (acts p (notes_at (reverse e) s.notes)) (acts p (notes_at e s.notes)) before after

-- what can be read off the other direction
abbrev pub readable : Dir → Refilling → List ℕ
readable e s = received_on (direction_at s.channels (reverse e))

pub record IsStepAt (p : RealPid) (e : Dir) (s t : Refilling) : Type 0 where
  pub there : is_some (direction_at t.channels e) ≡ is_some (direction_at s.channels e)
  pub queues : IfSome (direction_at s.channels e) (λ before. IfSome (direction_at t.channels e) (StepsOn p e s before))
  pub noted : is_some (notes_at e t.notes) ≡ is_some (notes_at e s.notes)
  pub lists : IfSome (notes_at e s.notes) (λ x. IfSome (notes_at e t.notes) (IsNotedStep (readable e s) (readable e t) x))

abbrev pub StepsAtEnds : Type 0
StepsAtEnds = (p : RealPid) (s : Refilling) → Fits s.channels s.notes
    → (e : Dir) → e.side < 2 → IsStepAt p e s (turns_after p (dirs_of s.notes) s)

abbrev pub MoveFits : Type 0
MoveFits = (m : Channels) (notes : Notes) (d : Dir) (place : Place) (n : ℕ) → d.side < 2 → Fits m notes → Fits (at_direction m d (after_move place n)) notes

abbrev pub MoveLowers : Type 0
MoveLowers = (m : Channels) (notes : Notes) (d : Dir) (place : Place) (n : ℕ) → d.side < 2 → Fits m notes → has_notes d notes ≡ true → 0 < n → 0 < length (bytes_on place (direction_at m d))
    → work_left (at_direction m d (after_move place n)) notes < work_left m notes

abbrev pub BeginFits : Type 0
BeginFits = (m : Channels) (notes : Notes) → IsBeginning m notes → Fits m notes

abbrev pub HoldsDrained : Type 0
HoldsDrained = (t : Network) (notes : Notes) (d : Dir) → Fits t.channels notes → whereabouts t (agents_of notes) d ≡ own_bytes (notes_at d notes) (stream_on (direction_at t.channels d))
