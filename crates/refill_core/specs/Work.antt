-- How much of a refill is left.
--     way direction              the bytes before the receiver's queue, each counted once for each queue that it must still leave
--     work_live x y direction    of a direction that agents refill: the bytes still to be sent, moved, or read in its frame, each counted once for each
--                                of these, and one for each of the two tasks, to read the frame and to send all, that is not ended
--     work_left m notes          of all directions
--     moved_by, moved_any        p's turn on a direction moves bytes;  one of its turns on all of them does, one after the other
--     is_left, has_work          p has work left on a direction;  on any
--     is_finished, is_done       nothing is left to do on a direction;  on any
--     step_answer                what a step answers
--     must_send x y              the sender of the direction with the notes x has bytes to send now
--     IsBlocked p m x y          p can move nothing where it sends the direction with the notes x and reads the other one, with the notes y
--     IsHeldUp p m notes         p has work left and can move nothing
--     GoesOn s                   an agent's step answers that it moved bytes, or bytes can be moved from queue to queue
use Rattle.std.specs.Prelude.{◌≡◌, ◌==◌, ◌≤◌, ◌⊎◌, ◌*◌, ℕ, ◌+◌, ◌-◌, nat_lt, Bool, true, false, not, ◌&&◌, ◌||◌, List, [], ◌∷◌, length, Option, Some, None, IfSome, is_some, All, if◌then◌else◌}
use Rattle.std.specs.Option.{option_map_or}
use Rattle.std.specs.List.{sum_by, list_any, list_all}
use Rattle.sys_abi.specs.declared.identity.Dir.{Dir}
use Rattle.sys_abi.specs.declared.identity.RealPid.{RealPid}
use Rattle.wire_net.specs.declared.agents.Stepped.{Stepped}
use Rattle.wire_net.specs.declared.agents.Stepped.TheVariants as answer
use Rattle.wire_net.specs.declared.cut_room.DirNotes.{DirNotes}
use Rattle.wire_channels.specs.declared.limits.TheConstants.{QUEUE_LIMIT}
use Rattle.wire_channels.specs.Directions.{Direction, standing}
pub use Rattle.wire_net.specs.Noted.{answer_of, CanMove}
use Rattle.wire_channels.specs.Channels.{Channels, direction_at}
use Rattle.wire_channels.specs.Answers.{received_on}
use Rattle.wire_net.specs.Whereabouts.{reverse}
use Rattle.refill_core.specs.Tasks.{frame_length, has_back, read_count, note_read, channels_read, send_count, is_agent}
use Rattle.refill_core.specs.Refills.{Notes, Refilling, dirs_of, notes_at, turn_after}

abbrev pub way : Direction → ℕ
way direction = 2 * length direction.sent + length direction.wire

-- the whole frame of the other direction and all its own bytes are sent
abbrev pub has_sent_all : DirNotes → DirNotes → Bool
has_sent_all x y = x.sent == (frame_length y + x.count)

abbrev pub unfinished : DirNotes → DirNotes → ℕ
unfinished x y = (if has_back x then 0 else 1) + (if has_sent_all x y then 0 else 1)

abbrev pub work_live : DirNotes → DirNotes → Direction → ℕ
work_live x y direction = 3 * (frame_length y + x.count - x.sent) + way direction + (frame_length x - x.read) + unfinished x y

abbrev pub work_of : DirNotes → Option DirNotes → Option Direction → ℕ
work_of x _ None = 0
work_of x None (Some direction) = way direction
work_of x (Some y) (Some direction) = if is_some x.sender then work_live x y direction else way direction

abbrev pub work_at : Channels → Notes → DirNotes → ℕ
work_at m notes x = work_of x (notes_at (reverse x.dir) notes) (direction_at m x.dir)

abbrev pub work_left : Channels → Notes → ℕ
work_left m notes = sum_by (work_at m notes) notes

abbrev pub moves_found : RealPid → Refilling → DirNotes → Option DirNotes → Bool
moves_found p s x None = false
moves_found p s x (Some y) =
    is_agent p x.sender && (nat_lt 0 (read_count p x s.channels) || nat_lt 0 (send_count p (note_read p x s.channels) y (channels_read p x s.channels)))

abbrev pub moves_of : RealPid → Refilling → Option DirNotes → Bool
moves_of p s None = false
moves_of p s (Some x) = moves_found p s x (notes_at (reverse x.dir) s.notes)

abbrev pub moved_by : RealPid → Dir → Refilling → Bool
moved_by p d s = moves_of p s (notes_at d s.notes)

abbrev pub moved_any : RealPid → List Dir → Refilling → Bool
moved_any p [] s = false
moved_any p (d ∷ ds) s = moved_by p d s || moved_any p ds (turn_after p d s)

-- ---- what is left to do, as tests

abbrev pub is_left : RealPid → Notes → DirNotes → Bool
is_left p notes x = is_agent p x.sender && option_map_or (λ y. not (has_back x) || not (has_sent_all x y)) (notes_at (reverse x.dir) notes) false

abbrev pub has_work : RealPid → Notes → Bool
has_work p notes = list_any (is_left p notes) notes

abbrev pub has_arrived : Direction → Bool
has_arrived direction = (length direction.sent == 0) && (length direction.wire == 0)

abbrev pub finished_of : DirNotes → Option DirNotes → Option Direction → Bool
finished_of x _ None = true
finished_of x None (Some direction) = has_arrived direction
finished_of x (Some y) (Some direction) = if is_some x.sender then (has_back x && has_sent_all x y) && has_arrived direction else has_arrived direction

abbrev pub is_finished : Channels → Notes → DirNotes → Bool
is_finished m notes x = finished_of x (notes_at (reverse x.dir) notes) (direction_at m x.dir)

abbrev pub is_done : Channels → Notes → Bool
is_done m notes = list_all (is_finished m notes) notes

abbrev pub step_answer : RealPid → Refilling → Stepped
step_answer p s = answer_of (has_work p s.notes) (moved_any p (dirs_of s.notes) s)

-- the frame of the other direction is not wholly sent, or its own bytes are back and not all sent again
abbrev pub must_send : DirNotes → DirNotes → Bool
must_send x y = nat_lt x.sent (frame_length y) || (has_back x && not (has_sent_all x y))

-- what the agent must read is empty, and what it must write is full
pub record IsBlocked (p : RealPid) (m : Channels) (x y : DirNotes) : Type 0 where
  pub empty : is_agent p x.sender ≡ true → has_back x ≡ false → received_on (direction_at m (reverse x.dir)) ≡ []
  pub full : is_agent p x.sender ≡ true → must_send x y ≡ true → IfSome (direction_at m x.dir) (λ direction. QUEUE_LIMIT ≤ standing direction)

pub record IsHeldUp (p : RealPid) (m : Channels) (notes : Notes) : Type 0 where
  pub work : has_work p notes ≡ true
  pub blocked : All (λ x. IfSome (notes_at (reverse x.dir) notes) (IsBlocked p m x)) notes

-- somebody goes on with the refill
abbrev pub GoesOn : Refilling → Type 0
GoesOn s = ((p : RealPid) × (step_answer p s ≡ answer.Moved)) ⊎ CanMove s.channels s.notes
