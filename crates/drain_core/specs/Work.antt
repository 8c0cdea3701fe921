-- How much of a drain is left.
--     unfinished x           one for each of the two tasks, to read and to send, that is not ended
--     work_on x direction    of a direction that agents drain: the bytes still to be sent, moved or read, each counted once for each of these, and what
--                            is unfinished
--     work_aside direction   of a direction that none drains: the bytes still to be moved
--     work_left m notes      of all directions
--     GoesOn m notes         an agent's step answers that it moved bytes, or bytes can be moved from queue to queue
use Rattle.std.specs.Prelude.{◌≡◌, ◌⊎◌, ◌*◌, ℕ, ◌+◌, ◌-◌, length, is_some, if◌then◌else◌}
use Rattle.std.specs.Option.{option_map_or}
use Rattle.std.specs.List.{sum_by}
use Rattle.sys_abi.specs.declared.identity.RealPid.{RealPid}
use Rattle.wire_net.specs.declared.agents.Stepped.TheVariants as answer
use Rattle.wire_net.specs.declared.cut_room.DirNotes.{DirNotes}
use Rattle.wire_channels.specs.Directions.{Direction}
pub use Rattle.wire_net.specs.Noted.{CanMove}
use Rattle.wire_channels.specs.Channels.{Channels, direction_at}
use Rattle.drain_core.specs.declared.limits.TheConstants.{COOKIE_LENGTH}
use Rattle.drain_core.specs.Tasks.{has_sent}
use Rattle.drain_core.specs.Drains.{Notes, reads_on, step_answer}

abbrev pub work_aside : Direction → ℕ
work_aside direction = 2 * length direction.sent + length direction.wire

abbrev pub unfinished : DirNotes → ℕ
unfinished x = (if reads_on x then 1 else 0) + (if has_sent x then 0 else 1)

-- a byte of the cookie is sent, moved twice and read
abbrev pub work_on : DirNotes → Direction → ℕ
work_on x direction =
    4 * (COOKIE_LENGTH - x.sent) + 3 * length direction.sent + 2 * length direction.wire + length direction.received + unfinished x

abbrev pub work_of : DirNotes → Direction → ℕ
work_of x direction = if is_some x.sender then work_on x direction else work_aside direction

abbrev pub work_at : Channels → DirNotes → ℕ
work_at m x = option_map_or (work_of x) (direction_at m x.dir) 0

abbrev pub work_left : Channels → Notes → ℕ
work_left m notes = sum_by (work_at m) notes

-- somebody goes on with the drain
abbrev pub GoesOn : Channels → Notes → Type 0
GoesOn m notes = ((p : RealPid) × (step_answer p m notes ≡ answer.Moved)) ⊎ CanMove m notes
