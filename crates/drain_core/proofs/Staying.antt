-- What stays in a drain: the frames of channels, and the agents of the notes.
--     step_keeps                     a step of an agent neither ends a direction nor stops its reader
--     frames_after, agents_after     what stays in a step
--     run_frames, run_agents         and in a whole run
use Rattle.std.proofs.Common.{◌≡◌, ◌==◌, Bool, true, false, List, [], ◌∷◌, take, refl, ap₂, ◌∙◌}
use Rattle.std.specs.Prelude.{if◌then◌else◌}
use Rattle.sys_abi.specs.declared.identity.RealPid.{RealPid}
use Rattle.wire_net.specs.declared.cut_room.DirNotes.{DirNotes}
use Rattle.wire_channels.specs.Channels.{Channels, direction_at, at_direction}
use Rattle.wire_channels.specs.Directions.{Direction, after_receive, after_send, after_move}
use Rattle.wire_channels.specs.Frames.{flags_of, SameFrames}
use Rattle.wire_net.specs.Noted.{NamedAgents}
use Rattle.wire_net.specs.Runs.{Event, Step, Move, UnderWay, after, run}
use Rattle.wire_channels.proofs.KeptFrames.{KeepsFlags, frames_kept, same_frames, then_same, moves_keep}
use Rattle.wire_net.proofs.NotedAgents.{agents_same}
use Rattle.drain_core.specs.Drains.{Notes, named_agents, notes_after, channels_after}
use Rattle.drain_core.specs.Runs.{step}
use Rattle.drain_core.specs.Tasks.{unsent, reads, sends, note_after, direction_after}
use Rattle.drain_core.proofs.AllDirections.{note_dir, note_sender, note_reader}

step_keeps : (p : RealPid) (x : DirNotes) → KeepsFlags (direction_after p x)
step_keeps p x direction = choice (sends p x middle == 0)
  where
    middle : Direction
    middle = after_receive (reads p x direction) direction

    choice : (none : Bool) → flags_of (if none then middle else after_send (take (sends p x middle) (unsent x)) middle) ≡ flags_of direction
    choice true = refl
    choice false = refl

pub frames_after : (p : RealPid) (notes : Notes) (m : Channels) → SameFrames m (channels_after p notes m)
frames_after p [] m = same_frames m
frames_after p (x ∷ notes) m =
    let next = at_direction m x.dir (direction_after p x) in
    then_same m next (channels_after p notes next) (frames_kept m x.dir (direction_after p x) (step_keeps p x)) (frames_after p notes next)

pub agents_after : (p : RealPid) (m : Channels) (notes : Notes) → named_agents (notes_after p m notes) ≡ named_agents notes
agents_after p m [] = refl
agents_after p m (x ∷ notes) =
    let found = direction_at m x.dir in
    ap₂ (λ (agents : NamedAgents) (rest : List NamedAgents). agents ∷ rest) (agents_same (note_after p found x) x (note_dir p found x) (note_sender p found x) (note_reader p found x))
    (agents_after p m notes)

event_frames : (e : Event) (s : UnderWay) → SameFrames s.net.channels (after step e s).net.channels
event_frames (Step p) s = frames_after p s.notes s.net.channels
event_frames (Move d place n) s = frames_kept s.net.channels d (after_move place n) (moves_keep place n)

pub run_frames : (events : List Event) (s : UnderWay) → SameFrames s.net.channels (run step events s).net.channels
run_frames [] s = same_frames s.net.channels
run_frames (e ∷ events) s =
    then_same s.net.channels (after step e s).net.channels (run step events (after step e s)).net.channels (event_frames e s) (run_frames events (after step e s))

event_agents : (e : Event) (s : UnderWay) → named_agents (after step e s).notes ≡ named_agents s.notes
event_agents (Step p) s = agents_after p s.net.channels s.notes
event_agents (Move d place n) s = refl

pub run_agents : (events : List Event) (s : UnderWay) → named_agents (run step events s).notes ≡ named_agents s.notes
run_agents [] s = refl
run_agents (e ∷ events) s = run_agents events (after step e s) ∙ event_agents e s
