-- What stays while agents refill: the frames of channels, and the agents of the notes.
--     turns_frames, turns_agents       what stays in a step
--     step_frames, step_agents         as the list of the notes has it
use Rattle.std.proofs.Common.{◌≡◌, ℕ, ◌==◌, Bool, true, false, List, [], ◌∷◌, take, refl, sym, ap, ap₂, subst, ◌∙◌, inl, inr}
use Rattle.std.specs.Prelude.{Option, Some, None, All, if◌then◌else◌}
use Rattle.std.specs.Ordering.{eq_by_cmp}
use Rattle.std.proofs.lemmas.List.Elements.{All-head, All-tail}
use Rattle.views.proofs.MapLaws.{same_key}
use Rattle.sys_abi.specs.declared.identity.Dir.{Dir}
use Rattle.sys_abi.specs.declared.identity.RealPid.{RealPid}
use Rattle.sys_abi.specs.Orders.{dir_cmp}
use Rattle.sys_abi.proofs.OrderLaws.{dir_total, dir_exact}
use Rattle.wire_net.specs.declared.cut_room.DirNotes.{DirNotes}
use Rattle.wire_channels.specs.Channels.{Channels}
use Rattle.wire_channels.specs.Directions.{after_receive, after_send}
use Rattle.wire_channels.specs.Frames.{flags_of, SameFrames}
use Rattle.wire_net.specs.Networks.{Network}
use Rattle.wire_net.specs.Noted.{NamedAgents, agents_in}
use Rattle.wire_net.specs.Whereabouts.{reverse}
use Rattle.wire_channels.proofs.KeptFrames.{KeepsFlags, frames_kept, same_frames, then_same}
use Rattle.refill_core.specs.Refills.{Notes, Refilling, Fits, dirs_of, named_agents, notes_at, put_notes, turn_found, turn_of, turn_after, turns_after}
use Rattle.refill_core.specs.Stepping.{state}
use Rattle.refill_core.specs.Tasks.{is_agent, part, read_count, note_read, channels_read, send_count, sent_on, turn_note, turn_channels}
use Rattle.refill_core.proofs.Whole.{FitsNow, end_cases, end_fits}
use Rattle.refill_core.proofs.WorkLaws.{only_one}

sent_keeps : (k : ℕ) (piece : List ℕ) → KeepsFlags (sent_on k piece)
sent_keeps k piece direction = choice (k == 0)
  where
    choice : (none : Bool) → flags_of (if none then direction else after_send (take k piece) direction) ≡ flags_of direction
    choice true = refl
    choice false = refl

pub channels_framed : (p : RealPid) (x y : DirNotes) (m : Channels) → SameFrames m (turn_channels p x y m)
channels_framed p x y m =
    let read = channels_read p x m in
    let piece = part (note_read p x m) y in
    let k = send_count p (note_read p x m) y read in
    then_same m read (turn_channels p x y m) (frames_kept m (reverse x.dir) (after_receive (read_count p x m)) (λ direction. refl)) (frames_kept read x.dir (sent_on k piece) (sent_keeps k piece))

found_frames : (p : RealPid) (s : Refilling) (x : DirNotes) (other : Option DirNotes) → SameFrames s.channels (turn_found p s x other).channels
found_frames p s x None = same_frames s.channels
found_frames p s x (Some y) = choice (is_agent p x.sender)
  where
    choice : (b : Bool) → SameFrames s.channels (if b then record { notes = put_notes x.dir (turn_note p x y s.channels) s.notes; channels = turn_channels p x y s.channels } else s).channels
    choice true = channels_framed p x y s.channels
    choice false = same_frames s.channels

turn_frames : (p : RealPid) (s : Refilling) (found : Option DirNotes) → SameFrames s.channels (turn_of p s found).channels
turn_frames p s None = same_frames s.channels
turn_frames p s (Some x) = found_frames p s x (notes_at (reverse x.dir) s.notes)

turns_frames : (p : RealPid) (ds : List Dir) (s : Refilling) → SameFrames s.channels (turns_after p ds s).channels
turns_frames p [] s = same_frames s.channels
turns_frames p (d ∷ ds) s =
    then_same s.channels (turn_after p d s).channels (turns_after p ds (turn_after p d s)).channels (turn_frames p s (notes_at d s.notes)) (turns_frames p ds (turn_after p d s))

put_agents : (d : Dir) (x v : DirNotes) (notes : Notes) → agents_in v ≡ agents_in x → All (λ z. z.dir ≡ d → z ≡ x) notes → named_agents (put_notes d v notes) ≡ named_agents notes
put_agents d x v [] same only = refl
put_agents d x v (z ∷ notes) same only =
    ap₂ (λ (agents : NamedAgents) (rest : List NamedAgents). agents ∷ rest) (choice (eq_by_cmp dir_cmp z.dir d) refl) (put_agents d x v notes same (All-tail (λ w. w.dir ≡ d → w ≡ x) z notes only))
  where
    choice : (b : Bool) → eq_by_cmp dir_cmp z.dir d ≡ b → agents_in (if b then v else z) ≡ agents_in z
    choice true at = same ∙ sym (ap agents_in (All-head (λ w. w.dir ≡ d → w ≡ x) z notes only (same_key dir_total dir_exact z.dir d at)))
    choice false at = refl

turn_agents : (p : RealPid) (d : Dir) (s : Refilling) → FitsNow s → named_agents (turn_after p d s).notes ≡ named_agents s.notes
turn_agents p d s fits = elim (end_cases p d s fits) [
  | inl still ↦ ap (λ (t : Refilling). named_agents t.notes) still.is
  | inr turn ↦
      ap (λ (t : Refilling). named_agents t.notes) turn.is
      ∙ put_agents d turn.x (turn_note p turn.x turn.y s.channels) s.notes refl (only_one d s.notes turn.x fits.apart turn.pair.x_at)
]

turns_agents : (p : RealPid) (ds : List Dir) (s : Refilling) → FitsNow s → named_agents (turns_after p ds s).notes ≡ named_agents s.notes
turns_agents p [] s fits = refl
turns_agents p (d ∷ ds) s fits = turns_agents p ds (turn_after p d s) (end_fits p d s fits) ∙ turn_agents p d s fits

pub step_frames : (p : RealPid) (w l : Notes) (t u : Network) → state w u ≡ turns_after p (dirs_of l) (state l t) → SameFrames t.channels u.channels
step_frames p w l t u after = subst (λ (s : Refilling). SameFrames t.channels s.channels) (sym after) (turns_frames p (dirs_of l) (state l t))

pub step_agents : (p : RealPid) (w l : Notes) (t u : Network) → Fits t.channels l → state w u ≡ turns_after p (dirs_of l) (state l t) → named_agents w ≡ named_agents l
step_agents p w l t u fits after = ap (λ (s : Refilling). named_agents s.notes) after ∙ turns_agents p (dirs_of l) (state l t) fits
