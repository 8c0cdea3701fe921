-- A step of an agent, one direction after the other.
--     Turn, end_cases        on a direction nothing happens, or the step on its channel
--     agent_some             who is named an agent is there
--     end_fits, ends_fit     the notes fit the network
--     end_dirs, ends_dirs    the same directions are noted
use Rattle.std.proofs.Common.{◌≡◌, Bool, true, false, List, [], ◌∷◌, refl, sym, ap, subst, ◌∙◌, inl, inr}
use Rattle.std.specs.Prelude.{Option, Some, None, IsSome, ◌⊎◌, ◌&&◌, ◌||◌, nat_lt, if◌then◌else◌}
use Rattle.views.proofs.MapLaws.{true_false}
use Rattle.sys_abi.specs.declared.identity.Dir.{Dir}
use Rattle.sys_abi.specs.declared.identity.RealPid.{RealPid}
use Rattle.wire_net.specs.declared.cut_room.DirNotes.{DirNotes}
use Rattle.wire_net.specs.Whereabouts.{reverse}
use Rattle.refill_core.specs.Tasks.{is_agent, read_count, note_read, channels_read, send_count, turn_note, turn_channels}
use Rattle.refill_core.specs.Refills.{Refilling, dirs_of, notes_at, put_notes, Fits, turn_found, turn_of, turn_after, turns_after}
use Rattle.refill_core.specs.Work.{moves_found, moves_of, moved_by}
use Rattle.refill_core.proofs.EndFits.{Pair, pair_of, ended, fits_ended}
use Rattle.refill_core.proofs.Pairs.{same_dirs}

abbrev pub FitsNow : Refilling → Type 0
FitsNow s = Fits s.channels s.notes

abbrev pub result_of : RealPid → Dir → Refilling → DirNotes → DirNotes → Refilling
result_of p d s x y = record { notes = put_notes d (turn_note p x y s.channels) s.notes; channels = turn_channels p x y s.channels }

pub record Turn (p : RealPid) (d : Dir) (s : Refilling) : Type 0 where
  pub x : DirNotes
  pub y : DirNotes
  pub pair : Pair s.channels s.notes d x y
  pub agent : is_agent p x.sender ≡ true
  pub sender : IsSome x.sender
  pub is : turn_after p d s ≡ result_of p d s x y
  pub moves : moved_by p d s ≡ moves_found p s x (Some y)

pub agent_some : (p : RealPid) (o : Option RealPid) → is_agent p o ≡ true → IsSome o
agent_some p None is = true_false (sym is)
agent_some p (Some q) is = refl

-- nothing happens, and nothing is moved
pub record Still (p : RealPid) (d : Dir) (s : Refilling) : Type 0 where
  pub is : turn_after p d s ≡ s
  pub moves : moved_by p d s ≡ false

pub end_cases : (p : RealPid) (d : Dir) (s : Refilling) → FitsNow s → Still p d s ⊎ Turn p d s
end_cases p d s fits = found (notes_at d s.notes) refl
  where
    turn : (x y : DirNotes) → notes_at d s.notes ≡ Some x → is_agent p x.sender ≡ true → Pair s.channels s.notes d x y → Turn p d s
    turn x y at agent pair =
        let other : notes_at (reverse x.dir) s.notes ≡ Some y = ap (λ (e : Dir). notes_at (reverse e) s.notes) pair.x_dir ∙ pair.y_at in record {
          x = x;
          y = y;
          pair = pair;
          agent = agent;
          sender = agent_some p x.sender agent;
          is =
              ap (turn_of p s) at ∙ ap (turn_found p s x) other
              ∙ ap (λ (b : Bool). if b then record { notes = put_notes x.dir (turn_note p x y s.channels) s.notes; channels = turn_channels p x y s.channels } else s) agent
              ∙ ap (λ (e : Dir). let t : Refilling = record { notes = put_notes e (turn_note p x y s.channels) s.notes; channels = turn_channels p x y s.channels } in t) pair.x_dir;
          moves = ap (moves_of p s) at ∙ ap (moves_found p s x) other;
        }

    idle : (x : DirNotes) (o : Option DirNotes) → is_agent p x.sender ≡ false → (turn_found p s x o ≡ s) × (moves_found p s x o ≡ false)
    idle x None none = (refl, refl)
    idle x (Some y) none = (
      ap (λ (b : Bool). if b then record { notes = put_notes x.dir (turn_note p x y s.channels) s.notes; channels = turn_channels p x y s.channels } else s) none,
      ap (λ (b : Bool). b && (nat_lt 0 (read_count p x s.channels) || nat_lt 0 (send_count p (note_read p x s.channels) y (channels_read p x s.channels)))) none,
    )

    agent : (x : DirNotes) (b : Bool) → notes_at d s.notes ≡ Some x → is_agent p x.sender ≡ b → Still p d s ⊎ Turn p d s
    agent x false at is =
        let none = idle x (notes_at (reverse x.dir) s.notes) is in
        inl (record { is = ap (turn_of p s) at ∙ none.0; moves = ap (moves_of p s) at ∙ none.1 })
    agent x true at is =
        let pair = pair_of s.channels s.notes d x fits at (agent_some p x.sender is) in
        inr (turn x pair.0 at is pair.1)

    found : (o : Option DirNotes) → notes_at d s.notes ≡ o → Still p d s ⊎ Turn p d s
    found None at = inl (record { is = ap (turn_of p s) at; moves = ap (moves_of p s) at })
    found (Some x) at = agent x (is_agent p x.sender) at refl

pub end_fits : (p : RealPid) (d : Dir) (s : Refilling) → FitsNow s → FitsNow (turn_after p d s)
end_fits p d s fits = elim (end_cases p d s fits) [
  | inl still ↦ subst FitsNow (sym still.is) fits
  | inr turn ↦ subst FitsNow (sym turn.is) (fits_ended p s.channels s.notes d turn.x turn.y fits turn.sender turn.pair)
]

pub ends_fit : (p : RealPid) (ds : List Dir) (s : Refilling) → FitsNow s → FitsNow (turns_after p ds s)
ends_fit p [] s fits = fits
ends_fit p (d ∷ ds) s fits = ends_fit p ds (turn_after p d s) (end_fits p d s fits)

pub end_dirs : (p : RealPid) (d : Dir) (s : Refilling) → FitsNow s → dirs_of (turn_after p d s).notes ≡ dirs_of s.notes
end_dirs p d s fits = elim (end_cases p d s fits) [
  | inl still ↦ ap (λ (t : Refilling). dirs_of t.notes) still.is
  | inr turn ↦
      let e = ended p s.channels s.notes d turn.x turn.y turn.pair in
      ap (λ (t : Refilling). dirs_of t.notes) turn.is ∙ same_dirs d (turn_note p turn.x turn.y s.channels) s.notes (ap (λ (z : DirNotes). z.dir) e.after_is ∙ e.dir)
]

pub ends_dirs : (p : RealPid) (ds : List Dir) (s : Refilling) → FitsNow s → dirs_of (turns_after p ds s).notes ≡ dirs_of s.notes
ends_dirs p [] s fits = refl
ends_dirs p (d ∷ ds) s fits = ends_dirs p ds (turn_after p d s) (end_fits p d s fits) ∙ end_dirs p d s fits
