-- A step that does not answer that it moved bytes changes nothing.
--     mover_left                  who moves bytes has work left
--     unmoved                     where it does not answer so it moves none
--     still_notes, still_net      where it moves none, notes and network stay as they are
use Rattle.std.proofs.Common.{◌≡◌, ◌≢◌, ℕ, ◌+◌, ◌≤◌, Bool, true, false, [], ◌∷◌, take, refl, sym, ap, ap₂, ◌∙◌, arith, inl, inr}
use Rattle.std.specs.Prelude.{Option, Some, None, All, nat_lt, not, ◌&&◌, ◌||◌, if◌then◌else◌}
use Rattle.std.specs.Option.{option_map_or}
use Rattle.std.proofs.lemmas.Bool.{or_parts}
use Rattle.std.proofs.lemmas.Bool.Decides.{nat_tests}
use Rattle.std.proofs.lemmas.List.Elements.{All-head, All-tail}
use Rattle.views.proofs.MapLaws.{true_false}
use Rattle.sys_abi.specs.declared.identity.RealPid.{RealPid}
use Rattle.wire_net.specs.declared.agents.Stepped.TheVariants.{Moved}
use Rattle.wire_net.specs.declared.cut_room.DirNotes.{DirNotes}
use Rattle.wire_channels.specs.Directions.{Direction, after_receive}
use Rattle.wire_channels.specs.Channels.{Channels, direction_at, at_direction}
use Rattle.drain_core.specs.Tasks.{is_agent, has_sent, readable, sendable, reads, sends, moves, noted_read, noted_sent, with_sent, note_after, direction_after}
use Rattle.drain_core.specs.Drains.{Notes, IsNoted, reads_on, is_left, has_work, moves_on, moves_any, step_answer, notes_after, channels_after}
use Rattle.wire_net.proofs.Gains.{not_moved}
use Rattle.wire_channels.proofs.OneDirection.{agreeing_changes, unchanged_direction}
use Rattle.drain_core.proofs.OneDrain.{unsent_length}

nothing_read : (p : RealPid) (x : DirNotes) (direction : Direction) → IsNoted x → (is_agent p x.reader && reads_on x) ≡ false → reads p x direction ≡ 0
nothing_read p x direction noted none = choice (is_agent p x.reader) (reads_on x) refl none
  where
    choice : (agent on : Bool) → reads_on x ≡ on → (agent && on) ≡ false → (if agent then readable x direction else 0) ≡ 0
    choice false on at none = refl
    choice true true at none = true_false none
    choice true false at none =
        let all : x.count + 16 ≤ x.read = grind (arith, nat_tests, at) in
        omega (arith, all)

nothing_sent : (p : RealPid) (x : DirNotes) (direction : Direction) → (is_agent p x.sender && not (has_sent x)) ≡ false → sends p x direction ≡ 0
nothing_sent p x direction none = choice (is_agent p x.sender) (has_sent x) refl none
  where
    choice : (agent sent : Bool) → has_sent x ≡ sent → (agent && not sent) ≡ false → (if agent then sendable x direction else 0) ≡ 0
    choice false sent at none = refl
    choice true false at none = true_false none
    choice true true at none =
        let all : x.sent ≡ 16 = grind (arith, nat_tests, at) in
        let left = unsent_length x in
        omega (arith, all, left)

-- who moves bytes of a direction has work left on it
pub mover_left : (p : RealPid) (x : DirNotes) (direction : Direction) → IsNoted x → moves p x direction ≡ true → is_left p x ≡ true
mover_left p x direction noted some = choice (is_left p x) refl
  where
    choice : (b : Bool) → is_left p x ≡ b → is_left p x ≡ true
    choice true at = at
    choice false at =
        let parts = or_parts (is_agent p x.reader && reads_on x) (is_agent p x.sender && not (has_sent x)) at in
        true_false (sym some ∙ ap₂ (λ (r s : ℕ). nat_lt 0 r || nat_lt 0 s) (nothing_read p x direction noted parts.0) (nothing_sent p x direction parts.1))

-- ---- a step that moves nothing

zero_test : (n : ℕ) → nat_lt 0 n ≡ false → n ≡ 0
zero_test n is = grind (arith, nat_tests, is)

record MovesNone (p : RealPid) (x : DirNotes) (direction : Direction) : Type 0 where
  read : reads p x direction ≡ 0
  sent : sends p x (after_receive (reads p x direction) direction) ≡ 0

moves_none : (p : RealPid) (x : DirNotes) (direction : Direction) → moves p x direction ≡ false → MovesNone p x direction
moves_none p x direction none =
    let parts = or_parts (nat_lt 0 (reads p x direction)) (nat_lt 0 (sends p x direction)) none in
    let read = zero_test (reads p x direction) parts.0 in record {
      read = read;
      sent = ap (λ (n : ℕ). sends p x (after_receive n direction)) read ∙ zero_test (sends p x direction) parts.1;
    }

still_note : (p : RealPid) (found : Option Direction) (x : DirNotes) → option_map_or (moves p x) found false ≡ false → note_after p found x ≡ x
still_note p None x none = refl
still_note p (Some direction) x none =
    let is = moves_none p x direction none in ap₂ (λ (s r : ℕ). noted_sent s (noted_read (take r direction.received) x)) is.sent is.read

still_direction : (p : RealPid) (m : Channels) (x : DirNotes) → moves_on p m x ≡ false → at_direction m x.dir (direction_after p x) ≡ m
still_direction p m x none =
    agreeing_changes m x.dir (direction_after p x) (λ direction. direction) (λ direction at.
    let is = moves_none p x direction (sym (ap (λ (found : Option Direction). option_map_or (moves p x) found false) at) ∙ none) in
    ap₂ (λ (s r : ℕ). with_sent s x (after_receive r direction)) is.sent is.read)
    ∙ unchanged_direction m x.dir (λ direction. direction) (λ direction. refl)

pub still_notes : (p : RealPid) (m : Channels) (notes : Notes) → moves_any p m notes ≡ false → notes_after p m notes ≡ notes
still_notes p m [] none = refl
still_notes p m (x ∷ notes) none =
    let parts = or_parts (moves_on p m x) (moves_any p m notes) none in
    ap₂ (λ (y : DirNotes) (l : Notes). y ∷ l) (still_note p (direction_at m x.dir) x parts.0) (still_notes p m notes parts.1)

pub still_net : (p : RealPid) (m : Channels) (notes : Notes) → moves_any p m notes ≡ false → channels_after p notes m ≡ m
still_net p m [] none = refl
still_net p m (x ∷ notes) none =
    let parts = or_parts (moves_on p m x) (moves_any p m notes) none in
    ap (channels_after p notes) (still_direction p m x parts.0) ∙ still_net p m notes parts.1

-- ---- who has no work left moves nothing

idle_on : (p : RealPid) (x : DirNotes) (found : Option Direction) → IsNoted x → is_left p x ≡ false → option_map_or (moves p x) found false ≡ false
idle_on p x None noted none = refl
idle_on p x (Some direction) noted none =
    let parts = or_parts (is_agent p x.reader && reads_on x) (is_agent p x.sender && not (has_sent x)) none in
    ap₂ (λ (r s : ℕ). nat_lt 0 r || nat_lt 0 s) (nothing_read p x direction noted parts.0) (nothing_sent p x direction parts.1)

idle_any : (p : RealPid) (m : Channels) (notes : Notes) → All IsNoted notes → has_work p notes ≡ false → moves_any p m notes ≡ false
idle_any p m [] noted none = refl
idle_any p m (x ∷ notes) noted none =
    let parts = or_parts (is_left p x) (has_work p notes) none in
    ap₂ (λ (a b : Bool). a || b) (idle_on p x (direction_at m x.dir) (All-head IsNoted x notes noted) parts.0) (idle_any p m notes (All-tail IsNoted x notes noted) parts.1)

pub unmoved : (p : RealPid) (m : Channels) (notes : Notes) → All IsNoted notes → step_answer p m notes ≢ Moved → moves_any p m notes ≡ false
unmoved p m notes noted other = elim (not_moved (has_work p notes) (moves_any p m notes) other) [
  | inl none ↦ idle_any p m notes noted none
  | inr none ↦ none
]
