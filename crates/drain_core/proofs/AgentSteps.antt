-- What a step of an agent does, as `wire_net` asks it of a step.
--     one_step               to a direction, and to what is noted of it
--     steps_at_ends          to each noted direction
--     others_stay            a direction without notes is left as it is
--     note_returned          what came back stays, so that the room is the same
--     same_rooms             so it is for all notes
use Rattle.std.proofs.Common.{◌≡◌, ◌≢◌, ℕ, ◌==◌, ◌+◌, ◌-◌, ◌<◌, Bool, true, false, List, [], ◌∷◌, ◌++◌, take, drop, refl, sym, ap, ap₂, subst, ◌∙◌, arith, append-nil}
use Rattle.std.specs.Prelude.{Option, Some, None, All, IfSome, if◌then◌else◌}
use Rattle.std.specs.Option.{option_map}
use Rattle.std.specs.Ordering.{eq_by_cmp}
use Rattle.std.proofs.Math.Seq.{take-nil}
use Rattle.std.proofs.lemmas.Bool.{or_parts}
use Rattle.std.proofs.lemmas.Bool.Decides.{nat_tests}
use Rattle.std.proofs.lemmas.List.Elements.{All-nil, All-cons}
use Rattle.views.proofs.MapLaws.{true_false, key_tied}
use Rattle.sys_abi.specs.declared.identity.Dir.{Dir}
use Rattle.sys_abi.specs.declared.identity.RealPid.{RealPid}
use Rattle.sys_abi.specs.Orders.{dir_cmp}
use Rattle.sys_abi.proofs.OrderLaws.{dir_total, dir_exact}
use Rattle.wire_net.specs.declared.cut_room.DirNotes.{DirNotes}
use Rattle.wire_net.specs.AgentSteps.{GrowsBy}
use Rattle.wire_channels.specs.Channels.{Channels, direction_at}
use Rattle.wire_net.specs.CutRooms.{Named, name_of, names_of}
use Rattle.wire_channels.specs.Directions.{Direction, after_send}
use Rattle.wire_net.specs.Reserves.{Reserve}
use Rattle.drain_core.specs.Drains.{Notes, Fits, has_notes, notes_after, channels_after}
use Rattle.drain_core.specs.Laws.{IsStepOf}
use Rattle.drain_core.specs.Tasks.{is_agent, unsent, readable, sendable, reads, sends, noted_read, noted_sent, with_sent, after_reading, direction_after, note_after, note_after_on}
use Rattle.drain_core.proofs.AllDirections.{for_each, note_dir, own_after}
use Rattle.drain_core.proofs.Walk.{untouched}

-- ---- the direction

received_same : (k : ℕ) (x : DirNotes) (direction : Direction) → (with_sent k x direction).received ≡ direction.received
received_same k x direction = choice (k == 0)
  where
    choice : (b : Bool) → (if b then direction else after_send (take k (unsent x)) direction).received ≡ direction.received
    choice true = refl
    choice false = refl

wire_same : (k : ℕ) (x : DirNotes) (direction : Direction) → (with_sent k x direction).wire ≡ direction.wire
wire_same k x direction = choice (k == 0)
  where
    choice : (b : Bool) → (if b then direction else after_send (take k (unsent x)) direction).wire ≡ direction.wire
    choice true = refl
    choice false = refl

sent_more : (k : ℕ) (x : DirNotes) (direction : Direction) → (with_sent k x direction).sent ≡ direction.sent ++ take k (unsent x)
sent_more k x direction = choice (k == 0) refl
  where
    choice : (b : Bool) → (k == 0) ≡ b → (if b then direction else after_send (take k (unsent x)) direction).sent ≡ direction.sent ++ take k (unsent x)
    choice true at =
        let zero : k ≡ 0 = grind (arith, nat_tests, at) in
        sym (ap (λ (j : ℕ). direction.sent ++ take j (unsent x)) zero ∙ append-nil direction.sent)
    choice false at = refl

not_read : (p : RealPid) (x : DirNotes) (direction : Direction) → is_agent p x.reader ≡ false → reads p x direction ≡ 0
not_read p x direction is = ap (λ (b : Bool). if b then readable x direction else 0) is

not_sent : (p : RealPid) (x : DirNotes) (direction : Direction) → is_agent p x.sender ≡ false → sends p x direction ≡ 0
not_sent p x direction is = ap (λ (b : Bool). if b then sendable x direction else 0) is

-- ---- what is noted of it

sent_drained : (k : ℕ) (x : DirNotes) → (noted_sent k x).drained ≡ x.drained
sent_drained k x = choice (k == 0)
  where
    choice : (b : Bool) → (if b then x else record x { sent = x.sent + k }).drained ≡ x.drained
    choice true = refl
    choice false = refl

sent_returned : (k : ℕ) (x : DirNotes) → (noted_sent k x).returned ≡ x.returned
sent_returned k x = choice (k == 0)
  where
    choice : (b : Bool) → (if b then x else record x { sent = x.sent + k }).returned ≡ x.returned
    choice true = refl
    choice false = refl

read_returned : (piece : List ℕ) (x : DirNotes) → (noted_read piece x).returned ≡ x.returned
read_returned [] x = refl
read_returned (byte ∷ bytes) x = refl

pub note_returned : (p : RealPid) (found : Option Direction) (x : DirNotes) → (note_after p found x).returned ≡ x.returned
note_returned p None x = refl
note_returned p (Some direction) x = sent_returned _ _ ∙ read_returned _ x

-- the bytes before the cookie are kept
grows : (piece : List ℕ) (x : DirNotes) (k : ℕ) → GrowsBy piece x.drained.items (noted_sent k (noted_read piece x)).drained.items
grows piece x k = record {
  from = 0;
  count = x.count - x.read;
  grown = ap (λ (r : Reserve ℕ). r.items) (sent_drained k (noted_read piece x)) ∙ read piece;
}
  where
    read : (l : List ℕ) → (noted_read l x).drained.items ≡ x.drained.items ++ take (x.count - x.read) (drop 0 l)
    read [] = sym (ap (λ (l : List ℕ). x.drained.items ++ l) (take-nil (x.count - x.read)) ∙ append-nil x.drained.items)
    read (byte ∷ bytes) = refl

-- ---- both

pub one_step : (p : RealPid) (x : DirNotes) (direction : Direction) → IsStepOf p x direction (direction_after p x direction) (note_after_on p direction x)
one_step p x direction =
    let middle = after_reading p x direction in
    let k = sends p x middle in record {
      on = record {
        taken = reads p x direction;
        added = take k (unsent x);
        received = received_same k x middle;
        wire = wire_same k x middle;
        sent = sent_more k x middle;
        unread = not_read p x direction;
        silent = λ is. ap (λ (j : ℕ). take j (unsent x)) (not_sent p x middle is);
      };
      drained = grows (take (reads p x direction) direction.received) x k;
      returned = note_returned p (Some direction) x;
    }

-- ---- all directions

pub steps_at_ends : (p : RealPid) (m : Channels) (notes : Notes) → Fits m notes
    → All (λ x. IfSome (direction_at m x.dir) (λ before. IfSome (direction_at (channels_after p notes m) x.dir) (λ after. IsStepOf p x before after (note_after p (Some before) x)))) notes
steps_at_ends p m notes fits =
    for_each (λ x. IfSome (direction_at m x.dir) (λ before. IfSome (direction_at (channels_after p notes m) x.dir) (λ after. IsStepOf p x before after (note_after p (Some before) x)))) notes
    (λ front back x among. subst (StepOn x (direction_at m x.dir)) (sym (own_after p m notes front back x fits among)) (step_on x (direction_at m x.dir)))
  where
    StepOn : DirNotes → Option Direction → Option Direction → Type 0
    StepOn x first last = IfSome first (λ before. IfSome last (λ after. IsStepOf p x before after (note_after p (Some before) x)))

    step_on : (x : DirNotes) (o : Option Direction) → StepOn x o (option_map (direction_after p x) o)
    step_on x None = tt
    step_on x (Some direction) = one_step p x direction

-- no notes are of the direction
none_noted : (d : Dir) (notes : Notes) → has_notes d notes ≡ false → All (λ x. x.dir ≢ d) notes
none_noted d [] none = All-nil (λ (x : DirNotes). x.dir ≢ d)
none_noted d (x ∷ notes) none =
    let parts = or_parts (eq_by_cmp dir_cmp x.dir d) (has_notes d notes) none in
    All-cons (λ (y : DirNotes). y.dir ≢ d) x notes (λ same. true_false (sym (ap (λ (e : Dir). eq_by_cmp dir_cmp e d) same ∙ key_tied dir_total dir_exact d) ∙ parts.0)) (none_noted d notes parts.1)

pub others_stay : (p : RealPid) (m : Channels) (notes : Notes) (d : Dir) → d.side < 2 → Fits m notes → has_notes d notes ≡ false → direction_at (channels_after p notes m) d ≡ direction_at m d
others_stay p m notes d side fits none = untouched p notes m d side (none_noted d notes none) fits.noted

-- ---- the room

pub same_rooms : (p : RealPid) (m : Channels) (notes : Notes) → names_of (notes_after p m notes) ≡ names_of notes
same_rooms p m [] = refl
same_rooms p m (x ∷ notes) = ap₂ (λ (named : Named) (l : List Named). named ∷ l) first (same_rooms p m notes)
  where
    first : name_of (note_after p (direction_at m x.dir) x) ≡ name_of x
    first = ap₂ (λ (d : Dir) (n : ℕ). let named : Named = (d, n) in named) (note_dir p (direction_at m x.dir) x) (ap (λ (r : Reserve ℕ). r.room) (note_returned p (direction_at m x.dir) x))
