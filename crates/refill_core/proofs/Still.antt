-- A step that moves nothing changes nothing.
--     end_still, ends_still      on one direction, and on all
--     none_read                  a read of no bytes leaves the notes as they are
--     zero_test                  a count that is not above 0
--     moved_here                 who moves bytes of one direction moves some
--     moved_nowhere              who moves bytes of no direction moves none
--     none_moved                 who moves none moves none of each direction
use Rattle.std.proofs.Common.{◌≡◌, ℕ, ◌+◌, ◌-◌, Bool, true, false, List, [], ◌∷◌, ◌++◌, take, refl, sym, ap, ap₂, ◌∙◌, arith, append-nil, inl, inr}
use Rattle.std.specs.Prelude.{All, nat_lt, ◌&&◌, ◌||◌, if◌then◌else◌}
use Rattle.std.specs.Ordering.{eq_by_cmp}
use Rattle.std.proofs.Math.Seq.{drop-nil}
use Rattle.std.proofs.lemmas.Bool.{or_parts, or_left, or_right}
use Rattle.std.proofs.lemmas.Bool.Decides.{nat_tests}
use Rattle.std.proofs.lemmas.List.Elements.{All-nil, All-cons, All-head, All-tail}
use Rattle.views.proofs.MapLaws.{same_key}
use Rattle.sys_abi.specs.declared.identity.Dir.{Dir}
use Rattle.sys_abi.specs.declared.identity.RealPid.{RealPid}
use Rattle.sys_abi.specs.Orders.{dir_cmp}
use Rattle.sys_abi.proofs.OrderLaws.{dir_total, dir_exact}
use Rattle.wire_net.specs.declared.cut_room.DirNotes.{DirNotes}
use Rattle.wire_channels.specs.Directions.{after_receive}
use Rattle.wire_channels.specs.Channels.{Channels, direction_at, at_direction}
use Rattle.wire_channels.specs.Answers.{received_on}
use Rattle.wire_net.specs.Reserves.{reserve}
use Rattle.wire_net.specs.Whereabouts.{reverse}
use Rattle.refill_core.specs.Tasks.{part, with_piece, with_sent, read_count, note_read, channels_read, send_count, sent_on, turn_note, turn_channels}
use Rattle.refill_core.specs.Refills.{Notes, Refilling, dirs_of, put_notes, turn_after, turns_after}
use Rattle.refill_core.specs.Work.{moved_by, moved_any}
use Rattle.wire_channels.proofs.OneDirection.{unchanged_direction}
use Rattle.refill_core.proofs.WorkLaws.{only_one}
use Rattle.refill_core.proofs.Whole.{FitsNow, Turn, end_cases, result_of}

pub none_read : (x : DirNotes) (received : List ℕ) → with_piece (take 0 received) x ≡ x
none_read x received =
    ap₂ (λ (n : ℕ) (l : List ℕ). record x { read = n; returned = reserve l x.returned.room }) (let e : x.read + 0 ≡ x.read = omega arith in e)
    (ap (λ (l : List ℕ). x.returned.items ++ l) (drop-nil (4 - x.read)) ∙ append-nil x.returned.items)

none_sent : (x : DirNotes) → with_sent 0 x ≡ x
none_sent x = ap (λ (n : ℕ). record x { sent = n }) (let e : x.sent + 0 ≡ x.sent = omega arith in e)

put_same : (d : Dir) (x : DirNotes) (notes : Notes) → All (λ z. z.dir ≡ d → z ≡ x) notes → put_notes d x notes ≡ notes
put_same d x [] only = refl
put_same d x (z ∷ notes) only =
    ap₂ (λ (v : DirNotes) (l : Notes). v ∷ l) (choice (eq_by_cmp dir_cmp z.dir d) refl) (put_same d x notes (All-tail (λ v. v.dir ≡ d → v ≡ x) z notes only))
  where
    choice : (b : Bool) → eq_by_cmp dir_cmp z.dir d ≡ b → (if b then x else z) ≡ z
    choice true at = sym (All-head (λ v. v.dir ≡ d → v ≡ x) z notes only (same_key dir_total dir_exact z.dir d at))
    choice false at = refl

pub zero_test : (n : ℕ) → nat_lt 0 n ≡ false → n ≡ 0
zero_test n is = grind (arith, nat_tests, is)

turn_still : (p : RealPid) (d : Dir) (s : Refilling) (t : Turn p d s) → FitsNow s → moved_by p d s ≡ false → result_of p d s t.x t.y ≡ s
turn_still p d s t fits none =
    let told : (nat_lt 0 (read_count p t.x s.channels) || nat_lt 0 (send_count p (note_read p t.x s.channels) t.y (channels_read p t.x s.channels))) ≡ false =
    sym (t.moves ∙ ap (λ (b : Bool). b && (nat_lt 0 (read_count p t.x s.channels) || nat_lt 0 (send_count p (note_read p t.x s.channels) t.y (channels_read p t.x s.channels)))) t.agent) ∙ none in
    let parts = or_parts (nat_lt 0 (read_count p t.x s.channels)) (nat_lt 0 (send_count p (note_read p t.x s.channels) t.y (channels_read p t.x s.channels))) told in
    let read = zero_test (read_count p t.x s.channels) parts.0 in
    let sent = zero_test (send_count p (note_read p t.x s.channels) t.y (channels_read p t.x s.channels)) parts.1 in
    let x_same : note_read p t.x s.channels ≡ t.x =
    ap (λ (n : ℕ). with_piece (take n (received_on (direction_at s.channels (reverse t.x.dir)))) t.x) read ∙ none_read t.x (received_on (direction_at s.channels (reverse t.x.dir))) in
    let m_same : channels_read p t.x s.channels ≡ s.channels =
    ap (λ (n : ℕ). at_direction s.channels (reverse t.x.dir) (after_receive n)) read ∙ unchanged_direction s.channels (reverse t.x.dir) (after_receive 0) (λ direction. refl) in
    let note : turn_note p t.x t.y s.channels ≡ t.x = ap (λ (k : ℕ). with_sent k (note_read p t.x s.channels)) sent ∙ none_sent (note_read p t.x s.channels) ∙ x_same in
    let net : turn_channels p t.x t.y s.channels ≡ s.channels =
    ap (λ (k : ℕ). at_direction (channels_read p t.x s.channels) (note_read p t.x s.channels).dir (sent_on k (part (note_read p t.x s.channels) t.y))) sent
    ∙ unchanged_direction (channels_read p t.x s.channels) (note_read p t.x s.channels).dir (sent_on 0 (part (note_read p t.x s.channels) t.y)) (λ direction. refl) ∙ m_same in
    ap₂ (λ (l : Notes) (m : Channels). let v : Refilling = record { notes = l; channels = m } in v)
    (ap (λ (v : DirNotes). put_notes d v s.notes) note ∙ put_same d t.x s.notes (only_one d s.notes t.x fits.apart t.pair.x_at)) net

pub end_still : (p : RealPid) (d : Dir) (s : Refilling) → FitsNow s → moved_by p d s ≡ false → turn_after p d s ≡ s
end_still p d s fits none = elim (end_cases p d s fits) [
  | inl still ↦ still.is
  | inr turn ↦ turn.is ∙ turn_still p d s turn fits none
]

pub ends_still : (p : RealPid) (ds : List Dir) (s : Refilling) → FitsNow s → moved_any p ds s ≡ false → turns_after p ds s ≡ s
ends_still p [] s fits none = refl
ends_still p (d ∷ ds) s fits none =
    let parts = or_parts (moved_by p d s) (moved_any p ds (turn_after p d s)) none in
    let same = end_still p d s fits parts.0 in
    ap (turns_after p ds) same ∙ ends_still p ds s fits (ap (moved_any p ds) (sym same) ∙ parts.1)

-- where one of the directions moves bytes
pub moved_here : (p : RealPid) (front back : List Dir) (d : Dir) (s : Refilling) → FitsNow s → moved_by p d s ≡ true → moved_any p (front ++ d ∷ back) s ≡ true
moved_here p [] back d s fits is = or_left (moved_by p d s) (moved_any p back (turn_after p d s)) is
moved_here p (e ∷ front) back d s fits is = choice (moved_by p e s) refl (moved_here p front back d s fits is)
  where
    choice : (b : Bool) → moved_by p e s ≡ b → moved_any p (front ++ d ∷ back) s ≡ true → (moved_by p e s || moved_any p (front ++ d ∷ back) (turn_after p e s)) ≡ true
    choice true at rest = or_left (moved_by p e s) (moved_any p (front ++ d ∷ back) (turn_after p e s)) at
    choice false at rest = or_right (moved_by p e s) (moved_any p (front ++ d ∷ back) (turn_after p e s)) (ap (moved_any p (front ++ d ∷ back)) (end_still p e s fits at) ∙ rest)

pub moved_nowhere : (p : RealPid) (ds : List Dir) (s : Refilling) → FitsNow s → ((d : Dir) → moved_by p d s ≡ false) → moved_any p ds s ≡ false
moved_nowhere p [] s fits none = refl
moved_nowhere p (d ∷ ds) s fits none =
    ap₂ (λ (a b : Bool). a || b) (none d) (ap (moved_any p ds) (end_still p d s fits (none d)) ∙ moved_nowhere p ds s fits none)

pub none_moved : (p : RealPid) (notes : Notes) (s : Refilling) → FitsNow s → moved_any p (dirs_of notes) s ≡ false → All (λ x. moved_by p x.dir s ≡ false) notes
none_moved p [] s fits none = All-nil (λ x. moved_by p x.dir s ≡ false)
none_moved p (x ∷ notes) s fits none =
    let parts = or_parts (moved_by p x.dir s) (moved_any p (dirs_of notes) (turn_after p x.dir s)) none in
    All-cons (λ z. moved_by p z.dir s ≡ false) x notes parts.0 (none_moved p notes s fits (ap (moved_any p (dirs_of notes)) (sym (end_still p x.dir s fits parts.0)) ∙ parts.1))
