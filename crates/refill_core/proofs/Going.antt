-- Where a refill is not done, some agent or some move goes on with it; an agent without work moves nothing.
--     goes_on
--     idle_any
--     moved_is, read_is, sent_is      whether an agent moves bytes on its channel; how many it reads; how many it sends where it reads none
--     part_size, own_size             how long the next part is
--     positive                        the test whether a count is above 0
use Rattle.std.proofs.Common.{◌≡◌, ◌≢◌, ℕ, ◌==◌, ◌+◌, ◌-◌, ◌<◌, ◌≤◌, min, Bool, true, false, List, [], ◌∷◌, ◌++◌, take, drop, length, refl, sym, ap, ap₂, subst, ◌∙◌, arith, inl, inr}
use Rattle.std.specs.Prelude.{Option, Some, None, All, IsSome, is_some, nat_lt, not, ◌&&◌, ◌||◌, if◌then◌else◌}
use Rattle.std.specs.Option.{option_map_or}
use Rattle.std.specs.List.{list_any, list_all}
use Rattle.std.specs.Ordering.{eq_by_cmp}
use Rattle.std.proofs.lemmas.Bool.{and_cases, and_parts, eq-eqb, or_left, or_right, or_parts, not-false}
use Rattle.std.proofs.lemmas.Bool.Decides.{nat_tests}
use Rattle.std.proofs.lemmas.Option.{same_Some}
use Rattle.std.proofs.lemmas.List.{length-drop, take_all, map-append}
use Rattle.std.proofs.lemmas.List.Elements.{All-nil, All-cons}
use Rattle.views.proofs.MapLaws.{true_false}
use Rattle.sys_abi.specs.declared.identity.Dir.{Dir}
use Rattle.sys_abi.specs.declared.identity.RealPid.{RealPid}
use Rattle.sys_abi.specs.Orders.{dir_cmp}
use Rattle.wire_net.specs.declared.agents.Stepped.TheVariants as answer
use Rattle.wire_net.specs.declared.cut_room.DirNotes.{DirNotes}
use Rattle.wire_channels.specs.declared.place.Place.TheVariants.{Send, Wire}
use Rattle.wire_channels.specs.Directions.{Direction, room, after_receive}
use Rattle.wire_channels.specs.Channels.{Channels, direction_at, at_direction}
use Rattle.wire_channels.specs.Answers.{bytes_on, received_on}
use Rattle.wire_net.specs.Whereabouts.{reverse}
use Rattle.refill_core.specs.Tasks.{is_agent, header, frame_length, has_back, part, with_piece, wanted, reads, sends, read_count, note_read, channels_read, send_count}
use Rattle.refill_core.specs.Refills.{Notes, Refilling, dirs_of, has_notes, notes_at, IsNoted}
use Rattle.refill_core.specs.Work.{has_sent_all, moves_found, moves_of, moved_by, moved_any, is_left, has_work, has_arrived, finished_of, is_finished, is_done, answer_of, step_answer, GoesOn}
use Rattle.wire_channels.proofs.OneDirection.{unchanged_direction}
use Rattle.refill_core.proofs.OneRefill.{stands, all_size}
use Rattle.refill_core.proofs.EndFits.{Pair, pair_of}
use Rattle.wire_net.proofs.Items.{one_of}
use Rattle.refill_core.proofs.Bytes.{at_itself}
use Rattle.refill_core.proofs.Pairs.{twice_around, found_dir, all_found}
use Rattle.refill_core.proofs.Still.{none_read, moved_here, moved_nowhere}
use Rattle.refill_core.proofs.Whole.{FitsNow, Turn, end_cases}
use Rattle.wire_net.proofs.Gains.{stream_length}

agent_itself : (p : RealPid) → is_agent p (Some p) ≡ true
agent_itself p = ap₂ (λ (a b : Bool). a && b) (eq-eqb p.node p.node refl) (eq-eqb p.pid p.pid refl)

pub positive : (n : ℕ) → 0 < n → nat_lt 0 n ≡ true
positive n some = grind (arith, nat_tests, some)

pub moved_is : (p : RealPid) (d : Dir) (s : Refilling) (x y : DirNotes) → Pair s.channels s.notes d x y → is_agent p x.sender ≡ true
    → moved_by p d s ≡ (nat_lt 0 (read_count p x s.channels) || nat_lt 0 (send_count p (note_read p x s.channels) y (channels_read p x s.channels)))
moved_is p d s x y pair sender =
    ap (moves_of p s) pair.x_at ∙ ap (moves_found p s x) (ap (λ (e : Dir). notes_at (reverse e) s.notes) pair.x_dir ∙ pair.y_at)
    ∙ ap (λ (b : Bool). b && (nat_lt 0 (read_count p x s.channels) || nat_lt 0 (send_count p (note_read p x s.channels) y (channels_read p x s.channels)))) sender

pub read_is : (p : RealPid) (d : Dir) (s : Refilling) (x y : DirNotes) (pair : Pair s.channels s.notes d x y) → is_agent p x.sender ≡ true → read_count p x s.channels ≡ min (wanted x) (length pair.other.received)
read_is p d s x y pair sender =
    ap (λ (e : Dir). option_map_or (reads p x) (direction_at s.channels (reverse e)) 0) pair.x_dir ∙ ap (λ (o : Option Direction). option_map_or (reads p x) o 0) pair.other_at
    ∙ ap (λ (b : Bool). if b then min (wanted x) (length pair.other.received) else 0) sender

-- bytes of the frame have come
reads_move : (p : RealPid) (d : Dir) (s : Refilling) (x y : DirNotes) (pair : Pair s.channels s.notes d x y) → is_agent p x.sender ≡ true → x.read < frame_length x → 0 < length pair.other.received → moved_by p d s ≡ true
reads_move p d s x y pair sender left come =
    moved_is p d s x y pair sender
    ∙ or_left (nat_lt 0 (read_count p x s.channels)) (nat_lt 0 (send_count p (note_read p x s.channels) y (channels_read p x s.channels)))
    (positive (read_count p x s.channels) (let is = read_is p d s x y pair sender in omega (arith, is, left, come)))

-- where nothing is read, as much of the next part is sent as there is room for
pub sent_is : (p : RealPid) (d : Dir) (s : Refilling) (x y : DirNotes) (pair : Pair s.channels s.notes d x y) → is_agent p x.sender ≡ true → read_count p x s.channels ≡ 0
    → send_count p (note_read p x s.channels) y (channels_read p x s.channels) ≡ min (length (part x y)) (room pair.own)
sent_is p d s x y pair sender zero =
    let x_same : note_read p x s.channels ≡ x =
    ap (λ (n : ℕ). with_piece (take n (received_on (direction_at s.channels (reverse x.dir)))) x) zero ∙ none_read x (received_on (direction_at s.channels (reverse x.dir))) in
    let m_same : channels_read p x s.channels ≡ s.channels =
    ap (λ (n : ℕ). at_direction s.channels (reverse x.dir) (after_receive n)) zero ∙ unchanged_direction s.channels (reverse x.dir) (after_receive 0) (λ direction. refl) in
    ap₂ (λ (z : DirNotes) (c : Channels). send_count p z y c) x_same m_same
    ∙ ap (λ (e : Dir). option_map_or (sends p x y) (direction_at s.channels e) 0) pair.x_dir ∙ ap (λ (o : Option Direction). option_map_or (sends p x y) o 0) pair.own_at
    ∙ ap (λ (b : Bool). if b then min (length (part x y)) (room pair.own) else 0) sender

-- nothing is read, and there is room for what is to be sent
sends_move : (p : RealPid) (d : Dir) (s : Refilling) (x y : DirNotes) (pair : Pair s.channels s.notes d x y) → is_agent p x.sender ≡ true → min (wanted x) (length pair.other.received) ≡ 0 → 0 < length (part x y) → 0 < room pair.own
    → moved_by p d s ≡ true
sends_move p d s x y pair sender none some free =
    let sent = sent_is p d s x y pair sender (read_is p d s x y pair sender ∙ none) in
    moved_is p d s x y pair sender
    ∙ or_right (nat_lt 0 (read_count p x s.channels)) (nat_lt 0 (send_count p (note_read p x s.channels) y (channels_read p x s.channels)))
    (positive (send_count p (note_read p x s.channels) y (channels_read p x s.channels)) (omega (arith, sent, some, free)))

-- how long the next part is
pub part_size : (x y : DirNotes) → IsNoted x → IsNoted y → x.sent < frame_length y → 0 < length (part x y)
part_size x y noted other early = choice (nat_lt x.sent 4) (nat_lt x.sent (frame_length y)) refl refl
  where
    choice : (a b : Bool) → nat_lt x.sent 4 ≡ a → nat_lt x.sent (frame_length y) ≡ b
        → 0 < length (if a then drop x.sent (header y) else if b then drop (x.sent - 4) y.drained.items else if has_back x then drop (x.sent - frame_length y) x.returned.items else [])
    choice true b is_a is_b = let few : x.sent < 4 = grind (arith, nat_tests, is_a) in let size = length-drop x.sent (header y) in omega (arith, few, size)
    choice false true is_a is_b = let from : 4 ≤ x.sent = grind (arith, nat_tests, is_a) in let size = length-drop (x.sent - 4) y.drained.items in omega (arith, from, size, early, other.whole)
    choice false false is_a is_b = let past : frame_length y ≤ x.sent = grind (arith, nat_tests, is_b) in absurd (omega (arith, past, early))

pub own_size : (x y : DirNotes) → IsNoted x → frame_length y ≤ x.sent → x.read ≡ frame_length x → length (part x y) ≡ x.count - (x.sent - frame_length y)
own_size x y noted late back = choice (nat_lt x.sent 4) (nat_lt x.sent (frame_length y)) (has_back x) refl refl refl
  where
    bytes : length x.returned.items ≡ x.count
    bytes = ap length (noted.back ∙ take_all (x.read - 4) x.drained.items (omega (arith, back, noted.whole))) ∙ noted.whole

    choice : (a b c : Bool) → nat_lt x.sent 4 ≡ a → nat_lt x.sent (frame_length y) ≡ b → has_back x ≡ c
        → length (if a then drop x.sent (header y) else if b then drop (x.sent - 4) y.drained.items else if c then drop (x.sent - frame_length y) x.returned.items else []) ≡ x.count - (x.sent - frame_length y)
    choice true b c is_a is_b is_c = let few : x.sent < 4 = grind (arith, nat_tests, is_a) in absurd (omega (arith, few, late))
    choice false true c is_a is_b is_c = let few : x.sent < frame_length y = grind (arith, nat_tests, is_b) in absurd (omega (arith, few, late))
    choice false false true is_a is_b is_c = length-drop (x.sent - frame_length y) x.returned.items ∙ ap (λ (n : ℕ). n - (x.sent - frame_length y)) bytes
    choice false false false is_a is_b is_c = let differ : x.read ≢ frame_length x = grind (arith, nat_tests, is_c) in absurd (differ back)

-- ---- somebody goes on

record SomeMove (s : Refilling) : Type 0 where
  agent : RealPid
  dir : Dir
  item : DirNotes
  at : notes_at dir s.notes ≡ Some item
  moves : moved_by agent dir s ≡ true

swapped : (m : Channels) (notes : Notes) (d : Dir) (x y : DirNotes) → is_some x.sender ≡ true → Pair m notes d x y → Pair m notes (reverse d) y x
swapped m notes d x y live pair =
    let around = twice_around d pair.side in record {
      x_at = pair.y_at;
      y_at = ap (λ (e : Dir). notes_at e notes) around ∙ pair.x_at;
      x_dir = pair.y_dir;
      y_dir = pair.x_dir ∙ sym around;
      side = (let s = pair.side in omega (arith, s));
      x_noted = pair.y_noted;
      y_noted = pair.x_noted;
      own = pair.other;
      other = pair.own;
      own_at = pair.other_at;
      other_at = ap (direction_at m) around ∙ pair.own_at;
      own_fits = pair.other_fits;
      other_fits = pair.own_fits;
      live = pair.live;
      y_live = live;
    }

-- the sizes of a channel of which nothing is on its way
record Sizes (x y : DirNotes) (own other : Direction) : Type 0 where
  own_all : length own.received + y.read ≡ x.sent
  other_all : length other.received + x.read ≡ y.sent
  no_sent : length own.sent ≡ 0
  no_wire : length own.wire ≡ 0

arrived_sizes : (direction : Direction) → has_arrived direction ≡ true → (length direction.sent ≡ 0) × (length direction.wire ≡ 0)
arrived_sizes direction is =
    let parts = and_parts (length direction.sent == 0) (length direction.wire == 0) is in
    ((let e : length direction.sent ≡ 0 = grind (arith, nat_tests, parts.0) in e), (let e : length direction.wire ≡ 0 = grind (arith, nat_tests, parts.1) in e))

sizes : (m : Channels) (notes : Notes) (d : Dir) (x y : DirNotes) (pair : Pair m notes d x y) → has_arrived pair.own ≡ true → has_arrived pair.other ≡ true → Sizes x y pair.own pair.other
sizes m notes d x y pair own other =
    let a = arrived_sizes pair.own own in
    let b = arrived_sizes pair.other other in
    let c = stream_length pair.own in
    let e = stream_length pair.other in
    let f = stands y x pair.own pair.own_fits in
    let g = stands x y pair.other pair.other_fits in record {
      own_all = omega (arith, a.0, a.1, c, f);
      other_all = omega (arith, b.0, b.1, e, g);
      no_sent = a.0;
      no_wire = a.1;
    }

-- the sending agent, where the other side has not read its frame and nothing can be read
starts : (p : RealPid) (d : Dir) (s : Refilling) (x y : DirNotes) (pair : Pair s.channels s.notes d x y) → is_agent p x.sender ≡ true → Sizes x y pair.own pair.other → min (wanted x) (length pair.other.received) ≡ 0
    → y.read < frame_length y → length pair.own.received ≡ 0 → moved_by p d s ≡ true
starts p d s x y pair agent size none left empty =
    let all = size.own_all in
    let a = size.no_sent in
    let b = size.no_wire in
    sends_move p d s x y pair agent none (part_size x y pair.x_noted pair.y_noted (omega (arith, all, empty, left))) (omega (arith, a, b, empty))

-- the sending agent, where both frames were read
sends_again : (p : RealPid) (d : Dir) (s : Refilling) (x y : DirNotes) (pair : Pair s.channels s.notes d x y) → is_agent p x.sender ≡ true → Sizes x y pair.own pair.other → x.read ≡ frame_length x → y.read ≡ frame_length y
    → x.sent < frame_length y + x.count → moved_by p d s ≡ true
sends_again p d s x y pair agent size back read left =
    let all = size.own_all in
    let a = size.no_sent in
    let b = size.no_wire in
    let most = pair.x_noted.few in
    let long = own_size x y pair.x_noted (omega (arith, all, read)) back in
    sends_move p d s x y pair agent (omega (arith, back)) (omega (arith, long, all, read, left)) (omega (arith, a, b, all, read, left, most))

channel_goes : (s : Refilling) (d : Dir) (x y : DirNotes) (p q : RealPid) (pair : Pair s.channels s.notes d x y) → is_some x.sender ≡ true → is_agent p x.sender ≡ true → is_agent q y.sender ≡ true
    → has_arrived pair.own ≡ true → has_arrived pair.other ≡ true → (has_back x && has_sent_all x y) ≡ false → SomeMove s
unfolding swapped
channel_goes s d x y p q pair live p_is q_is own other fails =
    choice (nat_lt x.read (frame_length x)) (length pair.other.received == 0) (nat_lt y.read (frame_length y)) (length pair.own.received == 0) refl refl refl refl
  where
    size : Sizes x y pair.own pair.other
    size = sizes s.channels s.notes d x y pair own other

    back : Pair s.channels s.notes (reverse d) y x
    back = swapped s.channels s.notes d x y live pair

    back_size : Sizes y x pair.other pair.own
    back_size = sizes s.channels s.notes (reverse d) y x back other own

    of_x : moved_by p d s ≡ true → SomeMove s
    of_x is = record { agent = p; dir = d; item = x; at = pair.x_at; moves = is }

    of_y : moved_by q (reverse d) s ≡ true → SomeMove s
    of_y is = record { agent = q; dir = reverse d; item = y; at = pair.y_at; moves = is }

    choice : (a b c e : Bool) → nat_lt x.read (frame_length x) ≡ a → (length pair.other.received == 0) ≡ b → nat_lt y.read (frame_length y) ≡ c → (length pair.own.received == 0) ≡ e → SomeMove s
    choice true false c e is_a is_b is_c is_e =
        of_x (reads_move p d s x y pair p_is (let l : x.read < frame_length x = grind (arith, nat_tests, is_a) in l) (let l : 0 < length pair.other.received = grind (arith, nat_tests, is_b) in l))
    choice true true true false is_a is_b is_c is_e =
        of_y (reads_move q (reverse d) s y x back q_is (let l : y.read < frame_length y = grind (arith, nat_tests, is_c) in l) (let l : 0 < length pair.own.received = grind (arith, nat_tests, is_e) in l))
    choice false b true false is_a is_b is_c is_e =
        of_y (reads_move q (reverse d) s y x back q_is (let l : y.read < frame_length y = grind (arith, nat_tests, is_c) in l) (let l : 0 < length pair.own.received = grind (arith, nat_tests, is_e) in l))
    choice true true true true is_a is_b is_c is_e =
        let none : length pair.other.received ≡ 0 = grind (arith, nat_tests, is_b) in
        of_x (starts p d s x y pair p_is size (omega (arith, none)) (let l : y.read < frame_length y = grind (arith, nat_tests, is_c) in l) (let l : length pair.own.received ≡ 0 = grind (arith, nat_tests, is_e) in l))
    choice false b true true is_a is_b is_c is_e =
        let all : frame_length x ≤ x.read = grind (arith, nat_tests, is_a) in
        of_x (starts p d s x y pair p_is size (omega (arith, all)) (let l : y.read < frame_length y = grind (arith, nat_tests, is_c) in l) (let l : length pair.own.received ≡ 0 = grind (arith, nat_tests, is_e) in l))
    choice true true false e is_a is_b is_c is_e =
        let all : frame_length y ≤ y.read = grind (arith, nat_tests, is_c) in
        let none : length pair.other.received ≡ 0 = grind (arith, nat_tests, is_b) in
        of_y (starts q (reverse d) s y x back q_is back_size (omega (arith, all)) (let l : x.read < frame_length x = grind (arith, nat_tests, is_a) in l) none)
    choice false b false e is_a is_b is_c is_e =
        let x_all : frame_length x ≤ x.read = grind (arith, nat_tests, is_a) in
        let y_all : frame_length y ≤ y.read = grind (arith, nat_tests, is_c) in
        let x_most = pair.x_noted.read in
        let y_most = pair.y_noted.read in
        let x_read : x.read ≡ frame_length x = omega (arith, x_all, x_most) in
        let y_read : y.read ≡ frame_length y = omega (arith, y_all, y_most) in
        let tested : has_back x ≡ true = grind (arith, nat_tests, x_read) in
        let more : has_sent_all x y ≡ false = sym (ap (λ (t : Bool). t && has_sent_all x y) tested) ∙ fails in
        let differ : x.sent ≢ frame_length y + x.count = grind (arith, nat_tests, more) in
        let sent = pair.own_fits.sent in
        let whole = all_size x y pair.x_noted pair.y_noted in
        of_x (sends_again p d s x y pair p_is size x_read y_read (omega (arith, differ, sent, whole)))

-- ---- among all

record Split (notes : Notes) (x : DirNotes) : Type 0 where
  front : Notes
  back : Notes
  among : notes ≡ front ++ x ∷ back

split : (d : Dir) (notes : Notes) (x : DirNotes) → notes_at d notes ≡ Some x → Split notes x
split d [] x at = absurd (apart at)
  where
    apart : {z : DirNotes} → None ≡ Some z → ⊥
    apart e = cc
split d (y ∷ notes) x at = choice (eq_by_cmp dir_cmp y.dir d) (split d notes x) at
  where
    choice : (b : Bool) → (notes_at d notes ≡ Some x → Split notes x) → (if b then Some y else notes_at d notes) ≡ Some x → Split (y ∷ notes) x
    choice true rest at = record { front = []; back = notes; among = ap (λ (z : DirNotes). z ∷ notes) (same_Some y x at) }
    choice false rest at = let r = rest at in record { front = y ∷ r.front; back = r.back; among = ap (λ (l : Notes). y ∷ l) r.among }

noted_at : (d : Dir) (notes : Notes) (x : DirNotes) → notes_at d notes ≡ Some x → has_notes d notes ≡ true
noted_at d [] x at = absurd (apart at)
  where
    apart : {z : DirNotes} → None ≡ Some z → ⊥
    apart e = cc
noted_at d (y ∷ notes) x at = choice (eq_by_cmp dir_cmp y.dir d) (noted_at d notes x) at
  where
    choice : (b : Bool) → (notes_at d notes ≡ Some x → has_notes d notes ≡ true) → (if b then Some y else notes_at d notes) ≡ Some x → (b || has_notes d notes) ≡ true
    choice true rest at = refl
    choice false rest at = rest at

-- ---- an agent without work

all_still : (test : DirNotes → Bool) (notes : Notes) → list_any test notes ≡ false → All (λ x. test x ≡ false) notes
all_still test [] none = All-nil (λ x. test x ≡ false)
all_still test (x ∷ notes) none = let parts = or_parts (test x) (list_any test notes) none in All-cons (λ y. test y ≡ false) x notes parts.0 (all_still test notes parts.1)

idle_by : (p : RealPid) (d : Dir) (s : Refilling) → FitsNow s → has_work p s.notes ≡ false → moved_by p d s ≡ false
idle_by p d s fits none = elim (end_cases p d s fits) [
  | inl still ↦ still.moves
  | inr turn ↦ of_turn turn
]
  where
    of_turn : Turn p d s → moved_by p d s ≡ false
    of_turn t =
        let left : is_left p s.notes t.x ≡ false = all_found (λ z. is_left p s.notes z ≡ false) d s.notes t.x t.pair.x_at (all_still (is_left p s.notes) s.notes none) in
        let other : notes_at (reverse t.x.dir) s.notes ≡ Some t.y = ap (λ (e : Dir). notes_at (reverse e) s.notes) t.pair.x_dir ∙ t.pair.y_at in
        let told : (not (has_back t.x) || not (has_sent_all t.x t.y)) ≡ false =
        sym (ap₂ (λ (a : Bool) (o : Option DirNotes). a && option_map_or (λ y. not (has_back t.x) || not (has_sent_all t.x y)) o false) t.agent other) ∙ left in
        let parts = or_parts (not (has_back t.x)) (not (has_sent_all t.x t.y)) told in
        let back : has_back t.x ≡ true = not-false (has_back t.x) parts.0 in
        let sent : has_sent_all t.x t.y ≡ true = not-false (has_sent_all t.x t.y) parts.1 in
        let read : t.x.read ≡ frame_length t.x = grind (arith, nat_tests, back) in
        let all : t.x.sent ≡ frame_length t.y + t.x.count = grind (arith, nat_tests, sent) in
        let zero : read_count p t.x s.channels ≡ 0 = (let is = read_is p d s t.x t.y t.pair t.agent in omega (arith, is, read)) in
        let long = own_size t.x t.y t.pair.x_noted (omega (arith, all)) read in
        nothing t zero (omega (arith, long, all))
      where
        nothing : (t : Turn p d s) → read_count p t.x s.channels ≡ 0 → length (part t.x t.y) ≡ 0 → moved_by p d s ≡ false
        nothing t zero empty =
            let sent = sent_is p d s t.x t.y t.pair t.agent zero in
            let none : send_count p (note_read p t.x s.channels) t.y (channels_read p t.x s.channels) ≡ 0 = omega (arith, sent, empty) in
            moved_is p d s t.x t.y t.pair t.agent ∙ ap₂ (λ (i j : ℕ). nat_lt 0 i || nat_lt 0 j) zero none

pub idle_any : (p : RealPid) (ds : List Dir) (s : Refilling) → FitsNow s → has_work p s.notes ≡ false → moved_any p ds s ≡ false
idle_any p ds s fits none = moved_nowhere p ds s fits (λ d. idle_by p d s fits none)

answers : (p : RealPid) (s : Refilling) → FitsNow s → moved_any p (dirs_of s.notes) s ≡ true → step_answer p s ≡ answer.Moved
answers p s fits moved = choice (has_work p s.notes) refl
  where
    choice : (b : Bool) → has_work p s.notes ≡ b → answer_of b (moved_any p (dirs_of s.notes) s) ≡ answer.Moved
    choice true is = ap (answer_of true) moved
    choice false is = true_false (sym moved ∙ idle_any p (dirs_of s.notes) s fits is)

-- ---- somebody goes on

some_goes : (s : Refilling) → FitsNow s → SomeMove s → GoesOn s
some_goes s fits move =
    let parts = split move.dir s.notes move.item move.at in
    let here = found_dir move.dir s.notes move.item move.at in
    let dirs : dirs_of s.notes ≡ dirs_of parts.front ++ move.dir ∷ dirs_of parts.back =
    ap dirs_of parts.among ∙ map-append (λ (z : DirNotes). z.dir) parts.front (move.item ∷ parts.back) ∙ ap (λ (e : Dir). dirs_of parts.front ++ e ∷ dirs_of parts.back) here in
    inl (
      move.agent,
      answers move.agent s fits (ap (λ (ds : List Dir). moved_any move.agent ds s) dirs ∙ moved_here move.agent (dirs_of parts.front) (dirs_of parts.back) move.dir s fits move.moves),
    )

movable : (s : Refilling) (d : Dir) (x : DirNotes) (direction : Direction) → d.side < 2 → notes_at d s.notes ≡ Some x → direction_at s.channels d ≡ Some direction → has_arrived direction ≡ false → GoesOn s
movable s d x direction side at found fails = elim (and_cases (length direction.sent == 0) (length direction.wire == 0) fails) [
  | inl is ↦ inr (record {
    dir = d;
    place = Send;
    side = side;
    noted = noted_at d s.notes x at;
    some = subst (λ (o : Option Direction). 0 < length (bytes_on Send o)) (sym found) (let e : 0 < length direction.sent = grind (arith, nat_tests, is) in e);
  })
  | inr is ↦ inr (record {
    dir = d;
    place = Wire;
    side = side;
    noted = noted_at d s.notes x at;
    some = subst (λ (o : Option Direction). 0 < length (bytes_on Wire o)) (sym found) (let e : 0 < length direction.wire = grind (arith, nat_tests, is) in e);
  })
]

who : (o : Option RealPid) → is_some o ≡ true → (p : RealPid) × (is_agent p o ≡ true)
who None is = true_false (sym is)
who (Some p) is = (p, agent_itself p)

live_goes : (s : Refilling) (d : Dir) (x : DirNotes) → FitsNow s → notes_at d s.notes ≡ Some x → IsSome x.sender → is_some x.sender ≡ true → finished_of x (notes_at (reverse d) s.notes) (direction_at s.channels d) ≡ false → GoesOn s
live_goes s d x fits at sender some fails =
    let two = pair_of s.channels s.notes d x fits at sender in
    let y = two.0 in
    let pair = two.1 in
    let told : ((has_back x && has_sent_all x y) && has_arrived pair.own) ≡ false =
    sym (ap₂ (finished_of x) pair.y_at pair.own_at ∙ ap (λ (b : Bool). if b then (has_back x && has_sent_all x y) && has_arrived pair.own else has_arrived pair.own) some) ∙ fails in
    own y pair told (has_arrived pair.own) (has_arrived pair.other) refl refl
  where
    own : (y : DirNotes) (pair : Pair s.channels s.notes d x y) → ((has_back x && has_sent_all x y) && has_arrived pair.own) ≡ false → (a b : Bool) → has_arrived pair.own ≡ a → has_arrived pair.other ≡ b → GoesOn s
    own y pair told false b is_a is_b = movable s d x pair.own pair.side at pair.own_at is_a
    own y pair told true false is_a is_b = movable s (reverse d) y pair.other (let e = pair.side in omega (arith, e)) pair.y_at pair.other_at is_b
    own y pair told true true is_a is_b =
        let p = who x.sender some in
        let q = who y.sender pair.y_live in
        some_goes s fits (channel_goes s d x y p.0 q.0 pair some p.1 q.1 is_a is_b (first (has_back x && has_sent_all x y) (has_arrived pair.own) is_a told))
      where
        first : (a b : Bool) → b ≡ true → (a && b) ≡ false → a ≡ false
        first true b is told = true_false (sym is ∙ told)
        first false b is told = refl

aside_goes : (s : Refilling) (x : DirNotes) (other : Option DirNotes) (found : Option Direction) → x.dir.side < 2 → notes_at x.dir s.notes ≡ Some x → direction_at s.channels x.dir ≡ found → is_some x.sender ≡ false
    → finished_of x other found ≡ false → GoesOn s
aside_goes s x other None side at is none fails = true_false fails
aside_goes s x None (Some direction) side at is none fails = movable s x.dir x direction side at is fails
aside_goes s x (Some y) (Some direction) side at is none fails =
    movable s x.dir x direction side at is (sym (ap (λ (b : Bool). if b then (has_back x && has_sent_all x y) && has_arrived direction else has_arrived direction) none) ∙ fails)

record Unfinished (s : Refilling) (notes : Notes) : Type 0 where
  one : DirNotes
  front : Notes
  back : Notes
  among : notes ≡ front ++ one ∷ back
  fails : is_finished s.channels s.notes one ≡ false

further : (s : Refilling) (y : DirNotes) (notes : Notes) → Unfinished s notes → Unfinished s (y ∷ notes)
further s y notes u = record { one = u.one; front = y ∷ u.front; back = u.back; among = ap (λ (l : Notes). y ∷ l) u.among; fails = u.fails }

unfinished_one : (s : Refilling) (notes : Notes) → list_all (is_finished s.channels s.notes) notes ≡ false → Unfinished s notes
unfinished_one s [] is = true_false is
unfinished_one s (x ∷ notes) is = elim (and_cases (is_finished s.channels s.notes x) (list_all (is_finished s.channels s.notes) notes) is) [
  | inl fails ↦ record { one = x; front = []; back = notes; among = refl; fails = fails }
  | inr rest ↦ further s x notes (unfinished_one s notes rest)
]

pub goes_on : (s : Refilling) → FitsNow s → is_done s.channels s.notes ≡ false → GoesOn s
goes_on s fits fails =
    let u = unfinished_one s s.notes fails in
    let at = at_itself s.notes u.front u.back u.one u.among fits.apart in
    let noted = one_of IsNoted u.front u.back u.one (subst (All IsNoted) u.among fits.noted) in
    sender (is_some u.one.sender) refl u.one noted at u.fails
  where
    there : (o : Option RealPid) → is_some o ≡ true → IsSome o
    there None is = true_false (sym is)
    there (Some agent) is = refl

    sender : (b : Bool) → b ≡ b → (x : DirNotes) → IsNoted x → notes_at x.dir s.notes ≡ Some x → is_finished s.channels s.notes x ≡ false → GoesOn s
    sender b same x noted at fails = choice (is_some x.sender) refl
      where
        choice : (c : Bool) → is_some x.sender ≡ c → GoesOn s
        choice true is = live_goes s x.dir x fits at (there x.sender is) is fails
        choice false is = aside_goes s x (notes_at (reverse x.dir) s.notes) (direction_at s.channels x.dir) noted.side at refl is fails
