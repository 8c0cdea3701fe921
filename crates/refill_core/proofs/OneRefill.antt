-- What a step of an agent keeps of a live channel that is refilled.
--     part_next          what is sent next continues what was sent
--     read_fits, sent_fits      the notes fit the channel
use Rattle.std.proofs.Common.{◌≡◌, ℕ, ◌+◌, ◌-◌, ◌<◌, ◌≤◌, min, Bool, true, false, List, [], ◌++◌, take, drop, length, refl, sym, ap, ap₂, ◌∙◌, arith, append_assoc, length-append}
use Rattle.std.specs.Prelude.{nat_lt, if◌then◌else◌}
use Rattle.std.proofs.Math.Seq.{take-add, take-nil, drop-append-add}
use Rattle.std.proofs.lemmas.Bool.Decides.{nat_tests}
use Rattle.std.proofs.lemmas.List.{length-take, length-drop, take_all, drop_all, take-take, drop-take, take-append-le, drop-append-le}
use Rattle.wire_net.specs.declared.cut_room.DirNotes.{DirNotes}
use Rattle.wire_channels.specs.Directions.{Direction, after_receive, after_send}
use Rattle.wire_net.specs.Whereabouts.{stream}
use Rattle.refill_core.specs.Tasks.{header, frame, frame_length, sent_in_all, has_back, part, with_piece, with_sent}
use Rattle.refill_core.specs.Refills.{IsNoted, IsRefilling}
use Rattle.wire_net.proofs.Pieces.{drop_twice}

header_length : (x : DirNotes) → length (header x) ≡ 4
header_length x = refl

pub frame_size : (x : DirNotes) → IsNoted x → length (frame x) ≡ 4 + x.count
frame_size x noted = length-append (header x) x.drained.items ∙ ap (λ (n : ℕ). 4 + n) noted.whole

pub all_size : (x y : DirNotes) → IsNoted x → IsNoted y → length (sent_in_all x y) ≡ 4 + y.count + x.count
all_size x y noted other = length-append (frame y) x.drained.items ∙ ap₂ (λ (a b : ℕ). a + b) (frame_size y other) noted.whole

-- what is sent next begins what is left to send
record IsPart (x y : DirNotes) (piece : List ℕ) : Type 0 where
  next : (k : ℕ) → k ≤ length piece → take k (drop x.sent (sent_in_all x y)) ≡ take k piece
  within : x.sent + length piece ≤ length (sent_in_all x y)
  turn : (k : ℕ) → k ≤ length piece → frame_length y < x.sent + k → x.read ≡ frame_length x

header_part : (x y : DirNotes) → IsNoted x → IsNoted y → x.sent < 4 → IsPart x y (drop x.sent (header y))
header_part x y noted other early =
    let size = length-drop x.sent (header y) in
    let all = all_size x y noted other in
    let framed = frame_size y other in record {
      next = λ k few.
          ap (take k) (drop-append-le x.sent (frame y) x.drained.items (omega (arith, framed, early)) ∙ ap (λ (l : List ℕ). l ++ x.drained.items) (drop-append-le x.sent (header y) y.drained.items (omega (arith, early))))
          ∙ take-append-le k (drop x.sent (header y) ++ y.drained.items) x.drained.items (omega (arith, few, length-append (drop x.sent (header y)) y.drained.items))
          ∙ take-append-le k (drop x.sent (header y)) y.drained.items few;
      within = omega (arith, size, all, early);
      turn = λ k few past. absurd (omega (arith, size, few, past, early));
    }

frame_part : (x y : DirNotes) → IsNoted x → IsNoted y → 4 ≤ x.sent → x.sent < 4 + y.count → IsPart x y (drop (x.sent - 4) y.drained.items)
frame_part x y noted other late early =
    let size = length-drop (x.sent - 4) y.drained.items in
    let all = all_size x y noted other in
    let framed = frame_size y other in
    let from : x.sent ≡ length (header y) + (x.sent - 4) = omega (arith, late) in record {
      next = λ k few.
          ap (take k) (drop-append-le x.sent (frame y) x.drained.items (omega (arith, framed, early))
          ∙ ap (λ (l : List ℕ). l ++ x.drained.items) (ap (λ (n : ℕ). drop n (frame y)) from ∙ drop-append-add (header y) y.drained.items (x.sent - 4)))
          ∙ take-append-le k (drop (x.sent - 4) y.drained.items) x.drained.items few;
      within = omega (arith, size, all, early, late, other.whole);
      turn = λ k few past. absurd (omega (arith, size, few, past, early, late, other.whole));
    }

own_part : (x y : DirNotes) → IsNoted x → IsNoted y → 4 + y.count ≤ x.sent → x.sent ≤ 4 + y.count + x.count → x.read ≡ frame_length x → IsPart x y (drop (x.sent - frame_length y) x.returned.items)
own_part x y noted other late sent back =
    let whole : x.returned.items ≡ x.drained.items = noted.back ∙ take_all (x.read - 4) x.drained.items (omega (arith, back, noted.whole)) in
    let size = length-drop (x.sent - frame_length y) x.returned.items in
    let bytes : length x.returned.items ≡ x.count = ap length whole ∙ noted.whole in
    let all = all_size x y noted other in
    let framed = frame_size y other in
    let from : x.sent ≡ length (frame y) + (x.sent - frame_length y) = omega (arith, late, framed) in record {
      next = λ k few.
          ap (take k) (ap (λ (n : ℕ). drop n (sent_in_all x y)) from ∙ drop-append-add (frame y) x.drained.items (x.sent - frame_length y) ∙ ap (drop (x.sent - frame_length y)) (sym whole));
      within = omega (arith, size, bytes, all, late, sent);
      turn = λ k few past. back;
    }

no_part : (x y : DirNotes) → IsNoted x → IsNoted y → x.sent ≤ 4 + y.count + x.count → (frame_length y < x.sent → x.read ≡ frame_length x) → IsPart x y []
no_part x y noted other sent turn =
    let all = all_size x y noted other in record {
      next = λ k few. ap (λ (n : ℕ). take n (drop x.sent (sent_in_all x y))) (let zero : k ≡ 0 = omega (arith, few) in zero) ∙ sym (take-nil k);
      within = omega (arith, all, sent);
      turn = λ k few past. turn (omega (arith, few, past));
    }

is_part : (x y : DirNotes) → IsNoted x → IsNoted y → x.sent ≤ length (sent_in_all x y) → (frame_length y < x.sent → x.read ≡ frame_length x) → IsPart x y (part x y)
is_part x y noted other sent turn = choice (nat_lt x.sent 4) (nat_lt x.sent (frame_length y)) (has_back x) refl refl refl
  where
    most : x.sent ≤ 4 + y.count + x.count
    most = let all = all_size x y noted other in omega (arith, all, sent)

    choice : (a b c : Bool) → nat_lt x.sent 4 ≡ a → nat_lt x.sent (frame_length y) ≡ b → has_back x ≡ c
        → IsPart x y (if a then drop x.sent (header y) else if b then drop (x.sent - 4) y.drained.items else if c then drop (x.sent - frame_length y) x.returned.items else [])
    choice true b c is_a is_b is_c = header_part x y noted other (let e : x.sent < 4 = grind (arith, nat_tests, is_a) in e)
    choice false true c is_a is_b is_c =
        frame_part x y noted other (let e : 4 ≤ x.sent = grind (arith, nat_tests, is_a) in e) (let e : x.sent < 4 + y.count = grind (arith, nat_tests, is_b) in e)
    choice false false true is_a is_b is_c =
        own_part x y noted other (let e : 4 + y.count ≤ x.sent = grind (arith, nat_tests, is_b) in e) most (let e : x.read ≡ frame_length x = grind (arith, nat_tests, is_c) in e)
    choice false false false is_a is_b is_c = no_part x y noted other most turn

-- ---- a read of n bytes of the frame off the other direction

read_stream : (n : ℕ) (r : Direction) → n ≤ length r.received → stream (after_receive n r) ≡ drop n (stream r)
read_stream n r few =
    ap (λ (l : List ℕ). l ++ r.sent) (sym (drop-append-le n r.received r.wire few))
    ∙ sym (drop-append-le n (r.received ++ r.wire) r.sent (omega (arith, few, length-append r.received r.wire)))

front_of_all : (n : ℕ) (r : Direction) → n ≤ length r.received → take n r.received ≡ take n (stream r)
front_of_all n r few =
    sym (take-append-le n r.received r.wire few) ∙ sym (take-append-le n (r.received ++ r.wire) r.sent (omega (arith, few, length-append r.received r.wire)))

front_size : (n : ℕ) (r : Direction) → n ≤ length r.received → length (take n r.received) ≡ n
front_size n r few = length-take n r.received ∙ (let e : min n (length r.received) ≡ n = omega (arith, few) in e)

-- how many bytes stand on the other direction
pub stands : (x y : DirNotes) (r : Direction) → IsRefilling y x r → length (stream r) + x.read ≡ y.sent
stands x y r is =
    let sent : length (take y.sent (sent_in_all y x)) ≡ y.sent = length-take y.sent (sent_in_all y x) ∙ (let e : min y.sent (length (sent_in_all y x)) ≡ y.sent = omega (arith, is.sent) in e) in
    let rest : length (stream r) ≡ y.sent - x.read = ap length is.queues ∙ length-drop x.read (take y.sent (sent_in_all y x)) ∙ ap (λ (n : ℕ). n - x.read) sent in
    omega (arith, rest, is.read)

-- a stretch of a list, without what stands before its place j
pub drop_of_take : (j n : ℕ) (xs : List ℕ) → drop j (take n xs) ≡ take (n - j) (drop j xs)
drop_of_take j n xs = choice (nat_lt n j) refl
  where
    choice : (b : Bool) → nat_lt n j ≡ b → drop j (take n xs) ≡ take (n - j) (drop j xs)
    choice true is =
        let past : n < j = grind (arith, nat_tests, is) in
        let size = length-take n xs in
        drop_all j (take n xs) (omega (arith, past, size)) ∙ sym (ap (λ (k : ℕ). take k (drop j xs)) (let zero : n - j ≡ 0 = omega (arith, past) in zero))
    choice false is =
        let upto : j ≤ n = grind (arith, nat_tests, is) in
        ap (λ (k : ℕ). drop j (take k xs)) (let e : n ≡ j + (n - j) = omega (arith, upto) in e) ∙ drop-take j (n - j) xs

-- the piece that is read is a stretch of the frame
piece_is : (x y : DirNotes) (r : Direction) (n : ℕ) → IsNoted x → IsNoted y → IsRefilling y x r → n ≤ length r.received → x.read + n ≤ frame_length x → take n r.received ≡ take n (drop x.read (frame x))
piece_is x y r n noted other is few within =
    let st = stands x y r is in
    let parts : length (stream r) ≡ length r.received + length r.wire + length r.sent = length-append (r.received ++ r.wire) r.sent ∙ ap (λ (k : ℕ). k + length r.sent) (length-append r.received r.wire) in
    let upto : x.read + n ≤ y.sent = omega (arith, st, parts, few) in
    let framed = frame_size x noted in
    front_of_all n r few ∙ ap (take n) is.queues
    ∙ ap (take n) (drop_of_take x.read y.sent (sent_in_all y x))
    ∙ take-take n (y.sent - x.read) (drop x.read (sent_in_all y x)) (omega (arith, upto))
    ∙ ap (take n) (drop-append-le x.read (frame x) y.drained.items (omega (arith, framed, noted.read)))
    ∙ take-append-le n (drop x.read (frame x)) y.drained.items (let rest = length-drop x.read (frame x) in omega (arith, rest, framed, within))

kept_piece : (x : DirNotes) (n : ℕ) → drop (4 - x.read) (take n (drop x.read (frame x))) ≡ take (n - (4 - x.read)) (drop (x.read - 4) x.drained.items)
kept_piece x n =
    drop_of_take (4 - x.read) n (drop x.read (frame x))
    ∙ ap (take (n - (4 - x.read))) (drop_twice x.read (4 - x.read) (frame x)
    ∙ ap (λ (k : ℕ). drop k (frame x)) (let e : x.read + (4 - x.read) ≡ length (header x) + (x.read - 4) = omega arith in e) ∙ drop-append-add (header x) x.drained.items (x.read - 4))

pub read_noted : (x y : DirNotes) (r : Direction) (n : ℕ) → IsNoted x → IsNoted y → IsRefilling y x r → n ≤ length r.received → x.read + n ≤ frame_length x → IsNoted (with_piece (take n r.received) x)
read_noted x y r n noted other is few within =
    let size = front_size n r few in record {
      side = noted.side;
      few = noted.few;
      whole = noted.whole;
      room = noted.room;
      read = omega (arith, size, within);
      back =
          ap₂ (λ (a b : List ℕ). a ++ b) noted.back (ap (drop (4 - x.read)) (piece_is x y r n noted other is few within) ∙ kept_piece x n)
          ∙ sym (take-add (x.read - 4) (n - (4 - x.read)) x.drained.items)
          ∙ ap (λ (k : ℕ). take k x.drained.items) (let e : (x.read - 4) + (n - (4 - x.read)) ≡ (x.read + length (take n r.received)) - 4 = omega (arith, size) in e);
    }

pub read_own : (x y : DirNotes) (d r : Direction) (n : ℕ) → IsRefilling x y d → n ≤ length r.received → x.read + n ≤ frame_length x → IsRefilling (with_piece (take n r.received) x) y d
read_own x y d r n is few within =
    let size = front_size n r few in record {
      flows = is.flows;
      queues = is.queues;
      sent = is.sent;
      read = is.read;
      turn = λ past. let all = is.turn past in omega (arith, all, size, within);
    }

pub read_other : (x y : DirNotes) (r : Direction) (n : ℕ) → IsRefilling y x r → n ≤ length r.received → IsRefilling y (with_piece (take n r.received) x) (after_receive n r)
read_other x y r n is few =
    let size = front_size n r few in
    let st = stands x y r is in
    let parts : length (stream r) ≡ length r.received + length r.wire + length r.sent = length-append (r.received ++ r.wire) r.sent ∙ ap (λ (k : ℕ). k + length r.sent) (length-append r.received r.wire) in record {
      flows = record { goes_on = is.flows.goes_on; is_read = is.flows.is_read };
      queues =
          read_stream n r few ∙ ap (drop n) is.queues ∙ drop_twice x.read n (take y.sent (sent_in_all y x))
          ∙ ap (λ (k : ℕ). drop (x.read + k) (take y.sent (sent_in_all y x))) (sym size);
      sent = is.sent;
      read = omega (arith, size, st, parts, few);
      turn = is.turn;
    }

-- ---- a send of k bytes

pub sent_own : (x y : DirNotes) (d : Direction) (k : ℕ) → IsNoted x → IsNoted y → IsRefilling x y d → k ≤ length (part x y) → IsRefilling (with_sent k x) y (after_send (take k (part x y)) d)
sent_own x y d k noted other is few =
    let p = is_part x y noted other is.sent is.turn in
    let told : length (take x.sent (sent_in_all x y)) ≡ x.sent = length-take x.sent (sent_in_all x y) ∙ (let e : min x.sent (length (sent_in_all x y)) ≡ x.sent = omega (arith, is.sent) in e) in record {
      flows = record { goes_on = is.flows.goes_on; is_read = is.flows.is_read };
      queues =
          sym (append_assoc (d.received ++ d.wire) d.sent (take k (part x y)))
          ∙ ap₂ (λ (a b : List ℕ). a ++ b) is.queues (sym (p.next k few))
          ∙ sym (drop-append-le y.read (take x.sent (sent_in_all x y)) (take k (drop x.sent (sent_in_all x y))) (omega (arith, told, is.read)))
          ∙ ap (drop y.read) (sym (take-add x.sent k (sent_in_all x y)));
      sent = omega (arith, p.within, few);
      read = omega (arith, is.read);
      turn = λ past. p.turn k few past;
    }

pub sent_other : (x y : DirNotes) (r : Direction) (k : ℕ) → IsRefilling y x r → IsRefilling y (with_sent k x) r
sent_other x y r k is = record { flows = is.flows; queues = is.queues; sent = is.sent; read = is.read; turn = is.turn }

pub sent_noted : (x : DirNotes) (k : ℕ) → IsNoted x → IsNoted (with_sent k x)
sent_noted x k is = record { side = is.side; few = is.few; whole = is.whole; room = is.room; read = is.read; back = is.back }
