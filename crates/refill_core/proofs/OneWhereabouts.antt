-- Where the bytes of a direction are while it is refilled: they are those that were drained, at each moment.
--     before_frame        those that are back, and those that were sent again
--     in_frame            those that stand in the frame on the other direction
--     where_drained       all of them
use Rattle.std.proofs.Common.{◌≡◌, ℕ, ◌+◌, ◌-◌, ◌<◌, ◌≤◌, min, max, Bool, true, false, List, ◌++◌, take, drop, length, refl, sym, ap, ap₂, ◌∙◌, arith}
use Rattle.std.specs.Prelude.{Some, nat_lt}
use Rattle.std.proofs.Math.Seq.{take-add, drop-append-add}
use Rattle.std.proofs.lemmas.Bool.Decides.{nat_tests}
use Rattle.std.proofs.lemmas.List.{length-drop, take_all, take_min, take-take, take-append-le, drop-append-le, take-append-drop}
use Rattle.wire_net.specs.declared.cut_room.DirNotes.{DirNotes}
use Rattle.wire_channels.specs.Directions.{Direction}
use Rattle.wire_net.specs.Whereabouts.{stream, placed}
use Rattle.refill_core.specs.Tasks.{header, frame, frame_length, sent_in_all}
use Rattle.refill_core.specs.Refills.{IsNoted, IsRefilling}
use Rattle.refill_core.specs.Holding.{held_of}
use Rattle.wire_net.proofs.Pieces.{drop_twice}
use Rattle.refill_core.proofs.OneRefill.{frame_size, drop_of_take}

-- how many are back
abbrev back : DirNotes → ℕ
back x = x.read - 4

sent_again : (x y : DirNotes) (d : Direction) → IsNoted x → IsNoted y → IsRefilling x y d → frame_length y < x.sent
    → take (x.sent - frame_length y) (drop (min x.sent (frame_length y) - y.read) (stream d)) ≡ take (x.sent - frame_length y) x.drained.items
sent_again x y d noted other is past =
    let framed = frame_size y other in
    let foreign : min x.sent (frame_length y) - y.read ≡ frame_length y - y.read = omega (arith, past) in
    ap₂ (λ (k : ℕ) (l : List ℕ). take (x.sent - frame_length y) (drop k l)) foreign is.queues
    ∙ ap (take (x.sent - frame_length y)) (drop_twice y.read (frame_length y - y.read) (take x.sent (sent_in_all x y))
    ∙ ap (λ (k : ℕ). drop k (take x.sent (sent_in_all x y))) (let e : y.read + (frame_length y - y.read) ≡ frame_length y = omega (arith, other.read) in e)
    ∙ drop_of_take (frame_length y) x.sent (sent_in_all x y)
    ∙ ap (take (x.sent - frame_length y)) (ap (λ (k : ℕ). drop k (sent_in_all x y)) (let e : frame_length y ≡ length (frame y) + 0 = omega (arith, framed) in e) ∙ drop-append-add (frame y) x.drained.items 0))
    ∙ take-take (x.sent - frame_length y) (x.sent - frame_length y) x.drained.items (omega arith)

before_frame : (x y : DirNotes) (d : Direction) → IsNoted x → IsNoted y → IsRefilling x y d
    → take (x.sent - frame_length y) (drop (min x.sent (frame_length y) - y.read) (stream d)) ++ drop (x.sent - frame_length y) x.returned.items ≡ take (back x) x.drained.items
before_frame x y d noted other is = choice (nat_lt (frame_length y) x.sent) refl
  where
    choice : (b : Bool) → nat_lt (frame_length y) x.sent ≡ b
        → take (x.sent - frame_length y) (drop (min x.sent (frame_length y) - y.read) (stream d)) ++ drop (x.sent - frame_length y) x.returned.items ≡ take (back x) x.drained.items
    choice false early =
        let upto : x.sent ≤ frame_length y = grind (arith, nat_tests, early) in
        let zero : x.sent - frame_length y ≡ 0 = omega (arith, upto) in
        ap (λ (k : ℕ). take k (drop (min x.sent (frame_length y) - y.read) (stream d)) ++ drop k x.returned.items) zero ∙ noted.back
    choice true late =
        let past : frame_length y < x.sent = grind (arith, nat_tests, late) in
        let all = is.turn past in
        let whole : take (back x) x.drained.items ≡ x.drained.items = take_all (back x) x.drained.items (omega (arith, all, noted.whole)) in
        ap₂ (λ (a b : List ℕ). a ++ drop (x.sent - frame_length y) b) (sent_again x y d noted other is past) (noted.back ∙ whole)
        ∙ take-append-drop (x.sent - frame_length y) x.drained.items ∙ sym whole

abbrev framed_count : DirNotes → DirNotes → ℕ
framed_count x y = min y.sent (frame_length x) - max x.read 4

in_frame : (x y : DirNotes) (r : Direction) → IsNoted x → IsNoted y → IsRefilling y x r
    → take (framed_count x y) (drop (min y.sent 4 - x.read) (stream r)) ≡ take (framed_count x y) (drop (back x) x.drained.items)
in_frame x y r noted other is = choice (nat_lt y.sent 4) refl
  where
    choice : (b : Bool) → nat_lt y.sent 4 ≡ b → take (framed_count x y) (drop (min y.sent 4 - x.read) (stream r)) ≡ take (framed_count x y) (drop (back x) x.drained.items)
    choice true early =
        let upto : y.sent < 4 = grind (arith, nat_tests, early) in
        let none : framed_count x y ≡ 0 = omega (arith, upto) in
        ap (λ (k : ℕ). take k (drop (min y.sent 4 - x.read) (stream r))) none ∙ sym (ap (λ (k : ℕ). take k (drop (back x) x.drained.items)) none)
    choice false late =
        let from : 4 ≤ y.sent = grind (arith, nat_tests, late) in
        let framed = frame_size x noted in
        let place : x.read + (min y.sent 4 - x.read) ≡ length (header x) + back x = omega (arith, from) in
        let rest = length-drop (back x) x.drained.items in
        ap (λ (l : List ℕ). take (framed_count x y) (drop (min y.sent 4 - x.read) l)) is.queues
        ∙ ap (take (framed_count x y)) (drop_twice x.read (min y.sent 4 - x.read) (take y.sent (sent_in_all y x))
        ∙ ap (λ (k : ℕ). drop k (take y.sent (sent_in_all y x))) place
        ∙ drop_of_take (4 + back x) y.sent (sent_in_all y x))
        ∙ take-take (framed_count x y) (y.sent - (4 + back x)) (drop (4 + back x) (sent_in_all y x)) (omega arith)
        ∙ ap (take (framed_count x y)) (drop-append-le (4 + back x) (frame x) y.drained.items (omega (arith, framed, noted.read))
        ∙ ap (λ (l : List ℕ). l ++ y.drained.items) (drop-append-add (header x) x.drained.items (back x)))
        ∙ take-append-le (framed_count x y) (drop (back x) x.drained.items) y.drained.items (omega (arith, rest, noted.whole, noted.read))

pub where_drained : (x y : DirNotes) (d r : Direction) → IsNoted x → IsNoted y → IsRefilling x y d → IsRefilling y x r → placed (stream d) (stream r) (Some (held_of x y)) ≡ x.drained.items
where_drained x y d r noted other is reverse =
    let upto : back x + framed_count x y ≡ min (y.sent - 4) (length x.drained.items) = counts (nat_lt y.sent 4) refl in
    ap₂ (λ (a b : List ℕ). (a ++ b) ++ drop (y.sent - 4) x.drained.items) (before_frame x y d noted other is) (in_frame x y r noted other reverse)
    ∙ ap (λ (l : List ℕ). l ++ drop (y.sent - 4) x.drained.items) (sym (take-add (back x) (framed_count x y) x.drained.items) ∙ ap (λ (k : ℕ). take k x.drained.items) upto ∙ take_min (y.sent - 4) x.drained.items)
    ∙ take-append-drop (y.sent - 4) x.drained.items
  where
    counts : (b : Bool) → nat_lt y.sent 4 ≡ b → back x + framed_count x y ≡ min (y.sent - 4) (length x.drained.items)
    counts true early = let upto : y.sent < 4 = grind (arith, nat_tests, early) in omega (arith, upto, reverse.read, noted.whole)
    counts false late = let from : 4 ≤ y.sent = grind (arith, nat_tests, late) in omega (arith, from, reverse.read, noted.whole, noted.read)
