-- A refill is done exactly where no work is left, and then each direction has its bytes back.
--     finished_is, done_is        the tests
--     all_true                    what all items pass one of them passes
--     back_again                  the bytes are back
use Rattle.std.proofs.Common.{◌≡◌, ◌≢◌, ℕ, ◌==◌, ◌+◌, ◌*◌, ◌-◌, ◌<◌, Bool, true, false, List, [], ◌∷◌, ◌++◌, drop, length, refl, sym, ap, ap₂, subst, ◌∙◌, arith, append-nil, inl, inr}
use Rattle.std.specs.Prelude.{Option, Some, None, All, IsSome, is_some, ◌&&◌, if◌then◌else◌}
use Rattle.std.specs.List.{list_all}
use Rattle.std.proofs.Math.Seq.{drop-append-add}
use Rattle.std.proofs.lemmas.Bool.{and_parts}
use Rattle.std.proofs.lemmas.Bool.Decides.{nat_tests}
use Rattle.std.proofs.lemmas.List.{take_all, nil_from_length}
use Rattle.std.proofs.lemmas.List.Folds.{sum_by-zero}
use Rattle.views.proofs.MapLaws.{true_false}
use Rattle.sys_abi.specs.declared.identity.Dir.{Dir}
use Rattle.sys_abi.specs.declared.identity.RealPid.{RealPid}
use Rattle.wire_net.specs.declared.cut_room.DirNotes.{DirNotes}
use Rattle.wire_channels.specs.Directions.{Direction}
use Rattle.wire_channels.specs.Channels.{Channels, direction_at}
use Rattle.wire_net.specs.Networks.{Network}
use Rattle.wire_channels.specs.Answers.{received_on}
use Rattle.wire_net.specs.Whereabouts.{stream, stream_on, reverse, whereabouts}
use Rattle.refill_core.specs.Holding.{agents_of, own_bytes}
use Rattle.refill_core.specs.Tasks.{frame, frame_length, sent_in_all, has_back}
use Rattle.refill_core.specs.Refills.{Notes, notes_at, IsNoted, IsRefilling, IsInStep, Fits, IsBack}
use Rattle.refill_core.specs.Work.{way, has_sent_all, work_live, work_of, work_at, work_left, has_arrived, finished_of, is_finished, is_done}
use Rattle.refill_core.proofs.OneRefill.{frame_size, all_size}
use Rattle.refill_core.proofs.EndFits.{pair_of}
use Rattle.wire_net.proofs.Items.{for_each, one_of}
use Rattle.refill_core.proofs.Bytes.{whereabouts_is, at_itself}
use Rattle.refill_core.proofs.Pairs.{all_found}
use Rattle.wire_net.proofs.Gains.{both_zero}

live_zero : (x y : DirNotes) (direction : Direction) → (work_live x y direction == 0) ≡ ((has_back x && has_sent_all x y) && has_arrived direction)
live_zero x y direction = choice (has_back x) (has_sent_all x y) refl refl
  where
    rest : ℕ
    rest = 3 * (frame_length y + x.count - x.sent) + way direction + (frame_length x - x.read)

    choice : (back sent : Bool) → has_back x ≡ back → has_sent_all x y ≡ sent → ((rest + ((if back then 0 else 1) + (if sent then 0 else 1))) == 0) ≡ ((back && sent) && has_arrived direction)
    choice true true b s =
        let read : x.read ≡ frame_length x = grind (arith, nat_tests, b) in
        let all : x.sent ≡ frame_length y + x.count = grind (arith, nat_tests, s) in
        let same : rest + (0 + 0) ≡ way direction = omega (arith, read, all) in
        ap (λ (n : ℕ). n == 0) same ∙ both_zero (length direction.sent) (length direction.wire)
    choice true false b s = let some : rest + (0 + 1) ≢ 0 = omega arith in grind (arith, nat_tests, some)
    choice false true b s = let some : rest + (1 + 0) ≢ 0 = omega arith in grind (arith, nat_tests, some)
    choice false false b s = let some : rest + (1 + 1) ≢ 0 = omega arith in grind (arith, nat_tests, some)

finished_is : (x : DirNotes) (other : Option DirNotes) (found : Option Direction) → (work_of x other found == 0) ≡ finished_of x other found
finished_is x other None = refl
finished_is x None (Some direction) = both_zero (length direction.sent) (length direction.wire)
finished_is x (Some y) (Some direction) = choice (is_some x.sender)
  where
    choice : (b : Bool) → ((if b then work_live x y direction else way direction) == 0) ≡ (if b then (has_back x && has_sent_all x y) && has_arrived direction else has_arrived direction)
    choice true = live_zero x y direction
    choice false = both_zero (length direction.sent) (length direction.wire)

same_tests : (p q : DirNotes → Bool) (notes : Notes) → ((x : DirNotes) → p x ≡ q x) → list_all p notes ≡ list_all q notes
same_tests p q [] same = refl
same_tests p q (x ∷ notes) same = ap₂ (λ (a b : Bool). a && b) (same x) (same_tests p q notes same)

pub done_is : (m : Channels) (notes : Notes) → is_done m notes ≡ (work_left m notes == 0)
done_is m notes =
    sym (sum_by-zero (work_at m notes) notes ∙ same_tests (λ x. work_at m notes x == 0) (is_finished m notes) notes (λ x. finished_is x (notes_at (reverse x.dir) notes) (direction_at m x.dir)))

pub all_true : (test : DirNotes → Bool) (front back : Notes) (x : DirNotes) → list_all test (front ++ x ∷ back) ≡ true → test x ≡ true
all_true test [] back x is = (and_parts (test x) (list_all test back) is).0
all_true test (y ∷ front) back x is = all_true test front back x (and_parts (test y) (list_all test (front ++ x ∷ back)) is).1

pub all_pass : (test : DirNotes → Bool) (notes : Notes) → list_all test notes ≡ true → All (λ x. test x ≡ true) notes
all_pass test notes is = for_each (λ x. test x ≡ true) notes (λ front back x among. all_true test front back x (ap (list_all test) (sym among) ∙ is))

-- ---- the bytes are back

pub arrived : (direction : Direction) → has_arrived direction ≡ true → stream direction ≡ direction.received
arrived direction is =
    let parts = and_parts (length direction.sent == 0) (length direction.wire == 0) is in
    let no_sent : direction.sent ≡ [] = nil_from_length direction.sent (let e : length direction.sent ≡ 0 = grind (arith, nat_tests, parts.0) in e) in
    let no_wire : direction.wire ≡ [] = nil_from_length direction.wire (let e : length direction.wire ≡ 0 = grind (arith, nat_tests, parts.1) in e) in
    ap₂ (λ (a b : List ℕ). (direction.received ++ a) ++ b) no_wire no_sent ∙ append-nil (direction.received ++ []) ∙ append-nil direction.received

live_back : (x y : DirNotes) (d : Direction) → IsNoted x → IsNoted y → IsRefilling x y d → has_sent_all x y ≡ true → has_back y ≡ true → stream d ≡ x.drained.items
live_back x y d noted other is sent back =
    let all : x.sent ≡ frame_length y + x.count = grind (arith, nat_tests, sent) in
    let read : y.read ≡ frame_length y = grind (arith, nat_tests, back) in
    let size = all_size x y noted other in
    let framed = frame_size y other in
    is.queues
    ∙ ap₂ (λ (k : ℕ) (l : List ℕ). drop k l) (let e : y.read ≡ length (frame y) + 0 = omega (arith, read, framed) in e) (take_all x.sent (sent_in_all x y) (omega (arith, all, size)))
    ∙ drop-append-add (frame y) x.drained.items 0

finished_found : (x : DirNotes) (other : Option DirNotes) (found : Option Direction) (y : DirNotes) (d : Direction) → is_some x.sender ≡ true → other ≡ Some y → found ≡ Some d → finished_of x other found ≡ true
    → ((has_back x && has_sent_all x y) && has_arrived d) ≡ true
finished_found x other found y d some at here is =
    sym (ap₂ (finished_of x) at here ∙ ap (λ (b : Bool). if b then (has_back x && has_sent_all x y) && has_arrived d else has_arrived d) some) ∙ is

back_one : (t : Network) (notes : Notes) (front back : Notes) (x : DirNotes) → Fits t.channels notes → is_done t.channels notes ≡ true → notes ≡ front ++ x ∷ back → IsInStep t.channels notes x
    → IsBack (λ d. whereabouts t (agents_of notes) d) t.channels x
back_one t notes front back x fits done among (inl aside) =
    let at = at_itself notes front back x among fits.apart in record {
      quiet = aside.quiet;
      whole =
          sym aside.quiet
          ∙ sym (whereabouts_is t notes x.dir fits ∙ ap (λ (o : Option DirNotes). own_bytes o (stream_on (direction_at t.channels x.dir))) at
          ∙ ap (λ (o : Option RealPid). if is_some o then x.drained.items else stream_on (direction_at t.channels x.dir)) aside.sender);
    }
back_one t notes front back x fits done among (inr under) =
    let at = at_itself notes front back x among fits.apart in
    let two = pair_of t.channels notes x.dir x fits at under.sender in
    let y = two.0 in
    let pair = two.1 in
    let some : is_some x.sender ≡ true = there x.sender under.sender in
    let tests = all_pass (is_finished t.channels notes) notes done in
    let x_told = finished_found x (notes_at (reverse x.dir) notes) (direction_at t.channels x.dir) y pair.own some pair.y_at pair.own_at (all_found (λ z. is_finished t.channels notes z ≡ true) x.dir notes x at tests) in
    let y_told =
    finished_found y (notes_at (reverse y.dir) notes) (direction_at t.channels y.dir) x pair.other pair.y_live
    (ap (λ (d : Dir). notes_at (reverse d) notes) pair.y_dir ∙ ap (λ (d : Dir). notes_at d notes) (around x.dir pair.side) ∙ at) (ap (direction_at t.channels) pair.y_dir ∙ pair.other_at)
    (all_found (λ z. is_finished t.channels notes z ≡ true) (reverse x.dir) notes y pair.y_at tests) in
    let x_parts = and_parts (has_back x && has_sent_all x y) (has_arrived pair.own) x_told in
    let x_sent = and_parts (has_back x) (has_sent_all x y) x_parts.0 in
    let y_parts = and_parts (has_back y && has_sent_all y x) (has_arrived pair.other) y_told in
    let y_back = and_parts (has_back y) (has_sent_all y x) y_parts.0 in
    let bytes : stream pair.own ≡ x.drained.items = live_back x y pair.own pair.x_noted pair.y_noted pair.own_fits x_sent.1 y_back.0 in
    let quiet : stream_on (direction_at t.channels x.dir) ≡ received_on (direction_at t.channels x.dir) = ap stream_on pair.own_at ∙ arrived pair.own x_parts.1 ∙ ap received_on (sym pair.own_at) in record {
      quiet = quiet;
      whole =
          sym quiet ∙ ap stream_on pair.own_at ∙ bytes
          ∙ sym (whereabouts_is t notes x.dir fits ∙ ap (λ (o : Option DirNotes). own_bytes o (stream_on (direction_at t.channels x.dir))) at
          ∙ ap (λ (b : Bool). if b then x.drained.items else stream_on (direction_at t.channels x.dir)) some);
    }
  where
    there : (o : Option RealPid) → IsSome o → is_some o ≡ true
    there None is = true_false (sym is)
    there (Some agent) is = refl

    around : (d : Dir) → d.side < 2 → reverse (reverse d) ≡ d
    around d few = ap (λ (n : ℕ). let e : Dir = record { conn = d.conn; side = n } in e) (let s : 1 - (1 - d.side) ≡ d.side = omega (arith, few) in s)

pub back_again : (t : Network) (notes : Notes) → Fits t.channels notes → is_done t.channels notes ≡ true → All (IsBack (λ d. whereabouts t (agents_of notes) d) t.channels) notes
back_again t notes fits done =
    for_each (IsBack (λ d. whereabouts t (agents_of notes) d) t.channels) notes (λ front back x among.
    back_one t notes front back x fits done among (one_of (IsInStep t.channels notes) front back x (subst (All (IsInStep t.channels notes)) among fits.in_step)))
