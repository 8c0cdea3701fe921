-- When an agent can move nothing.
--     must_send_is      bytes are to be sent exactly where the next part has some
--     held_up           a step answers that work is left and nothing moved exactly where each queue that the agent must read is empty, and each
--                       direction that it must write is full
use Rattle.std.proofs.Common.{◌≡◌, ◌≢◌, ℕ, ◌+◌, ◌-◌, ◌≤◌, ◌<◌, ◌↔◌, min, Bool, true, false, List, [], drop, length, refl, sym, ap, ap₂, subst, ◌∙◌, arith, inl, inr}
use Rattle.std.specs.Prelude.{Option, Some, None, All, IfSome, nat_lt, not, ◌&&◌, ◌||◌, if◌then◌else◌}
use Rattle.std.proofs.lemmas.Bool.{or_parts}
use Rattle.std.proofs.lemmas.Bool.Decides.{nat_tests}
use Rattle.std.proofs.lemmas.List.{nil_from_length}
use Rattle.views.proofs.MapLaws.{true_false}
use Rattle.sys_abi.specs.declared.identity.Dir.{Dir}
use Rattle.sys_abi.specs.declared.identity.RealPid.{RealPid}
use Rattle.wire_net.specs.declared.agents.Stepped.TheVariants as answer
use Rattle.wire_net.specs.declared.cut_room.DirNotes.{DirNotes}
use Rattle.wire_channels.specs.declared.limits.TheConstants.{QUEUE_LIMIT}
use Rattle.wire_channels.specs.Directions.{Direction, standing, room}
use Rattle.wire_channels.specs.Channels.{Channels, direction_at}
use Rattle.wire_channels.specs.Answers.{received_on}
use Rattle.wire_net.specs.Whereabouts.{reverse}
use Rattle.refill_core.specs.declared.limits.TheConstants.{HEADER_LENGTH}
use Rattle.refill_core.specs.Tasks.{is_agent, header, frame_length, has_back, part, wanted, read_count, note_read, channels_read, send_count}
use Rattle.refill_core.specs.Refills.{Notes, Refilling, dirs_of, notes_at, IsNoted}
use Rattle.refill_core.specs.Work.{has_sent_all, moved_by, moved_any, has_work, answer_of, step_answer, must_send, IsBlocked, IsHeldUp}
use Rattle.wire_net.proofs.Items.{for_each, one_of}
use Rattle.refill_core.proofs.OneRefill.{all_size}
use Rattle.refill_core.proofs.EndFits.{Pair, pair_of}
use Rattle.refill_core.proofs.Pairs.{all_found}
use Rattle.refill_core.proofs.Whole.{FitsNow, Turn, end_cases, agent_some}
use Rattle.refill_core.proofs.Bytes.{at_itself}
use Rattle.refill_core.proofs.Still.{zero_test, moved_nowhere, none_moved}
use Rattle.refill_core.proofs.Going.{positive, moved_is, read_is, sent_is, part_size, own_size}
use Rattle.wire_net.proofs.Gains.{again_is}

test_zero : (n : ℕ) → n ≡ 0 → nat_lt 0 n ≡ false
test_zero n is = grind (arith, nat_tests, is)

-- ---- what is to be sent

-- the frame of the other direction is sent, and its own bytes are not back
no_part : (x y : DirNotes) → frame_length y ≤ x.sent → has_back x ≡ false → length (part x y) ≡ 0
no_part x y late away = choice (nat_lt x.sent HEADER_LENGTH) (nat_lt x.sent (frame_length y)) (has_back x) refl refl away
  where
    choice : (a b c : Bool) → nat_lt x.sent HEADER_LENGTH ≡ a → nat_lt x.sent (frame_length y) ≡ b → c ≡ false
        → length (if a then drop x.sent (header y) else if b then drop (x.sent - HEADER_LENGTH) y.drained.items else if c then drop (x.sent - frame_length y) x.returned.items else []) ≡ 0
    choice true b c is_a is_b is_c = let few : x.sent < HEADER_LENGTH = grind (arith, nat_tests, is_a) in absurd (omega (arith, few, late))
    choice false true c is_a is_b is_c = let few : x.sent < frame_length y = grind (arith, nat_tests, is_b) in absurd (omega (arith, few, late))
    choice false false true is_a is_b is_c = true_false is_c
    choice false false false is_a is_b is_c = refl

-- its own bytes are back
own_left : (x y : DirNotes) → IsNoted x → frame_length y ≤ x.sent → x.read ≡ frame_length x → x.sent ≤ frame_length y + x.count → not (has_sent_all x y) ≡ nat_lt 0 (length (part x y))
own_left x y noted late back within = choice (has_sent_all x y) refl
  where
    choice : (c : Bool) → has_sent_all x y ≡ c → not c ≡ nat_lt 0 (length (part x y))
    choice true is =
        let all : x.sent ≡ frame_length y + x.count = grind (arith, nat_tests, is) in
        let size = own_size x y noted late back in
        sym (test_zero (length (part x y)) (omega (arith, size, all)))
    choice false is =
        let differ : x.sent ≢ frame_length y + x.count = grind (arith, nat_tests, is) in
        let size = own_size x y noted late back in
        sym (positive (length (part x y)) (omega (arith, size, differ, within, late)))

pub must_send_is : (x y : DirNotes) → IsNoted x → IsNoted y → x.sent ≤ frame_length y + x.count → must_send x y ≡ nat_lt 0 (length (part x y))
must_send_is x y noted other within = choice (nat_lt x.sent (frame_length y)) (has_back x) refl refl
  where
    choice : (a b : Bool) → nat_lt x.sent (frame_length y) ≡ a → has_back x ≡ b → (a || (b && not (has_sent_all x y))) ≡ nat_lt 0 (length (part x y))
    choice true b is_a is_b = let early : x.sent < frame_length y = grind (arith, nat_tests, is_a) in sym (positive (length (part x y)) (part_size x y noted other early))
    choice false true is_a is_b =
        let late : frame_length y ≤ x.sent = grind (arith, nat_tests, is_a) in
        let back : x.read ≡ frame_length x = grind (arith, nat_tests, is_b) in
        own_left x y noted late back within
    choice false false is_a is_b =
        let late : frame_length y ≤ x.sent = grind (arith, nat_tests, is_a) in
        sym (test_zero (length (part x y)) (no_part x y late is_b))

-- of a channel that is refilled
pair_sends : (m : Channels) (notes : Notes) (d : Dir) (x y : DirNotes) → Pair m notes d x y → must_send x y ≡ nat_lt 0 (length (part x y))
pair_sends m notes d x y pair =
    let few = pair.own_fits.sent in
    let all = all_size x y pair.x_noted pair.y_noted in
    must_send_is x y pair.x_noted pair.y_noted (omega (arith, few, all))

-- ---- one direction, of which the agent moves nothing

nothing_come : (x : DirNotes) (received : List ℕ) → IsNoted x → has_back x ≡ false → min (wanted x) (length received) ≡ 0 → received ≡ []
nothing_come x received noted away none =
    let differ : x.read ≢ frame_length x = grind (arith, nat_tests, away) in
    let most = noted.read in
    nil_from_length received (omega (arith, none, differ, most))

no_room : (x y : DirNotes) (direction : Direction) → must_send x y ≡ nat_lt 0 (length (part x y)) → must_send x y ≡ true → min (length (part x y)) (room direction) ≡ 0 → QUEUE_LIMIT ≤ standing direction
no_room x y direction same more none =
    let test : nat_lt 0 (length (part x y)) ≡ true = sym same ∙ more in
    let some : 0 < length (part x y) = grind (arith, nat_tests, test) in
    omega (arith, none, some)

blocked_of : (p : RealPid) (s : Refilling) (x y : DirNotes) → Pair s.channels s.notes x.dir x y → is_agent p x.sender ≡ true → moved_by p x.dir s ≡ false → IsBlocked p s.channels x y
blocked_of p s x y pair agent none =
    let parts = or_parts (nat_lt 0 (read_count p x s.channels)) (nat_lt 0 (send_count p (note_read p x s.channels) y (channels_read p x s.channels))) (sym (moved_is p x.dir s x y pair agent) ∙ none) in
    let read = zero_test (read_count p x s.channels) parts.0 in
    let sent = zero_test (send_count p (note_read p x s.channels) y (channels_read p x s.channels)) parts.1 in record {
      empty = λ is away. ap received_on pair.other_at ∙ nothing_come x pair.other.received pair.x_noted away (sym (read_is p x.dir s x y pair agent) ∙ read);
      full = λ is more.
          subst (λ (o : Option Direction). IfSome o (λ direction. QUEUE_LIMIT ≤ standing direction)) (sym pair.own_at)
          (no_room x y pair.own (pair_sends s.channels s.notes x.dir x y pair) more (sym (sent_is p x.dir s x y pair agent read) ∙ sent));
    }

blocked_at : (p : RealPid) (s : Refilling) (x : DirNotes) → FitsNow s → notes_at x.dir s.notes ≡ Some x → moved_by p x.dir s ≡ false → IfSome (notes_at (reverse x.dir) s.notes) (IsBlocked p s.channels x)
blocked_at p s x fits at none = choice (is_agent p x.sender) refl
  where
    others : (o : Option DirNotes) → is_agent p x.sender ≡ false → IfSome o (IsBlocked p s.channels x)
    others None apart = tt
    others (Some y) apart = record { empty = λ agent away. true_false (sym agent ∙ apart); full = λ agent more. true_false (sym agent ∙ apart) }

    choice : (b : Bool) → is_agent p x.sender ≡ b → IfSome (notes_at (reverse x.dir) s.notes) (IsBlocked p s.channels x)
    choice false apart = others (notes_at (reverse x.dir) s.notes) apart
    choice true agent =
        let two = pair_of s.channels s.notes x.dir x fits at (agent_some p x.sender agent) in
        subst (λ (o : Option DirNotes). IfSome o (IsBlocked p s.channels x)) (sym two.1.y_at) (blocked_of p s x two.0 two.1 agent none)

-- ---- and back

reads_none : (p : RealPid) (d : Dir) (s : Refilling) (t : Turn p d s) → IsBlocked p s.channels t.x t.y → read_count p t.x s.channels ≡ 0
reads_none p d s t blocked = read_is p d s t.x t.y t.pair t.agent ∙ choice (has_back t.x) refl
  where
    choice : (back : Bool) → has_back t.x ≡ back → min (wanted t.x) (length t.pair.other.received) ≡ 0
    choice true is = let all : t.x.read ≡ frame_length t.x = grind (arith, nat_tests, is) in omega (arith, all)
    choice false is =
        let here : received_on (direction_at s.channels (reverse t.x.dir)) ≡ t.pair.other.received = ap (λ (e : Dir). received_on (direction_at s.channels (reverse e))) t.pair.x_dir ∙ ap received_on t.pair.other_at in
        let none : length t.pair.other.received ≡ 0 = ap length (sym here ∙ blocked.empty t.agent is) in
        omega (arith, none)

sends_none : (p : RealPid) (d : Dir) (s : Refilling) (t : Turn p d s) → IsBlocked p s.channels t.x t.y → send_count p (note_read p t.x s.channels) t.y (channels_read p t.x s.channels) ≡ 0
sends_none p d s t blocked = sent_is p d s t.x t.y t.pair t.agent (reads_none p d s t blocked) ∙ choice (must_send t.x t.y) refl
  where
    choice : (more : Bool) → must_send t.x t.y ≡ more → min (length (part t.x t.y)) (room t.pair.own) ≡ 0
    choice true is =
        let full : QUEUE_LIMIT ≤ standing t.pair.own =
        subst (λ (o : Option Direction). IfSome o (λ direction. QUEUE_LIMIT ≤ standing direction)) (ap (direction_at s.channels) t.pair.x_dir ∙ t.pair.own_at) (blocked.full t.agent is) in
        omega (arith, full)
    choice false is =
        let none = zero_test (length (part t.x t.y)) (sym (pair_sends s.channels s.notes d t.x t.y t.pair) ∙ is) in
        omega (arith, none)

still_at : (p : RealPid) (d : Dir) (s : Refilling) → FitsNow s → All (λ x. IfSome (notes_at (reverse x.dir) s.notes) (IsBlocked p s.channels x)) s.notes → moved_by p d s ≡ false
still_at p d s fits blocked = elim (end_cases p d s fits) [
  | inl still ↦ still.moves
  | inr turn ↦ of_turn turn
]
  where
    of_turn : Turn p d s → moved_by p d s ≡ false
    of_turn t =
        let here : IsBlocked p s.channels t.x t.y =
        subst (λ (o : Option DirNotes). IfSome o (IsBlocked p s.channels t.x)) (ap (λ (e : Dir). notes_at (reverse e) s.notes) t.pair.x_dir ∙ t.pair.y_at)
        (all_found (λ x. IfSome (notes_at (reverse x.dir) s.notes) (IsBlocked p s.channels x)) d s.notes t.x t.pair.x_at blocked) in
        moved_is p d s t.x t.y t.pair t.agent ∙ ap₂ (λ (i j : ℕ). nat_lt 0 i || nat_lt 0 j) (reads_none p d s t here) (sends_none p d s t here)

-- ---- of all directions

all_blocked : (p : RealPid) (s : Refilling) → FitsNow s → moved_any p (dirs_of s.notes) s ≡ false → All (λ x. IfSome (notes_at (reverse x.dir) s.notes) (IsBlocked p s.channels x)) s.notes
all_blocked p s fits none =
    for_each (λ x. IfSome (notes_at (reverse x.dir) s.notes) (IsBlocked p s.channels x)) s.notes (λ front back x among.
    blocked_at p s x fits (at_itself s.notes front back x among fits.apart)
    (one_of (λ z. moved_by p z.dir s ≡ false) front back x (subst (All (λ z. moved_by p z.dir s ≡ false)) among (none_moved p s.notes s fits none))))

pub held_up : (p : RealPid) (s : Refilling) → FitsNow s → (step_answer p s ≡ answer.Again) ↔ IsHeldUp p s.channels s.notes
held_up p s fits = (
  λ is. let told = again_is (has_work p s.notes) (moved_any p (dirs_of s.notes) s) is in record { work = told.0; blocked = all_blocked p s fits told.1 },
  λ held. ap₂ answer_of held.work (moved_nowhere p (dirs_of s.notes) s fits (λ d. still_at p d s fits held.blocked)),
)
