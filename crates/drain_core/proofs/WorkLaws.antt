-- A step of an agent that moves bytes lowers the work that is left.
--     reading_work, sending_work, one_work        of one direction
--     step_work, moved_lowers     of all
use Rattle.std.proofs.Common.{◌≡◌, ℕ, ◌==◌, ◌+◌, ◌-◌, ◌<◌, ◌≤◌, Bool, true, false, List, [], ◌∷◌, ◌++◌, take, drop, length, suc, zero, refl, sym, ap, ap₂, subst, ◌∙◌, arith, length-append, inl, inr}
use Rattle.std.specs.Prelude.{Option, Some, None, All, IsSome, is_some, nat_lt, ◌||◌, if◌then◌else◌}
use Rattle.std.specs.Option.{option_map, option_map_or}
use Rattle.std.proofs.lemmas.Bool.Decides.{nat_tests}
use Rattle.std.proofs.lemmas.List.{length-drop}
use Rattle.views.proofs.MapLaws.{true_false}
use Rattle.sys_abi.specs.declared.identity.RealPid.{RealPid}
use Rattle.wire_net.specs.declared.agents.Stepped.TheVariants as answer
use Rattle.wire_net.specs.declared.cut_room.DirNotes.{DirNotes}
use Rattle.wire_channels.specs.Directions.{Direction, after_receive, after_send}
use Rattle.wire_channels.specs.Channels.{Channels, direction_at}
use Rattle.drain_core.specs.Tasks.{is_agent, has_sent, unsent, readable, sendable, reads, sends, moves, noted_read, noted_sent, with_sent, note_after, note_after_on, direction_after}
use Rattle.drain_core.specs.Drains.{Notes, IsNoted, IsInStep, Fits, reads_on, moves_on, moves_any, answer_of, notes_after, channels_after}
use Rattle.drain_core.specs.Work.{work_on, work_aside, work_of, work_at, work_left}
use Rattle.drain_core.proofs.OneStep.{sends_same}
use Rattle.drain_core.proofs.OneDrain.{front_length, next_length, unsent_length, read_most, sent_most, same_sends, same_noted}
use Rattle.drain_core.proofs.AllDirections.{for_each, one_of, note_dir, note_sender, aside_note, aside_direction, own_after}
use Rattle.wire_net.proofs.Gains.{gain, sums, sum_of_each}

less_to_read : (x : DirNotes) (n : ℕ) (sent : Bool) → ((if nat_lt (x.read + n) (x.count + 16) then 1 else 0) + (if sent then 0 else 1)) ≤ ((if nat_lt x.read (x.count + 16) then 1 else 0) + (if sent then 0 else 1))
less_to_read x n sent = choice (nat_lt (x.read + n) (x.count + 16)) (nat_lt x.read (x.count + 16)) refl refl
  where
    choice : (after before : Bool) → nat_lt (x.read + n) (x.count + 16) ≡ after → nat_lt x.read (x.count + 16) ≡ before
        → ((if after then 1 else 0) + (if sent then 0 else 1)) ≤ ((if before then 1 else 0) + (if sent then 0 else 1))
    choice true true a b = omega arith
    choice true false a b = absurd (grind (arith, nat_tests, a, b))
    choice false true a b = omega arith
    choice false false a b = omega arith

reading_work : (x : DirNotes) (direction : Direction) (n : ℕ) → n ≤ length direction.received → work_on (noted_read (take n direction.received) x) (after_receive n direction) + n ≤ work_on x direction
reading_work x direction n few = pieces (take n direction.received) refl
  where
    rest : length (drop n direction.received) ≡ length direction.received - n
    rest = length-drop n direction.received

    pieces : (piece : List ℕ) → take n direction.received ≡ piece → work_on (noted_read piece x) (after_receive n direction) + n ≤ work_on x direction
    pieces [] at =
        let zero : n ≡ 0 = sym (front_length n direction few) ∙ ap length at in
        omega (arith, rest, zero)
    pieces (byte ∷ bytes) at =
        let read : length (byte ∷ bytes) ≡ n = sym (ap length at) ∙ front_length n direction few in
        let less = less_to_read x (length (byte ∷ bytes)) (has_sent x) in
        omega (arith, rest, few, less)

less_to_send : (x : DirNotes) (k : ℕ) (reads : Bool) → x.sent + k ≤ 16 → ((if reads then 1 else 0) + (if (x.sent + k) == 16 then 0 else 1)) ≤ ((if reads then 1 else 0) + (if x.sent == 16 then 0 else 1))
less_to_send x k reads most = choice ((x.sent + k) == 16) (x.sent == 16) refl refl
  where
    choice : (after before : Bool) → ((x.sent + k) == 16) ≡ after → (x.sent == 16) ≡ before → ((if reads then 1 else 0) + (if after then 0 else 1)) ≤ ((if reads then 1 else 0) + (if before then 0 else 1))
    choice true true a b = omega arith
    choice true false a b = omega arith
    choice false true a b = absurd (grind (arith, nat_tests, a, b, most))
    choice false false a b = omega arith

sending_work : (x : DirNotes) (direction : Direction) (k : ℕ) → k ≤ length (unsent x) → x.sent ≤ 16 → work_on (noted_sent k x) (with_sent k x direction) + k ≤ work_on x direction
sending_work x direction k few most = choice (k == 0) refl
  where
    left : length (unsent x) ≡ 16 - x.sent
    left = unsent_length x

    longer : length (direction.sent ++ take k (unsent x)) ≡ length direction.sent + k
    longer = length-append direction.sent (take k (unsent x)) ∙ ap (λ (n : ℕ). length direction.sent + n) (next_length k x few)

    choice : (none : Bool) → (k == 0) ≡ none
        → work_on (if none then x else record x { sent = x.sent + k }) (if none then direction else after_send (take k (unsent x)) direction) + k ≤ work_on x direction
    choice true is = let zero : k ≡ 0 = grind (arith, nat_tests, is) in omega (arith, zero)
    choice false is =
        let within : x.sent + k ≤ 16 = omega (arith, left, few, most) in
        let less = less_to_send x k (reads_on x) within in
        omega (arith, left, few, most, longer, less)

read_sent : (piece : List ℕ) (x : DirNotes) → (noted_read piece x).sent ≡ x.sent
read_sent [] x = refl
read_sent (byte ∷ bytes) x = refl

gain_most : (n : ℕ) → gain (nat_lt 0 n) ≤ n
gain_most n = choice (nat_lt 0 n) refl
  where
    choice : (b : Bool) → nat_lt 0 n ≡ b → gain b ≤ n
    choice true is = let some : 0 < n = grind (arith, nat_tests, is) in omega (arith, some)
    choice false is = omega arith

gain_one : (b : Bool) → gain b ≤ 1
gain_one true = omega arith
gain_one false = omega arith

gained : (p : RealPid) (x : DirNotes) (direction : Direction) → gain (moves p x direction) ≤ reads p x direction + sends p x (after_receive (reads p x direction) direction)
gained p x direction = choice (reads p x direction) refl
  where
    choice : (n : ℕ) → reads p x direction ≡ n → gain (nat_lt 0 n || nat_lt 0 (sends p x direction)) ≤ n + sends p x (after_receive n direction)
    choice zero is = subst (λ (i : ℕ). gain (nat_lt 0 (sends p x direction)) ≤ i) (let e : sends p x direction ≡ 0 + sends p x direction = omega arith in e) (gain_most (sends p x direction))
    choice (suc n) is = omega (arith, gain_one (nat_lt 0 (suc n) || nat_lt 0 (sends p x direction)))

pub one_work : (p : RealPid) (x : DirNotes) (direction : Direction) → IsNoted x → work_on (note_after_on p direction x) (direction_after p x direction) + gain (moves p x direction) ≤ work_on x direction
one_work p x direction noted =
    let most = read_most p x direction in
    let n = reads p x direction in
    let piece = take n direction.received in
    let middle = after_receive n direction in
    let k = sends p (noted_read piece x) middle in
    let first = reading_work x direction n most.1 in
    let second = sending_work (noted_read piece x) middle k (sent_most p (noted_read piece x) middle) (subst (λ (i : ℕ). i ≤ 16) (sym (read_sent piece x)) noted.sent) in
    let same : k ≡ sends p x middle = sends_same p piece x middle in
    let last : work_on (noted_sent k (noted_read piece x)) (with_sent k (noted_read piece x) middle) ≡ work_on (note_after_on p direction x) (direction_after p x direction) =
    ap₂ work_on (same_noted p piece x middle) (same_sends p piece x middle) in
    joined _ _ _ _ n k (sends p x middle) (gain (moves p x direction)) first second last same (gained p x direction)
  where
    joined : (before between after result n k sent more : ℕ) → between + n ≤ before → after + k ≤ between → after ≡ result → k ≡ sent → more ≤ n + sent → result + more ≤ before
    joined before between after result n k sent more first second last same most = omega arith

-- ---- all directions

at_step : (p : RealPid) (m n : Channels) (x : DirNotes) → direction_at n x.dir ≡ option_map (direction_after p x) (direction_at m x.dir) → IsNoted x → IsInStep m x
    → work_at n (note_after p (direction_at m x.dir) x) + gain (moves_on p m x) ≤ work_at m x
at_step p m n x is noted fits =
    subst (λ (o : Option Direction). option_map_or (work_of (note_after p (direction_at m x.dir) x)) o 0 + gain (moves_on p m x) ≤ work_at m x)
    (sym (ap (direction_at n) (note_dir p (direction_at m x.dir) x) ∙ is)) (found (direction_at m x.dir) refl fits)
  where
    found : (o : Option Direction) → direction_at m x.dir ≡ o → IsInStep m x
        → option_map_or (work_of (note_after p o x)) (option_map (direction_after p x) o) 0 + gain (option_map_or (moves p x) o false) ≤ option_map_or (work_of x) o 0
    found None at fits = omega arith
    found (Some direction) at (inl aside) =
        let same : work_of (note_after p (Some direction) x) (direction_after p x direction) ≡ work_of x direction =
        ap₂ work_of (aside_note p (Some direction) x aside.sender aside.reader) (aside_direction p x direction aside.sender aside.reader) in
        let none : moves p x direction ≡ false =
        ap₂ (λ (s r : Bool). nat_lt 0 (if r then readable x direction else 0) || nat_lt 0 (if s then sendable x direction else 0)) (ap (is_agent p) aside.sender) (ap (is_agent p) aside.reader) in
        nothing _ _ (moves p x direction) same none
      where
        nothing : (a b : ℕ) (t : Bool) → a ≡ b → t ≡ false → a + gain t ≤ b
        nothing a b true same none = true_false none
        nothing a b false same none = omega arith
    found (Some direction) at (inr under) =
        live (is_some x.sender) (some x.sender under.sender) (ap is_some (note_sender p (Some direction) x)) (one_work p x direction noted)
      where
        some : (o : Option RealPid) → IsSome o → is_some o ≡ true
        some None there = there
        some (Some agent) there = refl

        live : (b : Bool) → b ≡ true → is_some (note_after_on p direction x).sender ≡ b → work_on (note_after_on p direction x) (direction_after p x direction) + gain (moves p x direction) ≤ work_on x direction
            → (if is_some (note_after_on p direction x).sender then work_on (note_after_on p direction x) (direction_after p x direction) else work_aside (direction_after p x direction)) + gain (moves p x direction)
            ≤ (if b then work_on x direction else work_aside direction)
        live b told same less =
            subst (λ (c : Bool). (if c then work_on (note_after_on p direction x) (direction_after p x direction) else work_aside (direction_after p x direction)) + gain (moves p x direction)
            ≤ (if b then work_on x direction else work_aside direction)) (sym same)
            (subst (λ (c : Bool). (if c then work_on (note_after_on p direction x) (direction_after p x direction) else work_aside (direction_after p x direction)) + gain (moves p x direction)
            ≤ (if c then work_on x direction else work_aside direction)) (sym told) less)

pub step_work : (p : RealPid) (m : Channels) (notes : Notes) → Fits m notes → work_left (channels_after p notes m) (notes_after p m notes) + gain (moves_any p m notes) ≤ work_left m notes
step_work p m notes fits =
    subst (λ (n : ℕ). n + gain (moves_any p m notes) ≤ work_left m notes) (sym (sum_of_each (work_at (channels_after p notes m)) (λ x. note_after p (direction_at m x.dir) x) notes))
    (sums (λ x. work_at (channels_after p notes m) (note_after p (direction_at m x.dir) x)) (work_at m) (moves_on p m) notes
    (for_each (λ x. work_at (channels_after p notes m) (note_after p (direction_at m x.dir) x) + gain (moves_on p m x) ≤ work_at m x) notes (λ front back x is.
    at_step p m (channels_after p notes m) x (own_after p m notes front back x fits is) (one_of IsNoted front back x (subst (All IsNoted) is fits.noted))
    (one_of (IsInStep m) front back x (subst (All (IsInStep m)) is fits.in_step)))))

-- who moved bytes left less to do
pub moved_lowers : (p : RealPid) (m : Channels) (notes : Notes) (work : Bool) → Fits m notes → answer_of work (moves_any p m notes) ≡ answer.Moved → work_left (channels_after p notes m) (notes_after p m notes) < work_left m notes
moved_lowers p m notes work fits is = choice work (moves_any p m notes) is (step_work p m notes fits)
  where
    choice : (w b : Bool) → answer_of w b ≡ answer.Moved → work_left (channels_after p notes m) (notes_after p m notes) + gain b ≤ work_left m notes → work_left (channels_after p notes m) (notes_after p m notes) < work_left m notes
    choice true true is less = omega (arith, less)
    choice true false is less = absurd (other is)
      where
        other : answer.Again ≡ answer.Moved → ⊥
        other e = cc
    choice false b is less = absurd (other is)
      where
        other : answer.Finished ≡ answer.Moved → ⊥
        other e = cc
