-- A step of an agent that moves bytes lowers the work that is left.
--     live_lowers             on one channel
--     end_lowers, ends_lower  of all
use Rattle.std.proofs.Common.{◌≡◌, ◌≢◌, ℕ, ◌==◌, ◌+◌, ◌*◌, ◌-◌, ◌<◌, ◌≤◌, Bool, true, false, List, [], ◌∷◌, length, refl, sym, ap, ap₂, subst, ◌∙◌, arith, inl, inr}
use Rattle.std.specs.Prelude.{Option, Some, None, All, IsSome, is_some, nat_lt, ◌&&◌, ◌||◌, if◌then◌else◌}
use Rattle.std.specs.Ordering.{eq_by_cmp}
use Rattle.std.specs.List.{list_any}
use Rattle.std.proofs.lemmas.Bool.Decides.{nat_tests}
use Rattle.std.proofs.lemmas.List.Elements.{All-nil, All-cons, All-head, All-tail}
use Rattle.std.proofs.lemmas.Option.{same_Some}
use Rattle.views.proofs.MapLaws.{same_or_other, same_key, key_tied, other_key, true_false}
use Rattle.sys_abi.specs.declared.identity.Dir.{Dir}
use Rattle.sys_abi.specs.declared.identity.RealPid.{RealPid}
use Rattle.sys_abi.specs.Orders.{dir_cmp}
use Rattle.sys_abi.proofs.OrderLaws.{dir_total, dir_exact}
use Rattle.wire_net.specs.declared.cut_room.DirNotes.{DirNotes}
use Rattle.wire_channels.specs.Channels.{Channels, direction_at}
use Rattle.wire_net.specs.Whereabouts.{reverse}
use Rattle.refill_core.specs.Tasks.{frame_length, has_back, turn_channels, read_count, send_count, note_read, channels_read}
use Rattle.refill_core.specs.Refills.{Notes, Refilling, Apart, dirs_of, notes_at, put_notes, IsNoted, turn_after, turns_after}
use Rattle.refill_core.specs.Work.{way, work_live, work_of, work_at, work_left, moved_by, moved_any}
use Rattle.refill_core.proofs.OneRefill.{all_size}
use Rattle.refill_core.proofs.EndFits.{Pair, Ended, ended}
use Rattle.refill_core.proofs.Pairs.{twice_around, other_way, put_found, put_beside}
use Rattle.refill_core.proofs.Whole.{FitsNow, Turn, end_cases, end_fits, result_of}
use Rattle.wire_net.proofs.Gains.{gain, gain_or, sums, sum_of_each}

-- ---- one channel

flag_kept : (a b : ℕ) (c : ℕ) → (a ≡ c → b ≡ c) → (if b == c then 0 else 1) ≤ (if a == c then 0 else 1)
flag_kept a b c keeps = choice (b == c) (a == c) refl refl
  where
    choice : (s t : Bool) → (b == c) ≡ s → (a == c) ≡ t → (if s then 0 else 1) ≤ (if t then 0 else 1)
    choice true t is_s is_t = omega arith
    choice false false is_s is_t = omega arith
    choice false true is_s is_t =
        let all : a ≡ c = grind (arith, nat_tests, is_t) in
        let same = keeps all in
        let differ : b ≢ c = grind (arith, nat_tests, is_s) in
        absurd (differ same)

gain_two : (n k : ℕ) → gain (nat_lt 0 n || nat_lt 0 k) ≤ n + k
gain_two n k = choice (nat_lt 0 n) (nat_lt 0 k) refl refl
  where
    choice : (a b : Bool) → nat_lt 0 n ≡ a → nat_lt 0 k ≡ b → gain (a || b) ≤ n + k
    choice true b is_a is_b = let some : 0 < n = grind (arith, nat_tests, is_a) in omega (arith, some)
    choice false true is_a is_b = let some : 0 < k = grind (arith, nat_tests, is_b) in omega (arith, some)
    choice false false is_a is_b = omega arith

live_lowers : (p : RealPid) (m : Channels) (notes : Notes) (d : Dir) (x y : DirNotes) (pair : Pair m notes d x y) (e : Ended p m notes d x y pair)
    → work_live e.after y e.own + gain (nat_lt 0 e.n || nat_lt 0 e.k) ≤ work_live x y pair.own
live_lowers p m notes d x y pair e =
    let read = e.read_after in
    let sent = e.sent_after in
    let count = e.count_after in
    let within = e.within in
    let most : x.sent + e.k ≤ frame_length y + x.count = (let all = all_size e.after y e.noted pair.y_noted in let fits = e.own_fits.sent in omega (arith, all, fits, sent, count)) in
    let bytes = e.own_sent in
    let wire : length e.own.wire ≡ length pair.own.wire = ap length e.own_wire in
    let one : (if e.after.read == (4 + e.after.count) then 0 else 1) ≤ (if x.read == (4 + x.count) then 0 else 1) =
    subst (λ (i : ℕ). (if e.after.read == (4 + i) then 0 else 1) ≤ (if x.read == (4 + x.count) then 0 else 1)) (sym count) (flag_kept x.read e.after.read (4 + x.count) (λ is. omega (arith, is, read, within))) in
    let two : (if e.after.sent == (frame_length y + e.after.count) then 0 else 1) ≤ (if x.sent == (frame_length y + x.count) then 0 else 1) =
    subst (λ (i : ℕ). (if e.after.sent == (frame_length y + i) then 0 else 1) ≤ (if x.sent == (frame_length y + x.count) then 0 else 1)) (sym count) (flag_kept x.sent e.after.sent (frame_length y + x.count) (λ is. omega (arith, is, sent, most))) in
    let more = gain_two e.n e.k in
    omega (arith, read, sent, count, within, most, bytes, wire, one, two, more)

-- ---- all of them

-- no other notes are on that direction
pub only_one : (d : Dir) (notes : Notes) (x : DirNotes) → Apart (dirs_of notes) → notes_at d notes ≡ Some x → All (λ z. z.dir ≡ d → z ≡ x) notes
only_one d [] x apart at = All-nil (λ z. z.dir ≡ d → z ≡ x)
only_one d (y ∷ notes) x apart at = elim (same_or_other dir_total dir_exact y.dir d) [
  | inl same ↦
      let tie : eq_by_cmp dir_cmp y.dir d ≡ true = ap (λ (e : Dir). eq_by_cmp dir_cmp e d) same ∙ key_tied dir_total dir_exact d in
      let is : y ≡ x = same_Some y x (sym (ap (λ (b : Bool). if b then Some y else notes_at d notes) tie) ∙ at) in
      All-cons (λ z. z.dir ≡ d → z ≡ x) y notes (λ _. is) (none_else notes (subst (λ (e : Dir). All (λ f. f ≢ e) (dirs_of notes)) same apart.0))
  | inr differ ↦
      let tie : eq_by_cmp dir_cmp y.dir d ≡ false = other_key dir_total dir_exact y.dir d differ in
      All-cons (λ z. z.dir ≡ d → z ≡ x) y notes (λ same. absurd (differ same)) (only_one d notes x apart.1 (sym (ap (λ (b : Bool). if b then Some y else notes_at d notes) tie) ∙ at))
]
  where
    none_else : (rest : Notes) → All (λ f. f ≢ d) (dirs_of rest) → All (λ z. z.dir ≡ d → z ≡ x) rest
    none_else [] all = All-nil (λ z. z.dir ≡ d → z ≡ x)
    none_else (z ∷ rest) all =
        All-cons (λ v. v.dir ≡ d → v ≡ x) z rest (λ same. absurd (All-head (λ f. f ≢ d) z.dir (dirs_of rest) all same)) (none_else rest (All-tail (λ f. f ≢ d) z.dir (dirs_of rest) all))

-- two facts of each item
each_of_two : (P Q R : DirNotes → Type 0) (notes : Notes) → ((z : DirNotes) → P z → Q z → R z) → All P notes → All Q notes → All R notes
each_of_two P Q R [] leads first second = All-nil R
each_of_two P Q R (z ∷ notes) leads first second =
    All-cons R z notes (leads z (All-head P z notes first) (All-head Q z notes second)) (each_of_two P Q R notes leads (All-tail P z notes first) (All-tail Q z notes second))

here_any : (d : Dir) (moved : Bool) (notes : Notes) (x : DirNotes) → notes_at d notes ≡ Some x → list_any (λ z. eq_by_cmp dir_cmp z.dir d && moved) notes ≡ moved
here_any d moved [] x at = absurd (apart at)
  where
    apart : {z : DirNotes} → None ≡ Some z → ⊥
    apart e = cc
here_any d moved (y ∷ notes) x at = choice (eq_by_cmp dir_cmp y.dir d) moved at (here_any d moved notes x) (no_more d notes)
  where
    no_more : (d : Dir) (rest : Notes) → list_any (λ z. eq_by_cmp dir_cmp z.dir d && false) rest ≡ false
    no_more d [] = refl
    no_more d (z ∷ rest) = ap (λ (b : Bool). b || list_any (λ v. eq_by_cmp dir_cmp v.dir d && false) rest) (never (eq_by_cmp dir_cmp z.dir d)) ∙ no_more d rest
      where
        never : (b : Bool) → (b && false) ≡ false
        never true = refl
        never false = refl

    choice : (tie : Bool) (m : Bool) → (if tie then Some y else notes_at d notes) ≡ Some x → (notes_at d notes ≡ Some x → list_any (λ z. eq_by_cmp dir_cmp z.dir d && m) notes ≡ m)
        → list_any (λ z. eq_by_cmp dir_cmp z.dir d && false) notes ≡ false → ((tie && m) || list_any (λ z. eq_by_cmp dir_cmp z.dir d && m) notes) ≡ m
    choice true true at rest none = refl
    choice true false at rest none = none
    choice false m at rest none = rest at

turn_lowers : (p : RealPid) (d : Dir) (s : Refilling) (t : Turn p d s) → FitsNow s
    → work_left (result_of p d s t.x t.y).channels (result_of p d s t.x t.y).notes + gain (moved_by p d s) ≤ work_left s.channels s.notes
turn_lowers p d s t fits =
    subst (λ (v : DirNotes). work_left after (put_notes d v s.notes) + gain (moved_by p d s) ≤ work_left s.channels s.notes) (sym e.after_is)
    (subst (λ (b : Bool). work_left after (put_notes d e.after s.notes) + gain b ≤ work_left s.channels s.notes) (here_any d (moved_by p d s) s.notes t.x t.pair.x_at)
    (subst (λ (i : ℕ). i + gain (list_any (λ z. eq_by_cmp dir_cmp z.dir d && moved_by p d s) s.notes) ≤ work_left s.channels s.notes)
    (sym (sum_of_each (work_at after (put_notes d e.after s.notes)) (λ z. if eq_by_cmp dir_cmp z.dir d then e.after else z) s.notes))
    (sums (λ z. work_at after (put_notes d e.after s.notes) (if eq_by_cmp dir_cmp z.dir d then e.after else z)) (work_at s.channels s.notes) (λ z. eq_by_cmp dir_cmp z.dir d && moved_by p d s) s.notes
    (each_of_two (λ z. z.dir ≡ d → z ≡ t.x) IsNoted
    (λ z. work_at after (put_notes d e.after s.notes) (if eq_by_cmp dir_cmp z.dir d then e.after else z) + gain (eq_by_cmp dir_cmp z.dir d && moved_by p d s) ≤ work_at s.channels s.notes z)
    s.notes (λ z only noted. one z only noted (eq_by_cmp dir_cmp z.dir d) refl) (only_one d s.notes t.x fits.apart t.pair.x_at) fits.noted))))
  where
    e : Ended p s.channels s.notes d t.x t.y t.pair
    e = ended p s.channels s.notes d t.x t.y t.pair

    after : Channels
    after = turn_channels p t.x t.y s.channels

    sent_true : (o : Option RealPid) → IsSome o → is_some o ≡ true
    sent_true None there = true_false (sym there)
    sent_true (Some agent) there = refl

    moved_is : moved_by p d s ≡ (nat_lt 0 e.n || nat_lt 0 e.k)
    moved_is = t.moves ∙ ap (λ (b : Bool). b && (nat_lt 0 (read_count p t.x s.channels) || nat_lt 0 (send_count p (note_read p t.x s.channels) t.y (channels_read p t.x s.channels)))) t.agent ∙ ap₂ (λ (i j : ℕ). nat_lt 0 i || nat_lt 0 j) e.reads e.sends

    here : work_at after (put_notes d e.after s.notes) e.after + gain (moved_by p d s) ≤ work_at s.channels s.notes t.x
    here =
        let some = sent_true t.x.sender t.sender in
        let new : work_at after (put_notes d e.after s.notes) e.after ≡ work_live e.after t.y e.own =
        ap₂ (work_of e.after) (ap (λ (f : Dir). notes_at (reverse f) (put_notes d e.after s.notes)) e.dir ∙ put_beside d (reverse d) e.after s.notes e.dir (other_way d t.pair.side) ∙ t.pair.y_at) (ap (direction_at after) e.dir ∙ e.own_at)
        ∙ ap (λ (b : Bool). if b then work_live e.after t.y e.own else way e.own) (ap is_some e.sender ∙ some) in
        let old : work_at s.channels s.notes t.x ≡ work_live t.x t.y t.pair.own =
        ap₂ (work_of t.x) (ap (λ (f : Dir). notes_at (reverse f) s.notes) t.pair.x_dir ∙ t.pair.y_at) (ap (direction_at s.channels) t.pair.x_dir ∙ t.pair.own_at)
        ∙ ap (λ (b : Bool). if b then work_live t.x t.y t.pair.own else way t.pair.own) some in
        let less = live_lowers p s.channels s.notes d t.x t.y t.pair e in
        let same : gain (moved_by p d s) ≡ gain (nat_lt 0 e.n || nat_lt 0 e.k) = ap gain moved_is in
        joined _ _ _ _ _ _ new old less same
      where
        joined : (a b c i j k : ℕ) → a ≡ b → c ≡ k → b + j ≤ k → i ≡ j → a + i ≤ c
        joined a b c i j k new old less same = omega arith

    other : (z : DirNotes) → IsNoted z → z.dir ≢ d → work_at after (put_notes d e.after s.notes) z ≡ work_at s.channels s.notes z
    other z noted differ = elim (same_or_other dir_total dir_exact z.dir (reverse d)) [
      | inl same ↦
          let around : reverse z.dir ≡ d = ap reverse same ∙ twice_around d t.pair.side in
          ap₂ (work_of z) (ap (λ (f : Dir). notes_at f (put_notes d e.after s.notes)) around ∙ put_found d t.x e.after s.notes e.dir t.pair.x_at) (ap (direction_at after) same ∙ e.other_at)
          ∙ ap₂ (λ (c w : ℕ). if is_some z.sender then 3 * (4 + c + z.count - z.sent) + w + (frame_length z - z.read) + ((if has_back z then 0 else 1) + (if z.sent == (4 + c + z.count) then 0 else 1)) else w) e.count_after
          (ap₂ (λ (a b : List ℕ). 2 * length a + length b) e.other_sent e.other_wire)
          ∙ sym (ap₂ (work_of z) (ap (λ (f : Dir). notes_at f s.notes) around ∙ t.pair.x_at) (ap (direction_at s.channels) same ∙ t.pair.other_at))
      | inr apart ↦
          ap₂ (work_of z) (put_beside d (reverse z.dir) e.after s.notes e.dir (λ is. apart (sym (twice_around z.dir noted.side) ∙ ap reverse is))) (e.beside z.dir noted.side differ apart)
    ]

    one : (z : DirNotes) → (z.dir ≡ d → z ≡ t.x) → IsNoted z → (tie : Bool) → eq_by_cmp dir_cmp z.dir d ≡ tie
        → work_at after (put_notes d e.after s.notes) (if tie then e.after else z) + gain (tie && moved_by p d s) ≤ work_at s.channels s.notes z
    one z only noted true is =
        subst (λ (v : DirNotes). work_at after (put_notes d e.after s.notes) e.after + gain (moved_by p d s) ≤ work_at s.channels s.notes v) (sym (only (same_key dir_total dir_exact z.dir d is))) here
    one z only noted false is =
        let same = other z noted (λ here. true_false (sym (ap (λ (f : Dir). eq_by_cmp dir_cmp f d) here ∙ key_tied dir_total dir_exact d) ∙ is)) in
        omega (arith, same)

pub end_lowers : (p : RealPid) (d : Dir) (s : Refilling) → FitsNow s → work_left (turn_after p d s).channels (turn_after p d s).notes + gain (moved_by p d s) ≤ work_left s.channels s.notes
end_lowers p d s fits = elim (end_cases p d s fits) [
  | inl still ↦
      let same : work_left (turn_after p d s).channels (turn_after p d s).notes ≡ work_left s.channels s.notes = ap (λ (t : Refilling). work_left t.channels t.notes) still.is in
      let none : gain (moved_by p d s) ≡ 0 = ap gain still.moves in
      omega (arith, same, none)
  | inr turn ↦ subst (λ (t : Refilling). work_left t.channels t.notes + gain (moved_by p d s) ≤ work_left s.channels s.notes) (sym turn.is) (turn_lowers p d s turn fits)
]

pub ends_lower : (p : RealPid) (ds : List Dir) (s : Refilling) → FitsNow s → work_left (turns_after p ds s).channels (turns_after p ds s).notes + gain (moved_any p ds s) ≤ work_left s.channels s.notes
ends_lower p [] s fits = omega arith
ends_lower p (d ∷ ds) s fits =
    let first = end_lowers p d s fits in
    let rest = ends_lower p ds (turn_after p d s) (end_fits p d s fits) in
    let most = gain_or (moved_by p d s) (moved_any p ds (turn_after p d s)) in
    omega (arith, first, rest, most)
