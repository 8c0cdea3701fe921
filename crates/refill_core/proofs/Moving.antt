-- A move of bytes from queue to queue, while agents refill.
--     moved_fits                  the notes fit the network after a move
--     moved_no_more, moved_work   no more work is left, and less where bytes were moved
use Rattle.std.proofs.Common.{◌≡◌, ◌≢◌, ℕ, ◌+◌, ◌<◌, ◌≤◌, min, Bool, true, false, List, [], ◌++◌, take, length, refl, sym, ap, subst, ◌∙◌, arith, length-append, append-nil, inl, inr}
use Rattle.std.specs.Prelude.{Option, Some, None, All, is_some, ◌⊎◌, if◌then◌else◌}
use Rattle.std.specs.Option.{option_map}
use Rattle.std.specs.Ordering.{eq_by_cmp}
use Rattle.std.proofs.Math.Seq.{take-nil}
use Rattle.std.proofs.lemmas.List.{length-take, length-drop, nil_from_length}
use Rattle.views.proofs.MapLaws.{same_or_other, key_tied, other_key, true_false}
use Rattle.sys_abi.specs.declared.identity.Dir.{Dir}
use Rattle.sys_abi.specs.Orders.{dir_cmp}
use Rattle.sys_abi.proofs.OrderLaws.{dir_total, dir_exact}
use Rattle.wire_net.specs.declared.cut_room.DirNotes.{DirNotes}
use Rattle.wire_channels.specs.declared.place.Place.{Place}
use Rattle.wire_channels.specs.declared.place.Place.TheVariants.{Send, Wire}
use Rattle.wire_channels.specs.Directions.{Direction, bytes_at, after_move}
use Rattle.wire_channels.specs.Channels.{Channels, direction_at, at_direction, is_live_at}
use Rattle.wire_net.specs.Networks.{Network}
use Rattle.wire_channels.specs.Answers.{bytes_on, received_on}
use Rattle.wire_net.specs.Whereabouts.{stream, stream_on, reverse}
use Rattle.wire_net.proofs.Streams.{stream-move}
use Rattle.refill_core.specs.Refills.{Notes, IsFlowing, IsNoted, IsRefilling, IsInStep, Fits, has_notes, notes_at}
use Rattle.refill_core.specs.Work.{way, work_live, work_of, work_at, work_left}
use Rattle.refill_core.proofs.OneCall.{with_channels}
use Rattle.wire_channels.proofs.OneDirection.{direction_changed, direction_beside}
use Rattle.wire_net.proofs.LiveChannels.{live_kept, move_flows}
use Rattle.wire_net.proofs.Items.{for_each, one_of}
use Rattle.wire_net.proofs.Gains.{gain, sums, cut_down, stream_length}

pub ends_kept : (place : Place) (n : ℕ) (direction : Direction) → IsFlowing direction → IsFlowing (after_move place n direction)
ends_kept Send n direction flows = record { goes_on = flows.goes_on; is_read = flows.is_read }
ends_kept Wire n direction flows = record { goes_on = flows.goes_on; is_read = flows.is_read }

-- where all bytes can be read already, nothing is moved
quiet_move : (place : Place) (n : ℕ) (direction : Direction) → stream direction ≡ direction.received → stream (after_move place n direction) ≡ (after_move place n direction).received
quiet_move place n direction quiet =
    let size = stream_length direction in
    let same : length (stream direction) ≡ length direction.received = ap length quiet in
    let no_sent : direction.sent ≡ [] = nil_from_length direction.sent (omega (arith, size, same)) in
    let no_wire : direction.wire ≡ [] = nil_from_length direction.wire (omega (arith, size, same)) in
    moved place no_sent no_wire
  where
    moved : (place : Place) → direction.sent ≡ [] → direction.wire ≡ [] → stream (after_move place n direction) ≡ (after_move place n direction).received
    moved Send no_sent no_wire = stream-move Send n direction ∙ quiet
    moved Wire no_sent no_wire =
        stream-move Wire n direction ∙ quiet ∙ sym (append-nil direction.received) ∙ ap (λ (l : List ℕ). direction.received ++ l) (sym (ap (take n) no_wire ∙ take-nil n))

refilling_moved : (x y : DirNotes) (direction : Direction) (place : Place) (n : ℕ) → IsRefilling x y direction → IsRefilling x y (after_move place n direction)
refilling_moved x y direction place n is = record {
  flows = ends_kept place n direction is.flows;
  queues = stream-move place n direction ∙ is.queues;
  sent = is.sent;
  read = is.read;
  turn = is.turn;
}

-- a direction after the change of another, or of itself
moved_or_not : (m : Channels) (d e : Dir) (f : Direction → Direction) → d.side < 2 → e.side < 2
    → ((e ≡ d) × (direction_at (at_direction m d f) e ≡ option_map f (direction_at m e))) ⊎ ((e ≢ d) × (direction_at (at_direction m d f) e ≡ direction_at m e))
moved_or_not m d e f few less = elim (same_or_other dir_total dir_exact e d) [
  | inl same ↦ inl (same, ap (direction_at (at_direction m d f)) same ∙ direction_changed m d f ∙ ap (λ (g : Dir). option_map f (direction_at m g)) (sym same))
  | inr differ ↦ inr (differ, direction_beside m d e f few less differ)
]

step_moved : (m n : Channels) (notes : Notes) (x : DirNotes) (place : Place) (k : ℕ) → direction_at n x.dir ≡ option_map (after_move place k) (direction_at m x.dir) → IsInStep m notes x → IsInStep n notes x
step_moved m n notes x place k is (inl aside) = inl (record { sender = aside.sender; quiet = ap stream_on is ∙ found (direction_at m x.dir) aside.quiet ∙ ap received_on (sym is) })
  where
    found : (o : Option Direction) → stream_on o ≡ received_on o → stream_on (option_map (after_move place k) o) ≡ received_on (option_map (after_move place k) o)
    found None quiet = refl
    found (Some direction) quiet = quiet_move place k direction quiet
step_moved m n notes x place k is (inr under) = inr (record {
  sender = under.sender;
  other = under.other;
  paired = under.paired;
  direction = after_move place k under.direction;
  found = is ∙ ap (option_map (after_move place k)) under.found;
  refills = refilling_moved x under.other under.direction place k under.refills;
})

step_beside : (m n : Channels) (notes : Notes) (x : DirNotes) → direction_at n x.dir ≡ direction_at m x.dir → IsInStep m notes x → IsInStep n notes x
step_beside m n notes x is (inl aside) = inl (record { sender = aside.sender; quiet = ap stream_on is ∙ aside.quiet ∙ ap received_on (sym is) })
step_beside m n notes x is (inr under) =
    inr (record { sender = under.sender; other = under.other; paired = under.paired; direction = under.direction; found = is ∙ under.found; refills = under.refills })

pub moved_fits : (m : Channels) (notes : Notes) (d : Dir) (place : Place) (n : ℕ) → d.side < 2 → Fits m notes → Fits (at_direction m d (after_move place n)) notes
moved_fits m notes d place n side fits = record {
  apart = fits.apart;
  noted = fits.noted;
  in_step =
      for_each (IsInStep (at_direction m d (after_move place n)) notes) notes (λ front back x is.
      let noted = one_of IsNoted front back x (subst (All IsNoted) is fits.noted) in
      let fit = one_of (IsInStep m notes) front back x (subst (All (IsInStep m notes)) is fits.in_step) in
      elim (moved_or_not m d x.dir (after_move place n) side noted.side) [
        | inl moved ↦ step_moved m (at_direction m d (after_move place n)) notes x place n moved.1 fit
        | inr other ↦ step_beside m (at_direction m d (after_move place n)) notes x other.1 fit
      ]);
  live =
      for_each (λ x. is_some x.sender ≡ is_live_at (at_direction m d (after_move place n)) x.dir.conn) notes (λ front back x is.
      one_of (λ x. is_some x.sender ≡ is_live_at m x.dir.conn) front back x (subst (All (λ x. is_some x.sender ≡ is_live_at m x.dir.conn)) is fits.live)
      ∙ sym (live_kept m d (after_move place n) x.dir.conn (move_flows place n)));
}

-- ---- the work that is left

less_way : (direction : Direction) (place : Place) (n : ℕ) → way (after_move place n direction) + min n (length (bytes_at place direction)) ≤ way direction
less_way direction Send n =
    let rest = length-drop n direction.sent in
    let moved = length-append direction.wire (take n direction.sent) in
    let front = length-take n direction.sent in
    omega (arith, rest, moved, front)
less_way direction Wire n = let rest = length-drop n direction.wire in omega (arith, rest)

less_of : (x : DirNotes) (other : Option DirNotes) (found : Option Direction) (place : Place) (n : ℕ) → work_of x other (option_map (after_move place n) found) + min n (length (bytes_on place found)) ≤ work_of x other found
less_of x other None place n = omega arith
less_of x None (Some direction) place n = less_way direction place n
less_of x (Some y) (Some direction) place n = choice (is_some x.sender)
  where
    choice : (b : Bool)
        → (if b then work_live x y (after_move place n direction) else way (after_move place n direction)) + min n (length (bytes_at place direction)) ≤ (if b then work_live x y direction else way direction)
    choice true = let less = less_way direction place n in omega (arith, less)
    choice false = less_way direction place n

less_at : (m : Channels) (notes : Notes) (x : DirNotes) (d : Dir) (place : Place) (n : ℕ) → d.side < 2 → IsNoted x
    → work_at (at_direction m d (after_move place n)) notes x + (if eq_by_cmp dir_cmp x.dir d then min n (length (bytes_on place (direction_at m d))) else 0) ≤ work_at m notes x
less_at m notes x d place n side noted =
    let after = at_direction m d (after_move place n) in
    let bytes = min n (length (bytes_on place (direction_at m d))) in
    elim (moved_or_not m d x.dir (after_move place n) side noted.side) [
      | inl moved ↦
          let tie : eq_by_cmp dir_cmp x.dir d ≡ true = ap (λ (e : Dir). eq_by_cmp dir_cmp e d) moved.0 ∙ key_tied dir_total dir_exact d in
          subst (λ (b : Bool). work_at after notes x + (if b then bytes else 0) ≤ work_at m notes x) (sym tie)
          (subst (λ (o : Option Direction). work_of x (notes_at (reverse x.dir) notes) o + bytes ≤ work_at m notes x) (sym moved.1)
          (subst (λ (e : Dir). work_of x (notes_at (reverse x.dir) notes) (option_map (after_move place n) (direction_at m x.dir)) + min n (length (bytes_on place (direction_at m e))) ≤ work_at m notes x) moved.0
          (less_of x (notes_at (reverse x.dir) notes) (direction_at m x.dir) place n)))
      | inr other ↦
          let none : eq_by_cmp dir_cmp x.dir d ≡ false = other_key dir_total dir_exact x.dir d other.0 in
          let same : work_at after notes x ≡ work_at m notes x = ap (work_of x (notes_at (reverse x.dir) notes)) other.1 in
          subst (λ (b : Bool). work_at after notes x + (if b then bytes else 0) ≤ work_at m notes x) (sym none) (omega (arith, same))
    ]

pub moved_no_more : (m : Channels) (notes : Notes) (d : Dir) (place : Place) (n : ℕ) → d.side < 2 → Fits m notes → work_left (at_direction m d (after_move place n)) notes ≤ work_left m notes
moved_no_more m notes d place n side fits =
    let all =
    sums (work_at (at_direction m d (after_move place n)) notes) (work_at m notes) (λ x. false) notes
    (for_each (λ x. work_at (at_direction m d (after_move place n)) notes x + gain false ≤ work_at m notes x) notes (λ front back x is.
    cut_down _ _ _ (eq_by_cmp dir_cmp x.dir d) false (less_at m notes x d place n side (one_of IsNoted front back x (subst (All IsNoted) is fits.noted))) (inr refl) (λ no. true_false (sym no)))) in
    omega (arith, all)

pub moved_work : (m : Channels) (notes : Notes) (d : Dir) (place : Place) (n : ℕ) → d.side < 2 → Fits m notes → has_notes d notes ≡ true → 0 < n → 0 < length (bytes_on place (direction_at m d))
    → work_left (at_direction m d (after_move place n)) notes < work_left m notes
moved_work m notes d place n side fits among some there =
    let bytes : 0 < min n (length (bytes_on place (direction_at m d))) = omega (arith, some, there) in
    let all =
    sums (work_at (at_direction m d (after_move place n)) notes) (work_at m notes) (λ x. eq_by_cmp dir_cmp x.dir d) notes
    (for_each (λ x. work_at (at_direction m d (after_move place n)) notes x + gain (eq_by_cmp dir_cmp x.dir d) ≤ work_at m notes x) notes (λ front back x is.
    cut_down _ _ _ (eq_by_cmp dir_cmp x.dir d) (eq_by_cmp dir_cmp x.dir d) (less_at m notes x d place n side (one_of IsNoted front back x (subst (All IsNoted) is fits.noted))) (inl refl) (λ here. bytes))) in
    let one : gain (has_notes d notes) ≡ 1 = ap gain among in
    omega (arith, all, one)

pub fits_moved : (t u : Network) (notes : Notes) (d : Dir) (place : Place) (n : ℕ) → d.side < 2 → u ≡ with_channels t (at_direction t.channels d (after_move place n)) → Fits t.channels notes → Fits u.channels notes
fits_moved t u notes d place n side is fits = subst (λ (v : Network). Fits v.channels notes) (sym is) (moved_fits t.channels notes d place n side fits)
