-- A move of bytes from queue to queue, while agents drain.
--     KeepsBytes                  a change that leaves the bytes of a direction as they are, and whether it goes on
--     moved_fits, fits_moved      the notes fit the network after a move
--     moved_no_more, moved_work   no more, and less work is left after a move of bytes
use Rattle.std.proofs.Common.{min, ◌≡◌, ◌≢◌, ℕ, ◌+◌, ◌-◌, ◌<◌, ◌≤◌, Bool, true, false, List, take, drop, length, refl, sym, ap, subst, ◌∙◌, arith, length-append, inl, inr}
use Rattle.std.specs.Prelude.{Option, Some, None, All, is_some, ◌⊎◌, if◌then◌else◌}
use Rattle.std.specs.Option.{option_map, option_map_or}
use Rattle.std.specs.Ordering.{eq_by_cmp}
use Rattle.std.proofs.lemmas.List.{length-take, length-drop}
use Rattle.views.proofs.MapLaws.{same_or_other, key_tied, other_key, true_false}
use Rattle.sys_abi.specs.declared.identity.Dir.{Dir}
use Rattle.sys_abi.specs.Orders.{dir_cmp}
use Rattle.sys_abi.proofs.OrderLaws.{dir_total, dir_exact}
use Rattle.wire_net.specs.declared.cut_room.DirNotes.{DirNotes}
use Rattle.wire_channels.specs.declared.place.Place.{Place}
use Rattle.wire_channels.specs.declared.place.Place.TheVariants.{Send, Wire}
use Rattle.wire_channels.specs.Directions.{Direction, bytes_at, after_move}
use Rattle.wire_channels.specs.Channels.{Channels, direction_at, at_direction, is_live_at}
use Rattle.wire_net.specs.Networks.{Network}
use Rattle.wire_channels.specs.Answers.{bytes_on}
use Rattle.wire_net.specs.Whereabouts.{stream, stream_on}
use Rattle.wire_net.proofs.Streams.{stream-move}
use Rattle.drain_core.specs.Drains.{Notes, IsNoted, IsInStep, Fits, has_notes}
use Rattle.drain_core.specs.Work.{work_on, work_aside, work_of, work_at, work_left}
use Rattle.wire_channels.proofs.OneDirection.{direction_changed, direction_beside}
use Rattle.drain_core.proofs.OneStep.{with_channels}
use Rattle.drain_core.proofs.AllDirections.{for_each, one_of}
use Rattle.wire_net.proofs.LiveChannels.{KeepsFlow, live_kept, move_flows}
use Rattle.wire_net.proofs.Gains.{gain, sums, cut_down}

pub record KeepsBytes (f : Direction → Direction) : Type 0 where
  pub bytes : (direction : Direction) → stream (f direction) ≡ stream direction
  pub ended : (direction : Direction) → (f direction).is_ended ≡ direction.is_ended
  pub unread : (direction : Direction) → (f direction).is_unread ≡ direction.is_unread

pub nothing_done : KeepsBytes (λ direction. direction)
nothing_done = record { bytes = λ direction. refl; ended = λ direction. refl; unread = λ direction. refl }

pub a_move : (place : Place) (n : ℕ) → KeepsBytes (after_move place n)
a_move place n = record { bytes = stream-move place n; ended = ends place; unread = reads place }
  where
    ends : (place : Place) (direction : Direction) → (after_move place n direction).is_ended ≡ direction.is_ended
    ends Send direction = refl
    ends Wire direction = refl

    reads : (place : Place) (direction : Direction) → (after_move place n direction).is_unread ≡ direction.is_unread
    reads Send direction = refl
    reads Wire direction = refl

changed_in_step : (m n : Channels) (x : DirNotes) (f : Direction → Direction) → KeepsBytes f → direction_at n x.dir ≡ option_map f (direction_at m x.dir) → IsInStep m x → IsInStep n x
changed_in_step m n x f keeps is (inl aside) = inl (record {
  sender = aside.sender;
  reader = aside.reader;
  read = aside.read;
  stands = ap (λ (found : Option Direction). length (stream_on found)) is ∙ ap length (same (direction_at m x.dir)) ∙ aside.stands;
})
  where
    same : (found : Option Direction) → stream_on (option_map f found) ≡ stream_on found
    same None = refl
    same (Some direction) = keeps.bytes direction
changed_in_step m n x f keeps is (inr under) = inr (record {
  sender = under.sender;
  reader = under.reader;
  direction = f under.direction;
  found = is ∙ ap (option_map f) under.found;
  drains = record {
    flows = record { goes_on = keeps.ended under.direction ∙ under.drains.flows.goes_on; is_read = keeps.unread under.direction ∙ under.drains.flows.is_read };
    total = ap (λ (l : List ℕ). length l + x.read) (keeps.bytes under.direction) ∙ under.drains.total;
    behind = ap (drop (x.count - x.read)) (keeps.bytes under.direction) ∙ under.drains.behind;
  };
})

-- a direction after the change of another, or of itself
moved_or_not : (m : Channels) (d e : Dir) (f : Direction → Direction) → d.side < 2 → e.side < 2
    → ((e ≡ d) × (direction_at (at_direction m d f) e ≡ option_map f (direction_at m e))) ⊎ ((e ≢ d) × (direction_at (at_direction m d f) e ≡ direction_at m e))
moved_or_not m d e f few less = elim (same_or_other dir_total dir_exact e d) [
  | inl same ↦ inl (same, ap (direction_at (at_direction m d f)) same ∙ direction_changed m d f ∙ ap (λ (g : Dir). option_map f (direction_at m g)) (sym same))
  | inr differ ↦ inr (differ, direction_beside m d e f few less differ)
]

unmoved : (found : Option Direction) → option_map (λ direction. direction) found ≡ found
unmoved None = refl
unmoved (Some direction) = refl

pub changed_fits : (m : Channels) (notes : Notes) (d : Dir) (f : Direction → Direction) → KeepsBytes f → KeepsFlow f → d.side < 2 → Fits m notes → Fits (at_direction m d f) notes
changed_fits m notes d f keeps flows side fits = record {
  live =
      for_each (λ x. is_some x.sender ≡ is_live_at (at_direction m d f) x.dir.conn) notes (λ front back x is.
      one_of (λ x. is_some x.sender ≡ is_live_at m x.dir.conn) front back x (subst (All (λ x. is_some x.sender ≡ is_live_at m x.dir.conn)) is fits.live)
      ∙ sym (live_kept m d f x.dir.conn flows));
  apart = fits.apart;
  noted = fits.noted;
  in_step =
      for_each (IsInStep (at_direction m d f)) notes (λ front back x is.
      let noted = one_of IsNoted front back x (subst (All IsNoted) is fits.noted) in
      let fit = one_of (IsInStep m) front back x (subst (All (IsInStep m)) is fits.in_step) in
      elim (moved_or_not m d x.dir f side noted.side) [
        | inl moved ↦ changed_in_step m (at_direction m d f) x f keeps moved.1 fit
        | inr other ↦ changed_in_step m (at_direction m d f) x (λ direction. direction) nothing_done (other.1 ∙ sym (unmoved (direction_at m x.dir))) fit
      ]);
}

pub moved_fits : (m : Channels) (notes : Notes) (d : Dir) (place : Place) (n : ℕ) → d.side < 2 → Fits m notes → Fits (at_direction m d (after_move place n)) notes
moved_fits m notes d place n side fits = changed_fits m notes d (after_move place n) (a_move place n) (move_flows place n) side fits

pub fits_moved : (t u : Network) (notes : Notes) (d : Dir) (place : Place) (n : ℕ) → d.side < 2 → u ≡ with_channels t (at_direction t.channels d (after_move place n)) → Fits t.channels notes → Fits u.channels notes
fits_moved t u notes d place n side is fits = subst (λ (v : Network). Fits v.channels notes) (sym is) (moved_fits t.channels notes d place n side fits)

-- of one direction: a byte that is moved has one place less to pass
less_on : (x : DirNotes) (direction : Direction) (place : Place) (n : ℕ) → work_on x (after_move place n direction) + min n (length (bytes_at place direction)) ≤ work_on x direction
less_on x direction Send n =
    let rest = length-drop n direction.sent in
    let moved = length-append direction.wire (take n direction.sent) in
    let front = length-take n direction.sent in
    omega (arith, rest, moved, front)
less_on x direction Wire n =
    let rest = length-drop n direction.wire in
    let moved = length-append direction.received (take n direction.wire) in
    let front = length-take n direction.wire in
    omega (arith, rest, moved, front)

less_aside : (direction : Direction) (place : Place) (n : ℕ) → work_aside (after_move place n direction) + min n (length (bytes_at place direction)) ≤ work_aside direction
less_aside direction Send n =
    let rest = length-drop n direction.sent in
    let moved = length-append direction.wire (take n direction.sent) in
    let front = length-take n direction.sent in
    omega (arith, rest, moved, front)
less_aside direction Wire n = let rest = length-drop n direction.wire in omega (arith, rest)

less_of : (x : DirNotes) (direction : Direction) (place : Place) (n : ℕ) → work_of x (after_move place n direction) + min n (length (bytes_at place direction)) ≤ work_of x direction
less_of x direction place n = choice (is_some x.sender)
  where
    choice : (b : Bool)
        → (if b then work_on x (after_move place n direction) else work_aside (after_move place n direction)) + min n (length (bytes_at place direction)) ≤ (if b then work_on x direction else work_aside direction)
    choice true = less_on x direction place n
    choice false = less_aside direction place n

less_found : (x : DirNotes) (found : Option Direction) (place : Place) (n : ℕ) → option_map_or (work_of x) (option_map (after_move place n) found) 0 + min n (length (bytes_on place found)) ≤ option_map_or (work_of x) found 0
less_found x None place n = omega arith
less_found x (Some direction) place n = less_of x direction place n

-- of each direction
less_at : (m : Channels) (x : DirNotes) (d : Dir) (place : Place) (n : ℕ) → d.side < 2 → IsNoted x
    → work_at (at_direction m d (after_move place n)) x + (if eq_by_cmp dir_cmp x.dir d then min n (length (bytes_on place (direction_at m d))) else 0) ≤ work_at m x
less_at m x d place n side noted =
    let after = at_direction m d (after_move place n) in
    let bytes = min n (length (bytes_on place (direction_at m d))) in
    elim (moved_or_not m d x.dir (after_move place n) side noted.side) [
      | inl moved ↦
          let tie : eq_by_cmp dir_cmp x.dir d ≡ true = ap (λ (e : Dir). eq_by_cmp dir_cmp e d) moved.0 ∙ key_tied dir_total dir_exact d in
          subst (λ (b : Bool). work_at after x + (if b then bytes else 0) ≤ work_at m x) (sym tie)
          (subst (λ (o : Option Direction). option_map_or (work_of x) o 0 + bytes ≤ work_at m x) (sym moved.1)
          (subst (λ (e : Dir). option_map_or (work_of x) (option_map (after_move place n) (direction_at m x.dir)) 0 + min n (length (bytes_on place (direction_at m e))) ≤ work_at m x) moved.0
          (less_found x (direction_at m x.dir) place n)))
      | inr other ↦
          let none : eq_by_cmp dir_cmp x.dir d ≡ false = other_key dir_total dir_exact x.dir d other.0 in
          let same : work_at after x ≡ work_at m x = ap (λ (o : Option Direction). option_map_or (work_of x) o 0) other.1 in
          subst (λ (b : Bool). work_at after x + (if b then bytes else 0) ≤ work_at m x) (sym none) (omega (arith, same))
    ]

pub moved_no_more : (m : Channels) (notes : Notes) (d : Dir) (place : Place) (n : ℕ) → d.side < 2 → Fits m notes → work_left (at_direction m d (after_move place n)) notes ≤ work_left m notes
moved_no_more m notes d place n side fits =
    let all =
    sums (work_at (at_direction m d (after_move place n))) (work_at m) (λ x. false) notes
    (for_each (λ x. work_at (at_direction m d (after_move place n)) x + gain false ≤ work_at m x) notes (λ front back x is.
    cut_down _ _ _ (eq_by_cmp dir_cmp x.dir d) false (less_at m x d place n side (one_of IsNoted front back x (subst (All IsNoted) is fits.noted))) (inr refl) (λ no. true_false (sym no)))) in
    omega (arith, all)

pub moved_work : (m : Channels) (notes : Notes) (d : Dir) (place : Place) (n : ℕ) → d.side < 2 → Fits m notes → has_notes d notes ≡ true → 0 < n → 0 < length (bytes_on place (direction_at m d))
    → work_left (at_direction m d (after_move place n)) notes < work_left m notes
moved_work m notes d place n side fits among some there =
    let bytes : 0 < min n (length (bytes_on place (direction_at m d))) = omega (arith, some, there) in
    let all =
    sums (work_at (at_direction m d (after_move place n))) (work_at m) (λ x. eq_by_cmp dir_cmp x.dir d) notes
    (for_each (λ x. work_at (at_direction m d (after_move place n)) x + gain (eq_by_cmp dir_cmp x.dir d) ≤ work_at m x) notes (λ front back x is.
    cut_down _ _ _ (eq_by_cmp dir_cmp x.dir d) (eq_by_cmp dir_cmp x.dir d) (less_at m x d place n side (one_of IsNoted front back x (subst (All IsNoted) is fits.noted))) (inl refl) (λ here. bytes))) in
    let one : gain (has_notes d notes) ≡ 1 = ap gain among in
    omega (arith, all, one)
