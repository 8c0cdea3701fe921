-- A step of an agent on one channel, among all of them: the notes fit the network after it.
--     Pair, pair_of          the notes on both directions of a channel, and the directions
--     Ended, ended           what the step leaves of them
--     fits_ended             so all notes fit
use Rattle.std.proofs.Common.{◌≡◌, ◌≢◌, ℕ, ◌==◌, ◌+◌, ◌-◌, ◌<◌, ◌≤◌, min, Bool, true, false, List, [], ◌∷◌, ◌++◌, take, drop, length, refl, sym, ap, ap₂, subst, ◌∙◌, arith, length-append, inl, inr}
use Rattle.std.specs.Prelude.{Option, Some, None, All, IsSome, is_some, if◌then◌else◌}
use Rattle.std.specs.Option.{option_map, option_map_or}
use Rattle.std.proofs.lemmas.Bool.Decides.{nat_tests}
use Rattle.std.proofs.lemmas.List.{length-take}
use Rattle.std.proofs.lemmas.Option.{same_Some}
use Rattle.std.proofs.lemmas.List.Elements.{All-nil, All-cons, All-head, All-tail}
use Rattle.views.proofs.MapLaws.{same_or_other, true_false}
use Rattle.sys_abi.specs.declared.identity.ConnId.{ConnId}
use Rattle.sys_abi.specs.declared.identity.Dir.{Dir}
use Rattle.sys_abi.specs.declared.identity.RealPid.{RealPid}
use Rattle.sys_abi.proofs.OrderLaws.{dir_total, dir_exact}
use Rattle.wire_net.specs.declared.cut_room.DirNotes.{DirNotes}
use Rattle.wire_channels.specs.Directions.{Direction, is_flowing, room, after_receive, after_send}
use Rattle.wire_channels.specs.Channels.{Channels, direction_at, at_direction, is_live_at}
use Rattle.wire_channels.specs.Answers.{received_on}
use Rattle.wire_net.specs.Whereabouts.{stream_on, reverse}
use Rattle.refill_core.specs.declared.limits.TheConstants.{HEADER_LENGTH}
use Rattle.refill_core.specs.Tasks.{is_agent, frame_length, part, wanted, reads, sends, with_piece, with_sent, read_count, note_read, channels_read, send_count, sent_on, turn_note, turn_channels}
use Rattle.refill_core.specs.Refills.{Notes, Apart, notes_at, put_notes, IsNoted, IsRefilling, IsUnderWay, IsInStep, Fits}
use Rattle.wire_channels.proofs.OneDirection.{direction_changed, direction_beside}
use Rattle.wire_net.proofs.LiveChannels.{KeepsFlow, live_kept}
use Rattle.refill_core.proofs.OneRefill.{read_noted, read_own, read_other, sent_own, sent_other, sent_noted}
use Rattle.refill_core.proofs.Pairs.{other_way, twice_around, found_dir, put_found, put_beside, same_dirs, all_put, all_found}

pub record Pair (m : Channels) (notes : Notes) (d : Dir) (x y : DirNotes) : Type 0 where
  pub x_at : notes_at d notes ≡ Some x
  pub y_at : notes_at (reverse d) notes ≡ Some y
  pub x_dir : x.dir ≡ d
  pub y_dir : y.dir ≡ reverse d
  pub side : d.side < 2
  pub x_noted : IsNoted x
  pub y_noted : IsNoted y
  pub own : Direction
  pub other : Direction
  pub own_at : direction_at m d ≡ Some own
  pub other_at : direction_at m (reverse d) ≡ Some other
  pub own_fits : IsRefilling x y own
  pub other_fits : IsRefilling y x other
  pub live : is_live_at m d.conn ≡ true
  pub y_live : is_some y.sender ≡ true

some_true : (o : Option RealPid) → IsSome o → is_some o ≡ true
some_true None there = true_false (sym there)
some_true (Some agent) there = refl

true_some : (o : Option RealPid) → is_some o ≡ true → IsSome o
true_some None is = true_false (sym is)
true_some (Some agent) is = refl

-- who has an agent is under way
under_way : (m : Channels) (notes : Notes) (x : DirNotes) → is_some x.sender ≡ true → IsInStep m notes x → IsUnderWay m notes x
under_way m notes x some (inl aside) = true_false (sym some ∙ ap is_some aside.sender)
under_way m notes x some (inr under) = under

pub pair_of : (m : Channels) (notes : Notes) (d : Dir) (x : DirNotes) → Fits m notes → notes_at d notes ≡ Some x → IsSome x.sender → (y : DirNotes) × Pair m notes d x y
pair_of m notes d x fits at sender =
    let here = found_dir d notes x at in
    let noted = all_found IsNoted d notes x at fits.noted in
    let some = some_true x.sender sender in
    let under = under_way m notes x some (all_found (IsInStep m notes) d notes x at fits.in_step) in
    let side : d.side < 2 = subst (λ (e : Dir). e.side < 2) here noted.side in
    let y = under.other in
    let y_at : notes_at (reverse d) notes ≡ Some y = ap (λ (e : Dir). notes_at (reverse e) notes) (sym here) ∙ under.paired in
    let y_dir = found_dir (reverse d) notes y y_at in
    let live : is_live_at m d.conn ≡ true = sym (all_found (λ z. is_some z.sender ≡ is_live_at m z.dir.conn) d notes x at fits.live ∙ ap (λ (e : Dir). is_live_at m e.conn) here) ∙ some in
    let y_some : is_some y.sender ≡ true = all_found (λ z. is_some z.sender ≡ is_live_at m z.dir.conn) (reverse d) notes y y_at fits.live ∙ ap (λ (e : Dir). is_live_at m e.conn) y_dir ∙ live in
    let back = under_way m notes y y_some (all_found (IsInStep m notes) (reverse d) notes y y_at fits.in_step) in
    let again : notes_at (reverse y.dir) notes ≡ Some x = ap (λ (e : Dir). notes_at e notes) (ap reverse y_dir ∙ twice_around d side) ∙ at in
    let same : back.other ≡ x = same_Some back.other x (sym back.paired ∙ again) in (
      y,
      record {
        x_at = at;
        y_at = y_at;
        x_dir = here;
        y_dir = y_dir;
        side = side;
        x_noted = noted;
        y_noted = all_found IsNoted (reverse d) notes y y_at fits.noted;
        own = under.direction;
        other = back.direction;
        own_at = ap (direction_at m) (sym here) ∙ under.found;
        other_at = ap (direction_at m) (sym y_dir) ∙ back.found;
        own_fits = under.refills;
        other_fits = subst (λ (z : DirNotes). IsRefilling y z back.direction) same back.refills;
        live = live;
        y_live = y_some;
      },
    )

-- ---- the step on the channel

reads_few : (p : RealPid) (x : DirNotes) (r : Direction) → (reads p x r ≤ length r.received) × (x.read + reads p x r ≤ x.read + (frame_length x - x.read))
reads_few p x r = choice (is_agent p x.sender)
  where
    choice : (b : Bool) → ((if b then min (wanted x) (length r.received) else 0) ≤ length r.received) × (x.read + (if b then min (wanted x) (length r.received) else 0) ≤ x.read + (frame_length x - x.read))
    choice true = (omega arith, omega arith)
    choice false = (omega arith, omega arith)

sends_few : (p : RealPid) (x y : DirNotes) (d : Direction) → sends p x y d ≤ length (part x y)
sends_few p x y d = choice (is_agent p x.sender)
  where
    choice : (b : Bool) → (if b then min (length (part x y)) (room d) else 0) ≤ length (part x y)
    choice true = omega arith
    choice false = omega arith

-- what it reads and sends, of the directions that were found
pub record Ended (p : RealPid) (m : Channels) (notes : Notes) (d : Dir) (x y : DirNotes) (pair : Pair m notes d x y) : Type 0 where
  pub n : ℕ
  pub k : ℕ
  pub after : DirNotes
  -- what it may send
  pub piece : List ℕ
  pub own : Direction
  pub other : Direction
  pub reads : read_count p x m ≡ n
  pub sends : send_count p (note_read p x m) y (channels_read p x m) ≡ k
  pub read_after : after.read ≡ x.read + n
  pub sent_after : after.sent ≡ x.sent + k
  pub count_after : after.count ≡ x.count
  pub returned_after : after.returned.items ≡ x.returned.items ++ drop (HEADER_LENGTH - x.read) (take n pair.other.received)
  pub within : x.read + n ≤ frame_length x
  pub own_is : own ≡ sent_on k piece pair.own
  pub other_is : other ≡ after_receive n pair.other
  pub own_sent : length own.sent ≡ length pair.own.sent + k
  pub own_wire : own.wire ≡ pair.own.wire
  pub other_sent : other.sent ≡ pair.other.sent
  pub other_wire : other.wire ≡ pair.other.wire
  pub after_is : turn_note p x y m ≡ after
  pub own_at : direction_at (turn_channels p x y m) d ≡ Some own
  pub other_at : direction_at (turn_channels p x y m) (reverse d) ≡ Some other
  pub beside : (e : Dir) → e.side < 2 → e ≢ d → e ≢ reverse d → direction_at (turn_channels p x y m) e ≡ direction_at m e
  pub noted : IsNoted after
  pub dir : after.dir ≡ d
  pub sender : after.sender ≡ x.sender
  pub drained : after.drained ≡ x.drained
  pub own_fits : IsRefilling after y own
  pub other_fits : (z : DirNotes) → IsRefilling z x pair.other → IsRefilling z after other

no_more_sent : (x y : DirNotes) (d : Direction) → IsRefilling x y d → IsRefilling (with_sent 0 x) y d
no_more_sent x y d is =
    subst (λ (n : ℕ). IsRefilling (record x { sent = n }) y d) (let e : x.sent ≡ x.sent + 0 = omega arith in e) is

sent_fits : (x y : DirNotes) (d : Direction) (k : ℕ) → IsNoted x → IsNoted y → IsRefilling x y d → k ≤ length (part x y) → IsRefilling (with_sent k x) y (sent_on k (part x y) d)
sent_fits x y d k noted other is few = choice (k == 0) refl
  where
    choice : (none : Bool) → (k == 0) ≡ none → IsRefilling (with_sent k x) y (if none then d else after_send (take k (part x y)) d)
    choice true at = subst (λ (n : ℕ). IsRefilling (with_sent n x) y d) (let e : 0 ≡ k = grind (arith, nat_tests, at) in e) (no_more_sent x y d is)
    choice false at = sent_own x y d k noted other is few

longer : (k : ℕ) (piece : List ℕ) (d : Direction) → k ≤ length piece → length (sent_on k piece d).sent ≡ length d.sent + k
longer k piece d few = choice (k == 0) refl
  where
    choice : (none : Bool) → (k == 0) ≡ none → length (if none then d else after_send (take k piece) d).sent ≡ length d.sent + k
    choice true at = let zero : k ≡ 0 = grind (arith, nat_tests, at) in omega (arith, zero)
    choice false at = length-append d.sent (take k piece) ∙ ap (λ (n : ℕ). length d.sent + n) (length-take k piece ∙ (let e : min k (length piece) ≡ k = omega (arith, few) in e))

same_wire : (k : ℕ) (piece : List ℕ) (d : Direction) → (sent_on k piece d).wire ≡ d.wire
same_wire k piece d = choice (k == 0)
  where
    choice : (none : Bool) → (if none then d else after_send (take k piece) d).wire ≡ d.wire
    choice true = refl
    choice false = refl

pub ended : (p : RealPid) (m : Channels) (notes : Notes) (d : Dir) (x y : DirNotes) (pair : Pair m notes d x y) → Ended p m notes d x y pair
ended p m notes d x y pair =
    let r = reverse d in
    let r_side : r.side < 2 = (let s = pair.side in omega (arith, s)) in
    let differ = other_way d pair.side in
    let n = reads p x pair.other in
    let n_is : read_count p x m ≡ n = ap (λ (e : Dir). option_map_or (reads p x) (direction_at m (reverse e)) 0) pair.x_dir ∙ ap (λ (o : Option Direction). option_map_or (reads p x) o 0) pair.other_at in
    let few = reads_few p x pair.other in
    let within : x.read + n ≤ frame_length x = (let most = pair.x_noted.read in omega (arith, few.1, most)) in
    let x1 = with_piece (take n pair.other.received) x in
    let x1_is : note_read p x m ≡ x1 =
    ap₂ (λ (k : ℕ) (l : List ℕ). with_piece (take k l) x) n_is (ap (λ (e : Dir). received_on (direction_at m (reverse e))) pair.x_dir ∙ ap received_on pair.other_at) in
    let m1 = at_direction m r (after_receive n) in
    let m1_is : channels_read p x m ≡ m1 = ap₂ (λ (e : Dir) (k : ℕ). at_direction m (reverse e) (after_receive k)) pair.x_dir n_is in
    let own1 : direction_at m1 d ≡ Some pair.own = direction_beside m r d (after_receive n) r_side pair.side (λ same. differ (sym same)) ∙ pair.own_at in
    let k = sends p x1 y pair.own in
    let k_is : send_count p x1 y m1 ≡ k = ap (λ (e : Dir). option_map_or (sends p x1 y) (direction_at m1 e) 0) pair.x_dir ∙ ap (λ (o : Option Direction). option_map_or (sends p x1 y) o 0) own1 in
    let noted1 = read_noted x y pair.other n pair.x_noted pair.y_noted pair.other_fits few.0 within in
    let m2 = at_direction m1 d (sent_on k (part x1 y)) in
    let m2_is : turn_channels p x y m ≡ m2 =
    ap₂ (λ (z : DirNotes) (c : Channels). at_direction c z.dir (sent_on (send_count p z y c) (part z y))) x1_is m1_is
    ∙ ap₂ (λ (e : Dir) (i : ℕ). at_direction m1 e (sent_on i (part x1 y))) pair.x_dir k_is in
    let after_is : turn_note p x y m ≡ with_sent k x1 = ap₂ (λ (z : DirNotes) (c : Channels). with_sent (send_count p z y c) z) x1_is m1_is ∙ ap (λ (i : ℕ). with_sent i x1) k_is in
    record {
      n = n;
      k = k;
      after = with_sent k x1;
      piece = part x1 y;
      reads = n_is;
      sends = ap₂ (λ (z : DirNotes) (c : Channels). send_count p z y c) x1_is m1_is ∙ k_is;
      read_after = ap (λ (i : ℕ). x.read + i) (length-take n pair.other.received ∙ (let e : min n (length pair.other.received) ≡ n = omega (arith, few.0) in e));
      sent_after = refl;
      count_after = refl;
      returned_after = refl;
      within = within;
      own_is = refl;
      other_is = refl;
      own_sent = longer k (part x1 y) pair.own (sends_few p x1 y pair.own);
      own_wire = same_wire k (part x1 y) pair.own;
      other_sent = refl;
      other_wire = refl;
      own = sent_on k (part x1 y) pair.own;
      other = after_receive n pair.other;
      after_is = after_is;
      own_at = ap (λ (c : Channels). direction_at c d) m2_is ∙ direction_changed m1 d (sent_on k (part x1 y)) ∙ ap (option_map (sent_on k (part x1 y))) own1;
      other_at =
          ap (λ (c : Channels). direction_at c r) m2_is ∙ direction_beside m1 d r (sent_on k (part x1 y)) pair.side r_side differ
          ∙ direction_changed m r (after_receive n) ∙ ap (option_map (after_receive n)) pair.other_at;
      beside = λ e side first second.
          ap (λ (c : Channels). direction_at c e) m2_is ∙ direction_beside m1 d e (sent_on k (part x1 y)) pair.side side first ∙ direction_beside m r e (after_receive n) r_side side second;
      noted = sent_noted x1 k noted1;
      dir = pair.x_dir;
      sender = refl;
      drained = refl;
      own_fits = sent_fits x1 y pair.own k noted1 pair.y_noted (read_own x y pair.own pair.other n pair.own_fits few.0 within) (sends_few p x1 y pair.own);
      other_fits = λ z is. sent_other x1 z (after_receive n pair.other) k (read_other x z pair.other n is few.0);
    }

-- ---- among all

record Known (m : Channels) (notes : Notes) (z : DirNotes) : Type 0 where
  noted : IsNoted z
  in_step : IsInStep m notes z
  live : is_some z.sender ≡ is_live_at m z.dir.conn

all_known : (m : Channels) (whole notes : Notes) → All IsNoted notes → All (IsInStep m whole) notes → All (λ z. is_some z.sender ≡ is_live_at m z.dir.conn) notes → All (Known m whole) notes
all_known m whole [] noted in_step live = All-nil (Known m whole)
all_known m whole (z ∷ notes) noted in_step live =
    All-cons (Known m whole) z notes
    (record { noted = All-head IsNoted z notes noted; in_step = All-head (IsInStep m whole) z notes in_step; live = All-head (λ v. is_some v.sender ≡ is_live_at m v.dir.conn) z notes live })
    (all_known m whole notes (All-tail IsNoted z notes noted) (All-tail (IsInStep m whole) z notes in_step) (All-tail (λ v. is_some v.sender ≡ is_live_at m v.dir.conn) z notes live))

sent_flows : (k : ℕ) (piece : List ℕ) → KeepsFlow (sent_on k piece)
sent_flows k piece direction = choice (k == 0)
  where
    choice : (none : Bool) → is_flowing (if none then direction else after_send (take k piece) direction) ≡ is_flowing direction
    choice true = refl
    choice false = refl

pub live_ended : (p : RealPid) (m : Channels) (x y : DirNotes) (id : ConnId) → is_live_at (turn_channels p x y m) id ≡ is_live_at m id
live_ended p m x y id =
    live_kept (channels_read p x m) (note_read p x m).dir (sent_on (send_count p (note_read p x m) y (channels_read p x m)) (part (note_read p x m) y)) id
    (sent_flows (send_count p (note_read p x m) y (channels_read p x m)) (part (note_read p x m) y))
    ∙ live_kept m (reverse x.dir) (after_receive (read_count p x m)) id (λ direction. refl)

pub fits_ended : (p : RealPid) (m : Channels) (notes : Notes) (d : Dir) (x y : DirNotes) → Fits m notes → IsSome x.sender → Pair m notes d x y → Fits (turn_channels p x y m) (put_notes d (turn_note p x y m) notes)
fits_ended p m notes d x y fits sender pair =
    let e = ended p m notes d x y pair in
    subst (λ (v : DirNotes). Fits (turn_channels p x y m) (put_notes d v notes)) (sym e.after_is) (record {
      apart = subst Apart (sym (same_dirs d e.after notes e.dir)) fits.apart;
      noted = all_put IsNoted IsNoted d e.after notes e.noted (λ z differ noted. noted) fits.noted;
      in_step = all_put (Known m notes) (IsInStep (turn_channels p x y m) (put_notes d e.after notes)) d e.after notes (here e) (others e) (all_known m notes notes fits.noted fits.in_step fits.live);
      live =
          all_put (λ z. is_some z.sender ≡ is_live_at m z.dir.conn) (λ z. is_some z.sender ≡ is_live_at (turn_channels p x y m) z.dir.conn) d e.after notes
          (ap is_some e.sender ∙ some_true x.sender sender ∙ sym pair.live ∙ sym (live_ended p m x y d.conn) ∙ ap (λ (f : Dir). is_live_at (turn_channels p x y m) f.conn) (sym e.dir))
          (λ z differ live. live ∙ sym (live_ended p m x y z.dir.conn)) fits.live;
    })
  where
    here : (e : Ended p m notes d x y pair) → IsInStep (turn_channels p x y m) (put_notes d e.after notes) e.after
    here e = inr (record {
      sender = subst IsSome (sym e.sender) sender;
      other = y;
      paired = ap (λ (f : Dir). notes_at (reverse f) (put_notes d e.after notes)) e.dir ∙ put_beside d (reverse d) e.after notes e.dir (other_way d pair.side) ∙ pair.y_at;
      direction = e.own;
      found = ap (direction_at (turn_channels p x y m)) e.dir ∙ e.own_at;
      refills = e.own_fits;
    })

    others : (e : Ended p m notes d x y pair) (z : DirNotes) → z.dir ≢ d → Known m notes z → IsInStep (turn_channels p x y m) (put_notes d e.after notes) z
    others e z differ known = elim (same_or_other dir_total dir_exact z.dir (reverse d)) [
      | inl same ↦
          let some : is_some z.sender ≡ true = known.live ∙ ap (λ (f : Dir). is_live_at m f.conn) same ∙ pair.live in
          let under = under_way m notes z some known.in_step in
          let around : reverse z.dir ≡ d = ap reverse same ∙ twice_around d pair.side in
          let is_x : under.other ≡ x = same_Some under.other x (sym under.paired ∙ ap (λ (f : Dir). notes_at f notes) around ∙ pair.x_at) in
          let is_r : under.direction ≡ pair.other = same_Some under.direction pair.other (sym under.found ∙ ap (direction_at m) same ∙ pair.other_at) in
          inr (record {
            sender = under.sender;
            other = e.after;
            paired = ap (λ (f : Dir). notes_at f (put_notes d e.after notes)) around ∙ put_found d x e.after notes e.dir pair.x_at;
            direction = e.other;
            found = ap (direction_at (turn_channels p x y m)) same ∙ e.other_at;
            refills = e.other_fits z (subst (λ (v : DirNotes). IsRefilling z v pair.other) is_x (subst (IsRefilling z under.other) is_r under.refills));
          })
      | inr apart ↦
          let same = e.beside z.dir known.noted.side differ apart in
          kept e z differ apart same known known.in_step
    ]
      where
        kept : (e : Ended p m notes d x y pair) (z : DirNotes) → z.dir ≢ d → z.dir ≢ reverse d → direction_at (turn_channels p x y m) z.dir ≡ direction_at m z.dir → Known m notes z → IsInStep m notes z
            → IsInStep (turn_channels p x y m) (put_notes d e.after notes) z
        kept e z differ apart same known (inl aside) =
            inl (record { sender = aside.sender; quiet = ap stream_on same ∙ aside.quiet ∙ ap received_on (sym same) })
        kept e z differ apart same known (inr under) =
            inr (record {
              sender = under.sender;
              other = under.other;
              paired = put_beside d (reverse z.dir) e.after notes e.dir (λ is. apart (sym (twice_around z.dir known.noted.side) ∙ ap reverse is)) ∙ under.paired;
              direction = under.direction;
              found = same ∙ under.found;
              refills = under.refills;
            })
