-- A step of an agent on the direction of the notes at one place.
--     Here                    the notes at a place, those on the other direction, and where they stand
--     not_agent_moved, not_agent_after      nothing happens to a direction that is another agent's
--     Step, step_of           what the step asks and leaves
use Rattle.std.proofs.Common.{◌≡◌, ◌≢◌, ℕ, ◌+◌, ◌*◌, ◌<◌, ◌≤◌, nat_lt, Bool, true, false, length, get_or, set, refl, sym, ap, subst, ◌∙◌, arith}
use Rattle.std.specs.Prelude.{Option, Some, None, IfSome, IsSome, ◌&&◌, ◌||◌, slice_get, if◌then◌else◌}
use Rattle.std.proofs.lemmas.List.{get_or-map}
use Rattle.std.proofs.lemmas.Option.{slice_get-get_or, get_or_from_slice_get, same_Some}
use Rattle.views.proofs.MapLaws.{true_false}
use Rattle.sys_abi.specs.declared.identity.Dir.{Dir}
use Rattle.sys_abi.specs.declared.identity.RealPid.{RealPid}
use Rattle.wire_net.specs.declared.cut_room.DirNotes.{DirNotes}
use Rattle.wire_channels.specs.declared.limits.TheConstants.{QUEUE_LIMIT}
use Rattle.wire_channels.specs.Directions.{Direction, after_receive}
use Rattle.wire_channels.specs.Channels.{Channels, direction_at}
use Rattle.wire_net.specs.Networks.{Network}
use Rattle.wire_net.specs.Whereabouts.{reverse}
use Rattle.refill_core.specs.declared.limits.TheConstants.{HEADER_LENGTH}
use Rattle.refill_core.specs.Tasks.{is_agent, frame_length, with_sent, read_count, note_read, channels_read, send_count, turn_note, turn_channels}
use Rattle.refill_core.specs.Refills.{Notes, Refilling, notes_at, put_notes, IsNoted, IsFlowing, Fits, turn_found, turn_of, turn_after}
use Rattle.refill_core.specs.Work.{moves_found, moves_of, moved_by}
use Rattle.refill_core.specs.Stepping.{state, dir_at, no_dir}
use Rattle.wire_channels.proofs.OneDirection.{direction_beside}
use Rattle.refill_core.proofs.OneRefill.{all_size}
use Rattle.refill_core.proofs.EndFits.{Pair, pair_of, ended}
use Rattle.refill_core.proofs.Pairs.{other_way}
use Rattle.refill_core.proofs.Places.{at_place, set_is_put}

-- whatever a read past the end gives, it is not past the end
pub item_here : (notes : Notes) (i : ℕ) (x z : DirNotes) → i < length notes → x ≡ get_or notes i x → get_or notes i z ≡ x
item_here notes i x z below here = get_or_from_slice_get notes i x z (slice_get-get_or notes i x below ∙ ap (λ (y : DirNotes). Some y) (sym here))

pub dir_here : (notes : Notes) (i : ℕ) (x : DirNotes) → i < length notes → x ≡ get_or notes i x → dir_at notes i ≡ x.dir
dir_here notes i x below here = get_or-map (λ (y : DirNotes). y.dir) notes i x no_dir below ∙ ap (λ (y : DirNotes). y.dir) (sym here)

pub notes_here : (notes : Notes) (i : ℕ) (x : DirNotes) (m : Channels) → Fits m notes → i < length notes → x ≡ get_or notes i x → notes_at x.dir notes ≡ Some x
notes_here notes i x m fits below here =
    ap (λ (y : DirNotes). notes_at y.dir notes) here ∙ at_place notes i x below fits.apart ∙ ap (λ (y : DirNotes). Some y) (sym here)

-- ---- the direction is another agent's, or the other direction has apart notes

idle_moved : (p : RealPid) (s : Refilling) (x : DirNotes) (found : Option DirNotes) → is_agent p x.sender ≡ false → moves_found p s x found ≡ false
idle_moved p s x None apart = refl
idle_moved p s x (Some y) apart = ap (λ (b : Bool). b && (nat_lt 0 (read_count p x s.channels) || nat_lt 0 (send_count p (note_read p x s.channels) y (channels_read p x s.channels)))) apart

idle_after : (p : RealPid) (s : Refilling) (x : DirNotes) (found : Option DirNotes) → is_agent p x.sender ≡ false → turn_found p s x found ≡ s
idle_after p s x None apart = refl
idle_after p s x (Some y) apart = ap (λ (b : Bool). if b then (let r : Refilling = record { notes = put_notes x.dir (turn_note p x y s.channels) s.notes; channels = turn_channels p x y s.channels } in r) else s) apart

pub not_agent_moved : (p : RealPid) (t : Network) (notes : Notes) (i : ℕ) (x : DirNotes) → Fits t.channels notes → i < length notes → x ≡ get_or notes i x → is_agent p x.sender ≡ false
    → false ≡ moved_by p (dir_at notes i) (state notes t)
not_agent_moved p t notes i x fits below here apart =
    let s = state notes t in
    sym (ap (λ (d : Dir). moved_by p d s) (dir_here notes i x below here) ∙ ap (moves_of p s) (notes_here notes i x t.channels fits below here) ∙ idle_moved p s x (notes_at (reverse x.dir) notes) apart)

pub not_agent_after : (p : RealPid) (t : Network) (notes : Notes) (i : ℕ) (x : DirNotes) → Fits t.channels notes → i < length notes → x ≡ get_or notes i x → is_agent p x.sender ≡ false
    → state notes t ≡ turn_after p (dir_at notes i) (state notes t)
not_agent_after p t notes i x fits below here apart =
    let s = state notes t in
    sym (ap (λ (d : Dir). turn_after p d s) (dir_here notes i x below here) ∙ ap (turn_of p s) (notes_here notes i x t.channels fits below here) ∙ idle_after p s x (notes_at (reverse x.dir) notes) apart)

-- ---- it is the agent's

agent_some : (p : RealPid) (named : Option RealPid) → is_agent p named ≡ true → IsSome named
agent_some p None agent = true_false (sym agent)
agent_some p (Some q) agent = refl

pub record Step (p : RealPid) (t : Network) (notes : Notes) (i j : ℕ) (x y : DirNotes) : Type 0 where
  pub differ : i ≢ j
  pub own : IsNoted (note_read p x t.channels)
  pub other : IsNoted y
  pub within : x.sent ≤ frame_length y + x.count
  pub flows : IfSome (direction_at (channels_read p x t.channels) x.dir) IsFlowing
  pub sum : x.sent + send_count p (note_read p x t.channels) y (channels_read p x t.channels) ≤ 2 * QUEUE_LIMIT + HEADER_LENGTH
  pub moved : moved_by p (dir_at notes i) (state notes t) ≡ (nat_lt 0 (read_count p x t.channels) || nat_lt 0 (send_count p (note_read p x t.channels) y (channels_read p x t.channels)))
  pub after : turn_after p (dir_at notes i) (state notes t)
      ≡ (let r : Refilling = record { notes = set notes i (turn_note p x y t.channels); channels = turn_channels p x y t.channels } in r)

noted_before : (k : ℕ) (z : DirNotes) → IsNoted (with_sent k z) → IsNoted z
noted_before k z is = record { side = is.side; few = is.few; whole = is.whole; room = is.room; read = is.read; back = is.back }

-- the other direction is read only
flow_read : (p : RealPid) (m : Channels) (notes : Notes) (x y : DirNotes) → Pair m notes x.dir x y → IfSome (direction_at (channels_read p x m) x.dir) IsFlowing
flow_read p m notes x y pair =
    let side = pair.side in
    subst (λ (o : Option Direction). IfSome o IsFlowing)
    (sym (direction_beside m (reverse x.dir) x.dir (after_receive (read_count p x m)) (omega (arith, side)) side (λ same. other_way x.dir side (sym same)) ∙ pair.own_at)) pair.own_fits.flows

pub step_of : (p : RealPid) (t : Network) (notes : Notes) (i j : ℕ) (x y : DirNotes) → Fits t.channels notes → i < length notes → j < length notes → x ≡ get_or notes i x → y ≡ get_or notes j y
    → is_agent p x.sender ≡ true → slice_get notes j ≡ notes_at (reverse x.dir) notes → Step p t notes i j x y
step_of p t notes i j x y fits below under here there agent found =
    let m = t.channels in
    let s = state notes t in
    let x_at = notes_here notes i x m fits below here in
    let got = pair_of m notes x.dir x fits x_at (agent_some p x.sender agent) in
    let y_at : notes_at (reverse x.dir) notes ≡ Some y = sym found ∙ slice_get-get_or notes j y under ∙ ap (λ (z : DirNotes). Some z) (sym there) in
    let same : got.0 ≡ y = same_Some got.0 y (sym got.1.y_at ∙ y_at) in
    let pair : Pair m notes x.dir x y = subst (λ (z : DirNotes). Pair m notes x.dir x z) same got.1 in
    let e = ended p m notes x.dir x y pair in
    let all = all_size x y pair.x_noted pair.y_noted in
    let after_all = all_size e.after y e.noted pair.y_noted in
    record {
      differ = λ equal.
          other_way x.dir pair.side
          (sym pair.y_dir ∙ ap (λ (z : DirNotes). z.dir) (there ∙ ap (λ (k : ℕ). get_or notes k y) (sym equal) ∙ item_here notes i x y below here));
      own = noted_before (send_count p (note_read p x m) y (channels_read p x m)) (note_read p x m) (subst IsNoted (sym e.after_is) e.noted);
      other = pair.y_noted;
      within = (let few = pair.own_fits.sent in omega (arith, few, all));
      flows = flow_read p m notes x y pair;
      sum = (let few = e.own_fits.sent in let sends = e.sends in let sent = e.sent_after in let count = e.count_after in let x_few = pair.x_noted.few in let y_few = pair.y_noted.few in
          omega (arith, few, sends, sent, count, after_all, x_few, y_few));
      moved =
          ap (λ (d : Dir). moved_by p d s) (dir_here notes i x below here) ∙ ap (moves_of p s) x_at ∙ ap (moves_found p s x) y_at
          ∙ ap (λ (b : Bool). b && (nat_lt 0 (read_count p x m) || nat_lt 0 (send_count p (note_read p x m) y (channels_read p x m)))) agent;
      after =
          ap (λ (d : Dir). turn_after p d s) (dir_here notes i x below here) ∙ ap (turn_of p s) x_at ∙ ap (turn_found p s x) y_at
          ∙ ap (λ (b : Bool). if b then (let r : Refilling = record { notes = put_notes x.dir (turn_note p x y m) notes; channels = turn_channels p x y m } in r) else s) agent
          ∙ ap (λ (l : Notes). let r : Refilling = record { notes = l; channels = turn_channels p x y m } in r)
          (ap (λ (z : DirNotes). put_notes z.dir (turn_note p x y m) notes) here ∙ sym (set_is_put notes i x (turn_note p x y m) below fits.apart));
    }
