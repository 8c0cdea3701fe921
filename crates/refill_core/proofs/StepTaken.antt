-- A step of an agent on the direction of the notes at one place, by what its calls answer.
--     Taken, taken            the notes that it works with
--     own_noted .. sum_fits   what its calls ask
--     moved_then, moved_else, after_is      what it answers and leaves
use Rattle.std.proofs.Common.{◌≡◌, ℕ, ◌+◌, ◌*◌, ◌<◌, ◌≤◌, nat_lt, Bool, true, false, length, get_or, set, sym, ap, ap₂, subst, ◌∙◌, arith, get_or-set_same, get_or-set_other}
use Rattle.std.specs.Prelude.{IfSome, ◌||◌, slice_get}
use Rattle.std.proofs.lemmas.Bool.Decides.{nat_tests}
use Rattle.std.proofs.lemmas.List.{set-set}
use Rattle.std.proofs.lemmas.Option.{slice_get-get_or, get_or_from_slice_get}
use Rattle.sys_abi.specs.declared.identity.Dir.{Dir}
use Rattle.sys_abi.specs.declared.identity.RealPid.{RealPid}
use Rattle.wire_net.specs.declared.cut_room.DirNotes.{DirNotes}
use Rattle.wire_channels.specs.declared.limits.TheConstants.{QUEUE_LIMIT}
use Rattle.wire_channels.specs.Channels.{Channels, direction_at}
use Rattle.wire_net.specs.Networks.{Network}
use Rattle.wire_net.specs.Whereabouts.{reverse}
use Rattle.refill_core.specs.declared.limits.TheConstants.{HEADER_LENGTH}
use Rattle.refill_core.specs.Tasks.{is_agent, frame_length, with_sent, read_count, note_read, channels_read, send_count, channels_sent}
use Rattle.refill_core.specs.Refills.{Notes, Refilling, notes_at, IsNoted, IsFlowing, Fits, turn_after}
use Rattle.refill_core.specs.Work.{moved_by}
use Rattle.refill_core.specs.Stepping.{state, dir_at}
use Rattle.refill_core.proofs.OneStep.{item_here, Step, step_of}

pub record Taken (p : RealPid) (t : Network) (l : Notes) (i j : ℕ) (x y x1 : DirNotes) : Type 0 where
  pub step : Step p t l i j x y
  pub below : i < length l
  pub read : x1 ≡ note_read p x t.channels

pub taken : (p : RealPid) (t : Network) (l : Notes) (i j : ℕ) (x x2 x3 y read x1 : DirNotes) (r : Dir) → Fits t.channels l → i < length l → j < length l → x ≡ get_or l i x → is_agent p (get_or l i x).sender ≡ true
    → r ≡ reverse (get_or l i x2).dir → slice_get l j ≡ notes_at r l → read ≡ note_read p (get_or l i x3) t.channels → x1 ≡ get_or (set l i read) i x1 → y ≡ get_or (set l i read) j y → Taken p t l i j x y x1
taken p t l i j x x2 x3 y read x1 r fits below under here agent around found noted here1 there =
    let z = get_or l j y in
    let z_there : z ≡ get_or l j z = sym (get_or_from_slice_get l j z z (slice_get-get_or l j y under)) in
    let step = step_of p t l i j x z fits below under here z_there (ap (λ (w : DirNotes). is_agent p w.sender) here ∙ agent)
    (found ∙ ap (λ (d : Dir). notes_at d l) (around ∙ ap (λ (w : DirNotes). reverse w.dir) (item_here l i x x2 below here))) in
    let same : z ≡ y = sym (there ∙ get_or-set_other l i j read y (λ equal. step.differ (sym equal))) in
    record {
      step = subst (λ (w : DirNotes). Step p t l i j x w) same step;
      below = below;
      read = here1 ∙ get_or-set_same l i read x1 below ∙ noted ∙ ap (λ (w : DirNotes). note_read p w t.channels) (item_here l i x x3 below here);
    }

pub own_noted : (p : RealPid) (t : Network) (l : Notes) (i j : ℕ) (x y x1 : DirNotes) → Taken p t l i j x y x1 → IsNoted x1
own_noted p t l i j x y x1 is = subst IsNoted (sym is.read) is.step.own

pub sent_within : (p : RealPid) (t : Network) (l : Notes) (i j : ℕ) (x y x1 : DirNotes) → Taken p t l i j x y x1 → x1.sent ≤ frame_length y + x1.count
sent_within p t l i j x y x1 is = subst (λ (z : DirNotes). z.sent ≤ frame_length y + z.count) (sym is.read) is.step.within

pub still_flows : (p : RealPid) (t : Network) (l : Notes) (i j : ℕ) (x y x1 : DirNotes) (m : Channels) → Taken p t l i j x y x1 → m ≡ channels_read p x t.channels → IfSome (direction_at m x1.dir) IsFlowing
still_flows p t l i j x y x1 m is net =
    subst (λ (z : DirNotes). IfSome (direction_at m z.dir) IsFlowing) (sym is.read)
    (subst (λ (c : Channels). IfSome (direction_at c x.dir) IsFlowing) (sym net) is.step.flows)

sends_same : (p : RealPid) (t : Network) (l : Notes) (i j : ℕ) (x y x1 : DirNotes) (m : Channels) (n : ℕ) → Taken p t l i j x y x1 → m ≡ channels_read p x t.channels → n ≡ send_count p x1 y m
    → n ≡ send_count p (note_read p x t.channels) y (channels_read p x t.channels)
sends_same p t l i j x y x1 m n is net count = count ∙ ap₂ (λ (z : DirNotes) (c : Channels). send_count p z y c) is.read net

pub sum_few : (p : RealPid) (t : Network) (l : Notes) (i j : ℕ) (x y x1 : DirNotes) (m : Channels) (n : ℕ) → Taken p t l i j x y x1 → m ≡ channels_read p x t.channels → n ≡ send_count p x1 y m → x1.sent + n ≤ 2 * QUEUE_LIMIT + HEADER_LENGTH
sum_few p t l i j x y x1 m n is net count =
    let sends = sends_same p t l i j x y x1 m n is net count in
    let sum = is.step.sum in
    let sent : x1.sent ≡ x.sent = ap (λ (z : DirNotes). z.sent) is.read in
    omega (arith, sends, sum, sent)

moved_is : (p : RealPid) (t : Network) (l : Notes) (i j : ℕ) (x y x1 : DirNotes) (m : Channels) (k n : ℕ) → Taken p t l i j x y x1 → k ≡ read_count p x t.channels → m ≡ channels_read p x t.channels → n ≡ send_count p x1 y m
    → moved_by p (dir_at l i) (state l t) ≡ (nat_lt 0 k || nat_lt 0 n)
moved_is p t l i j x y x1 m k n is read net count =
    is.step.moved ∙ ap₂ (λ (a b : ℕ). nat_lt 0 a || nat_lt 0 b) (sym read) (sym (sends_same p t l i j x y x1 m n is net count))

pub moved_then : (p : RealPid) (t : Network) (l : Notes) (i j : ℕ) (x y x1 : DirNotes) (m : Channels) (k n : ℕ) → Taken p t l i j x y x1 → k ≡ read_count p x t.channels → m ≡ channels_read p x t.channels → n ≡ send_count p x1 y m
    → 0 < k → nat_lt 0 k ≡ moved_by p (dir_at l i) (state l t)
moved_then p t l i j x y x1 m k n is read net count some =
    let test : nat_lt 0 k ≡ true = grind (arith, nat_tests, some) in
    test ∙ sym (moved_is p t l i j x y x1 m k n is read net count ∙ ap (λ (b : Bool). b || nat_lt 0 n) test)

pub moved_else : (p : RealPid) (t : Network) (l : Notes) (i j : ℕ) (x y x1 : DirNotes) (m : Channels) (k n : ℕ) → Taken p t l i j x y x1 → k ≡ read_count p x t.channels → m ≡ channels_read p x t.channels → n ≡ send_count p x1 y m
    → k ≤ 0 → nat_lt 0 n ≡ moved_by p (dir_at l i) (state l t)
moved_else p t l i j x y x1 m k n is read net count none =
    let test : nat_lt 0 k ≡ false = grind (arith, nat_tests, none) in
    sym (moved_is p t l i j x y x1 m k n is read net count ∙ ap (λ (b : Bool). b || nat_lt 0 n) test)

pub again_item : (l : Notes) (i : ℕ) (read x1 z : DirNotes) → i < length l → x1 ≡ get_or (set l i read) i x1 → get_or (set l i read) i z ≡ x1
again_item l i read x1 z below here = get_or-set_same l i read z below ∙ sym (get_or-set_same l i read x1 below) ∙ sym here

pub after_is : (p : RealPid) (t : Network) (l : Notes) (i j : ℕ) (x y read x1 : DirNotes) (u v : Network) (n : ℕ) (z w : DirNotes) → Taken p t l i j x y x1 → u.channels ≡ channels_read p x t.channels
    → x1 ≡ get_or (set l i read) i x1 → n ≡ send_count p x1 y u.channels → v ≡ record u { channels = channels_sent p x1 y u.channels }
    → state (set (set l i read) i (record (get_or (set l i read) i z) { sent = (get_or (set l i read) i w).sent + n })) v ≡ turn_after p (dir_at l i) (state l t)
after_is p t l i j x y read x1 u v n z w is net here count sent =
    let at : (o : DirNotes) → get_or (set l i read) i o ≡ x1 = λ o. again_item l i read x1 o is.below here in
    let noted = ap₂ (λ (a b : DirNotes). let r : DirNotes = record a { sent = b.sent + n } in r) (at z) (at w) ∙ ap₂ with_sent (sends_same p t l i j x y x1 u.channels n is net count) is.read in
    ap₂ (λ (a : Notes) (c : Channels). let r : Refilling = record { notes = a; channels = c } in r)
    (set-set l i read (record (get_or (set l i read) i z) { sent = (get_or (set l i read) i w).sent + n }) ∙ ap (set l i) noted)
    (ap (λ (o : Network). o.channels) sent ∙ ap₂ (λ (o : DirNotes) (c : Channels). channels_sent p o y c) is.read net) ∙ sym is.step.after

-- ---- what the calls answer, on the notes as they stand in the list

pub read_here : (p : RealPid) (t u : Network) (l : Notes) (i k : ℕ) (x z : DirNotes) → i < length l → x ≡ get_or l i x → k ≡ read_count p (get_or l i z) t.channels → k ≡ read_count p x t.channels
read_here p t u l i k x z below here count = count ∙ ap (λ (w : DirNotes). read_count p w t.channels) (item_here l i x z below here)

pub channels_here : (p : RealPid) (t u : Network) (l : Notes) (i : ℕ) (x z : DirNotes) → i < length l → x ≡ get_or l i x → u ≡ record t { channels = channels_read p (get_or l i z) t.channels } → u.channels ≡ channels_read p x t.channels
channels_here p t u l i x z below here net = ap (λ (w : Network). w.channels) net ∙ ap (λ (w : DirNotes). channels_read p w t.channels) (item_here l i x z below here)
