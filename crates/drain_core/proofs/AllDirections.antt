-- What a step of an agent keeps of all directions.
--     for_each                    what holds of each item of a list
--     note_dir, note_sender, note_reader     what a step leaves of the notes on a direction
--     own_after                   the direction of an item after the step
--     fits_after                  the notes fit the network after a step
use Rattle.std.proofs.Common.{◌≡◌, ◌≢◌, ℕ, ◌==◌, ◌+◌, Bool, true, false, List, [], ◌∷◌, ◌++◌, take, length, refl, sym, ap, ap₂, subst, ◌∙◌, inl, inr}
use Rattle.std.specs.Prelude.{Option, Some, None, All, IsSome, is_some, if◌then◌else◌}
use Rattle.std.specs.Option.{option_map}
use Rattle.std.proofs.lemmas.List.Elements.{All-nil, All-cons, All-head, All-tail, All-map}
use Rattle.std.proofs.lemmas.List.Sums.{fold-append}
use Rattle.sys_abi.specs.declared.identity.Dir.{Dir}
use Rattle.sys_abi.specs.declared.identity.RealPid.{RealPid}
use Rattle.wire_net.specs.declared.cut_room.DirNotes.{DirNotes}
use Rattle.wire_channels.specs.Directions.{Direction, after_receive}
use Rattle.wire_channels.specs.Channels.{Channels, direction_at, at_direction, is_live_at}
use Rattle.wire_net.specs.Whereabouts.{stream_on}
use Rattle.drain_core.specs.Tasks.{is_agent, readable, sendable, with_sent, noted_read, noted_sent, note_after, direction_after}
use Rattle.drain_core.specs.Drains.{Notes, IsNoted, IsDraining, IsInStep, dirs_of, Apart, Fits, notes_after, channels_after}
use Rattle.wire_channels.proofs.OneDirection.{direction_changed}
pub use Rattle.wire_net.proofs.Items.{for_each, one_of}
use Rattle.drain_core.proofs.OneDrain.{step_kept}
use Rattle.drain_core.proofs.LiveChannels.{live_after}
use Rattle.drain_core.proofs.Walk.{untouched, front_apart}

pub front_of : (P : DirNotes → Type 0) (front rest : Notes) → All P (front ++ rest) → All P front
front_of P [] rest all = All-nil P
front_of P (y ∷ front) rest all = All-cons P y front (All-head P y (front ++ rest) all) (front_of P front rest (All-tail P y (front ++ rest) all))

pub back_of : (P : DirNotes → Type 0) (front rest : Notes) → All P (front ++ rest) → All P rest
back_of P [] rest all = all
back_of P (y ∷ front) rest all = back_of P front rest (All-tail P y (front ++ rest) all)

-- of a direction, as of the notes on it
pub of_dirs : (P : Dir → Type 0) (notes : Notes) → All P (dirs_of notes) → All (λ y. P y.dir) notes
of_dirs P [] all = All-nil (λ (y : DirNotes). P y.dir)
of_dirs P (x ∷ notes) all = All-cons (λ (y : DirNotes). P y.dir) x notes (All-head P x.dir (dirs_of notes) all) (of_dirs P notes (All-tail P x.dir (dirs_of notes) all))

pub back_apart : (front back : Notes) (x : DirNotes) → Apart (dirs_of (front ++ x ∷ back)) → All (λ y. y.dir ≢ x.dir) back
back_apart [] back x apart = of_dirs (λ e. e ≢ x.dir) back apart.0
back_apart (y ∷ front) back x apart = back_apart front back x apart.1

sent_dir : (k : ℕ) (x : DirNotes) → (noted_sent k x).dir ≡ x.dir
sent_dir k x = choice (k == 0)
  where
    choice : (b : Bool) → (if b then x else record x { sent = x.sent + k }).dir ≡ x.dir
    choice true = refl
    choice false = refl

sent_sender : (k : ℕ) (x : DirNotes) → (noted_sent k x).sender ≡ x.sender
sent_sender k x = choice (k == 0)
  where
    choice : (b : Bool) → (if b then x else record x { sent = x.sent + k }).sender ≡ x.sender
    choice true = refl
    choice false = refl

sent_reader : (k : ℕ) (x : DirNotes) → (noted_sent k x).reader ≡ x.reader
sent_reader k x = choice (k == 0)
  where
    choice : (b : Bool) → (if b then x else record x { sent = x.sent + k }).reader ≡ x.reader
    choice true = refl
    choice false = refl

read_dir : (piece : List ℕ) (x : DirNotes) → (noted_read piece x).dir ≡ x.dir
read_dir [] x = refl
read_dir (byte ∷ bytes) x = refl

read_sender : (piece : List ℕ) (x : DirNotes) → (noted_read piece x).sender ≡ x.sender
read_sender [] x = refl
read_sender (byte ∷ bytes) x = refl

read_reader : (piece : List ℕ) (x : DirNotes) → (noted_read piece x).reader ≡ x.reader
read_reader [] x = refl
read_reader (byte ∷ bytes) x = refl

pub note_dir : (p : RealPid) (found : Option Direction) (x : DirNotes) → (note_after p found x).dir ≡ x.dir
note_dir p None x = refl
note_dir p (Some direction) x = sent_dir _ _ ∙ read_dir _ x

pub note_sender : (p : RealPid) (found : Option Direction) (x : DirNotes) → (note_after p found x).sender ≡ x.sender
note_sender p None x = refl
note_sender p (Some direction) x = sent_sender _ _ ∙ read_sender _ x

pub note_reader : (p : RealPid) (found : Option Direction) (x : DirNotes) → (note_after p found x).reader ≡ x.reader
note_reader p None x = refl
note_reader p (Some direction) x = sent_reader _ _ ∙ read_reader _ x

-- nothing happens to a direction that no agent drains
pub aside_note : (p : RealPid) (found : Option Direction) (x : DirNotes) → x.sender ≡ None → x.reader ≡ None → note_after p found x ≡ x
aside_note p None x sender reader = refl
aside_note p (Some direction) x sender reader =
    ap₂ (λ (s r : Bool). noted_sent (if s then sendable x (after_receive (if r then readable x direction else 0) direction) else 0) (noted_read (take (if r then readable x direction else 0) direction.received) x))
    (ap (is_agent p) sender) (ap (is_agent p) reader)

pub aside_direction : (p : RealPid) (x : DirNotes) (direction : Direction) → x.sender ≡ None → x.reader ≡ None → direction_after p x direction ≡ direction
aside_direction p x direction sender reader =
    ap₂ (λ (s r : Bool). with_sent (if s then sendable x (after_receive (if r then readable x direction else 0) direction) else 0) x (after_receive (if r then readable x direction else 0) direction))
    (ap (is_agent p) sender) (ap (is_agent p) reader)

pub own_after : (p : RealPid) (m : Channels) (notes front back : Notes) (x : DirNotes) → Fits m notes → notes ≡ front ++ x ∷ back
    → direction_at (channels_after p notes m) x.dir ≡ option_map (direction_after p x) (direction_at m x.dir)
own_after p m notes front back x fits is =
    let apart : Apart (dirs_of (front ++ x ∷ back)) = subst (λ (l : Notes). Apart (dirs_of l)) is fits.apart in
    let noted : All IsNoted (front ++ x ∷ back) = subst (All IsNoted) is fits.noted in
    let side = (one_of IsNoted front back x noted).side in
    let before = channels_after p front m in
    ap (λ (l : Notes). direction_at (channels_after p l m) x.dir) is
    ∙ ap (λ (n : Channels). direction_at n x.dir) (fold-append (λ (n : Channels) (y : DirNotes). at_direction n y.dir (direction_after p y)) m front (x ∷ back))
    ∙ untouched p back (at_direction before x.dir (direction_after p x)) x.dir side (back_apart front back x apart) (All-tail IsNoted x back (back_of IsNoted front (x ∷ back) noted))
    ∙ direction_changed before x.dir (direction_after p x)
    ∙ ap (option_map (direction_after p x)) (untouched p front m x.dir side (front_apart front back x apart) (front_of IsNoted front (x ∷ back) noted))

same_dirs : (p : RealPid) (m : Channels) (notes : Notes) → dirs_of (notes_after p m notes) ≡ dirs_of notes
same_dirs p m [] = refl
same_dirs p m (x ∷ notes) = ap₂ (λ (d : Dir) (ds : List Dir). d ∷ ds) (note_dir p (direction_at m x.dir) x) (same_dirs p m notes)

noted_of : (p : RealPid) (m : Channels) (x : DirNotes) → IsNoted x → IsInStep m x → IsNoted (note_after p (direction_at m x.dir) x)
noted_of p m x noted (inl aside) = subst IsNoted (sym (aside_note p (direction_at m x.dir) x aside.sender aside.reader)) noted
noted_of p m x noted (inr under) =
    subst (λ (found : Option Direction). IsNoted (note_after p found x)) (sym under.found) (step_kept p x under.direction noted under.drains).noted

in_step_of : (p : RealPid) (m n : Channels) (x : DirNotes) → direction_at n x.dir ≡ option_map (direction_after p x) (direction_at m x.dir) → IsNoted x → IsInStep m x
    → IsInStep n (note_after p (direction_at m x.dir) x)
in_step_of p m n x is noted (inl aside) =
    subst (IsInStep n) (sym (aside_note p (direction_at m x.dir) x aside.sender aside.reader)) (inl (record {
      sender = aside.sender;
      reader = aside.reader;
      read = aside.read;
      stands = ap (λ (found : Option Direction). length (stream_on found)) (is ∙ same (direction_at m x.dir)) ∙ aside.stands;
    }))
  where
    same : (found : Option Direction) → option_map (direction_after p x) found ≡ found
    same None = refl
    same (Some direction) = ap (λ (d : Direction). Some d) (aside_direction p x direction aside.sender aside.reader)
in_step_of p m n x is noted (inr under) =
    let found = direction_at m x.dir in inr (record {
      sender = subst IsSome (sym (note_sender p found x)) under.sender;
      reader = subst IsSome (sym (note_reader p found x)) under.reader;
      direction = direction_after p x under.direction;
      found = ap (direction_at n) (note_dir p found x) ∙ is ∙ ap (option_map (direction_after p x)) under.found;
      drains = subst (λ (o : Option Direction). IsDraining (note_after p o x) (direction_after p x under.direction)) (sym under.found) (step_kept p x under.direction noted under.drains).drains;
    })

pub fits_after : (p : RealPid) (m : Channels) (notes : Notes) → Fits m notes → Fits (channels_after p notes m) (notes_after p m notes)
fits_after p m notes fits = record {
  apart = subst Apart (sym (same_dirs p m notes)) fits.apart;
  noted =
      All-map IsNoted (λ (x : DirNotes). note_after p (direction_at m x.dir) x) notes
      (for_each (λ x. IsNoted (note_after p (direction_at m x.dir) x)) notes (λ front back x is.
      noted_of p m x (one_of IsNoted front back x (subst (All IsNoted) is fits.noted)) (one_of (IsInStep m) front back x (subst (All (IsInStep m)) is fits.in_step))));
  in_step =
      All-map (IsInStep (channels_after p notes m)) (λ (x : DirNotes). note_after p (direction_at m x.dir) x) notes
      (for_each (λ x. IsInStep (channels_after p notes m) (note_after p (direction_at m x.dir) x)) notes (λ front back x is.
      in_step_of p m (channels_after p notes m) x (own_after p m notes front back x fits is) (one_of IsNoted front back x (subst (All IsNoted) is fits.noted))
      (one_of (IsInStep m) front back x (subst (All (IsInStep m)) is fits.in_step))));
  live =
      All-map (λ (x : DirNotes). is_some x.sender ≡ is_live_at (channels_after p notes m) x.dir.conn) (λ (x : DirNotes). note_after p (direction_at m x.dir) x) notes
      (for_each (λ x. is_some (note_after p (direction_at m x.dir) x).sender ≡ is_live_at (channels_after p notes m) (note_after p (direction_at m x.dir) x).dir.conn) notes (λ front back x is.
      ap is_some (note_sender p (direction_at m x.dir) x)
      ∙ one_of (λ x. is_some x.sender ≡ is_live_at m x.dir.conn) front back x (subst (All (λ x. is_some x.sender ≡ is_live_at m x.dir.conn)) is fits.live)
      ∙ sym (live_after p notes m x.dir.conn)
      ∙ ap (λ (d : Dir). is_live_at (channels_after p notes m) d.conn) (sym (note_dir p (direction_at m x.dir) x))));
}
