-- One step of an agent on one direction.
--     nothing_received, nothing_sent      the network where nothing was read or sent
--     some_sent                           how many bytes were sent where some could be
--     sent_some                           the network where some were
--     flows_on                            a direction goes on after a read
--     Stepped                             what an agent read and sent in a step
--     stepped                             that it did so
--     step_notes, step_moves, step_net    what is noted after it, whether bytes were moved, and the network after it
use Rattle.std.proofs.Common.{◌≡◌, ◌≢◌, ℕ, ◌==◌, ◌≤◌, Bool, true, false, List, [], ◌∷◌, take, refl, sym, ap, ap₂, subst, ◌∙◌, arith}
use Rattle.std.specs.Prelude.{Option, Some, None, IfSome, nat_lt, ◌||◌, if◌then◌else◌}
use Rattle.std.specs.Option.{option_map, option_map_or}
use Rattle.std.proofs.lemmas.Bool.Decides.{nat_tests}
use Rattle.views.proofs.MapLaws.{true_false}
use Rattle.sys_abi.specs.declared.identity.Dir.{Dir}
use Rattle.sys_abi.specs.declared.identity.RealPid.{RealPid}
use Rattle.wire_net.specs.declared.cut_room.DirNotes.{DirNotes}
use Rattle.wire_channels.specs.Directions.{Direction, after_receive, after_send}
use Rattle.wire_channels.specs.Channels.{Channels, direction_at, at_direction}
use Rattle.wire_net.specs.Networks.{Network}
use Rattle.wire_channels.specs.Answers.{received_on}
use Rattle.drain_core.specs.Tasks.{unsent, reads, sends, moves, noted_read, noted_sent, with_sent, after_reading, direction_after, note_after}
use Rattle.drain_core.specs.Drains.{IsFlowing}
pub use Rattle.wire_net.proofs.OneCall.{with_channels, nothing_received, some_sent}
use Rattle.wire_channels.proofs.OneDirection.{unchanged_direction, agreeing_changes, changed_twice, direction_changed}

pub nothing_sent : (t : Network) (d : Dir) (x : DirNotes) → t ≡ with_channels t (at_direction t.channels d (with_sent 0 x))
nothing_sent t d x = ap (with_channels t) (sym (unchanged_direction t.channels d (with_sent 0 x) (λ direction. refl)))

pub sent_some : (t : Network) (d : Dir) (x : DirNotes) (n : ℕ) → n ≢ 0
    → with_channels t (at_direction t.channels d (after_send (take n (unsent x)))) ≡ with_channels t (at_direction t.channels d (with_sent n x))
sent_some t d x n some = ap (λ (f : Direction → Direction). with_channels t (at_direction t.channels d f)) (choice (n == 0) (let other : (n == 0) ≡ false = grind (arith, nat_tests) in other))
  where
    choice : (b : Bool) → b ≡ false → after_send (take n (unsent x)) ≡ (λ direction. if b then direction else after_send (take n (unsent x)) direction)
    choice true is = true_false is
    choice false is = refl

pub flows_on : (m n : Channels) (d e : Dir) (k : ℕ) → n ≡ at_direction m d (after_receive k) → e ≡ d → IfSome (direction_at m d) IsFlowing → IfSome (direction_at n e) IsFlowing
flows_on m n d e k is same flows =
    subst (λ (found : Option Direction). IfSome found IsFlowing) (sym (ap₂ direction_at is same ∙ direction_changed m d (after_receive k))) (kept (direction_at m d) flows)
  where
    kept : (found : Option Direction) → IfSome found IsFlowing → IfSome (option_map (after_receive k) found) IsFlowing
    kept None flows = tt
    kept (Some direction) flows = record { goes_on = flows.goes_on; is_read = flows.is_read }

-- what was read changes nothing of what is to be sent
pub sends_same : (p : RealPid) (piece : List ℕ) (x : DirNotes) (direction : Direction) → sends p (noted_read piece x) direction ≡ sends p x direction
sends_same p [] x direction = refl
sends_same p (byte ∷ bytes) x direction = refl

with_sent_same : (piece : List ℕ) (x : DirNotes) (n : ℕ) (direction : Direction) → with_sent n (noted_read piece x) direction ≡ with_sent n x direction
with_sent_same [] x n direction = refl
with_sent_same (byte ∷ bytes) x n direction = refl

pub dir_same : (piece : List ℕ) (x : DirNotes) → (noted_read piece x).dir ≡ x.dir
dir_same [] x = refl
dir_same (byte ∷ bytes) x = refl

pub sender_same : (piece : List ℕ) (x : DirNotes) → (noted_read piece x).sender ≡ x.sender
sender_same [] x = refl
sender_same (byte ∷ bytes) x = refl

-- of an agent that read n bytes of what was found, and sent k
pub record Stepped (p : RealPid) (x : DirNotes) (found : Option Direction) (n k : ℕ) (middle : DirNotes) : Type 0 where
  pub read : n ≡ option_map_or (reads p x) found 0
  pub noted : middle ≡ noted_read (take n (received_on found)) x
  pub sent : k ≡ option_map_or (sends p middle) (option_map (after_receive n) found) 0

pub stepped : (p : RealPid) (x : DirNotes) (n k : ℕ) (middle : DirNotes) (t u : Network) → n ≡ option_map_or (reads p x) (direction_at t.channels x.dir) 0
    → middle ≡ noted_read (take n (received_on (direction_at t.channels x.dir))) x → u ≡ with_channels t (at_direction t.channels x.dir (after_receive n))
    → k ≡ option_map_or (sends p middle) (direction_at u.channels middle.dir) 0 → Stepped p x (direction_at t.channels x.dir) n k middle
stepped p x n k middle t u read noted net sent = record {
  read = read;
  noted = noted;
  sent = sent ∙ ap (λ (found : Option Direction). option_map_or (sends p middle) found 0)
      (ap₂ direction_at (ap (λ (w : Network). w.channels) net) (ap (λ (y : DirNotes). y.dir) noted ∙ dir_same (take n (received_on (direction_at t.channels x.dir))) x) ∙ direction_changed t.channels x.dir (after_receive n));
}

sent_then : (p : RealPid) (x : DirNotes) (direction : Direction) (n k : ℕ) (middle : DirNotes) → Stepped p x (Some direction) n k middle → k ≡ sends p x (after_reading p x direction)
sent_then p x direction n k middle is =
    is.sent ∙ ap (λ (y : DirNotes). sends p y (after_receive n direction)) is.noted
    ∙ sends_same p (take n direction.received) x (after_receive n direction) ∙ ap (λ (i : ℕ). sends p x (after_receive i direction)) is.read

pub step_notes : (p : RealPid) (x : DirNotes) (found : Option Direction) (n k : ℕ) (middle after : DirNotes) → Stepped p x found n k middle → after ≡ noted_sent k middle → after ≡ note_after p found x
step_notes p x None n k middle after is noted =
    noted ∙ ap (λ (i : ℕ). noted_sent i middle) is.sent ∙ is.noted ∙ ap (λ (i : ℕ). noted_read (take i []) x) is.read
step_notes p x (Some direction) n k middle after is noted =
    noted ∙ ap (λ (i : ℕ). noted_sent i middle) (sent_then p x direction n k middle is)
    ∙ ap (noted_sent (sends p x (after_reading p x direction))) (is.noted ∙ ap (λ (i : ℕ). noted_read (take i direction.received) x) is.read)

pub step_moves : (p : RealPid) (x : DirNotes) (found : Option Direction) (n k : ℕ) (middle : DirNotes) → Stepped p x found n k middle → n ≤ 0
    → nat_lt 0 k ≡ option_map_or (moves p x) found false
step_moves p x None n k middle is none = ap (nat_lt 0) is.sent
step_moves p x (Some direction) n k middle is none =
    let zero : n ≡ 0 = omega (arith, none) in
    let nothing : nat_lt 0 (reads p x direction) ≡ false = ap (nat_lt 0) (sym is.read ∙ zero) in
    ap (nat_lt 0) (sent_then p x direction n k middle is ∙ ap (λ (i : ℕ). sends p x (after_receive i direction)) (sym is.read ∙ zero))
    ∙ sym (ap (λ b. b || nat_lt 0 (sends p x direction)) nothing)

pub step_net : (p : RealPid) (x : DirNotes) (n k : ℕ) (middle : DirNotes) (t u v : Network) → Stepped p x (direction_at t.channels x.dir) n k middle
    → u ≡ with_channels t (at_direction t.channels x.dir (after_receive n)) → v ≡ with_channels u (at_direction u.channels middle.dir (with_sent k middle))
    → v ≡ with_channels t (at_direction t.channels x.dir (direction_after p x))
step_net p x n k middle t u v is first last =
    last ∙ ap₂ (λ (w : Network) (e : Dir). with_channels w (at_direction w.channels e (with_sent k middle))) first (ap (λ (y : DirNotes). y.dir) is.noted ∙ dir_same (take n (received_on (direction_at t.channels x.dir))) x)
    ∙ ap (with_channels t) (changed_twice t.channels x.dir (after_receive n) (with_sent k middle)
    ∙ agreeing_changes t.channels x.dir (λ direction. with_sent k middle (after_receive n direction)) (direction_after p x) (λ direction at. agree direction (direction_at t.channels x.dir) at is))
  where
    agree : (direction : Direction) (found : Option Direction) → found ≡ Some direction → Stepped p x found n k middle → with_sent k middle (after_receive n direction) ≡ direction_after p x direction
    agree direction found at told =
        let is : Stepped p x (Some direction) n k middle = subst (λ (o : Option Direction). Stepped p x o n k middle) at told in
        ap (λ (y : DirNotes). with_sent k y (after_receive n direction)) is.noted
        ∙ with_sent_same (take n direction.received) x k (after_receive n direction)
        ∙ ap₂ (λ (i j : ℕ). with_sent j x (after_receive i direction)) is.read (sent_then p x direction n k middle is)
