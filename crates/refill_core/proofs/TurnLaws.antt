-- What a turn of an agent does to each direction, and to the lists of its notes.
--     AtEnds, turn_at_ends       it reads and sends at ends for which it acts, and keeps what it reads
--     none_at_ends               so it is where nothing happens
use Rattle.std.proofs.Common.{◌≡◌, ◌≢◌, ℕ, ◌==◌, ◌+◌, ◌-◌, ◌<◌, Bool, true, false, List, [], ◌++◌, take, length, refl, sym, ap, subst, ◌∙◌, arith, append-nil, inl, inr}
use Rattle.std.specs.Prelude.{Option, Some, None, IfSome, is_some, if◌then◌else◌}
use Rattle.std.specs.Option.{option_map_or}
use Rattle.std.proofs.Math.Seq.{drop-nil}
use Rattle.std.proofs.lemmas.List.{length-take, take-append-drop}
use Rattle.views.proofs.MapLaws.{same_or_other, true_false}
use Rattle.sys_abi.specs.declared.identity.Dir.{Dir}
use Rattle.sys_abi.specs.declared.identity.RealPid.{RealPid}
use Rattle.sys_abi.proofs.OrderLaws.{dir_total, dir_exact}
use Rattle.wire_net.specs.declared.cut_room.DirNotes.{DirNotes}
use Rattle.wire_net.specs.AgentSteps.{IsStepOn}
use Rattle.wire_channels.specs.Directions.{Direction, after_receive, after_send}
use Rattle.wire_channels.specs.Channels.{Channels, direction_at}
use Rattle.wire_channels.specs.Answers.{received_on}
use Rattle.wire_net.specs.Whereabouts.{reverse}
use Rattle.wire_channels.proofs.KeptFrames.{direction_framed}
use Rattle.refill_core.specs.declared.limits.TheConstants.{HEADER_LENGTH}
use Rattle.refill_core.specs.Laws.{acts, IsNotedStep, IsStepAt}
use Rattle.refill_core.specs.Refills.{Refilling, notes_at, put_notes, turn_after}
use Rattle.refill_core.specs.Tasks.{is_agent, sent_on, turn_channels}
use Rattle.refill_core.proofs.EndFits.{Ended, ended}
use Rattle.refill_core.proofs.Going.{read_is}
use Rattle.refill_core.proofs.Pairs.{twice_around, put_found, put_beside}
use Rattle.refill_core.proofs.Staying.{channels_framed}
use Rattle.refill_core.proofs.Whole.{FitsNow, Turn, end_cases, result_of}

-- ---- two look-ups that find something, or the same

found_both : {X : Type 0} (R : X → X → Type 0) (before after : Option X) (x y : X) → before ≡ Some x → after ≡ Some y → R x y → IfSome before (λ b. IfSome after (R b))
found_both {X} R before after x y first last is =
    subst (λ (o : Option X). IfSome o (λ b. IfSome after (R b))) (sym first) (subst (λ (o : Option X). IfSome o (R x)) (sym last) is)

same_both : {X : Type 0} (R : X → X → Type 0) (before after : Option X) → after ≡ before → ((x : X) → R x x) → IfSome before (λ b. IfSome after (R b))
same_both {X} R before after same is = subst (λ (o : Option X). IfSome before (λ b. IfSome o (R b))) (sym same) (itself before)
  where
    itself : (o : Option X) → IfSome o (λ b. IfSome o (R b))
    itself None = tt
    itself (Some x) = is x

-- ---- nothing happens

no_step : (reads sends : Bool) (direction : Direction) → IsStepOn reads sends direction direction
no_step reads sends direction = record {
  taken = 0;
  added = [];
  received = refl;
  wire = refl;
  sent = sym (append-nil direction.sent);
  unread = λ is. refl;
  silent = λ is. refl;
}

no_list : (before after : List ℕ) (x : DirNotes) → after ≡ before → IsNotedStep before after x x
no_list before after x same = record {
  read = [];
  front = sym same;
  counted = omega arith;
  returned = sym (ap (λ (l : List ℕ). x.returned.items ++ l) (drop-nil (HEADER_LENGTH - x.read)) ∙ append-nil x.returned.items);
  drained = refl;
  sender = refl;
}

still_on : (p : RealPid) (e : Dir) (s : Refilling) → IsStepAt p e s s
still_on p e s =
    let reads = acts p (notes_at (reverse e) s.notes) in
    let sends = acts p (notes_at e s.notes) in
    let read = received_on (direction_at s.channels (reverse e)) in record {
      there = refl;
      queues = same_both (IsStepOn reads sends) (direction_at s.channels e) (direction_at s.channels e) refl (no_step reads sends);
      noted = refl;
      lists = same_both (IsNotedStep read read) (notes_at e s.notes) (notes_at e s.notes) refl (λ x. no_list read read x refl);
    }

-- ---- on the channel of the turn

sends_step : (reads : Bool) (k : ℕ) (piece : List ℕ) (direction : Direction) → IsStepOn reads true direction (sent_on k piece direction)
sends_step reads k piece direction = choice (k == 0) refl
  where
    choice : (none : Bool) → (k == 0) ≡ none → IsStepOn reads true direction (if none then direction else after_send (take k piece) direction)
    choice true at = no_step reads true direction
    choice false at = record {
      taken = 0;
      added = take k piece;
      received = refl;
      wire = refl;
      sent = refl;
      unread = λ is. refl;
      silent = λ is. true_false is;
    }

reads_step : (sends : Bool) (n : ℕ) (direction : Direction) → IsStepOn true sends direction (after_receive n direction)
reads_step sends n direction = record {
  taken = n;
  added = [];
  received = refl;
  wire = refl;
  sent = sym (append-nil direction.sent);
  unread = λ is. true_false is;
  silent = λ is. refl;
}

same_received : (k : ℕ) (piece : List ℕ) (direction : Direction) → (sent_on k piece direction).received ≡ direction.received
same_received k piece direction = choice (k == 0)
  where
    choice : (none : Bool) → (if none then direction else after_send (take k piece) direction).received ≡ direction.received
    choice true = refl
    choice false = refl

same_reverse : (q d : Dir) → q.side < 2 → d.side < 2 → reverse q ≡ reverse d → q ≡ d
same_reverse q d side few same = sym (twice_around q side) ∙ ap reverse same ∙ twice_around d few

of_found : (p : RealPid) (found : Option DirNotes) (x : DirNotes) → found ≡ Some x → is_agent p x.sender ≡ true → acts p found ≡ true
of_found p found x at agent = ap (λ (o : Option DirNotes). option_map_or (λ (z : DirNotes). is_agent p z.sender) o false) at ∙ agent

turn_on : (p : RealPid) (d : Dir) (s : Refilling) (t : Turn p d s) (q : Dir) → q.side < 2 → IsStepAt p q s (result_of p d s t.x t.y)
turn_on p d s t q side = subst (λ (v : DirNotes). IsStepAt p q s (record { notes = put_notes d v s.notes; channels = after })) (sym e.after_is) (record {
  there = direction_framed s.channels after q (channels_framed p t.x t.y s.channels);
  queues = queues;
  noted = noted;
  lists = lists;
})
  where
    after : Channels
    after = turn_channels p t.x t.y s.channels

    e : Ended p s.channels s.notes d t.x t.y t.pair
    e = ended p s.channels s.notes d t.x t.y t.pair

    reads : Bool
    reads = acts p (notes_at (reverse q) s.notes)

    sends : Bool
    sends = acts p (notes_at q s.notes)

    queues : IfSome (direction_at s.channels q) (λ before. IfSome (direction_at after q) (IsStepOn reads sends before))
    queues = elim (same_or_other dir_total dir_exact q d) [
      | inl same ↦
          found_both (IsStepOn reads sends) (direction_at s.channels q) (direction_at after q) t.pair.own e.own (ap (direction_at s.channels) same ∙ t.pair.own_at) (ap (direction_at after) same ∙ e.own_at)
          (subst (λ (b : Bool). IsStepOn reads b t.pair.own e.own) (sym (of_found p (notes_at q s.notes) t.x (ap (λ (f : Dir). notes_at f s.notes) same ∙ t.pair.x_at) t.agent))
          (subst (IsStepOn reads true t.pair.own) (sym e.own_is) (sends_step reads e.k e.piece t.pair.own)))
      | inr differ ↦ elim (same_or_other dir_total dir_exact q (reverse d)) [
        | inl same ↦
            let around : reverse q ≡ d = ap reverse same ∙ twice_around d t.pair.side in
            found_both (IsStepOn reads sends) (direction_at s.channels q) (direction_at after q) t.pair.other e.other (ap (direction_at s.channels) same ∙ t.pair.other_at) (ap (direction_at after) same ∙ e.other_at)
            (subst (λ (b : Bool). IsStepOn b sends t.pair.other e.other) (sym (of_found p (notes_at (reverse q) s.notes) t.x (ap (λ (f : Dir). notes_at f s.notes) around ∙ t.pair.x_at) t.agent))
            (subst (IsStepOn true sends t.pair.other) (sym e.other_is) (reads_step sends e.n t.pair.other)))
        | inr apart ↦ same_both (IsStepOn reads sends) (direction_at s.channels q) (direction_at after q) (e.beside q side differ apart) (no_step reads sends)
      ]
    ]

    noted : is_some (notes_at q (put_notes d e.after s.notes)) ≡ is_some (notes_at q s.notes)
    noted = elim (same_or_other dir_total dir_exact q d) [
      | inl same ↦
          ap is_some (ap (λ (f : Dir). notes_at f (put_notes d e.after s.notes)) same ∙ put_found d t.x e.after s.notes e.dir t.pair.x_at)
          ∙ ap is_some (sym (ap (λ (f : Dir). notes_at f s.notes) same ∙ t.pair.x_at))
      | inr differ ↦ ap is_some (put_beside d q e.after s.notes e.dir differ)
    ]

    -- what can be read off the direction and off the other one
    read_on : Channels → Dir → List ℕ
    read_on m f = received_on (direction_at m (reverse f))

    unread : q ≢ d → read_on after q ≡ read_on s.channels q
    unread differ = elim (same_or_other dir_total dir_exact (reverse q) d) [
      | inl same ↦
          ap received_on (ap (direction_at after) same ∙ e.own_at) ∙ ap (λ (r : Direction). r.received) e.own_is ∙ same_received e.k e.piece t.pair.own
          ∙ sym (ap received_on (ap (direction_at s.channels) same ∙ t.pair.own_at))
      | inr apart ↦ ap received_on (e.beside (reverse q) (omega (arith, side)) apart (λ same. differ (same_reverse q d side t.pair.side same)))
    ]

    own_lists : IsNotedStep (read_on s.channels d) (read_on after d) t.x e.after
    own_lists =
        let piece = take e.n t.pair.other.received in
        let count = read_is p d s t.x t.y t.pair t.agent in
        let many : length piece ≡ e.n = length-take e.n t.pair.other.received ∙ (let is = e.reads in omega (arith, is, count)) in record {
          read = piece;
          front =
              ap received_on t.pair.other_at ∙ sym (take-append-drop e.n t.pair.other.received)
              ∙ ap (λ (l : List ℕ). piece ++ l) (sym (ap received_on e.other_at ∙ ap (λ (r : Direction). r.received) e.other_is));
          counted = e.read_after ∙ ap (λ (k : ℕ). t.x.read + k) (sym many);
          returned = e.returned_after;
          drained = e.drained;
          sender = e.sender;
        }

    lists : IfSome (notes_at q s.notes) (λ x. IfSome (notes_at q (put_notes d e.after s.notes)) (IsNotedStep (read_on s.channels q) (read_on after q) x))
    lists = elim (same_or_other dir_total dir_exact q d) [
      | inl same ↦
          found_both (IsNotedStep (read_on s.channels q) (read_on after q)) (notes_at q s.notes) (notes_at q (put_notes d e.after s.notes)) t.x e.after (ap (λ (f : Dir). notes_at f s.notes) same ∙ t.pair.x_at)
          (ap (λ (f : Dir). notes_at f (put_notes d e.after s.notes)) same ∙ put_found d t.x e.after s.notes e.dir t.pair.x_at)
          (subst (λ (f : Dir). IsNotedStep (read_on s.channels f) (read_on after f) t.x e.after) (sym same) own_lists)
      | inr differ ↦
          same_both (IsNotedStep (read_on s.channels q) (read_on after q)) (notes_at q s.notes) (notes_at q (put_notes d e.after s.notes)) (put_beside d q e.after s.notes e.dir differ)
          (λ x. no_list (read_on s.channels q) (read_on after q) x (unread differ))
    ]

abbrev pub AtEnds : RealPid → Refilling → Refilling → Type 0
AtEnds p s t = (q : Dir) → q.side < 2 → IsStepAt p q s t

pub none_at_ends : (p : RealPid) (s : Refilling) → AtEnds p s s
none_at_ends p s q side = still_on p q s

pub turn_at_ends : (p : RealPid) (d : Dir) (s : Refilling) → FitsNow s → AtEnds p s (turn_after p d s)
turn_at_ends p d s fits q side = elim (end_cases p d s fits) [
  | inl still ↦ subst (IsStepAt p q s) (sym still.is) (still_on p q s)
  | inr turn ↦ subst (IsStepAt p q s) (sym turn.is) (turn_on p d s turn q side)
]
