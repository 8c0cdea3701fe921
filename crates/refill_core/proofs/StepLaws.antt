-- What a whole step of an agent does to each direction: its turns, one after the other.
--     dropped_join        what stands behind the first bytes of two pieces
--     then_at_ends        two such changes are one
--     steps_at_ends       so a step reads and sends at ends for which its agent acts, and keeps what it reads
use Rattle.std.proofs.Common.{◌≡◌, ℕ, ◌+◌, ◌-◌, ◌≤◌, Bool, true, false, List, [], ◌∷◌, ◌++◌, drop, length, refl, sym, ap, ap₂, subst, ◌∙◌, arith, length-append, append_assoc}
use Rattle.std.specs.Prelude.{Option, Some, None, IfSome, is_some, nat_le}
use Rattle.std.proofs.Math.Seq.{drop-append-le, drop-append-add, drop-drop}
use Rattle.std.proofs.lemmas.Bool.Decides.{nat_tests}
use Rattle.std.proofs.lemmas.List.{drop_all}
use Rattle.views.proofs.MapLaws.{true_false}
use Rattle.sys_abi.specs.declared.identity.Dir.{Dir}
use Rattle.sys_abi.specs.declared.identity.RealPid.{RealPid}
use Rattle.wire_net.specs.declared.cut_room.DirNotes.{DirNotes}
use Rattle.wire_net.specs.AgentSteps.{IsStepOn}
use Rattle.wire_channels.specs.Directions.{Direction}
use Rattle.wire_channels.specs.Channels.{direction_at}
use Rattle.wire_channels.specs.Answers.{received_on}
use Rattle.wire_net.specs.Whereabouts.{reverse}
use Rattle.refill_core.specs.declared.limits.TheConstants.{HEADER_LENGTH}
use Rattle.refill_core.specs.Laws.{acts, IsNotedStep}
use Rattle.refill_core.specs.Refills.{Refilling, dirs_of, notes_at, turn_after, turns_after}
use Rattle.refill_core.specs.Tasks.{is_agent}
use Rattle.refill_core.proofs.TurnLaws.{AtEnds, none_at_ends, turn_at_ends}
use Rattle.refill_core.proofs.Whole.{FitsNow, end_fits}

dropped_join : (k : ℕ) (xs ys : List ℕ) → drop k (xs ++ ys) ≡ drop k xs ++ drop (k - length xs) ys
dropped_join k xs ys = choice (nat_le k (length xs)) refl
  where
    choice : (b : Bool) → nat_le k (length xs) ≡ b → drop k (xs ++ ys) ≡ drop k xs ++ drop (k - length xs) ys
    choice true at =
        let few : k ≤ length xs = grind (arith, nat_tests, at) in
        drop-append-le k xs ys few ∙ ap (λ (i : ℕ). drop k xs ++ drop i ys) (let e : 0 ≡ k - length xs = omega (arith, few) in e)
    choice false at =
        let more : length xs ≤ k = grind (arith, nat_tests, at) in
        ap (λ (i : ℕ). drop i (xs ++ ys)) (let e : k ≡ length xs + (k - length xs) = omega (arith, more) in e)
        ∙ drop-append-add xs ys (k - length xs)
        ∙ ap (λ (l : List ℕ). l ++ drop (k - length xs) ys) (sym (drop_all k xs more))

queues_then : (reads sends : Bool) (a b c : Direction) → IsStepOn reads sends a b → IsStepOn reads sends b c → IsStepOn reads sends a c
queues_then reads sends a b c first second = record {
  taken = first.taken + second.taken;
  added = first.added ++ second.added;
  received = second.received ∙ ap (drop second.taken) first.received ∙ drop-drop second.taken first.taken a.received;
  wire = second.wire ∙ first.wire;
  sent = second.sent ∙ ap (λ (l : List ℕ). l ++ second.added) first.sent ∙ append_assoc a.sent first.added second.added;
  unread = λ is. let one = first.unread is in let two = second.unread is in omega (arith, one, two);
  silent = λ is. ap₂ (λ (l k : List ℕ). l ++ k) (first.silent is) (second.silent is);
}

noted_then : (before middle after : List ℕ) (x y z : DirNotes) → IsNotedStep before middle x y → IsNotedStep middle after y z → IsNotedStep before after x z
noted_then before middle after x y z first second = record {
  read = first.read ++ second.read;
  front = first.front ∙ ap (λ (l : List ℕ). first.read ++ l) second.front ∙ sym (append_assoc first.read second.read after);
  counted = let one = first.counted in let two = second.counted in let many = length-append first.read second.read in omega (arith, one, two, many);
  returned =
      let passed : HEADER_LENGTH - y.read ≡ HEADER_LENGTH - x.read - length first.read = (let one = first.counted in omega (arith, one)) in
      second.returned
      ∙ ap₂ (λ (l : List ℕ) (k : ℕ). l ++ drop k second.read) first.returned passed
      ∙ append_assoc x.returned.items (drop (HEADER_LENGTH - x.read) first.read) (drop (HEADER_LENGTH - x.read - length first.read) second.read)
      ∙ ap (λ (l : List ℕ). x.returned.items ++ l) (sym (dropped_join (HEADER_LENGTH - x.read) first.read second.read));
  drained = second.drained ∙ first.drained;
  sender = second.sender ∙ first.sender;
}

-- what is found before, between and after
found_then : {X : Type 0} (P Q R : X → X → Type 0) (a b c : Option X) → is_some b ≡ is_some a → ((x y z : X) → P x y → Q y z → R x z) → IfSome a (λ x. IfSome b (P x)) → IfSome b (λ y. IfSome c (Q y))
    → IfSome a (λ x. IfSome c (R x))
found_then P Q R None b c there step first second = tt
found_then P Q R (Some x) b None there step first second = tt
found_then P Q R (Some x) None (Some z) there step first second = true_false (sym there)
found_then P Q R (Some x) (Some y) (Some z) there step first second = step x y z first second

acts_same : (p : RealPid) (before after : List ℕ) (a b : Option DirNotes) → is_some b ≡ is_some a → IfSome a (λ x. IfSome b (IsNotedStep before after x)) → acts p b ≡ acts p a
acts_same p before after None None there is = refl
acts_same p before after None (Some y) there is = true_false there
acts_same p before after (Some x) None there is = true_false (sym there)
acts_same p before after (Some x) (Some y) there is = ap (is_agent p) is.sender

pub then_at_ends : (p : RealPid) (s t u : Refilling) → AtEnds p s t → AtEnds p t u → AtEnds p s u
then_at_ends p s t u first second q side =
    let one = first q side in
    let two = second q side in
    let back = first (reverse q) (omega arith) in
    let reads = acts p (notes_at (reverse q) s.notes) in
    let sends = acts p (notes_at q s.notes) in
    let reads_same = acts_same p _ _ (notes_at (reverse q) s.notes) (notes_at (reverse q) t.notes) back.noted back.lists in
    let sends_same = acts_same p _ _ (notes_at q s.notes) (notes_at q t.notes) one.noted one.lists in
    record {
      there = two.there ∙ one.there;
      queues =
          found_then (IsStepOn reads sends) (IsStepOn reads sends) (IsStepOn reads sends) (direction_at s.channels q) (direction_at t.channels q) (direction_at u.channels q) one.there (queues_then reads sends) one.queues
          (subst (λ (a : Bool). IfSome (direction_at t.channels q) (λ before. IfSome (direction_at u.channels q) (IsStepOn a sends before))) reads_same
          (subst (λ (b : Bool). IfSome (direction_at t.channels q) (λ before. IfSome (direction_at u.channels q) (IsStepOn (acts p (notes_at (reverse q) t.notes)) b before))) sends_same two.queues));
      noted = two.noted ∙ one.noted;
      lists =
          found_then (IsNotedStep (read_at s) (read_at t)) (IsNotedStep (read_at t) (read_at u)) (IsNotedStep (read_at s) (read_at u)) (notes_at q s.notes) (notes_at q t.notes) (notes_at q u.notes) one.noted
          (noted_then (read_at s) (read_at t) (read_at u)) one.lists two.lists;
    }
  where
    read_at : Refilling → List ℕ
    read_at r = received_on (direction_at r.channels (reverse q))

turns_at_ends : (p : RealPid) (ds : List Dir) (s : Refilling) → FitsNow s → AtEnds p s (turns_after p ds s)
turns_at_ends p [] s fits = none_at_ends p s
turns_at_ends p (d ∷ ds) s fits =
    let next = turn_after p d s in
    then_at_ends p s next (turns_after p ds next) (turn_at_ends p d s fits) (turns_at_ends p ds next (end_fits p d s fits))

pub steps_at_ends : (p : RealPid) (s : Refilling) → FitsNow s → AtEnds p s (turns_after p (dirs_of s.notes) s)
steps_at_ends p s fits = turns_at_ends p (dirs_of s.notes) s fits
