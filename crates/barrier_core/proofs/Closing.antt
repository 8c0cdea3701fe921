-- What each call of a barrier answers and leaves, where its parts are plain variables.
--     empty_test                      whether nobody is left
--     rests                           a barrier at rest keeps its law
--     closed_released, open_released, some_released, none_released      the stage that is released
--     closed_waited, open_waited, first_waited, none_awaits, some_awaits, none_due, some_due     what is waited for, and what is due
--     reach_refused, take_none        when a stage is not noted, and when there is no message
--     ask_keeps, reach_keeps, join_keeps, leave_keeps, take_keeps         the law is kept
use Rattle.std.proofs.Common.{◌≡◌, ℕ, ◌<◌, ◌≤◌, ◌≢◌, Bool, true, false, cond, ◌&&◌, not, List, length, inl, inr, refl, sym, ap, subst, ◌∙◌, arith}
use Rattle.std.specs.Prelude.{Option, Some, None, IfSome, IsTrue, nat_eq, is_some, option_and_then, ◌↔◌}
use Rattle.std.specs.Option.{option_map_or}
use Rattle.std.specs.FinMap as map
use Rattle.std.proofs.lemmas.Bool.{and_cases, and_left, and_right, not-false, eq-eqb, ne_eqb, leb-false, lt-leb}
use Rattle.std.proofs.lemmas.Bool.Decides.{nat_tests}
use Rattle.std.proofs.lemmas.Option.{same_Some}
use Rattle.views.specs.Maps.{option_filter}
use Rattle.views.proofs.MapLaws.{true_false}
use Rattle.sys_abi.specs.declared.identity.VPid.{VPid}
use Rattle.sys_abi.specs.Orders.{vpid_cmp}
use Rattle.barrier_core.specs.declared.stage.Stage.{Stage}
use Rattle.barrier_core.specs.declared.stage.Stage.TheVariants.{Suspended}
use Rattle.barrier_core.specs.declared.stage.Message.{Message}
use Rattle.barrier_core.specs.declared.member.Member.{Member}
use Rattle.barrier_core.specs.Stages.{order, depth, next_stage, next_message, stage_before, is_stage}
use Rattle.barrier_core.specs.Members.{Members, fresh, has_reached, latest_reached, is_due, due_message, with_reached, with_taken, changed, asked}
use Rattle.barrier_core.specs.Barriers.{BarrierState, released, waited, awaits, due, with_members, IsLawful, IsReleased, IsHeldUp, IsOutOfPlace, IsToldAll, HasNoneDue}
use Rattle.barrier_core.proofs.StageLaws.{order_exact}
use Rattle.barrier_core.proofs.ReachLaws.{released-whole, held_up, not_held}
use Rattle.barrier_core.proofs.Keeping.{lawful_rest, lawful_asked, lawful_joined, lawful_left, reached_lawful, taken_lawful}

-- whether nobody is left
pub empty_test : (b now : BarrierState) (n : ℕ) → b ≡ now → n ≡ map.len b.members → IsTrue (nat_eq n 0) ↔ (now.members ≡ map.empty)
empty_test b now n seen is = (
  λ none. ap (λ s. s.members) (sym seen) ∙ map.empty_of_len b.members (sym is ∙ (let zero : n ≡ 0 = grind (arith, nat_tests) in zero)),
  λ empty. let zero : n ≡ 0 = is ∙ ap (λ s. map.len s.members) seen ∙ ap map.len empty ∙ map.len-empty vpid_cmp Member in grind (arith, nat_tests, zero),
)

pub rests : (limit : ℕ) (members : Members) → members ≡ map.empty → IsLawful limit (record { is_open = false; members = members })
rests limit members none = subst (λ m. IsLawful limit (record { is_open = false; members = m })) (sym none) (lawful_rest limit)

-- the stage that is released
pub closed_released : (b now : BarrierState) → b ≡ now → b.is_open ≡ false → None ≡ released now
unfolding released
closed_released b now seen shut = sym (ap (λ o. cond o (latest_reached b.members) None) shut) ∙ ap released seen

pub open_released : (b now : BarrierState) (found : Option Stage) → b ≡ now → b.is_open ≡ true → found ≡ latest_reached b.members → found ≡ released now
unfolding released
open_released b now found seen opened is = is ∙ sym (ap (λ o. cond o (latest_reached b.members) None) opened) ∙ ap released seen

pub some_released : (b : BarrierState) (found : Option Stage) → found ≡ released b → IfSome found (IsReleased b)
some_released b None is = tt
some_released b (Some stage) is = released-whole b stage (sym is)

pub none_released : (b : BarrierState) (found : Option Stage) → found ≡ released b → (found ≡ None) ↔ IsHeldUp b
none_released b found is = (λ none. held_up b (sym is ∙ none), λ held. is ∙ not_held b held)

-- the stage that is waited for
pub closed_waited : (b now : BarrierState) → b ≡ now → b.is_open ≡ false → None ≡ waited now
unfolding waited
closed_waited b now seen shut = sym (ap (λ o. cond o (next_stage (released b)) None) shut) ∙ ap waited seen

pub open_waited : (b now : BarrierState) (found next : Option Stage) → b ≡ now → b.is_open ≡ true → found ≡ released now → next ≡ next_stage found → next ≡ waited now
unfolding waited
open_waited b now found next seen opened is after =
    after ∙ ap next_stage is ∙ sym (ap (λ o. cond o (next_stage (released now)) None) (sym (ap (λ s. s.is_open) seen) ∙ opened))

-- a request that has released nothing waits for Suspended: what a caller shows before a child joins
pub first_waited : (b : BarrierState) → b.is_open ≡ true → released b ≡ None → waited b ≡ Some Suspended
unfolding waited
first_waited b opened none = ap (λ o. cond o (next_stage (released b)) None) opened ∙ ap next_stage none

pub none_awaits : (b now : BarrierState) (p : VPid) (stage : Stage) → b ≡ now → None ≡ map.get b.members p → false ≡ awaits now p stage
unfolding awaits
none_awaits b now p stage seen none =
    ap (λ o. option_map_or (λ m. is_stage stage (waited b) && not (has_reached stage m)) o false) none ∙ ap (λ s. awaits s p stage) seen

pub some_awaits : (b now : BarrierState) (p : VPid) (stage : Stage) (m : Member) (found : Option Stage) (answer : Bool) → b ≡ now → found ≡ waited now → Some m ≡ map.get b.members p
    → answer ≡ (is_stage stage found && not (has_reached stage m)) → answer ≡ awaits now p stage
unfolding awaits
some_awaits b now p stage m found answer seen wait here is =
    is ∙ ap (λ w. is_stage stage w && not (has_reached stage m)) (wait ∙ ap waited (sym seen))
    ∙ ap (λ o. option_map_or (λ m. is_stage stage (waited b) && not (has_reached stage m)) o false) here ∙ ap (λ s. awaits s p stage) seen

-- the message that is due
pub none_due : (b now : BarrierState) (p : VPid) → b ≡ now → None ≡ map.get b.members p → None ≡ due now p
unfolding due
none_due b now p seen none = ap (option_and_then (due_message (released b))) none ∙ ap (λ s. due s p) seen

pub some_due : (b now : BarrierState) (p : VPid) (m : Member) (found : Option Stage) (answer : Option Message) → b ≡ now → found ≡ released now → Some m ≡ map.get b.members p
    → answer ≡ due_message found m → answer ≡ due now p
unfolding due
some_due b now p m found answer seen free here is =
    is ∙ ap (λ r. due_message r m) (free ∙ ap released (sym seen)) ∙ ap (option_and_then (due_message (released b))) here ∙ ap (λ s. due s p) seen

-- a stage that is not noted
out_of_place : (b : BarrierState) (p : VPid) (stage : Stage) (o : Option Member) → map.get b.members p ≡ o
    → option_map_or (λ m. is_stage stage (waited b) && not (has_reached stage m)) o false ≡ false → IsOutOfPlace b p stage
out_of_place b p stage None at is = inl at
out_of_place b p stage (Some m) at is =
    elim (and_cases (is_stage stage (waited b)) (not (has_reached stage m)) is) [
      | inl other ↦ inr (inl (λ same. true_false (sym (ap (is_stage stage) same ∙ eq-eqb (order stage) (order stage) refl) ∙ other)))
      | inr past ↦ inr (inr (m, at, not-false (has_reached stage m) past))
    ]

other_stage : (stage : Stage) (o : Option Stage) → o ≢ Some stage → is_stage stage o ≡ false
other_stage stage None differ = refl
other_stage stage (Some other) differ = ne_eqb (order other) (order stage) (λ same. differ (ap Some (order_exact other stage same)))

refused_awaits : (b : BarrierState) (p : VPid) (stage : Stage) → IsOutOfPlace b p stage → awaits b p stage ≡ false
unfolding awaits
refused_awaits b p stage (inl none) = ap (λ o. option_map_or (λ m. is_stage stage (waited b) && not (has_reached stage m)) o false) none
refused_awaits b p stage (inr (inl differ)) =
    elim (map.get b.members p) as (λ o. option_map_or (λ m. is_stage stage (waited b) && not (has_reached stage m)) o false ≡ false) [
      | None ↦ refl
      | Some m ↦ and_left (is_stage stage (waited b)) (not (has_reached stage m)) (other_stage stage (waited b) differ)
    ]
refused_awaits b p stage (inr (inr past)) =
    ap (λ o. option_map_or (λ m. is_stage stage (waited b) && not (has_reached stage m)) o false) past.1
    ∙ and_right (is_stage stage (waited b)) (not (has_reached stage past.0)) (ap not past.2)

refused_place : (b : BarrierState) (p : VPid) (stage : Stage) → awaits b p stage ≡ false → IsOutOfPlace b p stage
unfolding awaits
refused_place b p stage is = out_of_place b p stage (map.get b.members p) refl is

pub reach_refused : (b : BarrierState) (p : VPid) (stage : Stage) (answer : Bool) → answer ≡ awaits b p stage → (answer ≡ false) ↔ IsOutOfPlace b p stage
reach_refused b p stage answer is = (λ refused. refused_place b p stage (sym is ∙ refused), λ place. is ∙ refused_awaits b p stage place)

-- no message
told_all : (b : BarrierState) (m : Member) (o : Option Message) → next_message m.taken ≡ o → option_filter (is_due (released b)) o ≡ None → IsToldAll b m
told_all b m None at is message next = true_false (sym (ap is_some (sym at ∙ next)))
told_all b m (Some other) at is message next =
    elim (is_due (released b) other) as (λ t. is_due (released b) other ≡ t → cond t (Some other) None ≡ None → depth (released b) < depth (stage_before message)) [
      | true ↦ λ passes h. true_false (ap is_some h)
      | false ↦ λ fails h.
          subst (λ k. depth (released b) < depth (stage_before k)) (same_Some other message (sym at ∙ next)) (leb-false (depth (stage_before other)) (depth (released b)) fails)
    ] refl is

none_sent : (b : BarrierState) (m : Member) (o : Option Message) → next_message m.taken ≡ o → IsToldAll b m → option_filter (is_due (released b)) o ≡ None
none_sent b m None at told = refl
none_sent b m (Some other) at told = ap (λ t. cond t (Some other) None) (lt-leb (depth (stage_before other)) (depth (released b)) (told other at))

has_none : (b : BarrierState) (p : VPid) (o : Option Member) → map.get b.members p ≡ o → option_and_then (due_message (released b)) o ≡ None → HasNoneDue b p
has_none b p None at is = inl at
has_none b p (Some m) at is = inr (m, at, told_all b m (next_message m.taken) refl is)

nothing_due : (b : BarrierState) (p : VPid) → due b p ≡ None → HasNoneDue b p
unfolding due
nothing_due b p is = has_none b p (map.get b.members p) refl is

due_nothing : (b : BarrierState) (p : VPid) → HasNoneDue b p → due b p ≡ None
unfolding due
due_nothing b p (inl none) = ap (option_and_then (due_message (released b))) none
due_nothing b p (inr told) = ap (option_and_then (due_message (released b))) told.1 ∙ none_sent b told.0 (next_message told.0.taken) refl told.2

pub take_none : (b : BarrierState) (p : VPid) (found : Option Message) → found ≡ due b p → (found ≡ None) ↔ HasNoneDue b p
take_none b p found is = (λ none. nothing_due b p (sym is ∙ none), λ none. is ∙ due_nothing b p none)

-- the law is kept
pub ask_keeps : (limit : ℕ) (live : List VPid) (members : Members) → length live ≤ limit → members ≡ asked live → IsLawful limit (record { is_open = true; members = members })
ask_keeps limit live members few is = subst (λ m. IsLawful limit (record { is_open = true; members = m })) (sym is) (lawful_asked limit live few)

pub reach_keeps : (limit : ℕ) (b now : BarrierState) (p : VPid) (stage : Stage) (members : Members) → b ≡ now → true ≡ awaits now p stage → members ≡ changed b.members p (with_reached stage)
    → IsLawful limit b → IsLawful limit (with_members b members)
reach_keeps limit b now p stage members seen answer is law =
    subst (λ m. IsLawful limit (with_members b m)) (sym is) (reached_lawful limit b p stage (ap (λ s. awaits s p stage) seen ∙ sym answer) law)

pub take_keeps : (limit : ℕ) (b now : BarrierState) (p : VPid) (message : Message) (members : Members) → b ≡ now → Some message ≡ due now p → members ≡ changed b.members p (with_taken message)
    → IsLawful limit b → IsLawful limit (with_members b members)
take_keeps limit b now p message members seen here is law =
    subst (λ m. IsLawful limit (with_members b m)) (sym is) (taken_lawful limit b p message (ap (λ s. due s p) seen ∙ sym here) law)

pub join_keeps : (limit : ℕ) (b now : BarrierState) (p : VPid) (members : Members) → b ≡ now → waited now ≡ Some Suspended → map.get now.members p ≡ None → map.len now.members < limit
    → members ≡ map.insert b.members p fresh → IsLawful limit b → IsLawful limit (with_members b members)
join_keeps limit b now p members seen early new room is law =
    subst (λ m. IsLawful limit (with_members b m)) (sym is)
    (lawful_joined limit b p (ap waited seen ∙ early) (ap (λ s. map.get s.members p) seen ∙ new) (subst (λ (s : BarrierState). map.len s.members < limit) (sym seen) room) law)

pub leave_keeps : (limit : ℕ) (b : BarrierState) (p : VPid) (members : Members) → members ≡ map.remove b.members p → IsLawful limit b → IsLawful limit (with_members b members)
leave_keeps limit b p members is law = subst (λ m. IsLawful limit (with_members b m)) (sym is) (lawful_left limit b p law)
