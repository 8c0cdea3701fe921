-- Each call keeps what every barrier keeps.
--     IsAwaited, awaited      what it is that a member is still to reach a stage
--     IsDue, due_told         what it is that a message is due
--     lawful_rest, lawful_ask, lawful_reached, lawful_joined, lawful_left, lawful_take
use Rattle.std.proofs.Common.{◌≡◌, ℕ, suc, ◌+◌, ◌-◌, ◌<◌, ◌≤◌, Bool, true, false, cond, ◌&&◌, not, List, [], ◌∷◌, length, map as each, refl, sym, ap, subst, ◌∙◌, inl, inr, arith}
use Rattle.std.specs.Prelude.{Option, Some, None, ◌⊎◌, is_some, option_and_then}
use Rattle.std.specs.Option.{option_map_or}
use Rattle.std.specs.Ordering.{eq_by_cmp}
use Rattle.std.specs.FinMap as map
use Rattle.std.proofs.lemmas.Bool.{and_parts, not-true, eqb-true, leb-true, leb-false}
use Rattle.std.proofs.lemmas.Option.{same_Some}
use Rattle.views.specs.Maps.{option_filter}
use Rattle.sys_abi.specs.declared.identity.VPid.{VPid}
use Rattle.sys_abi.specs.Orders.{vpid_cmp}
use Rattle.sys_abi.proofs.OrderLaws.{vpid_total, vpid_exact}
use Rattle.views.proofs.MapLaws.{true_false, same_or_other, get_insert_same, get_insert_other, get_remove_same, get_remove_other, remove_absent}
use Rattle.barrier_core.specs.declared.stage.Stage.{Stage}
use Rattle.barrier_core.specs.declared.stage.Stage.TheVariants.{Suspended}
use Rattle.barrier_core.specs.declared.stage.Message.{Message}
use Rattle.barrier_core.specs.declared.member.Member.{Member}
use Rattle.barrier_core.specs.Stages.{order, depth, next_stage, next_message, stage_before, is_stage}
use Rattle.barrier_core.specs.Members.{Members, fresh, has_reached, is_due, due_message, with_reached, with_taken, changed_to, changed, asked}
use Rattle.barrier_core.specs.Barriers.{BarrierState, at_rest, released, waited, awaits, due, with_members, after_ask, after_reached, after_joined, after_left, after_message, after_take, AllReached, IsPast, IsInStep, IsLawful, IsHeldUp}
use Rattle.barrier_core.proofs.StageLaws.{order_positive, next_depth, before_first}
use Rattle.barrier_core.proofs.ReachLaws.{reached-released, reached-depth, depth-reached, earlier_reached, members_deep, held_up}

-- look-ups
nobody_there : {A : Type 0} (p : VPid) (m : Member) → map.get (map.empty {X = Member} {R = vpid_cmp}) p ≡ Some m → A
nobody_there p m is = true_false (ap is_some (sym is ∙ map.get-empty vpid_cmp p))

at_inserted : (members : Members) (p : VPid) (new : Member) (q : VPid) (m : Member) → map.get (map.insert members p new) q ≡ Some m → (new ≡ m) ⊎ (map.get members q ≡ Some m)
at_inserted members p new q m is =
    elim (same_or_other vpid_total vpid_exact q p) [
      | inl same ↦ inl (same_Some new m (sym (get_insert_same vpid_total vpid_exact members p new) ∙ ap (map.get (map.insert members p new)) (sym same) ∙ is))
      | inr differ ↦ inr (sym (get_insert_other vpid_total vpid_exact members p new q differ) ∙ is)
    ]

at_removed : (members : Members) (p q : VPid) (m : Member) → map.get (map.remove members p) q ≡ Some m → map.get members q ≡ Some m
at_removed members p q m is =
    elim (same_or_other vpid_total vpid_exact q p) [
      | inl same ↦ true_false (ap is_some (sym is ∙ ap (map.get (map.remove members p)) same ∙ get_remove_same vpid_total vpid_exact members p))
      | inr differ ↦ sym (get_remove_other vpid_total vpid_exact members p q differ) ∙ is
    ]

-- a stage that is waited for
at_next : (r : Option Stage) (stage : Stage) → is_stage stage (next_stage r) ≡ true → order stage ≡ suc (depth r)
at_next r stage is =
    elim (next_stage r) as (λ o. next_stage r ≡ o → is_stage stage o ≡ true → order stage ≡ suc (depth r)) [
      | None ↦ λ none h. true_false (sym h)
      | Some other ↦ λ here h. sym (eqb-true (order other) (order stage) h) ∙ next_depth r other here
    ] refl is

record IsWaited (b : BarrierState) (stage : Stage) : Type 0 where
  asking : b.is_open ≡ true
  next : order stage ≡ suc (depth (released b))

stage_waited : (b : BarrierState) (stage : Stage) → is_stage stage (waited b) ≡ true → IsWaited b stage
unfolding waited
stage_waited b stage is =
    elim b.is_open as (λ o. b.is_open ≡ o → is_stage stage (cond o (next_stage (released b)) None) ≡ true → IsWaited b stage) [
      | true ↦ λ opened h. record { asking = opened; next = at_next (released b) stage h }
      | false ↦ λ shut h. true_false (sym h)
    ] refl is

pub record IsAwaited (b : BarrierState) (p : VPid) (stage : Stage) : Type 0 where
  pub member : Member
  pub found : map.get b.members p ≡ Some member
  pub short : depth member.reached < order stage
  pub next : order stage ≡ suc (depth (released b))

pub awaited : (b : BarrierState) (p : VPid) (stage : Stage) → awaits b p stage ≡ true → IsAwaited b p stage
unfolding awaits
awaited b p stage is =
    elim (map.get b.members p) as (λ o. map.get b.members p ≡ o → option_map_or (λ m. is_stage stage (waited b) && not (has_reached stage m)) o false ≡ true → IsAwaited b p stage) [
      | None ↦ λ none h. true_false (sym h)
      | Some m ↦ λ here h.
          let parts = and_parts (is_stage stage (waited b)) (not (has_reached stage m)) h in
          record { member = m; found = here; short = leb-false (order stage) (depth m.reached) (not-true (has_reached stage m) parts.1); next = (stage_waited b stage parts.0).next }
    ] refl is

-- a message that is due
pub record IsDue (b : BarrierState) (p : VPid) (message : Message) : Type 0 where
  pub member : Member
  pub found : map.get b.members p ≡ Some member
  pub next : next_message member.taken ≡ Some message
  pub sent : depth (stage_before message) ≤ depth (released b)

record IsNext (r : Option Stage) (o : Option Message) (message : Message) : Type 0 where
  next : o ≡ Some message
  sent : depth (stage_before message) ≤ depth r

next_told : (r : Option Stage) (o : Option Message) (message : Message) → option_filter (is_due r) o ≡ Some message → IsNext r o message
next_told r None message is = true_false (sym (ap is_some is))
next_told r (Some other) message is =
    elim (is_due r other) as (λ t. is_due r other ≡ t → cond t (Some other) None ≡ Some message → IsNext r (Some other) message) [
      | true ↦ λ passes h. record {
        next = h;
        sent = subst (λ m. depth (stage_before m) ≤ depth r) (same_Some other message h) (leb-true (depth (stage_before other)) (depth r) passes);
      }
      | false ↦ λ fails h. true_false (sym (ap is_some h))
    ] refl is

pub due_told : (b : BarrierState) (p : VPid) (message : Message) → due b p ≡ Some message → IsDue b p message
unfolding due
due_told b p message is =
    elim (map.get b.members p) as (λ o. map.get b.members p ≡ o → option_and_then (due_message (released b)) o ≡ Some message → IsDue b p message) [
      | None ↦ λ none h. true_false (sym (ap is_some h))
      | Some m ↦ λ here h.
          let told : IsNext (released b) (next_message m.taken) message = next_told (released b) (next_message m.taken) message h in
          record { member = m; found = here; next = told.next; sent = told.sent }
    ] refl is

-- the first half of the barrier law holds in every state
step_law : (b : BarrierState) → ((p : VPid) (m : Member) (stage : Stage) → map.get b.members p ≡ Some m → IsPast stage m → AllReached b.members stage) → IsInStep b
step_law b past = record { released_by_all = λ stage is. reached-released b stage is; none_past = past }

up_to_released : (b : BarrierState) (stage : Stage) → order stage ≤ depth (released b) → AllReached b.members stage
up_to_released b stage low q m is = let far : depth (released b) ≤ depth m.reached = members_deep b q m is in depth-reached stage m (omega (arith, low, far))

pub lawful_rest : (limit : ℕ) → IsLawful limit at_rest
lawful_rest limit = record {
  in_step = step_law at_rest (λ p m stage is _. nobody_there p m is);
  few = let none : map.len (map.empty {X = Member} {R = vpid_cmp}) ≡ 0 = map.len-empty vpid_cmp Member in omega (arith, none);
  nobody = λ _. refl;
}

-- one member has come further
raised : (members : Members) (p : VPid) (old new : Member) → map.get members p ≡ Some old → depth old.reached ≤ depth new.reached → (stage : Stage) → AllReached members stage
    → AllReached (map.insert members p new) stage
raised members p old new here further stage all q m is =
    elim (at_inserted members p new q m is) [
      | inl same ↦
          let far : order stage ≤ depth old.reached = reached-depth stage old (all p old here) in
          subst (λ w. has_reached stage w ≡ true) same (depth-reached stage new (omega (arith, far, further)))
      | inr before ↦ all q m before
    ]

lawful_change : (limit : ℕ) (b : BarrierState) (p : VPid) (old new : Member) → IsLawful limit b → map.get b.members p ≡ Some old → depth old.reached ≤ depth new.reached
    → ((stage : Stage) → IsPast stage new → AllReached b.members stage) → IsLawful limit (with_members b (map.insert b.members p new))
lawful_change limit b p old new law here further allowed = record {
  in_step = step_law (with_members b (map.insert b.members p new)) (λ q m stage is past.
      raised b.members p old new here further stage (elim (at_inserted b.members p new q m is) [
        | inl same ↦ allowed stage (subst (IsPast stage) (sym same) past)
        | inr before ↦ law.in_step.none_past q m stage before past
      ]));
  few =
      let kept : map.len (map.insert b.members p new) ≡ map.len b.members =
      map.len-insert vpid_total b.members p new ∙ ap (λ (o : Option Member). cond (is_some o) (map.len b.members) (map.len b.members + 1)) here in
      omega (arith, kept, law.few);
  nobody = λ shut. nobody_there p old (sym (ap (λ (n : Members). map.get n p) (law.nobody shut)) ∙ here);
}

pub reached_lawful : (limit : ℕ) (b : BarrierState) (p : VPid) (stage : Stage) → awaits b p stage ≡ true → IsLawful limit b
    → IsLawful limit (with_members b (changed b.members p (with_reached stage)))
reached_lawful limit b p stage waits law = further (awaited b p stage waits)
  where
    allowed : (a : IsAwaited b p stage) (other : Stage) → IsPast other (with_reached stage a.member) → AllReached b.members other
    allowed a other (inl low) = let next : order stage ≡ suc (depth (released b)) = a.next in up_to_released b other (omega (arith, low, next))
    allowed a other (inr taken) = law.in_step.none_past p a.member other a.found (inr taken)

    further : IsAwaited b p stage → IsLawful limit (with_members b (changed b.members p (with_reached stage)))
    further a =
        subst (λ n. IsLawful limit (with_members b n)) (sym (ap (changed_to b.members p (with_reached stage)) a.found))
        (lawful_change limit b p a.member (with_reached stage a.member) law a.found (let short : depth a.member.reached < order stage = a.short in omega (arith, short)) (allowed a))

pub lawful_reached : (limit : ℕ) (b : BarrierState) (p : VPid) (stage : Stage) → IsLawful limit b → IsLawful limit (after_reached b p stage)
lawful_reached limit b p stage law =
    elim (awaits b p stage) as (λ a. awaits b p stage ≡ a → IsLawful limit (cond a (with_members b (changed b.members p (with_reached stage))) b)) [
      | true ↦ λ waits. reached_lawful limit b p stage waits law
      | false ↦ λ no. law
    ] refl

pub taken_lawful : (limit : ℕ) (b : BarrierState) (p : VPid) (message : Message) → due b p ≡ Some message → IsLawful limit b
    → IsLawful limit (with_members b (changed b.members p (with_taken message)))
taken_lawful limit b p message here law = taking (due_told b p message here)
  where
    allowed : (d : IsDue b p message) (other : Stage) → IsPast other (with_taken message d.member) → AllReached b.members other
    allowed d other (inl further) = law.in_step.none_past p d.member other d.found (inl further)
    allowed d other (inr before) = let sent : depth (stage_before message) ≤ depth (released b) = d.sent in up_to_released b other (omega (arith, before, sent))

    taking : IsDue b p message → IsLawful limit (with_members b (changed b.members p (with_taken message)))
    taking d =
        subst (λ n. IsLawful limit (with_members b n)) (sym (ap (changed_to b.members p (with_taken message)) d.found))
        (lawful_change limit b p d.member (with_taken message d.member) law d.found (omega arith) (allowed d))

pub lawful_take : (limit : ℕ) (b : BarrierState) (p : VPid) → IsLawful limit b → IsLawful limit (after_take b p)
lawful_take limit b p law =
    elim (due b p) as (λ o. due b p ≡ o → IsLawful limit (after_message b p o)) [
      | None ↦ λ none. law
      | Some message ↦ λ here. taken_lawful limit b p message here law
    ] refl

-- a new member
waited_asking : (b : BarrierState) (stage : Stage) → waited b ≡ Some stage → b.is_open ≡ true
unfolding waited
waited_asking b stage is =
    elim b.is_open as (λ o. cond o (next_stage (released b)) None ≡ Some stage → o ≡ true) [ true ↦ λ h. refl | false ↦ λ h. true_false (sym (ap is_some h)) ] is

waited_next : (b : BarrierState) (stage : Stage) → waited b ≡ Some stage → next_stage (released b) ≡ Some stage
unfolding waited
waited_next b stage is =
    elim b.is_open as (λ o. cond o (next_stage (released b)) None ≡ Some stage → next_stage (released b) ≡ Some stage) [ true ↦ λ h. h | false ↦ λ h. true_false (sym (ap is_some h)) ] is

-- while none is released, no stage is reached by all, where somebody is
none_by_all : (b : BarrierState) → b.is_open ≡ true → IsHeldUp b → (q : VPid) (m : Member) (stage : Stage) → map.get b.members q ≡ Some m → AllReached b.members stage → ⊥
none_by_all b opened (inl shut) q m stage is all = true_false (sym opened ∙ shut)
none_by_all b opened (inr (inl empty)) q m stage is all = nobody_there q m (sym (ap (λ (n : Members). map.get n q) empty) ∙ is)
none_by_all b opened (inr (inr lag)) q m stage is all = true_false (sym (earlier_reached Suspended stage b.members (order_positive stage) all lag.0 lag.1.0 lag.1.1) ∙ lag.1.2)

never_past : (stage : Stage) → IsPast stage fresh → ⊥
never_past stage (inl past) = let positive : 1 ≤ order stage = order_positive stage in absurd (omega (arith, past, positive))
never_past stage (inr past) = let positive : 1 ≤ order stage = order_positive stage in absurd (omega (arith, past, positive))

pub lawful_joined : (limit : ℕ) (b : BarrierState) (p : VPid) → waited b ≡ Some Suspended → map.get b.members p ≡ None → map.len b.members < limit → IsLawful limit b
    → IsLawful limit (after_joined b p)
lawful_joined limit b p early new room law =
    let opened : b.is_open ≡ true = waited_asking b Suspended early in
    let held : IsHeldUp b = held_up b (before_first (released b) (waited_next b Suspended early)) in
    record {
      in_step = step_law (after_joined b p) (λ q m stage is past. elim (at_inserted b.members p fresh q m is) [
        | inl same ↦ absurd (never_past stage (subst (IsPast stage) (sym same) past))
        | inr before ↦ absurd (none_by_all b opened held q m stage before (law.in_step.none_past q m stage before past))
      ]);
      few =
          let more : map.len (map.insert b.members p fresh) ≡ map.len b.members + 1 =
          map.len-insert vpid_total b.members p fresh ∙ ap (λ (o : Option Member). cond (is_some o) (map.len b.members) (map.len b.members + 1)) new in
          omega (arith, more, room);
      nobody = λ shut. true_false (sym opened ∙ shut);
    }

-- a member less
fewer : (t : Bool) (n k : ℕ) → n ≤ k → cond t (n - 1) n ≤ k
fewer true n k low = omega (arith, low)
fewer false n k low = low

pub lawful_left : (limit : ℕ) (b : BarrierState) (p : VPid) → IsLawful limit b → IsLawful limit (after_left b p)
lawful_left limit b p law = record {
  in_step = step_law (after_left b p) (λ q m stage is past r n at. law.in_step.none_past q m stage (at_removed b.members p q m is) past r n (at_removed b.members p r n at));
  few = subst (λ (n : ℕ). n ≤ limit) (sym (map.len-remove vpid_total b.members p)) (fewer (map.contains_key b.members p) (map.len b.members) limit law.few);
  nobody = λ shut. ap (λ n. map.remove n p) (law.nobody shut) ∙ remove_absent vpid_total vpid_exact map.empty p (map.get-empty vpid_cmp p);
}

-- those that live
pub asked-fresh : (live : List VPid) (q : VPid) (m : Member) → map.find vpid_cmp q (each (λ p. (p, fresh)) live) ≡ Some m → fresh ≡ m
asked-fresh [] q m is = true_false (sym (ap is_some is))
asked-fresh (p ∷ live) q m is =
    elim (eq_by_cmp vpid_cmp q p) as (λ t. cond t (Some fresh) (map.find vpid_cmp q (each (λ p. (p, fresh)) live)) ≡ Some m → fresh ≡ m) [
      | true ↦ λ h. same_Some fresh m h
      | false ↦ λ h. asked-fresh live q m h
    ] is

at_most_one_more : (t : Bool) (n k : ℕ) → n ≤ k → cond t n (n + 1) ≤ suc k
at_most_one_more true n k low = omega (arith, low)
at_most_one_more false n k low = omega (arith, low)

asked-few : (live : List VPid) → map.len (asked live) ≤ length live
asked-few [] = let none : map.len (map.empty {X = Member} {R = vpid_cmp}) ≡ 0 = map.len-empty vpid_cmp Member in omega (arith, none)
asked-few (p ∷ live) =
    subst (λ (n : ℕ). n ≤ suc (length live)) (sym (map.len-insert vpid_total (asked live) p fresh))
    (at_most_one_more (map.contains_key (asked live) p) (map.len (asked live)) (length live) (asked-few live))

pub lawful_asked : (limit : ℕ) (live : List VPid) → length live ≤ limit → IsLawful limit (record { is_open = true; members = asked live })
lawful_asked limit live room = record {
  in_step = step_law (record { is_open = true; members = asked live }) (λ p m stage is past.
      absurd (never_past stage (subst (IsPast stage) (sym (asked-fresh live p m (sym (map.get-from_entries vpid_total (each (λ p. (p, fresh)) live) p) ∙ is))) past)));
  few = let most : map.len (asked live) ≤ length live = asked-few live in omega (arith, most, room);
  nobody = λ shut. true_false shut;
}

pub lawful_ask : (limit : ℕ) (b : BarrierState) (live : List VPid) → length live ≤ limit → IsLawful limit b → IsLawful limit (after_ask b live)
lawful_ask limit b live room law =
    elim b.is_open as (λ o. IsLawful limit (cond o b (record { is_open = true; members = asked live }))) [ true ↦ law | false ↦ lawful_asked limit live room ]
