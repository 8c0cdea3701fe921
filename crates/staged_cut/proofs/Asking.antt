-- The barrier while those that live are noted as suspended, one after the other.
--     suspended                 a member that has reached Suspended and nothing else
--     IsAsking live n b         those before place n are noted, the others may be
--     asking_begun, asking_on   once all are asked, and after each is noted
--     all_suspended             after the last
use Rattle.std.proofs.Common.{◌≡◌, ◌≢◌, ◌+◌, ◌<◌, ◌≤◌, ℕ, Bool, true, false, cond, List, [], ◌∷◌, length, get_or, Option, Some, None, inl, inr, refl, sym, ap, subst, ◌∙◌, arith}
use Rattle.std.specs.Prelude.{◌⊎◌, ◌&&◌, ◌||◌, not, is_some, IsSome, Contains}
use Rattle.std.specs.Option.{option_map_or}
use Rattle.std.specs.List.{list_any}
use Rattle.std.specs.Ordering.{eq_by_cmp}
use Rattle.std.specs.Cmp.{eq_by_cmp_equiv}
use Rattle.std.specs.FinMap as map
use Rattle.std.proofs.lemmas.List.Elements.{Contains-get_or}
use Rattle.std.proofs.lemmas.Map.Views.{Contains-from_any, list_any-from_Contains}
use Rattle.std.proofs.lemmas.Option.{same_Some}
use Rattle.views.proofs.MapLaws.{true_false, same_key, same_or_other, get_insert_same, get_insert_other}
use Rattle.sys_abi.specs.declared.identity.VPid.{VPid}
use Rattle.sys_abi.specs.Orders.{vpid_cmp}
use Rattle.sys_abi.proofs.OrderLaws.{vpid_total, vpid_exact}
use Rattle.barrier_core.specs.declared.stage.Stage.{Stage}
use Rattle.barrier_core.specs.declared.stage.Stage.TheVariants.{Suspended}
use Rattle.barrier_core.specs.declared.member.Member.{Member}
use Rattle.barrier_core.specs.Stages.{next_stage, is_stage}
use Rattle.barrier_core.specs.Members.{fresh, has_reached, with_reached, changed_to, changed, asked}
use Rattle.barrier_core.specs.Barriers.{BarrierState, at_rest, released, waited, awaits, with_members, after_ask, after_reached, IsHeldUp}
use Rattle.barrier_core.proofs.StageLaws.{order_positive, order_exact}
use Rattle.barrier_core.proofs.ReachLaws.{reached-depth, reached-released, held_up, not_held}
use Rattle.staged_cut.specs.Suspended.{AreSuspended}
use Rattle.staged_cut.proofs.Places.{IsAhead, ahead_begun, ahead_on, none_ahead}

abbrev pub suspended : Member
suspended = with_reached Suspended fresh

abbrev pub ToNote : List VPid → ℕ → Option Member → VPid → Type 0
ToNote live n found p = (found ≡ Some suspended) ⊎ ((found ≡ Some fresh) × IsAhead live n p)

pub record IsAsking (live : List VPid) (n : ℕ) (b : BarrierState) : Type 0 where
  pub asked_is : b.is_open ≡ true
  pub each_is : (p : VPid) → Contains live p → ToNote live n (map.get b.members p) p
  pub no_other : (p : VPid) → IsSome (map.get b.members p) → Contains live p

-- those that are asked
two_tests : (t r : Bool) → cond t (Some fresh) (cond r (Some fresh) None) ≡ cond (t || r) (Some fresh) None
two_tests true r = refl
two_tests false r = refl

at_asked : (live : List VPid) (q : VPid)
    → map.get (asked live) q ≡ cond (list_any (eq_by_cmp vpid_cmp q) live) (Some fresh) None
at_asked [] q = map.get-empty vpid_cmp q
at_asked (p ∷ live) q =
    map.get-insert vpid_total (asked live) p fresh q
    ∙ ap (cond (eq_by_cmp vpid_cmp q p) (Some fresh)) (at_asked live q)
    ∙ two_tests (eq_by_cmp vpid_cmp q p) (list_any (eq_by_cmp vpid_cmp q) live)

asked_if : (live : List VPid) (q : VPid) → Contains live q → map.get (asked live) q ≡ Some fresh
asked_if live q named =
    at_asked live q ∙ ap (λ (t : Bool). cond t (Some fresh) None)
    (list_any-from_Contains (eq_by_cmp_equiv vpid_total) q live named)

asked_only : (live : List VPid) (q : VPid) → IsSome (map.get (asked live) q) → Contains live q
asked_only live q there =
    Contains-from_any (same_key vpid_total vpid_exact) q live
    (by_test (list_any (eq_by_cmp vpid_cmp q) live) (subst IsSome (at_asked live q) there))
  where
    by_test : (t : Bool) → IsSome (cond t (Some fresh) None) → t ≡ true
    by_test true is = refl
    by_test false is = is

begun_asked : (live : List VPid) → IsAsking live 0 (after_ask at_rest live)
begun_asked live = record {
  asked_is = refl;
  each_is = λ p named. inr (asked_if live p named, ahead_begun live p named);
  no_other = asked_only live;
}

pub asking_begun : (live : List VPid) (new b : BarrierState) → new ≡ at_rest → b ≡ after_ask new live
    → IsAsking live 0 b
asking_begun live new b rest is =
    subst (IsAsking live 0) (sym (is ∙ ap (λ (old : BarrierState). after_ask old live) rest))
    (begun_asked live)

-- a member that has reached nothing is awaited
awaits_fresh : (b : BarrierState) (p : VPid) → b.is_open ≡ true → map.get b.members p ≡ Some fresh
    → awaits b p Suspended ≡ true
unfolding awaits waited
awaits_fresh b p opened is =
    ap
    (λ found. option_map_or (λ m. is_stage Suspended (waited b) && not (has_reached Suspended m)) found false)
    is
    ∙ ap (λ o. is_stage Suspended (cond o (next_stage (released b)) None) && true) opened
    ∙ ap (λ r. is_stage Suspended (next_stage r) && true) (not_held b (inr (inr (p, (fresh, is, refl)))))

-- what noting one leaves of each
abbrev noted_by : BarrierState → VPid → Bool → BarrierState
noted_by b p t = cond t (with_members b (changed b.members p (with_reached Suspended))) b

stays_open : (b : BarrierState) (p : VPid) → (after_reached b p Suspended).is_open ≡ b.is_open
stays_open b p =
    elim (awaits b p Suspended) as (λ t. (noted_by b p t).is_open ≡ b.is_open)
    [ true ↦ refl | false ↦ refl ]

other_stays : (b : BarrierState) (p q : VPid) → q ≢ p
    → map.get (after_reached b p Suspended).members q ≡ map.get b.members q
other_stays b p q differ =
    elim (awaits b p Suspended) as (λ t. map.get (noted_by b p t).members q ≡ map.get b.members q) [
      | true ↦ by_found (map.get b.members p)
      | false ↦ refl
    ]
  where
    by_found : (found : Option Member)
        → map.get (changed_to b.members p (with_reached Suspended) found) q ≡ map.get b.members q
    by_found None = refl
    by_found (Some m) = get_insert_other vpid_total vpid_exact b.members p (with_reached Suspended m) q differ

put_there : (b : BarrierState) (p : VPid) (m : Member) → map.get b.members p ≡ Some m
    → with_reached Suspended m ≡ suspended
    → map.get (changed b.members p (with_reached Suspended)) p ≡ Some suspended
put_there b p m is same =
    ap (λ found. map.get (changed_to b.members p (with_reached Suspended) found) p) is
    ∙ get_insert_same vpid_total vpid_exact b.members p (with_reached Suspended m) ∙ ap Some same

noted : (b : BarrierState) (p : VPid) → b.is_open ≡ true
    → (map.get b.members p ≡ Some suspended) ⊎ (map.get b.members p ≡ Some fresh)
    → map.get (after_reached b p Suspended).members p ≡ Some suspended
noted b p opened (inl is) =
    elim (awaits b p Suspended) as (λ t. map.get (noted_by b p t).members p ≡ Some suspended) [
      | true ↦ put_there b p suspended is refl
      | false ↦ is
    ]
noted b p opened (inr is) =
    ap (λ t. map.get (noted_by b p t).members p) (awaits_fresh b p opened is) ∙ put_there b p fresh is refl

-- one is noted
found_before : (live : List VPid) (n : ℕ) (found : Option Member) (p : VPid) → ToNote live n found p
    → (found ≡ Some suspended) ⊎ (found ≡ Some fresh)
found_before live n found p (inl is) = inl is
found_before live n found p (inr to) = inr to.0

goes_on : (live : List VPid) (n : ℕ) (z q : VPid) (found : Option Member) → n < length live
    → q ≢ get_or live n z → ToNote live n found q → ToNote live (n + 1) found q
goes_on live n z q found there differ (inl is) = inl is
goes_on live n z q found there differ (inr to) = inr (to.0, ahead_on live n z q there differ to.1)

module _ (live : List VPid) (n : ℕ) (z p : VPid) (b : BarrierState) (there : n < length live)
    (at : p ≡ get_or live n z) (asking : IsAsking live n b) where
  in_list : Contains live p
  in_list = subst (Contains live) (sym at) (Contains-get_or live n z there)

  each_noted : (q : VPid) → Contains live q
      → ToNote live (n + 1) (map.get (after_reached b p Suspended).members q) q
  each_noted q named = elim (same_or_other vpid_total vpid_exact q p) [
    | inl same ↦
        inl (ap (map.get (after_reached b p Suspended).members) same
        ∙ noted b p asking.asked_is
        (found_before live n (map.get b.members p) p (asking.each_is p in_list)))
    | inr differ ↦
        subst (λ found. ToNote live (n + 1) found q) (sym (other_stays b p q differ))
        (goes_on live n z q (map.get b.members q) there (λ same. differ (same ∙ sym at))
        (asking.each_is q named))
  ]

  none_other : (q : VPid) → IsSome (map.get (after_reached b p Suspended).members q) → Contains live q
  none_other q is = elim (same_or_other vpid_total vpid_exact q p) [
    | inl same ↦ subst (Contains live) (sym same) in_list
    | inr differ ↦ asking.no_other q (subst IsSome (other_stays b p q differ) is)
  ]

pub asking_on : (live : List VPid) (n : ℕ) (z p : VPid) (old new : BarrierState) → n < length live
    → p ≡ get_or live n z → new ≡ after_reached old p Suspended → IsAsking live n old
    → IsAsking live (n + 1) new
asking_on live n z p old new there at is asking = subst (IsAsking live (n + 1)) (sym is) (record {
  asked_is = stays_open old p ∙ asking.asked_is;
  each_is = each_noted live n z p old there at asking;
  no_other = none_other live n z p old there at asking;
})

-- all are noted
module _ (live : List VPid) (n : ℕ) (b : BarrierState) (over : length live ≤ n)
    (asking : IsAsking live n b) where
  all_noted : (p : VPid) → Contains live p → map.get b.members p ≡ Some suspended
  all_noted p named = elim (asking.each_is p named) [
    | inl is ↦ is
    | inr to ↦ none_ahead live n p over to.1
  ]

  member_is : (q : VPid) (m : Member) → map.get b.members q ≡ Some m → suspended ≡ m
  member_is q m is =
      same_Some suspended m (sym (all_noted q (asking.no_other q (ap is_some is))) ∙ is)

  held_not : (p : VPid) → Contains live p → IsHeldUp b → ⊥
  held_not p named (inl shut) = true_false (sym asking.asked_is ∙ shut)
  held_not p named (inr (inl empty)) =
      true_false (ap is_some (sym (all_noted p named) ∙ ap (λ members. map.get members p) empty
      ∙ map.get-empty vpid_cmp p))
  held_not p named (inr (inr lag)) =
      true_false (ap (has_reached Suspended) (member_is lag.0 lag.1.0 lag.1.1) ∙ lag.1.2)

  released_is : (p : VPid) → Contains live p → (r : Option Stage) → released b ≡ r → r ≡ Some Suspended
  released_is p named None is = absurd (held_not p named (held_up b is))
  released_is p named (Some stage) is =
      let far = reached-depth stage suspended (reached-released b stage is p suspended (all_noted p named)) in
      let from = order_positive stage in
      ap Some (order_exact stage Suspended (omega (arith, far, from)))

  pub all_suspended : AreSuspended (Contains live) b
  all_suspended = record {
    asked = asking.asked_is;
    each = all_noted;
    no_other = asking.no_other;
    passed = λ p named. released_is p named (released b) refl;
  }

-- those that live by another word
pub suspended_by : (Lives Other : VPid → Type 0) (b : BarrierState)
    → ((p : VPid) → Lives p → Other p) → ((p : VPid) → Other p → Lives p) → AreSuspended Lives b
    → AreSuspended Other b
suspended_by Lives Other b to from is = record {
  asked = is.asked;
  each = λ p lives. is.each p (from p lives);
  no_other = λ p there. to p (is.no_other p there);
  passed = λ p lives. is.passed p (from p lives);
}
