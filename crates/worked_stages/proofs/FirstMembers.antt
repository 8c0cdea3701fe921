-- A request of one process, before it has reached anything.
--     one_waits, one_alone, one_few      it is Suspended that is waited for, nobody else is a member, and there is room
use Rattle.std.proofs.Common.{◌≡◌, ◌≢◌, ℕ, ◌<◌, Bool, true, false, cond, ◌&&◌, [], ◌∷◌, length, refl, sym, ap, subst, ◌∙◌}
use Rattle.std.specs.Prelude.{Some, None, ◌==◌, find}
use Rattle.std.specs.List.{list_all}
use Rattle.std.specs.FinMap as map
use Rattle.sys_abi.specs.declared.identity.VPid.{VPid}
use Rattle.sys_abi.specs.Orders.{vpid_cmp}
use Rattle.sys_abi.proofs.OrderLaws.{vpid_total, vpid_exact}
use Rattle.views.proofs.MapLaws.{values-single, entries-single, get_insert_other}
use Rattle.barrier_core.specs.declared.stage.Stage.{Stage}
use Rattle.barrier_core.specs.declared.stage.Stage.TheVariants.{Suspended, Elected, Drained, Written, Refilled}
use Rattle.barrier_core.specs.Stages.{latest_first, next_stage}
use Rattle.barrier_core.specs.Members.{fresh, has_reached, all_reached, latest_reached, asked}
use Rattle.barrier_core.specs.Barriers.{BarrierState, at_rest, released, waited, after_ask}

len-alone : (p : VPid) → map.len (asked (p ∷ [])) ≡ 1
len-alone p = map.len-entries (asked (p ∷ [])) ∙ ap length (entries-single vpid_total vpid_exact p fresh)

not_reached : (p : VPid) (stage : Stage) → all_reached (asked (p ∷ [])) stage ≡ has_reached stage fresh
unfolding all_reached
not_reached p stage = ap (list_all (has_reached stage)) (values-single vpid_total vpid_exact p fresh) ∙ last (has_reached stage fresh)
  where
    last : (b : Bool) → (b && true) ≡ b
    last true = refl
    last false = refl

none_found : (f : Stage → Bool) → f Refilled ≡ false → f Written ≡ false → f Drained ≡ false → f Elected ≡ false → f Suspended ≡ false → find f latest_first ≡ None
none_found f a b c d e =
    ap (λ t. cond t (Some Refilled) (find f (Written ∷ Drained ∷ Elected ∷ Suspended ∷ []))) a
    ∙ ap (λ t. cond t (Some Written) (find f (Drained ∷ Elected ∷ Suspended ∷ []))) b
    ∙ ap (λ t. cond t (Some Drained) (find f (Elected ∷ Suspended ∷ []))) c
    ∙ ap (λ t. cond t (Some Elected) (find f (Suspended ∷ []))) d
    ∙ ap (λ t. cond t (Some Suspended) None) e

none_released : (p : VPid) → latest_reached (asked (p ∷ [])) ≡ None
none_released p =
    ap (λ n. cond (n == 0) None (find (all_reached (asked (p ∷ []))) latest_first)) (len-alone p)
    ∙ none_found (all_reached (asked (p ∷ []))) (not_reached p Refilled) (not_reached p Written) (not_reached p Drained) (not_reached p Elected) (not_reached p Suspended)

after_first : (start now : BarrierState) (p : VPid) → start ≡ at_rest → now ≡ after_ask start (p ∷ []) → now ≡ record { is_open = true; members = asked (p ∷ []) }
after_first start now p rest is = is ∙ ap (λ s. after_ask s (p ∷ [])) rest

pub one_waits : (start now : BarrierState) (p : VPid) → start ≡ at_rest → now ≡ after_ask start (p ∷ []) → waited now ≡ Some Suspended
unfolding waited released
one_waits start now p rest is = ap waited (after_first start now p rest is) ∙ ap next_stage (none_released p)

pub one_alone : (start now : BarrierState) (p q : VPid) → start ≡ at_rest → now ≡ after_ask start (p ∷ []) → q ≢ p → map.get now.members q ≡ None
one_alone start now p q rest is differ =
    ap (λ s. map.get s.members q) (after_first start now p rest is) ∙ get_insert_other vpid_total vpid_exact map.empty p fresh q differ ∙ map.get-empty vpid_cmp q

pub one_few : (start now : BarrierState) (p : VPid) (limit : ℕ) → 1 < limit → start ≡ at_rest → now ≡ after_ask start (p ∷ []) → map.len now.members < limit
one_few start now p limit room rest is = subst (λ (n : ℕ). n < limit) (sym (ap (λ s. map.len s.members) (after_first start now p rest is) ∙ len-alone p)) room
