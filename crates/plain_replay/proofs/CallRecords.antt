-- The call at which a thread stands.
use Rattle.std.proofs.Common.{◌≡◌, ℕ, sym, ap, ◌∙◌}
use Rattle.std.specs.Prelude.{Some, Result, Ok, Err, IfOk}
use Rattle.std.specs.FinMap as map
use Rattle.sys_abi.specs.declared.identity.VPid.{VPid}
use Rattle.call_table.specs.declared.request.Request.{Request}
use Rattle.plain_machine.specs.declared.plain.Plain.{Plain}
use Rattle.plain_process.specs.declared.user_part.UserPart.{UserPart}
use Rattle.plain_process.specs.Buffers.{lent}
use Rattle.plain_machine.specs.Records.{outcome_of_lent, outcome_of_ask, outcome_of_call}
use Rattle.plain_process.specs.Steps.{Asks, user_step}

pub asked : (g : Plain) (p : VPid) (t : ℕ) (user copy after : UserPart) (q : Request) → Some user ≡ map.get g.users p → copy ≡ user → user_step copy t ≡ Asks q → after ≡ copy
    → outcome_of_call g p t (map.get g.users p) ≡ outcome_of_lent g p t after q (lent after.memory q)
asked g p t user copy after q there same asks stays =
    ap (outcome_of_call g p t) (sym there) ∙ ap (λ (u : UserPart). outcome_of_ask g p t u (user_step u t)) (sym same) ∙ ap (outcome_of_ask g p t copy) asks
    ∙ ap (λ (u : UserPart). outcome_of_lent g p t u q (lent u.memory q)) (sym stays)

pub if_ok : {A E X : Type 0} (r : Result A E) (f : A → X) (x y : X) → y ≡ x → IfOk r (λ a. x ≡ f a) → IfOk r (λ a. y ≡ f a)
if_ok (Ok a) f x y is goes = is ∙ goes
if_ok (Err e) f x y is goes = tt
