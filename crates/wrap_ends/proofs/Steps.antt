-- A process on its way to its end, step by step.
--     begun               at the start
--     reaped_more, reaped_all, too_many_reaped          the loop over its zombies
--     threads_more, threads_all, too_many_threads       the loop over its threads
--     then_as             a step after others
--     number_is, kept_pair, dropped_pair      a thread's pair
use Rattle.std.proofs.Common.{◌≡◌, ℕ, ◌+◌, ◌≤◌, ◌<◌, Bool, true, false, cond, Option, Some, None, Result, Ok, Err, refl, sym, ap, ◌∙◌, arith}
use Rattle.std.specs.Prelude.{◌==◌}
use Rattle.std.specs.Option.{ok_or}
use Rattle.std.specs.FinMap as map
use Rattle.std.proofs.lemmas.Bool.{eqb-true, eq-eqb}
use Rattle.std.proofs.lemmas.Option.{none-some, same_Some}
use Rattle.sys_abi.specs.declared.identity.RealPid.{RealPid}
use Rattle.sys_abi.specs.declared.identity.VPid.{VPid}
use Rattle.virt_ids.specs.Pairs.{Pairs, AreInverse}
use Rattle.virt_ids.specs.declared.id_fault.IdFault.{IdFault}
use Rattle.plain_machine.specs.declared.kernel.PlainKernel.{PlainKernel}
use Rattle.plain_machine.specs.Kernel.{is_live}
use Rattle.host_tables.specs.declared.system.System.{System}
use Rattle.wrap_names.specs.Wrapping.{IsWrapped}
use Rattle.wrap_ends.specs.Ending.{EndsAs, IsAlone, IsFewer, without_number, without_thread}

module _ (now : System) (next_id : ℕ) (k : PlainKernel) (p : VPid) (who : RealPid) where
  pub begun : (Also : PlainKernel → Type 0) → IsWrapped now next_id k → is_live k p ≡ true
      → map.get now.ids.pids p.0 ≡ Some who → Also k → EndsAs now next_id k p who Also
  begun Also w alive paired also = record {
    kernel = k;
    wrapped = w;
    alive = alive;
    paired = paired;
    same = λ status. refl;
    also = also;
  }

  -- a step after others
  pub then_as : (Before Also Then : PlainKernel → Type 0) (before : EndsAs now next_id k p who Before)
      (new : System)
      → EndsAs new next_id before.kernel p who Also
      → ((kernel : PlainKernel) → Also kernel → Then kernel) → EndsAs new next_id k p who Then
  then_as Before Also Then before new step also = record {
    kernel = step.kernel;
    wrapped = step.wrapped;
    alive = step.alive;
    paired = step.paired;
    same = λ status. step.same status ∙ before.same status;
    also = also step.kernel step.also;
  }

-- zombies
pub record IsReapedFor (k : PlainKernel) (p : VPid) (turns : ℕ) (kernel : PlainKernel) : Type 0 where
  pub few : map.len kernel.processes + turns ≤ map.len k.processes
  pub own : map.get kernel.processes p ≡ map.get k.processes p

pub reaped_start : (k : PlainKernel) (p : VPid) → IsReapedFor k p 0 k
reaped_start k p = record { few = omega arith; own = refl }

pub reaped_more : (k : PlainKernel) (p : VPid) (turns : ℕ) (before kernel : PlainKernel)
    → IsReapedFor k p turns before → IsFewer before kernel p → IsReapedFor k p (turns + 1) kernel
reaped_more k p turns before kernel so_far step = record {
  few = let a = so_far.few in let b = step.fewer in omega (arith, a, b);
  own = step.own ∙ so_far.own;
}

pub reaped_all : (k : PlainKernel) (p : VPid) (turns : ℕ) (before kernel : PlainKernel)
    → IsReapedFor k p turns before → IsAlone before kernel p → IsAlone k kernel p
reaped_all k p turns before kernel so_far step = record { none = step.none; own = step.own ∙ so_far.own }

pub too_many : (n m turns : ℕ) → n + turns ≤ m → m ≤ 128 → 128 < turns → ⊥
too_many n m turns few most over = omega (arith, few, most, over)

pub too_many_threads : (n m turns : ℕ) → n + turns ≤ m → m ≤ 64 → 64 < turns → ⊥
too_many_threads n m turns few most over = omega (arith, few, most, over)

-- a thread's pair

different : (n : ℕ) (f : IdFault) → ◌≡◌ {A = Result ℕ IdFault} (Ok n) (Err f) → ⊥
different n f h = cc

same_number : (a b : ℕ) → ◌≡◌ {A = Result ℕ IdFault} (Ok a) (Ok b) → a ≡ b
same_number a b h = cc

pub number_told : (o : Option ℕ) (n : ℕ) (f : IdFault) → Ok n ≡ ok_or o f → o ≡ Some n
number_told None n f is = absurd (different n f is)
number_told (Some m) n f is = ap Some (sym (same_number n m is))

pub none_told : (o : Option ℕ) (f e : IdFault) → Err e ≡ ok_or o f → o ≡ None
none_told None f e is = refl
none_told (Some m) f e is = absurd (different m e (sym is))

module _ (ids : Pairs) (inverse : AreInverse ids.pids ids.virts) (t : ℕ) (r : RealPid)
    (leads : map.get ids.pids t ≡ Some r) where
  pub number_is : (n : ℕ) → map.get ids.virts r ≡ Some n → n ≡ t
  number_is n is = same_Some n t (sym is ∙ inverse.leads_back t r leads)

  pub always : map.get ids.virts r ≡ None → ⊥
  always none = none-some t (sym none ∙ inverse.leads_back t r leads)

  pub kept_pair : (own n : ℕ) → map.get ids.virts r ≡ Some n → n ≡ own → ids ≡ without_thread ids own t
  kept_pair own n is same =
      sym (ap (λ b. cond b ids (without_number ids t)) (eq-eqb t own (sym (number_is n is) ∙ same)))

  pub dropped_pair : (own n : ℕ) → map.get ids.virts r ≡ Some n → (n ≡ own → ⊥)
      → without_number ids n ≡ without_thread ids own t
  dropped_pair own n is differs =
      ap (without_number ids) (number_is n is)
      ∙ sym (ap (λ b. cond b ids (without_number ids t)) (not_same (t == own) refl))
    where
      not_same : (b : Bool) → (t == own) ≡ b → (t == own) ≡ false
      not_same true e = absurd (differs (number_is n is ∙ eqb-true t own e))
      not_same false e = e
