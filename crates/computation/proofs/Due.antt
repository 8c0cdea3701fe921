-- The records of a turn are due at its place.
--     call_due, user_due, first_due, trap_due
--     goes_at_place                   where a thread stands that goes on
--     serves_if                       a call that goes on and isn't the process's own is served
--     same_plain, ready_same          a computation with the same kernel part and guests
use Rattle.std.proofs.Common.{◌≡◌, ℕ, Bool, true, false, not, List, Option, Some, refl, sym, ap, subst, ◌∙◌, arith, tests}
use Rattle.std.specs.Prelude.{◌==◌, ◌&&◌, is_some}
use Rattle.std.specs.FinMap as map
use Rattle.views.proofs.MapLaws.{true_false}
use Rattle.sys_abi.specs.declared.identity.VPid.{VPid}
use Rattle.sys_abi.specs.declared.identity.Tid.{Tid}
use Rattle.sys_abi.specs.declared.identity.Signal.{Signal}
use Rattle.sys_abi.specs.declared.record.Record.TheVariants.{User, Call, Deliver as Delivery}
use Rattle.call_table.specs.declared.request.Request.{Request}
use Rattle.call_table.specs.Requests.{is_local}
use Rattle.plain_process.specs.declared.user_part.UserPart.{UserPart}
use Rattle.plain_process.specs.Buffers.{lent}
use Rattle.plain_process.specs.Deliveries.{traps_with}
use Rattle.plain_process.specs.Steps.{UserStep, Stepped, Asks, Trapped, Waits, NoThread, user_step}
use Rattle.plain_machine.specs.declared.plain.Plain.{Plain}
use Rattle.plain_machine.specs.Records.{step, stands, waits_at}
use Rattle.plain_machine.specs.Serve.{serve}
use Rattle.plain_machine.specs.Valid.{IsValid}
use Rattle.computation.specs.declared.computation.Computation.{Computation}
use Rattle.computation.specs.declared.computation.Next.TheVariants.{Deliver, GoOn}
use Rattle.computation.specs.Computations.{plain_of, IsReady, IsTurnAt}
use Rattle.computation.specs.Takes.{IsDueWork}
use Rattle.trace_log.specs.Turns.{Place, goes_on, goes_on_at, is_turn_of, is_due_signal, stands_in, traps_in}
use Rattle.computation.proofs.Numbered.{Numbered}
use Rattle.computation.proofs.States.{plain_is}
use Rattle.computation.proofs.Threads.{call_goes, not_not}
use Rattle.views.specs.Maps.{map_values}
use Rattle.guest_proc.specs.Guests.{GuestPart, ran_at}
use Rattle.guest_proc.specs.declared.ran.Ran.{Ran}
use Rattle.guest_proc.specs.declared.ran.Ran.TheVariants.{Waits as RanWaits, Memory as RanMemory}

itself : (n : ℕ) → (n == n) ≡ true
itself n = grind (arith, tests)

turn_is : (here : Place) (p : VPid) (t : Tid) → here.p ≡ p → here.t ≡ t.0 → is_turn_of here p t ≡ true
turn_is here p t process thread =
    ap (λ (x : VPid). (x.0 == p.0) && (here.t == t.0)) process ∙ ap (λ n. (p.0 == p.0) && (n == t.0)) thread ∙ ap (λ b. b && (t.0 == t.0)) (itself p.0) ∙ itself t.0

module _ (g : Plain) (p : VPid) (t : Tid) where
  pub call_due : (ran : Ran) (here : Place) → IsTurnAt g p t (GoOn ran) here → IsDueWork g here (Call p t)
  call_due ran here turn = record {
    work = refl;
    due = ap (λ b. b && not (is_some here.signal)) (turn_is here p t turn.process turn.thread) ∙ ap (λ (o : Option ℕ). not (is_some o)) turn.first;
  }

  pub user_due : (n : ℕ) (user : UserPart) → map.get g.users p ≡ Some user → stands (user_step user t.0) ≡ false → (ran : Ran) (here : Place) → IsTurnAt g p t (GoOn ran) here → IsDueWork g here (User p t n)
  user_due n user there moves ran here turn = record {
    work = refl;
    due = ap (λ b. b && not here.has_run && not (is_some here.signal)) (turn_is here p t turn.process turn.thread)
        ∙ ap (λ b. not b && not (is_some here.signal)) (by_run here.has_run refl) ∙ ap (λ (o : Option ℕ). not (is_some o)) turn.first;
  }
    where
      by_run : (b : Bool) → here.has_run ≡ b → b ≡ false
      by_run false is = refl
      by_run true is = true_false (sym (turn.stopped is) ∙ ap (λ found. stands_in found t.0) there ∙ moves)

  pub first_due : (s : Signal) (here : Place) → IsTurnAt g p t (Deliver s) here → IsDueWork g here (Delivery p t s)
  first_due s here turn = record {
    work = refl;
    due = ap (λ b. b && is_due_signal g here s.0 here.signal) (turn_is here p t turn.process turn.thread) ∙ ap (is_due_signal g here s.0) turn.first ∙ itself s.0;
  }

  pub trap_due : (s : Signal) (user : UserPart) → map.get g.users p ≡ Some user → user_step user t.0 ≡ Trapped s.0 → (ran : Ran) (here : Place) → IsTurnAt g p t (GoOn ran) here → IsDueWork g here (Delivery p t s)
  trap_due s user there traps ran here turn = record {
    work = refl;
    due = ap (λ b. b && is_due_signal g here s.0 here.signal) (turn_is here p t turn.process turn.thread) ∙ ap (is_due_signal g here s.0) turn.first
        ∙ ap (λ (x : VPid). traps_in (map.get g.users x) here.t s.0) turn.process ∙ ap (λ n. traps_in (map.get g.users p) n s.0) turn.thread
        ∙ ap (λ found. traps_in found t.0 s.0) there ∙ ap (λ (at : UserStep). traps_with at s.0) traps ∙ itself s.0;
  }

-- a thread that goes on
pub goes_at_place : (g : Plain) (p : VPid) (t : ℕ) (user : UserPart) → map.get g.users p ≡ Some user → goes_on g p t (map.get g.users p) ≡ true → goes_on_at g p t (user_step user t) ≡ true
unfolding goes_on
goes_at_place g p t user there goes = sym (ap (goes_on g p t) there) ∙ goes

waits_not : (local served : Bool) → local ≡ false → not (not local && not served) ≡ true → served ≡ true
waits_not local served own goes = not_not served ∙ sym (ap (λ b. not (not b && not served)) own) ∙ goes

pub serves_if : (g : Plain) (p : VPid) (t : Tid) (user : UserPart) (q : Request) (given : List ℕ) → map.get g.users p ≡ Some user → user_step user t.0 ≡ Asks q → lent user.memory q ≡ Some given
    → is_local q ≡ false → is_some (step g (Call p t)) ≡ true → is_some (serve g.kernel p t.0 q given) ≡ true
serves_if g p t user q given there asks reads kernels goes =
    waits_not (is_local q) (is_some (serve g.kernel p t.0 q given)) kernels (ap (λ found. not (waits_at g p t.0 q found)) (sym reads) ∙ sym (call_goes g p t user q there asks) ∙ goes)

pub same_plain : (before after : Computation) → after.kernel ≡ before.kernel → after.guests ≡ before.guests → plain_of after ≡ plain_of before
same_plain before after kernel guests = plain_is _ _ _ _ kernel (ap (λ m. map_values (λ (guest : GuestPart). guest.user) m) guests)

pub ready_same : (before after : Computation) → after.kernel ≡ before.kernel → after.guests ≡ before.guests → IsReady before → IsReady after
ready_same before after kernel guests ready = record {
  valid = subst IsValid (sym (same_plain before after kernel guests)) ready.valid;
  numbered = subst Numbered (sym guests) ready.numbered;
}

-- what a look can't tell of a thread that goes on
pub waits_still : (g : Plain) (p : VPid) (t : ℕ) (place : UserStep) → ran_at place ≡ RanWaits → goes_on_at g p t place ≡ true → ⊥
waits_still g p t (Stepped after) is goes = cc
waits_still g p t (Asks q) is goes = cc
waits_still g p t (Trapped s) is goes = cc
waits_still g p t Waits is goes = true_false (sym goes)
waits_still g p t NoThread is goes = cc

pub looks_whole : (place : UserStep) → ran_at place ≡ RanMemory → ⊥
looks_whole (Stepped after) is = cc
looks_whole (Asks q) is = cc
looks_whole (Trapped s) is = cc
looks_whole Waits is = cc
looks_whole NoThread is = cc
