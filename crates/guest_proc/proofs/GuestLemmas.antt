-- A guest's calls, over plain variables.
use Rattle.std.proofs.Common.{◌≡◌, List, ℕ, refl, sym, ap, subst, ◌∙◌, true, false, if◌then◌else◌}
use Rattle.std.specs.Prelude.{Option, Some, None, option_map, is_some}
use Rattle.std.specs.Ordering.{nat_cmp}
use Rattle.std.specs.Cmp.{nat_cmp_total}
use Rattle.std.specs.FinMap as map
use Rattle.views.proofs.MapLaws.{get_insert_same}
use Rattle.elf32.specs.declared.program.Program.{Program}
use Rattle.plain_process.specs.Start.{start_user, start_thread, start_regs}
use Rattle.plain_process.specs.declared.regs.Regs.{Regs}
use Rattle.plain_process.specs.declared.user_part.UserPart.{UserPart}
use Rattle.plain_process.specs.declared.user_part.ThreadPart.{ThreadPart}
use Rattle.plain_process.specs.Memory.{Memory}
use Rattle.plain_process.specs.Instructions.{Effect}
use Rattle.plain_process.specs.Steps.{Running, effect_at, Waits, waits, with_regs, step_by, step_of, user_step, user_steps}
use Rattle.guest_start.specs.declared.run.Stop.{Stop}
use Rattle.guest_start.specs.declared.run.Stop.TheVariants.{Quantum, Call, Trap}
use Rattle.guest_proc.specs.declared.ran.Ran.{Ran}
use Rattle.guest_proc.specs.Guests.{Tells, with_parts}
use Rattle.guest_proc.specs.Running.{ran_told}
use Rattle.guest_start.specs.Running.{running, HasRun, IsStop}
use Rattle.guest_threads.specs.Threads.{changed_by}
use Rattle.guest_proc.proofs.Lift.{lift, run_to, step_at}

abbrev threads_with_regs : map.FinMap nat_cmp ThreadPart → ℕ → Regs → Option ThreadPart → map.FinMap nat_cmp ThreadPart
threads_with_regs threads t regs found = changed_by threads t (λ thread. with_regs thread regs) found

-- the part of a process after a run of one of its threads
found_thread : (user : UserPart) (t n : ℕ) (regs regs' : Regs) (memory' : Memory) (found : Option ThreadPart) → map.get user.threads t ≡ found
    → option_map (λ thread. thread.regs) found ≡ Some regs → waits user t ≡ false → HasRun n regs user.memory regs' memory'
    → user_steps n user t ≡ Some (with_parts user memory' (threads_with_regs user.threads t regs' found))
found_thread user t n regs regs' memory' None there has idle run = cc
found_thread user t n regs regs' memory' (Some thread) there has idle run =
    let same : thread.regs ≡ regs = cc in
    lift n user t thread (running regs' memory') there idle (subst (λ r. HasRun n r user.memory regs' memory') (sym same) run)

pub steps : (user : UserPart) (t n : ℕ) (regs regs' : Regs) (memory' : Memory) (threads' : map.FinMap nat_cmp ThreadPart)
    → option_map (λ thread. thread.regs) (map.get user.threads t) ≡ Some regs → waits user t ≡ false → HasRun n regs user.memory regs' memory'
    → threads' ≡ threads_with_regs user.threads t regs' (map.get user.threads t) → user_steps n user t ≡ Some (with_parts user memory' threads')
steps user t n regs regs' memory' threads' has idle run is =
    found_thread user t n regs regs' memory' (map.get user.threads t) refl has idle run ∙ ap (λ threads. Some (with_parts user memory' threads)) (sym is)

-- where the thread stands then
tells_effect : (user : UserPart) (t : ℕ) (thread : ThreadPart) (stop : Stop) (regs : Regs) (effect : Effect) → IsStop stop effect
    → Tells (ran_told stop regs) (step_by user t (with_regs thread regs) effect)
tells_effect user t thread Quantum regs effect is = tt
tells_effect user t thread Call regs effect is = ap (step_by user t (with_regs thread regs)) is
tells_effect user t thread (Trap signal) regs effect is = ap (step_by user t (with_regs thread regs)) is

tells_found : (user : UserPart) (t : ℕ) (stop : Stop) (regs regs' : Regs) (memory' : Memory) (found : Option ThreadPart)
    → option_map (λ thread. thread.regs) found ≡ Some regs → waits user t ≡ false → IsStop stop (effect_at regs' memory')
    → Tells (ran_told stop regs') (user_step (with_parts user memory' (threads_with_regs user.threads t regs' found)) t)
tells_found user t stop regs regs' memory' None has idle is = absurd (no_regs has)
  where
    no_regs : option_map {T = ThreadPart} {U = Regs} (λ thread. thread.regs) None ≡ Some regs → ⊥
    no_regs e = cc
tells_found user t stop regs regs' memory' (Some thread) has idle is =
    let at : Running = running regs' memory' in
    subst (λ place. Tells (ran_told stop regs') place) (sym (step_at user t thread at (effect_at regs' memory') idle refl))
    (tells_effect (run_to user t thread at) t thread stop regs' (effect_at regs' memory') is)

pub tells : (user : UserPart) (t : ℕ) (stop : Stop) (ran : Ran) (regs regs' : Regs) (memory' : Memory) (threads' : map.FinMap nat_cmp ThreadPart)
    → option_map (λ thread. thread.regs) (map.get user.threads t) ≡ Some regs → waits user t ≡ false → IsStop stop (effect_at regs' memory')
    → ran ≡ ran_told stop regs' → threads' ≡ threads_with_regs user.threads t regs' (map.get user.threads t)
    → Tells ran (user_step (with_parts user memory' threads') t)
tells user t stop ran regs regs' memory' threads' has idle is told threads =
    subst (λ r. Tells r (user_step (with_parts user memory' threads') t)) (sym told)
    (subst (λ ths. Tells (ran_told stop regs') (user_step (with_parts user memory' ths) t)) (sym threads)
    (tells_found user t stop regs regs' memory' (map.get user.threads t) has idle is))

-- a thread that waits
waits_found : (user : UserPart) (t : ℕ) (found : Option ThreadPart) → is_some found ≡ true → waits user t ≡ true → step_of user t found ≡ Waits
waits_found user t None there waiting = cc
waits_found user t (Some thread) there waiting = ap (λ b. if b then Waits else step_by user t thread (effect_at thread.regs user.memory)) waiting

pub waits_on : (user : UserPart) (t : ℕ) → is_some (map.get user.threads t) ≡ true → waits user t ≡ true → user_step user t ≡ Waits
unfolding user_step
waits_on user t there waiting = waits_found user t (map.get user.threads t) there waiting

pub no_steps : (user : UserPart) (t : ℕ) → user_steps 0 user t ≡ Some user
unfolding user_steps
no_steps user t = refl

-- the one thread of a start
pub start_has_thread : (program : Program) (arguments : List ℕ) (t : ℕ) → is_some (map.get (start_user program arguments t).threads t) ≡ true
unfolding start_user
start_has_thread program arguments t = ap is_some (get_insert_same nat_cmp_total map.nat_cmp-IsAntisymmetric map.empty t (start_thread (start_regs program arguments)))
