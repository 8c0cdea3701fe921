-- A process that lives, and how many threads it has.
--     live_there, few_threads
use Rattle.std.proofs.Common.{◌≡◌, ◌≤◌, true, Option, Some, None, refl, sym, ap, ◌∙◌, subst}
use Rattle.std.specs.FinMap as map
use Rattle.views.proofs.MapLaws.{true_false}
use Rattle.sys_abi.specs.declared.identity.VPid.{VPid}
use Rattle.sys_abi.specs.declared.life.Life.{Life}
use Rattle.sys_abi.specs.declared.life.Life.TheVariants.{Live, Zombie}
use Rattle.sys_abi.specs.Lives.{lives}
use Rattle.plain_tables.specs.declared.process.Process.{Process}
use Rattle.plain_tables.specs.Tables.{is_live_process, thread_count_in}
use Rattle.plain_tables.specs.Valid.Processes.{FitsLife}
use Rattle.plain_machine.specs.declared.kernel.PlainKernel.{PlainKernel}
use Rattle.plain_machine.specs.Kernel.{is_live, thread_count}
use Rattle.plain_machine.specs.Kernels.{IsKernel}

pub live_there : (o : Option Process) → is_live_process o ≡ true → (x : Process) × (o ≡ Some x)
live_there None e = true_false (sym e)
live_there (Some x) e = (x, refl)

at_most : (x : Process) (life : Life) → lives life ≡ true → FitsLife life x.threads x.pending
    → map.len x.threads ≤ 64
at_most x Live alive fits = fits.1
at_most x (Zombie status) alive fits = true_false (sym alive)

pub few_threads : (k : PlainKernel) (p : VPid) → IsKernel k → is_live k p ≡ true → thread_count k p ≤ 64
unfolding is_live
few_threads k p whole alive =
    let x = live_there (map.get k.processes p) alive in
    subst (λ o. thread_count_in o ≤ 64) (sym x.1)
    (at_most x.0 x.0.life (sym (ap is_live_process x.1) ∙ alive) (whole.processes.each p x.0 x.1).life)
