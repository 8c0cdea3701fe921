-- A signal that is raised over real numbers.
--     raise_answer real target thread             its answer: the process or the thread lives, or no such one
--     with_raised real target thread signal       the kernel then
use Rattle.std.specs.Prelude.{ℕ, Bool, Option, if◌then◌else◌}
use Rattle.sys_abi.specs.declared.identity.RealPid.{RealPid}
use Rattle.sys_abi.specs.declared.errors.TheConstants.{ESRCH}
use Rattle.proc_book.specs.Procs.{can_raise, after_raise}
use Rattle.host_descriptors.specs.OfHostTables.declared.attempt.Attempt.{Attempt}
use Rattle.host_descriptors.specs.OfHostTables.declared.attempt.Attempt.TheVariants.{Gives, Fails}
use Rattle.host_descriptors.specs.OfHostTables.declared.kernel.Kernel.{Kernel}

abbrev pub answer_by : Bool → Attempt
answer_by lives = if lives then Gives 0 else Fails (record { 0 = ESRCH })

abbrev pub raise_answer : Kernel → RealPid → Option ℕ → Attempt
raise_answer real target thread = answer_by (can_raise real.procs.processes target thread)

abbrev pub with_raised : Kernel → RealPid → Option ℕ → ℕ → Kernel
with_raised real target thread signal =
    let processes = after_raise real.procs.processes target thread signal in
    record real { procs = record real.procs { processes = processes } }
