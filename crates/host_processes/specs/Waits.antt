-- What a wait over real numbers comes to, by what it finds.
--     wait_answer options found      its answer
--     wait_bytes before found        the bytes in the transfer then: a status, or those before
--     with_waited real found         the kernel then: the child that was waited for is gone
--     is_answered found              the call need not wait
use Rattle.std.specs.Prelude.{◌==◌, ℕ, Bool, true, false, List, if◌then◌else◌}
use Rattle.views.specs.Numbers.{Byte}
use Rattle.sys_abi.specs.declared.errors.TheConstants.{ECHILD}
use Rattle.proc_book.specs.declared.waiting.Waiting.{Waiting}
use Rattle.proc_book.specs.declared.waiting.Waiting.TheVariants as found
use Rattle.proc_book.specs.Procs.{after_wait}
use Rattle.plain_process.specs.Memory.{low_bytes}
use Rattle.plain_machine.specs.Rows.Wait.{WNOHANG}
use Rattle.host_descriptors.specs.OfHostTables.declared.attempt.Attempt.{Attempt}
use Rattle.host_descriptors.specs.OfHostTables.declared.attempt.Attempt.TheVariants.{Gives, Fails, NotReady}
use Rattle.host_descriptors.specs.OfHostTables.declared.kernel.Kernel.{Kernel}

abbrev pub wait_answer : ℕ → Waiting → Attempt
wait_answer options found.NoChild = Fails (record { 0 = ECHILD })
wait_answer options found.NotReady = if options == WNOHANG then Gives 0 else NotReady
wait_answer options (found.Ended r status) = Gives r.pid

abbrev pub wait_bytes : List Byte → Waiting → List Byte
wait_bytes before (found.Ended r status) = low_bytes 4 status
wait_bytes before _ = before

abbrev pub with_waited : Kernel → Waiting → Kernel
with_waited real found =
    record real { procs = record real.procs { processes = after_wait found real.procs.processes } }

abbrev pub is_answered : Waiting → Bool
is_answered found.NotReady = false
is_answered _ = true
