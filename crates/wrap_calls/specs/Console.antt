-- What a call shows on the console: all that a write to a console reads.
-- Source: `man 2 write`, `man 2 open` (access modes).
--     written q                 the descriptor and the count of a write
--     writes_console k p fd     the descriptor leads to a console, and is open for writing
--     console_write k p q       how many bytes the call gives to the console, where it gives them there
--     leads_to_console found    what a look-up over real numbers found is such a console
use Rattle.std.specs.Prelude.{ℕ, ◌&&◌, min, Bool, true, false, Option, Some, None, if◌then◌else◌}
use Rattle.sys_abi.specs.declared.identity.VPid.{VPid}
use Rattle.sys_abi.specs.declared.transfer.TheConstants.{TRANSFER_LIMIT}
use Rattle.call_table.specs.declared.request.Request.{Request}
use Rattle.call_table.specs.declared.request.Request.TheVariants.{Write}
use Rattle.fd_tables.specs.declared.description.Object as real
use Rattle.fd_tables.specs.declared.description.Object.TheVariants.{Console}
use Rattle.plain_process.specs.Attempts.{Try, Gives}
use Rattle.plain_tables.specs.Tables.{may_write}
use Rattle.plain_machine.specs.declared.kernel.PlainKernel.{PlainKernel}
use Rattle.plain_machine.specs.Kernel as kernels
use Rattle.plain_machine.specs.Serve.{is_console}
use Rattle.host_descriptors.specs.declared.held.Held.{Held}

unfoldable pub written : Request → Option (ℕ × ℕ)
written (Write fd buffer count) = Some (fd, count)
written _ = None

abbrev pub takes_writes : Try kernels.Held → Bool
takes_writes (Gives h) = is_console h.description.object && may_write h.description.flags
takes_writes _ = false

abbrev pub writes_console : PlainKernel → VPid → ℕ → Bool
writes_console k p fd = takes_writes (kernels.held k p fd)

abbrev pub console_by : PlainKernel → VPid → Option (ℕ × ℕ) → Option ℕ
console_by k p None = None
console_by k p (Some write) = if writes_console k p write.0 then Some (min write.1 TRANSFER_LIMIT) else None

abbrev pub console_write : PlainKernel → VPid → Request → Option ℕ
console_write k p q = console_by k p (written q)

-- over real numbers

abbrev pub is_real_console : real.Object → Bool
is_real_console Console = true
is_real_console _ = false

abbrev pub leads_to_console : Option Held → Bool
leads_to_console None = false
leads_to_console (Some h) = is_real_console h.description.object && may_write h.description.flags
