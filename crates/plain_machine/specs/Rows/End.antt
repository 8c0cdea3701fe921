-- exit_group(code), exit(code) (`man 2 exit_group`, `man 2 exit`): the process ends with the status that the
-- code gives, or the thread does.
use Rattle.std.specs.Prelude.{ℕ}
use Rattle.plain_tables.specs.OfViews.Numbers.{ThreadNumber}
use Rattle.plain_tables.specs.OfSysAbi.declared.identity.VPid.{VPid}
use Rattle.plain_machine.specs.declared.kernel.PlainKernel.{PlainKernel}
use Rattle.plain_tables.specs.OfPlainProcess.Attempts.{Try}
use Rattle.plain_machine.specs.Attempts.{Served, replied}
use Rattle.plain_machine.specs.Ends.{exit_status, after_end, thread_ended}

unfoldable pub exit_group_row : PlainKernel → VPid → ℕ → Try Served
exit_group_row k p code = replied (after_end k p (exit_status code)) 0

unfoldable pub exit_row : PlainKernel → VPid → ThreadNumber → ℕ → Try Served
exit_row k p t code = replied (thread_ended k p t (exit_status code)) 0
