-- wait4(number, status, options, usage) (`man 2 wait4`): a child of this number, or any for -1, that has
-- ended is gone, and its status is told; of several the least one. Where none has ended the call waits, or
-- answers 0 with WNOHANG. usage is the place for what it used, which this machine does not tell.
use Rattle.std.specs.Prelude.{◌==◌, ◌&&◌, ◌||◌, ℕ, ◌-◌, ◌^◌, not, nat_le, Bool, [], Option, Some, None, if◌then◌else◌}
use Rattle.plain_tables.specs.OfViews.Numbers.{Address}
use Rattle.plain_tables.specs.OfSysAbi.declared.identity.VPid.{VPid}
use Rattle.plain_tables.specs.OfSysAbi.declared.reply.Reply.TheVariants.{Value}
use Rattle.plain_tables.specs.OfSysAbi.declared.errors.TheConstants.{ECHILD, EINVAL}
use Rattle.plain_machine.specs.declared.kernel.PlainKernel.{PlainKernel}
use Rattle.plain_tables.specs.declared.waiting.Waiting.{Waiting}
use Rattle.plain_tables.specs.declared.waiting.Waiting.TheVariants as found
use Rattle.plain_tables.specs.Tables.{pid}
use Rattle.plain_tables.specs.OfPlainProcess.Memory.{low_bytes}
use Rattle.plain_tables.specs.OfPlainProcess.Attempts.{Try, Fails, NotReady, Gives, need, ◌>>◌}
use Rattle.plain_machine.specs.Attempts.{Served, replied}
use Rattle.plain_machine.specs.Kernel.{without_process}
use Rattle.plain_tables.specs.Waits.{wait_for, is_answered}
use Rattle.plain_machine.specs.Rows.Send.{is_above_zero}

-- -1
abbrev pub ANY_CHILD : ℕ
ANY_CHILD = 2 ^ 32 - 1

-- the option to answer at once
abbrev pub WNOHANG : ℕ
WNOHANG = 1

abbrev pub may_be_asked : ℕ → ℕ → Address → Bool
may_be_asked number options usage =
    (usage == 0) && nat_le options WNOHANG && ((number == ANY_CHILD) || is_above_zero number)

abbrev pub child_of_number : ℕ → Option VPid
child_of_number number = if number == ANY_CHILD then None else Some (pid number)

abbrev pub reaped : PlainKernel → VPid → ℕ → Served
reaped k q status = record {
  kernel = without_process q k;
  reply = Value q.0;
  bytes = low_bytes 4 status;
  console = [];
}

abbrev pub wait4_by : PlainKernel → ℕ → Waiting → Try Served
wait4_by k options found.NoChild = Fails ECHILD
wait4_by k options found.NotReady = if options == WNOHANG then replied k 0 else NotReady
wait4_by k options (found.Ended q status) = Gives (reaped k q status)

unfoldable pub wait4_row : PlainKernel → VPid → ℕ → ℕ → Address → Try Served
wait4_row k p number options usage = do
  need (may_be_asked number options usage) EINVAL
  wait4_by k options (wait_for k.processes p (child_of_number number))

unfoldable pub is_wait4_ready : PlainKernel → VPid → ℕ → ℕ → Address → Bool
is_wait4_ready k p number options usage =
    not (may_be_asked number options usage) || (options == WNOHANG)
    || is_answered (wait_for k.processes p (child_of_number number))
