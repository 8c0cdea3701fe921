-- kill(pid, s), tgkill(pid, tid, s) (`man 2 kill`, `man 2 tgkill`): the signal is pending for the process
-- or the thread; 0 only asks whether it is there. A process reaches those of its host. No signal that stops
-- or goes on can be sent.
use Rattle.std.specs.Prelude.{◌&&◌, ℕ, ◌^◌, not, nat_le, nat_lt, Bool}
use Rattle.plain_tables.specs.OfViews.Numbers.{ThreadNumber, SignalNumber}
use Rattle.plain_tables.specs.OfSysAbi.declared.identity.VPid.{VPid}
use Rattle.plain_tables.specs.OfSysAbi.declared.errors.TheConstants.{EINVAL, ESRCH}
use Rattle.plain_machine.specs.declared.kernel.PlainKernel.{PlainKernel}
use Rattle.plain_tables.specs.OfPlainProcess.Attempts.{Try, need, ◌>>◌}
use Rattle.plain_machine.specs.Attempts.{Served, replied}
use Rattle.plain_tables.specs.Tables.{pid}
use Rattle.plain_machine.specs.Kernel.{is_neighbour, has_thread, after_raise, after_raise_for_all}

-- a signed number above zero
abbrev pub is_above_zero : ℕ → Bool
is_above_zero n = nat_le 1 n && nat_lt n (2 ^ 31)

abbrev pub may_be_sent : SignalNumber → Bool
may_be_sent s = nat_le s 31 && not (nat_le 18 s && nat_le s 22)

unfoldable pub kill_row : PlainKernel → VPid → ℕ → SignalNumber → Try Served
kill_row k p number s = do
  need (is_above_zero number && may_be_sent s) EINVAL
  need (is_neighbour k p number) ESRCH
  replied (after_raise_for_all k (pid number) s) 0

unfoldable pub tgkill_row : PlainKernel → VPid → ℕ → ThreadNumber → SignalNumber → Try Served
tgkill_row k p number t s = do
  need (is_above_zero number && may_be_sent s) EINVAL
  need (is_neighbour k p number && has_thread k (pid number) t) ESRCH
  replied (after_raise k (pid number) t s) 0
