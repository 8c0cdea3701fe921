-- A call on a description that isn't ready waits, or it fails where the description doesn't block.
-- Source: `man 2 open` (O_NONBLOCK).
--     need_ready flags ready      where flags are the description's status flags
--     waits attempt               the call isn't ready
use Rattle.std.specs.Prelude.{Bool, true, false, if◌then◌else◌}
use Rattle.plain_tables.specs.OfViews.Numbers.{Flags}
use Rattle.plain_tables.specs.OfSysAbi.declared.errors.TheConstants.{EAGAIN}
use Rattle.plain_tables.specs.OfSysAbi.declared.flags.TheConstants.{O_NONBLOCK}
use Rattle.plain_tables.specs.OfSysAbi.Flags.{has_flag}
use Rattle.plain_tables.specs.OfPlainProcess.Attempts.{Try, Fails, NotReady, Gives}

unfoldable pub need_ready : Flags → Bool → Try (Unit {0})
need_ready flags true = Gives tt
need_ready flags false = if has_flag flags O_NONBLOCK then Fails EAGAIN else NotReady

abbrev pub waits : {A : Type 0} → Try A → Bool
waits NotReady = true
waits _ = false
