-- getpid(), getppid() (`man 2 getpid`): a process's own number, and its parent's, or nobody's once that has
-- ended.
use Rattle.std.specs.Prelude.{ℕ, Option, Some, None, if◌then◌else◌}
use Rattle.std.specs.FinMap as map
use Rattle.plain_tables.specs.OfSysAbi.declared.identity.VPid.{VPid}
use Rattle.plain_machine.specs.declared.kernel.PlainKernel.{PlainKernel}
use Rattle.plain_tables.specs.declared.process.Process.{Process}
use Rattle.plain_tables.specs.Tables.{pid}
use Rattle.plain_tables.specs.OfPlainProcess.Attempts.{Try}
use Rattle.plain_machine.specs.Attempts.{Served, replied}
use Rattle.plain_machine.specs.Kernel.{is_live}
use Rattle.plain_machine.specs.Start.{NOBODY}

unfoldable pub getpid_row : PlainKernel → VPid → Try Served
getpid_row k p = replied k p.0

abbrev pub parent_in : PlainKernel → Option Process → ℕ
parent_in k None = NOBODY
parent_in k (Some process) = if is_live k (pid process.parent) then process.parent else NOBODY

unfoldable pub getppid_row : PlainKernel → VPid → Try Served
getppid_row k p = replied k (parent_in k (map.get k.processes p))
