-- eventfd2(value, flags) (`man 2 eventfd`): a counter behind the free descriptor.
use Rattle.std.specs.Prelude.{ℕ}
use Rattle.plain_tables.specs.OfViews.Numbers.{Flags}
use Rattle.plain_tables.specs.OfSysAbi.declared.identity.VPid.{VPid}
use Rattle.plain_tables.specs.OfSysAbi.declared.errors.TheConstants.{EINVAL, ENFILE}
use Rattle.plain_tables.specs.OfSysAbi.declared.flags.TheConstants.{O_RDWR, O_CLOEXEC}
use Rattle.plain_tables.specs.OfSysAbi.Flags.{has_flag}
use Rattle.plain_machine.specs.declared.kernel.PlainKernel.{PlainKernel}
use Rattle.plain_tables.specs.declared.description.Object.TheVariants.{Counter}
use Rattle.plain_tables.specs.OfPlainProcess.Attempts.{Try, need, ◌>>=◌, ◌>>◌}
use Rattle.plain_machine.specs.Attempts.{Served, replied}
use Rattle.plain_machine.specs.Kernel.{free_from, has_numbers, made_of, numbered, placed}
use Rattle.plain_machine.specs.Making.{are_making_flags, end_flags, desc_id}

-- with the process's next number
abbrev pub with_counter : PlainKernel → VPid → ℕ → ℕ → Flags → PlainKernel
with_counter k p fd value flags =
    placed (numbered k p 1) p fd (desc_id p (made_of k p)) (has_flag flags O_CLOEXEC) (Counter value)
    (end_flags O_RDWR flags)

unfoldable pub eventfd2_row : PlainKernel → VPid → ℕ → Flags → Try Served
eventfd2_row k p value flags = do
  need (are_making_flags flags) EINVAL
  need (has_numbers k p) ENFILE
  fd ← free_from k p 0
  replied (with_counter k p fd value flags) fd
