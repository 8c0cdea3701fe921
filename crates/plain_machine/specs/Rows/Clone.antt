-- clone(flags, stack, parent_tid, tls, child_tid) (`man 2 clone`): a thread or a child gets the next number.
-- A thread's is written where the flags ask for it, a child's in its parent at one place alone: the other one
-- is the child's own.
use Rattle.std.specs.Prelude.{◌&&◌, ℕ, ◌-◌, ◌^◌, nat_lt, List, [], ◌++◌, Option, Some, None, Bool, if◌then◌else◌}
use Rattle.std.specs.FinMap as map
use Rattle.plain_tables.specs.OfViews.Numbers.{Flags, Byte}
use Rattle.plain_tables.specs.OfViews.Limits.{PROCESS_LIMIT, THREAD_LIMIT}
use Rattle.plain_tables.specs.OfSysAbi.declared.identity.VPid.{VPid}
use Rattle.plain_tables.specs.OfSysAbi.declared.reply.Reply.TheVariants.{Value}
use Rattle.plain_tables.specs.OfSysAbi.declared.errors.TheConstants.{EAGAIN, EINVAL}
use Rattle.plain_tables.specs.OfSysAbi.declared.flags.TheConstants.{CLONE_PARENT_SETTID, CLONE_CHILD_SETTID}
use Rattle.plain_tables.specs.OfSysAbi.declared.cloning.CloneForm.{CloneForm}
use Rattle.plain_tables.specs.OfSysAbi.declared.cloning.CloneForm.TheVariants.{Fork, Thread}
use Rattle.plain_tables.specs.OfSysAbi.Clones.{clone_form}
use Rattle.plain_machine.specs.declared.kernel.PlainKernel.{PlainKernel}
use Rattle.plain_tables.specs.OfPlainProcess.Memory.{low_bytes}
use Rattle.plain_tables.specs.OfPlainProcess.Attempts.{Try, Fails, Gives, need, ◌>>◌}
use Rattle.plain_machine.specs.Attempts.{Served}
use Rattle.plain_machine.specs.Kernel.{thread_count, with_next_thread}
use Rattle.plain_machine.specs.Ends.{after_fork}
use Rattle.plain_tables.specs.OfSysAbi.Flags.{has_flag}

-- numbers of processes and threads are below this one
abbrev pub LAST_ID : ℕ
LAST_ID = 2 ^ 31 - 1

abbrev pub number_if : Bool → ℕ → List Byte
number_if wanted number = if wanted then low_bytes 4 number else []

-- the new number, for each place that the flags name
abbrev pub number_bytes : Flags → ℕ → List Byte
number_bytes flags number =
    number_if (has_flag flags CLONE_PARENT_SETTID) number
    ++ number_if (has_flag flags CLONE_CHILD_SETTID) number

abbrev pub cloned : PlainKernel → VPid → Flags → Served
cloned k p flags = record {
  kernel = with_next_thread k p;
  reply = Value k.next_id;
  bytes = number_bytes flags k.next_id;
  console = [];
}

unfoldable pub clone_thread : PlainKernel → VPid → Flags → Try Served
clone_thread k p flags = do
  need (nat_lt (thread_count k p) THREAD_LIMIT && nat_lt k.next_id LAST_ID) EAGAIN
  Gives (cloned k p flags)

abbrev pub forked : PlainKernel → VPid → Flags → Served
forked k p flags = record {
  kernel = after_fork k p;
  reply = Value k.next_id;
  bytes = number_if (has_flag flags CLONE_PARENT_SETTID) k.next_id;
  console = [];
}

unfoldable pub clone_process : PlainKernel → VPid → Flags → Try Served
clone_process k p flags = do
  need (nat_lt (map.len k.processes) PROCESS_LIMIT && nat_lt k.next_id LAST_ID) EAGAIN
  Gives (forked k p flags)

abbrev pub clone_by : PlainKernel → VPid → Flags → Option CloneForm → Try Served
clone_by k p flags None = Fails EINVAL
clone_by k p flags (Some Fork) = clone_process k p flags
clone_by k p flags (Some Thread) = clone_thread k p flags

unfoldable pub clone_row : PlainKernel → VPid → Flags → Try Served
clone_row k p flags = clone_by k p flags (clone_form flags)
