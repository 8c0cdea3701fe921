-- The part of a process after a call's answer: a0 holds the answer, the thread goes on after the call, and
-- the bytes stand where the call asked for them.
-- Source: the system call convention of RISC-V Linux (`man 2 syscall`), `man 2 exit`, `man 2 clone`.
--     put user t q reply bytes      after the answer of a call
--     added_thread q reply          the number of the thread that the answer adds
--     made_by q reply               the number of the process that the answer makes
--     CanTake memory spans bytes    the bytes can be written where an answer puts them
use Rattle.std.specs.Prelude.{◌≡◌, ℕ, ◌-◌, List, [], ◌∷◌, length, take, drop, Option, Some, None, is_some, true}
use Rattle.std.specs.FinMap as map
use Rattle.elf32.specs.OfViews.Numbers.{Address, ThreadNumber, Flags, Byte}
use Rattle.call_table.specs.declared.request.Request.{Request}
use Rattle.call_table.specs.declared.request.Request.TheVariants.{Exit, Clone}
use Rattle.call_table.specs.OfSysAbi.declared.reply.Reply.{Reply}
use Rattle.call_table.specs.OfSysAbi.declared.reply.Reply.TheVariants.{Value}
use Rattle.call_table.specs.OfSysAbi.declared.errors.TheConstants.{EFAULT}
use Rattle.call_table.specs.OfSysAbi.declared.cloning.CloneForm.{CloneForm}
use Rattle.call_table.specs.OfSysAbi.declared.cloning.CloneForm.TheVariants.{Fork, Thread}
use Rattle.call_table.specs.OfSysAbi.Clones.{clone_form}
use Rattle.plain_process.specs.declared.user_part.UserPart.{UserPart}
use Rattle.plain_process.specs.declared.user_part.ThreadPart.{ThreadPart}
use Rattle.plain_process.specs.declared.memory.Right.TheVariants.{Write as ToWrite}
use Rattle.plain_process.specs.Memory.{Memory, bytes_at, with_bytes}
use Rattle.plain_process.specs.Steps.{with_thread}
use Rattle.plain_process.specs.declared.buffers.Span.{Span}
use Rattle.plain_process.specs.Buffers.{filled_spans}
use Rattle.plain_process.specs.Threads.{after_thread_end, with_new_thread}
pub use Rattle.plain_process.specs.Registers.{A0}
pub use Rattle.plain_process.specs.Replies.{word_of, error}
pub use Rattle.plain_process.specs.Threads.{after_call}

-- the bytes in the first span; where there are two, the last ones fill the second
abbrev pub with_spans : Memory → List Span → List Byte → Memory
with_spans memory [] bytes = memory
with_spans memory (at ∷ []) bytes = with_bytes memory at.address bytes
with_spans memory (at ∷ next ∷ rest) bytes =
    let front = length bytes - next.length in
    with_bytes (with_bytes memory at.address (take front bytes)) next.address (drop front bytes)

abbrev pub CanHold : Memory → Address → List Byte → Type 0
CanHold memory address bytes = is_some (bytes_at memory ToWrite address (length bytes)) ≡ true

abbrev pub CanTake : Memory → List Span → List Byte → Type 0
CanTake memory [] bytes = Unit {0}
CanTake memory (at ∷ []) bytes = CanHold memory at.address bytes
CanTake memory (at ∷ next ∷ rest) bytes =
    let front = length bytes - next.length in
    CanHold memory at.address (take front bytes)
    × CanHold (with_bytes memory at.address (take front bytes)) next.address (drop front bytes)

-- the number of the thread that an answer adds: that which a clone of this form answers
abbrev pub added_by : Reply → Option CloneForm → Option ThreadNumber
added_by (Value new) (Some Thread) = Some new
added_by _ _ = None

unfoldable pub added_thread : Request → Reply → Option ThreadNumber
added_thread (Clone flags stack parent_tid tls child_tid) reply = added_by reply (clone_form flags)
added_thread q reply = None

-- the number of the child that an answer makes: that which a fork answers
abbrev pub made_as : Reply → Option CloneForm → Option ℕ
made_as (Value new) (Some Fork) = Some new
made_as _ _ = None

unfoldable pub made_by : Request → Reply → Option ℕ
made_by (Clone flags stack parent_tid tls child_tid) reply = made_as reply (clone_form flags)
made_by q reply = None

-- what an answer does to the threads: an exit ends the caller, and a clone may add one
abbrev pub with_added : UserPart → ThreadNumber → Flags → Address → Address → Address → Option ThreadNumber
    → UserPart
with_added user t flags stack tls child_tid None = user
with_added user t flags stack tls child_tid (Some new) = with_new_thread user t new flags stack tls child_tid

unfoldable pub after_threads : UserPart → ThreadNumber → Request → Reply → UserPart
after_threads user t (Exit code) reply = after_thread_end user t
after_threads user t (Clone flags stack parent_tid tls child_tid) reply =
    with_added user t flags stack tls child_tid
    (added_thread (Clone flags stack parent_tid tls child_tid) reply)
after_threads user t _ reply = user

abbrev pub put_by : UserPart → ThreadNumber → Request → Reply → Memory → Option ThreadPart → UserPart
put_by user t q reply memory None = user
put_by user t q reply memory (Some thread) =
    after_threads (with_thread user t (after_call thread (word_of reply)) memory) t q reply

unfoldable pub put : UserPart → ThreadNumber → Request → Reply → List Byte → UserPart
put user t q reply bytes =
    put_by user t q reply (with_spans user.memory (filled_spans user.memory q) bytes)
    (map.get user.threads t)

-- the answer of a call with a buffer that isn't readable or writable as needed
abbrev pub put_fault : UserPart → ThreadNumber → Request → UserPart
put_fault user t q = put user t q (error EFAULT) []
