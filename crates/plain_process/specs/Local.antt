-- What a call does that its process answers alone: one row a call.
--     local_row user t q      the process's part after the call q of its thread t
use Rattle.std.specs.Prelude.{List, [], Option, Some, None}
use Rattle.std.specs.FinMap as map
use Rattle.elf32.specs.OfViews.Numbers.{Address, ThreadNumber, Byte}
use Rattle.call_table.specs.declared.request.Request.{Request}
use Rattle.call_table.specs.declared.request.Request.TheVariants.{SetTidAddress, Futex, SchedYield, RtSigaction, RtSigprocmask, RtSigreturn, Gettid, Brk, Munmap, Mmap}
use Rattle.call_table.specs.OfSysAbi.declared.reply.Reply.TheVariants.{Value}
use Rattle.call_table.specs.OfSysAbi.declared.errors.TheConstants.{ENOSYS}
use Rattle.plain_process.specs.declared.user_part.UserPart.{UserPart}
use Rattle.plain_process.specs.declared.user_part.ThreadPart.{ThreadPart}
use Rattle.plain_process.specs.Attempts.{Try, Fails, NotReady, Gives}
use Rattle.plain_process.specs.Buffers.{lent}
use Rattle.plain_process.specs.Replies.{error}
use Rattle.plain_process.specs.Steps.{with_thread}
use Rattle.plain_process.specs.Put.{put, put_fault}
use Rattle.plain_process.specs.Rows.Locals.{Local, Replies, Stays, local_reply}
use Rattle.plain_process.specs.Rows.Futex.{futex_row}
use Rattle.plain_process.specs.Rows.Handlers.{sigaction_row, sigprocmask_row, sigreturn_row}
use Rattle.plain_process.specs.Rows.Mappings.{brk_row, munmap_row, mmap_row}

-- set_tid_address(place) (`man 2 set_tid_address`)
abbrev pub with_clear_tid : ThreadPart → Address → ThreadPart
with_clear_tid thread place = record {
  regs = thread.regs;
  mask = thread.mask;
  clear_tid = place;
  contexts = thread.contexts;
}

unfoldable pub set_tid_address_row : UserPart → ThreadNumber → ThreadPart → Address → Try Local
set_tid_address_row user t thread place =
    local_reply (with_thread user t (with_clear_tid thread place) user.memory) t

unfoldable pub local_by : UserPart → ThreadNumber → ThreadPart → Request → List Byte → Try Local
local_by user t thread (SetTidAddress place) given = set_tid_address_row user t thread place
local_by user t thread (Futex address operation value timeout) given =
    futex_row user t given address operation value timeout
local_by user t thread SchedYield given = local_reply user 0
local_by user t thread (RtSigaction s action old_action size) given = sigaction_row user given s action size
local_by user t thread (RtSigprocmask how set old_set size) given =
    sigprocmask_row user t thread given how set size
local_by user t thread RtSigreturn given = sigreturn_row user t thread
local_by user t thread Gettid given = local_reply user t
local_by user t thread (Brk address) given = brk_row user address
local_by user t thread (Munmap address length) given = munmap_row user address length
local_by user t thread (Mmap address length protection flags fd offset) given =
    mmap_row user length protection flags
local_by user t thread _ given = Fails ENOSYS

-- an error changes nothing but the thread's registers
abbrev pub local_settled : UserPart → ThreadNumber → Request → Try Local → UserPart
local_settled user t q (Fails e) = put user t q (error e) []
local_settled user t q NotReady = user
local_settled user t q (Gives (Replies after value bytes)) = put after t q (Value value) bytes
local_settled user t q (Gives (Stays after)) = after

abbrev pub local_lent : UserPart → ThreadNumber → Request → Option ThreadPart → Option (List Byte) → UserPart
local_lent user t q None given = user
local_lent user t q (Some thread) None = put_fault user t q
local_lent user t q (Some thread) (Some given) = local_settled user t q (local_by user t thread q given)

unfoldable pub local_row : UserPart → ThreadNumber → Request → UserPart
local_row user t q = local_lent user t q (map.get user.threads t) (lent user.memory q)
