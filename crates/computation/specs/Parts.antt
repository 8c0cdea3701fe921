-- What a record leaves of the parts of a computation.
--     AsksAt, StandsAt           where a thread stands
--     kernel_found, delivery_at  what a delivery finds, and what it comes to
--     kernel_after, guests_after what it leaves: a signal that kills takes the process away
--     with_twin                  the guests with the child that a fork is to make, under the number that it will have
--     grown_by                   the guests with the child that an answer makes
--     HasServed                  what a call that was served left; CanAnswer, its answer can be put
use Rattle.std.specs.Prelude.{◌≡◌, ◌≤◌, ℕ, Bool, true, false, List, [], Option, Some, None, IfSome, if◌then◌else◌}
use Rattle.std.specs.FinMap as map
use Rattle.views.specs.Numbers.{Byte}
use Rattle.sys_abi.specs.declared.identity.VPid.{VPid}
use Rattle.call_table.specs.declared.delivery.Delivered.{Delivered}
use Rattle.call_table.specs.declared.delivery.Delivered.TheVariants.{Kills}
use Rattle.sys_abi.specs.declared.reply.Reply.{Reply}
use Rattle.sys_abi.specs.declared.reply.Reply.TheVariants.{Value, Error}
use Rattle.call_table.specs.declared.request.Request.{Request}
use Rattle.sys_abi.specs.Orders.{vpid_cmp}
use Rattle.plain_process.specs.declared.user_part.UserPart.{UserPart}
use Rattle.plain_process.specs.Deliveries.{Delivery, deliver, traps_with}
use Rattle.sys_abi.specs.Clones.{clone_form}
use Rattle.call_table.specs.declared.request.Request.TheVariants.{Clone}
use Rattle.plain_process.specs.Buffers.{filled_spans}
use Rattle.plain_process.specs.Put.{CanTake, added_thread, made_by}
use Rattle.plain_process.specs.Valid.{CanAdd}
use Rattle.sys_abi.specs.declared.cloning.CloneForm.{CloneForm}
use Rattle.sys_abi.specs.declared.cloning.CloneForm.TheVariants.{Fork}
use Rattle.plain_process.specs.Steps.{Asks, user_step}
use Rattle.plain_process.specs.Threads.{child_of}
use Rattle.plain_process.specs.Twins.{twin_of}
use Rattle.plain_machine.specs.declared.kernel.PlainKernel.{PlainKernel}
use Rattle.plain_machine.specs.Ends.{after_end}
use Rattle.plain_machine.specs.Attempts.{Served}
use Rattle.plain_machine.specs.Kernel.{after_take}
use Rattle.plain_machine.specs.Records.{Users, is_unready}
use Rattle.plain_machine.specs.Serve.{serve}
use Rattle.host_tables.specs.declared.reply.KernelReply.{KernelReply}
use Rattle.host_tables.specs.declared.reply.KernelReply.TheVariants.{Done}
use Rattle.host_tables.specs.declared.reply.KernelReply.TheVariants as told
use Rattle.host_tables.specs.Serves.{bytes_or}
use Rattle.guest_proc.specs.Guests.{GuestPart, HasThread, ran_at}
use Rattle.guest_proc.specs.declared.ran.Ran.{Ran}

abbrev pub Guests : Type 0
Guests = map.FinMap vpid_cmp GuestPart

-- a thread of this process stands at this call
pub record AsksAt (users : Users) (p : VPid) (t : ℕ) (q : Request) : Type 0 where
  pub user : UserPart
  pub there : map.get users p ≡ Some user
  pub asks : user_step user t ≡ Asks q

-- a look at a thread of this process tells this
pub record StandsAt (users : Users) (p : VPid) (t : ℕ) (ran : Ran) : Type 0 where
  pub user : UserPart
  pub there : map.get users p ≡ Some user
  pub thread : HasThread user t
  pub stands : ran ≡ ran_at (user_step user t)

-- the signal of a trap stays pending where it is
abbrev pub kernel_found : PlainKernel → VPid → ℕ → ℕ → UserPart → PlainKernel
kernel_found k p t s user = if traps_with (user_step user t) s then k else after_take k p t s

abbrev pub delivery_at : PlainKernel → Users → VPid → ℕ → ℕ → UserPart → Delivery
delivery_at k users p t s user =
    deliver user t s (is_unready (record { kernel = k; users = users }) p t user (user_step user t))

abbrev pub kernel_after : PlainKernel → VPid → Delivered → PlainKernel
kernel_after k p (Kills status) = after_end k p status
kernel_after k p _ = k

abbrev pub guests_after : Guests → VPid → Delivered → Guests
guests_after guests p (Kills status) = map.remove guests p
guests_after guests p _ = guests

abbrev pub grown_by : Guests → UserPart → ℕ → Request → VPid → Option ℕ → Guests
grown_by guests user t q next None = guests
grown_by guests user t q next (Some number) =
    map.insert guests next (record { pid = next; user = child_of user t next.0 q; spare = 0 })

-- the caller's guest has room for a thread that the answer adds, and there is the child that it makes
pub record Grown (before after : Guests) (p : VPid) (guest : GuestPart) (t : ℕ) (q : Request) (reply : Reply)
    (next : VPid) : Type 0 where
  pub spare : ℕ
  pub room : IfSome (added_thread q reply) (λ _. 1 ≤ spare)
  pub guests : after ≡ grown_by (map.insert before p (record guest { spare = spare })) guest.user t q next
      (made_by q reply)

-- there is room for a thread that the call's answer adds
pub record Reserved (before after : Guests) (p : VPid) (guest : GuestPart) (q : Request) : Type 0 where
  pub spare : ℕ
  pub room : (reply : Reply) → IfSome (added_thread q reply) (λ _. 1 ≤ spare)
  pub guests : after ≡ map.insert before p (record guest { spare = spare })

abbrev pub is_fork_form : Option CloneForm → Bool
is_fork_form (Some Fork) = true
is_fork_form _ = false

abbrev pub is_fork : Request → Bool
is_fork (Clone flags stack parent_tid tls child_tid) = is_fork_form (clone_form flags)
is_fork _ = false

-- the child that a fork is to make stands at the call, as its parent does
abbrev pub with_twin : Guests → GuestPart → ℕ → Request → VPid → Guests
with_twin guests guest t q next =
    if is_fork q then
    map.insert guests next (record { pid = guest.pid; user = twin_of guest.user t; spare = 0 })
    else
    guests

abbrev pub born_if : Bool → VPid → Option ℕ
born_if is_born next = if is_born then Some next.0 else None

-- how the real kernel tells an answer
abbrev pub told_as : Reply → KernelReply
told_as (Value n) = Done n
told_as (Error e) = told.Error e

-- a call was served: the kernel part, the answer and the bytes in the transfer are those of its row
pub record HasServed (before after : PlainKernel) (p : VPid) (t : ℕ) (q : Request) (given left : List Byte)
    (reply : Reply) : Type 0 where
  pub served : Served
  pub serves : serve before p t q given ≡ Some served
  pub kernel : after ≡ served.kernel
  pub answer : reply ≡ served.reply
  pub bytes : left ≡ bytes_or given served.bytes

-- the bytes in the transfer that are put: none where the call is refused
abbrev pub given_back : Reply → List Byte → List Byte
given_back (Value n) bytes = bytes
given_back (Error e) bytes = []

-- the answer can be put
pub record CanAnswer (guests : Guests) (p : VPid) (q : Request) (reply : Reply) (bytes : List Byte)
    : Type 0 where
  pub guest : GuestPart
  pub there : map.get guests p ≡ Some guest
  pub writable : CanTake guest.user.memory (filled_spans guest.user.memory q) bytes
  pub added : CanAdd guest.user q reply
  pub spare : IfSome (added_thread q reply) (λ _. 1 ≤ guest.spare)

-- the guest of a process after its call, gone where the process has ended
abbrev pub left_by : Bool → Guests → VPid → GuestPart → Guests
left_by lives guests p answered = if lives then map.insert guests p answered else map.remove guests p
