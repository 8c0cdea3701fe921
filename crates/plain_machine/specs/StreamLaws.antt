-- What each word of change on channels, datagram ends and messages keeps, what it needs for that, and that no
-- byte of a direction is lost or made: the contract of `stream_laws`.
--     reads_from, writes_to      whether a read of an object takes from a direction, a write puts into it
use Rattle.std.specs.Prelude.{◌≡◌, ◌≢◌, ℕ, ◌+◌, ◌-◌, ◌<◌, ◌≤◌, Bool, true, false, List, [], ◌++◌, take, Option, Some, None, is_some, All, if◌then◌else◌}
use Rattle.std.specs.Ordering.{eq_by_cmp}
use Rattle.std.specs.FinMap as map
use Rattle.plain_tables.specs.OfViews.Limits.{DESCRIPTOR_LIMIT}
use Rattle.plain_tables.specs.OfSysAbi.declared.identity.VPid.{VPid}
use Rattle.plain_tables.specs.OfSysAbi.declared.identity.DescId.{DescId}
use Rattle.plain_tables.specs.OfSysAbi.declared.identity.Dir.{Dir}
use Rattle.plain_tables.specs.OfSysAbi.declared.reply.Reply.{Reply}
use Rattle.plain_tables.specs.OfSysAbi.declared.reply.Reply.TheVariants.{Value, Error}
use Rattle.plain_tables.specs.OfSysAbi.Orders.{dir_cmp}
use Rattle.plain_tables.specs.OfPlainProcess.Attempts.{Gives}
use Rattle.plain_tables.specs.OfPlainProcess.Valid.{IsByte}
use Rattle.plain_machine.specs.declared.kernel.PlainKernel.{PlainKernel}
use Rattle.plain_tables.specs.declared.channel.Channel.{Channel}
use Rattle.plain_tables.specs.declared.channel.ChannelKind.TheVariants.{Pipe}
use Rattle.plain_tables.specs.declared.channel.Direction.{Direction}
use Rattle.plain_tables.specs.declared.description.Description.{Description}
use Rattle.plain_tables.specs.declared.description.Object.{Object}
use Rattle.plain_tables.specs.declared.description.Object.TheVariants.{Stream}
use Rattle.plain_tables.specs.Objects.{dir}
use Rattle.plain_tables.specs.Tables.{slot}
use Rattle.plain_tables.specs.Valid.Datagrams.{IsInbox}
use Rattle.plain_tables.specs.Valid.Descriptions.{AreFlags}
use Rattle.plain_machine.specs.Attempts.{Served}
use Rattle.plain_machine.specs.Channels.{direction_at, with_direction}
use Rattle.plain_machine.specs.Kernel.{description_at, has_numbers, is_live}
use Rattle.plain_machine.specs.Kernels.{IsKernel}
use Rattle.plain_machine.specs.Making.{with_inbox, with_datagrams}
use Rattle.plain_machine.specs.Rows.Read.{read_row}
use Rattle.plain_machine.specs.Rows.Write.{write_row, is_write_ready}
use Rattle.plain_machine.specs.Serve.{is_on_console}
use Rattle.plain_machine.specs.Transfers.Streams.{is_broken, without_front, with_sent, fitting_bytes}

-- two free descriptors, one after the other
pub record AreFree (k : PlainKernel) (p : VPid) (fd other : ℕ) : Type 0 where
  pub rising : fd + 1 ≤ other
  pub low : fd < DESCRIPTOR_LIMIT
  pub low_other : other < DESCRIPTOR_LIMIT
  pub free : map.get k.descriptors (slot p fd) ≡ None
  pub free_other : map.get k.descriptors (slot p other) ≡ None

-- a pair of datagram ends more
abbrev pub DatagramsKeep : Type 0
DatagramsKeep = (k : PlainKernel) (p : VPid) (cloexec : Bool) (flags fd other : ℕ) → IsKernel k
    → is_live k p ≡ true → has_numbers k p ≡ true → AreFree k p fd other → AreFlags flags
    → IsKernel (with_datagrams k p cloexec flags fd other)

-- other messages at an end
abbrev pub InboxKeeps : Type 0
InboxKeeps = (k : PlainKernel) (d : DescId) (messages : List (List ℕ)) → IsKernel k
    → is_some (map.get k.inboxes d) ≡ true → IsInbox messages → IsKernel (with_inbox k d messages)

-- fewer bytes of those that have arrived
abbrev pub ReceivedKeeps : Type 0
ReceivedKeeps = (k : PlainKernel) (at : Dir) (direction : Direction) (n : ℕ) → IsKernel k
    → direction_at k at ≡ Some direction → n ≤ direction.arrived
    → IsKernel (with_direction k at (without_front n direction))

-- more bytes, of a side that may write, as far as there is room
abbrev pub SentKeeps : Type 0
SentKeeps = (k : PlainKernel) (at : Dir) (direction : Direction) (bytes : List ℕ) → IsKernel k
    → direction_at k at ≡ Some direction → is_broken direction ≡ false → All IsByte bytes
    → ((channel : Channel) → map.get k.channels at.conn ≡ Some channel → channel.kind ≡ Pipe
    → at.side ≢ 1)
    → IsKernel (with_direction k at (with_sent (fitting_bytes bytes direction) direction))

-- the directions of an object

abbrev pub reads_from : Dir → Object → Bool
reads_from at (Stream conn side) = eq_by_cmp dir_cmp at (dir conn (1 - side))
reads_from at _ = false

abbrev pub writes_to : Dir → Object → Bool
writes_to at (Stream conn side) = eq_by_cmp dir_cmp at (dir conn side)
writes_to at _ = false

abbrev pub is_open_by : (Object → Bool) → Option Description → Bool
is_open_by test None = false
is_open_by test (Some description) = test description.object

-- what a read gave of a direction, followed by what is left, is what was left

abbrev pub given_of : Bool → Served → List ℕ
given_of its served = if its then served.bytes else []

abbrev pub ReadsFlow : Type 0
ReadsFlow = (k : PlainKernel) (p : VPid) (fd count : ℕ) (served : Served) (at : Dir) (old new : Direction)
    → read_row k p fd count ≡ Gives served → direction_at k at ≡ Some old
    → direction_at served.kernel at ≡ Some new
    → given_of (is_open_by (reads_from at) (description_at k p fd)) served ++ new.left ≡ old.left

-- what is left after a write is what was left, followed by what the write took of its bytes

abbrev pub count_of : Reply → ℕ
count_of (Value n) = n
count_of (Error e) = 0

abbrev pub taken_of : Bool → Served → List ℕ → List ℕ
taken_of its served given = if its then take (count_of served.reply) given else []

abbrev pub WritesFlow : Type 0
WritesFlow = (k : PlainKernel) (p : VPid) (t fd count : ℕ) (given : List ℕ) (served : Served) (at : Dir)
    (old new : Direction)
    → write_row k p t fd count given ≡ Gives served → direction_at k at ≡ Some old
    → direction_at served.kernel at ≡ Some new
    → new.left ≡ old.left ++ taken_of (is_open_by (writes_to at) (description_at k p fd)) served given

-- a write on the console changes nothing, and never waits

abbrev pub ConsoleStays : Type 0
ConsoleStays = (k : PlainKernel) (p : VPid) (t fd count : ℕ) (given : List ℕ) (served : Served)
    → is_on_console (description_at k p fd) ≡ true → write_row k p t fd count given ≡ Gives served
    → served.kernel ≡ k

abbrev pub ConsoleIsReady : Type 0
ConsoleIsReady = (k : PlainKernel) (p : VPid) (fd count : ℕ) (front : List ℕ)
    → is_on_console (description_at k p fd) ≡ true → is_write_ready k p fd count front ≡ true
