-- What the caller of a row over real numbers owes, in the words of the real tables.
--     IsSound real              what descriptions name is there, and only live processes have descriptors
--     IsAsking real who t       the process lives, with the thread, and was handed out its number
--     IsFresh real who req      the numbers that the request names for new things are nobody's, and a number
--                               is left for a clone
use Rattle.std.specs.Prelude.{◌≡◌, ◌≢◌, ◌<◌, ◌^◌, true, length, Option, Some, None, IsSome, option_and_then}
use Rattle.std.specs.FinMap as map
use Rattle.views.specs.Numbers.{ThreadNumber}
use Rattle.sys_abi.specs.declared.identity.DescId.{DescId}
use Rattle.sys_abi.specs.declared.identity.ConnId.{ConnId}
use Rattle.sys_abi.specs.declared.identity.RealPid.{RealPid}
use Rattle.sys_abi.specs.declared.descriptor.Descriptor.{Descriptor}
use Rattle.fd_tables.specs.declared.real_slot.RealSlot.{RealSlot}
use Rattle.fd_tables.specs.declared.description.Desc.{Desc}
use Rattle.fd_tables.specs.declared.description.Object.{Object}
use Rattle.fd_tables.specs.declared.description.Object.TheVariants.{File, Stream, Listener, Datagram}
use Rattle.fd_book.specs.Books.{Books}
use Rattle.proc_book.specs.Ends.{is_live_at}
use Rattle.proc_book.specs.Procs.{ProcTable, next_of}
use Rattle.wire_net.specs.Networks.{Network}
use Rattle.vfs_files.specs.FileTable.{Contents}
use Rattle.host_tables.specs.declared.kernel.Kernel.{Kernel}
use Rattle.host_tables.specs.declared.request.ChannelIds.{ChannelIds}
use Rattle.host_tables.specs.declared.request.PairIds.{PairIds}
use Rattle.host_tables.specs.declared.request.RealRequest.{RealRequest}
use Rattle.host_tables.specs.declared.request.RealRequest.TheVariants.{Eventfd2, Openat, Pipe2, Socket, Socketpair, Accept, Connect, Clone}
use Rattle.conn_table.specs.Pairs.{Pairs}
use Rattle.wire_net.specs.OfWireChannels.Listeners.{Listeners}

-- what an object names is there; a side is 0 or 1
abbrev pub IsThere : Contents → Listeners → Pairs → Object → Type 0
IsThere files listeners pairs (File number offset) = IsSome (map.get files number)
IsThere files listeners pairs (Stream conn side) = side < 2
IsThere files listeners pairs (Listener at) = IsSome (map.get listeners at)
IsThere files listeners pairs (Datagram queue side) = (side < 2) × IsSome (map.get pairs queue)
IsThere files listeners pairs _ = Unit {0}

pub record IsSound (real : Kernel) : Type 0 where
  pub objects : (id : DescId) (d : Desc) → map.get real.book.descriptions id ≡ Some d
      → IsThere real.files.files real.net.listeners real.datagrams d.object
  pub alive : (at : RealSlot) (d : Descriptor) → map.get real.book.descriptors at ≡ Some d
      → is_live_at real.procs.processes at.pid ≡ true

pub record IsAsking (t : ProcTable) (who : RealPid) (thread : ThreadNumber) : Type 0 where
  pub node : who.node < length t.next
  pub below : who.pid < next_of t who.node
  pub alive : is_live_at t.processes who ≡ true
  pub there : IsSome (option_and_then (λ x. map.get x.threads thread) (map.get t.processes who))

-- no description, or channel, has the number
abbrev pub IsNewDesc : Books → Option DescId → Type 0
IsNewDesc b None = Unit {0}
IsNewDesc b (Some id) = map.get b.descriptions id ≡ None

abbrev pub IsNewConn : Network → Option ConnId → Type 0
IsNewConn t None = Unit {0}
IsNewConn t (Some id) = map.get t.channels id ≡ None

pub record AreNewEnds (b : Books) (first second : DescId) : Type 0 where
  pub first_new : map.get b.descriptions first ≡ None
  pub second_new : map.get b.descriptions second ≡ None
  pub apart : first ≢ second

abbrev pub AreNewPair : Books → Option PairIds → Type 0
AreNewPair b None = Unit {0}
AreNewPair b (Some ids) = AreNewEnds b ids.first ids.second

abbrev pub AreNewChannel : Books → Network → Option ChannelIds → Type 0
AreNewChannel b t None = Unit {0}
AreNewChannel b t (Some ids) = (map.get t.channels ids.channel ≡ None) × AreNewEnds b ids.first ids.second

abbrev pub IsFresh : Kernel → RealPid → RealRequest → Type 0
IsFresh real who (Eventfd2 value flags id) = IsNewDesc real.book id
IsFresh real who (Openat directory flags id) = IsNewDesc real.book id
IsFresh real who (Pipe2 flags ids) = AreNewChannel real.book real.net ids
IsFresh real who (Socket domain socket_type protocol id) = IsNewDesc real.book id
IsFresh real who (Socketpair domain socket_type protocol streams datagrams) =
    AreNewChannel real.book real.net streams × AreNewPair real.book datagrams
IsFresh real who (Accept fd id of_pipe) = IsNewDesc real.book id
IsFresh real who (Connect fd to channel port_free of_pipe) = IsNewConn real.net channel
IsFresh real who (Clone flags) = next_of real.procs who.node < 2 ^ 32
IsFresh real who _ = Unit {0}
