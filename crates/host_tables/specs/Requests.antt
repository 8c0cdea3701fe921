-- A call over real numbers, and the plain call that it is.
--     plain_of length req           the plain call; what no row reads is 0, and length is that of a connect's
--                                   address
--     leads_to_pipe k p fd          a descriptor that is open leads to an end of a pipe
--     IsNamed g k who p length given req      what it names is what is paired with what the guest names, and
--                                   the numbers for new things are the next ones of their process
use Rattle.std.specs.Prelude.{◌≡◌, ◌==◌, ◌||◌, ℕ, ◌+◌, ◌<◌, nat_le, nat_lt, not, Bool, true, false, List, Option, Some, None, IsSome, is_some, option_and_then, Result, Ok, Err, if◌then◌else◌}
use Rattle.std.specs.FinMap as map
use Rattle.views.specs.Numbers.{Byte}
use Rattle.sys_abi.specs.declared.identity.VPid.{VPid}
use Rattle.sys_abi.specs.declared.identity.DescId.{DescId}
use Rattle.sys_abi.specs.declared.identity.ConnId.{ConnId}
use Rattle.sys_abi.specs.declared.identity.RealPid.{RealPid}
use Rattle.sys_abi.specs.declared.identity.RealAddr.{RealAddr}
use Rattle.sys_abi.specs.declared.identity.VirtAddr.{VirtAddr}
use Rattle.sys_abi.specs.declared.reply.Errno.{Errno}
use Rattle.sys_abi.specs.declared.errors.TheConstants.{EINVAL, EAFNOSUPPORT}
use Rattle.call_table.specs.declared.request.Request.{Request}
use Rattle.call_table.specs.declared.request.Request.TheVariants as plain
use Rattle.plain_machine.specs.OfPlainTables.declared.description.Object.{Object}
use Rattle.plain_machine.specs.OfPlainTables.declared.description.Object.TheVariants as object
use Rattle.plain_machine.specs.OfPlainTables.Tables.{pid, same_host}
use Rattle.plain_machine.specs.OfPlainProcess.Attempts.{Try, Gives}
use Rattle.plain_machine.specs.declared.kernel.PlainKernel.{PlainKernel}
use Rattle.plain_machine.specs.Addresses.{AF_INET, ADDRESS_SIZE, Endpoint, endpoint_of, named_host, address_at, automatic_port}
use Rattle.plain_machine.specs.Kernel.{Held, held, made_of, has_numbers}
use Rattle.plain_machine.specs.Making.{desc_id, conn_id}
use Rattle.plain_machine.specs.Rows.Clone.{LAST_ID}
use Rattle.plain_machine.specs.SocketWords.{is_pipe_channel}
use Rattle.host_tables.specs.declared.request.ChannelIds.{ChannelIds}
use Rattle.host_tables.specs.declared.request.PairIds.{PairIds}
use Rattle.host_tables.specs.declared.request.RealRequest.{RealRequest}
use Rattle.host_tables.specs.declared.request.RealRequest.TheVariants.{Eventfd2, Dup, Dup3, Fcntl, Unlinkat, Openat, Close, Pipe2, Lseek, Read, Write, Exit, ExitGroup, Kill, Tgkill, Getpid, Getppid, Socket, Socketpair, Listen, Accept, Connect, Setsockopt, Shutdown, Clone, Wait4, Unknown}
use Rattle.host_tables.specs.Numbers.{Pids, to_real_thread}
use Rattle.host_tables.specs.Descriptions.{Addresses}
use Rattle.host_tables.specs.Stands.{Given}

-- an accept asks for no address here
abbrev pub plain_of : ℕ → RealRequest → Request
plain_of length (Eventfd2 value flags id) = plain.Eventfd2 value flags
plain_of length (Dup fd) = plain.Dup fd
plain_of length (Dup3 fd to flags) = plain.Dup3 fd to flags
plain_of length (Fcntl fd command argument target) = plain.Fcntl fd command argument
plain_of length (Unlinkat directory flags) = plain.Unlinkat directory 0 flags
plain_of length (Openat directory flags id) = plain.Openat directory 0 flags 0
plain_of length (Close fd) = plain.Close fd
plain_of length (Pipe2 flags ids) = plain.Pipe2 0 flags
plain_of length (Lseek fd offset whence) = plain.Lseek fd offset whence
plain_of length (Read fd count) = plain.Read fd 0 count
plain_of length (Write fd count) = plain.Write fd 0 count
plain_of length (Exit code) = plain.Exit code
plain_of length (ExitGroup code) = plain.ExitGroup code
plain_of length (Kill number s target) = plain.Kill number s
plain_of length (Tgkill number tid s target thread) = plain.Tgkill number tid s
plain_of length Getpid = plain.Getpid
plain_of length Getppid = plain.Getppid
plain_of length (Socket domain socket_type protocol id) = plain.Socket domain socket_type protocol
plain_of length (Socketpair domain socket_type protocol streams datagrams) =
    plain.Socketpair domain socket_type protocol 0
plain_of length (Listen fd backlog port_free of_pipe) = plain.Listen fd backlog
plain_of length (Accept fd id of_pipe) = plain.Accept fd 0 0
plain_of length (Connect fd to channel port_free of_pipe) = plain.Connect fd 0 length
plain_of length (Setsockopt fd of_pipe) = plain.Setsockopt fd 0 0 0 0
plain_of length (Shutdown fd how of_pipe) = plain.Shutdown fd how
plain_of length (Clone flags) = plain.Clone flags 0 0 0 0
plain_of length (Wait4 number options usage target) = plain.Wait4 number 0 options usage
plain_of length (Unknown number) = plain.Unknown number

-- the process of the caller's host that has the number, live or not
abbrev pub neighbour_of : Pids → PlainKernel → VPid → ℕ → Option RealPid
neighbour_of pids k p number =
    if same_host (map.get k.makers p) (map.get k.makers (pid number)) then map.get pids number else None

-- the next numbers of a process for what it makes, none where it has no more to give out
abbrev pub next_desc : PlainKernel → VPid → Option DescId
next_desc k p = if has_numbers k p then Some (desc_id p (made_of k p)) else None

abbrev pub next_conn : PlainKernel → VPid → Option ConnId
next_conn k p = if has_numbers k p then Some (conn_id p (made_of k p)) else None

abbrev pub next_channel : PlainKernel → VPid → Option ChannelIds
next_channel k p =
    let made = made_of k p in
    if has_numbers k p then Some (record {
      channel = conn_id p made;
      first = desc_id p (made + 1);
      second = desc_id p (made + 2);
    }) else None

abbrev pub next_pair : PlainKernel → VPid → Option PairIds
next_pair k p =
    let made = made_of k p in
    if has_numbers k p then Some (record { first = desc_id p made; second = desc_id p (made + 1) }) else None

-- a socket has a port, or its host a free one
abbrev pub has_port : PlainKernel → VirtAddr → Bool
has_port k address = not (address.port == 0) || is_some (automatic_port k address.host)

-- the port at which the address that the bytes name is listened, or why they are no address
abbrev pub place_named : Addresses → VirtAddr → Endpoint → Option RealAddr
place_named addresses own endpoint =
    option_and_then (λ host. map.get addresses (address_at host endpoint.port)) (named_host own.host endpoint)

abbrev pub target_of : Addresses → VirtAddr → ℕ → List Byte → Result (Option RealAddr) Errno
target_of addresses own length given =
    if not (nat_le ADDRESS_SIZE length) then Err (record { 0 = EINVAL }) else
    if not ((endpoint_of given).family == AF_INET) then Err (record { 0 = EAFNOSUPPORT }) else
    Ok (place_named addresses own (endpoint_of given))

-- of a descriptor that is no socket nothing is asked
abbrev pub IfSocket : Object → (VirtAddr → Type 0) → Type 0
IfSocket (object.Socket address) M = M address
IfSocket _ M = Unit {0}

abbrev pub IfHeld : Try Held → (VirtAddr → Type 0) → Type 0
IfHeld (Gives h) M = IfSocket h.description.object M
IfHeld _ M = Unit {0}

pub record ConnectNames (g : Given) (k : PlainKernel) (length : ℕ) (given : List Byte)
    (to : Result (Option RealAddr) Errno) (port_free : Bool) (own : VirtAddr) : Type 0 where
  pub to_is : to ≡ target_of g.addresses own length given
  pub port_is : port_free ≡ has_port k own

-- an end of a pipe is no socket
abbrev pub is_pipe_end : PlainKernel → Object → Bool
is_pipe_end k (object.Stream conn side) = is_pipe_channel (map.get k.channels conn)
is_pipe_end k _ = false

abbrev pub holds_pipe : PlainKernel → Try Held → Bool
holds_pipe k (Gives h) = is_pipe_end k h.description.object
holds_pipe k _ = false

abbrev pub leads_to_pipe : PlainKernel → VPid → ℕ → Bool
leads_to_pipe k p fd = holds_pipe k (held k p fd)

-- only numbers and addresses that are in use are paired
abbrev pub AreBelow : Given → ℕ → Type 0
AreBelow g next_id = (v : ℕ) (r : RealPid) → map.get g.pids v ≡ Some r → v < next_id

abbrev pub AreListened : Given → PlainKernel → Type 0
AreListened g k = (a : VirtAddr) (at : RealAddr) → map.get g.addresses a ≡ Some at
    → IsSome (map.get k.listeners a)

abbrev pub IsNamed : Given → PlainKernel → RealPid → VPid → ℕ → List Byte → RealRequest → Type 0
IsNamed g k who p length given (Eventfd2 value flags id) = id ≡ next_desc k p
IsNamed g k who p length given (Fcntl fd command argument target) = target ≡ neighbour_of g.pids k p argument
IsNamed g k who p length given (Openat directory flags id) = id ≡ next_desc k p
IsNamed g k who p length given (Pipe2 flags ids) = ids ≡ next_channel k p
IsNamed g k who p length given (Kill number s target) = target ≡ neighbour_of g.pids k p number
IsNamed g k who p length given (Tgkill number tid s target thread) =
    (target ≡ neighbour_of g.pids k p number) × (thread ≡ to_real_thread g.pids who.node tid)
IsNamed g k who p length given (Socket domain socket_type protocol id) = id ≡ next_desc k p
IsNamed g k who p length given (Socketpair domain socket_type protocol streams datagrams) =
    (streams ≡ next_channel k p) × (datagrams ≡ next_pair k p)
IsNamed g k who p length given (Listen fd backlog port_free of_pipe) =
    (of_pipe ≡ leads_to_pipe k p fd)
    × (IfHeld (held k p fd) (λ own. port_free ≡ has_port k own) × AreListened g k)
IsNamed g k who p length given (Accept fd id of_pipe) = (of_pipe ≡ leads_to_pipe k p fd) × (id ≡ next_desc k p)
IsNamed g k who p length given (Connect fd to channel port_free of_pipe) =
    (of_pipe ≡ leads_to_pipe k p fd)
    × ((channel ≡ next_conn k p) × IfHeld (held k p fd) (ConnectNames g k length given to port_free))
IsNamed g k who p length given (Setsockopt fd of_pipe) = of_pipe ≡ leads_to_pipe k p fd
IsNamed g k who p length given (Shutdown fd how of_pipe) = of_pipe ≡ leads_to_pipe k p fd
IsNamed g k who p length given (Clone flags) = (nat_lt k.next_id LAST_ID ≡ true) × AreBelow g k.next_id
IsNamed g k who p length given (Wait4 number options usage target) =
    target ≡ neighbour_of g.pids k p number
IsNamed g k who p length given _ = Unit {0}
