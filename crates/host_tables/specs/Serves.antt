-- A real answer, and the kernel after it, are those of a plain row through the pairs.
--     Through old who M               for all given pairs, every valid kernel part for which the kernel stands,
--                                     and the process that is paired with who
--     Serves V after ..               by cases on the plain row: V is how the real value is the plain one,
--                                     and after tells by what the kernel then stands
--     ValueOf, GivenAfter, row_of     these of each call
--     ServesCall                      all of them, for a call of a thread
use Rattle.std.specs.Prelude.{◌≡◌, ◌==◌, ℕ, ◌%◌, List, [], ◌∷◌, Bool, true, false, Option, Some, None, if◌then◌else◌}
use Rattle.std.specs.FinMap as map
use Rattle.views.specs.Numbers.{Byte, ThreadNumber}
use Rattle.sys_abi.specs.declared.identity.VPid.{VPid}
use Rattle.sys_abi.specs.declared.identity.DescId.{DescId}
use Rattle.sys_abi.specs.declared.identity.ConnId.{ConnId}
use Rattle.sys_abi.specs.declared.identity.RealPid.{RealPid}
use Rattle.sys_abi.specs.declared.identity.RealAddr.{RealAddr}
use Rattle.sys_abi.specs.declared.identity.VirtAddr.{VirtAddr}
use Rattle.sys_abi.specs.declared.errors.TheConstants.{EADDRINUSE}
use Rattle.sys_abi.specs.declared.reply.Reply.{Reply}
use Rattle.sys_abi.specs.declared.reply.Reply.TheVariants.{Value, Error}
use Rattle.plain_machine.specs.OfPlainTables.Tables.{NOBODY}
use Rattle.plain_machine.specs.OfPlainProcess.Attempts.{Try, Fails, NotReady, Gives, ◌>>=◌}
use Rattle.plain_machine.specs.declared.kernel.PlainKernel.{PlainKernel}
use Rattle.plain_machine.specs.OfPlainProcess.declared.commands.FcntlCommand.{FcntlCommand}
use Rattle.plain_machine.specs.OfPlainProcess.declared.commands.FcntlCommand.TheVariants.{GetOwn}
use Rattle.plain_machine.specs.Addresses.{endpoint_of, address_at}
use Rattle.plain_machine.specs.Attempts.{Served}
use Rattle.plain_machine.specs.OfPlainProcess.Commands.{fcntl_command}
use Rattle.plain_machine.specs.Kernel.{Held, host_of}
use Rattle.plain_machine.specs.Kernels.{IsKernel}
use Rattle.plain_machine.specs.Rows.Channels.{STREAMS}
use Rattle.plain_machine.specs.Rows.Connections.{Connecting, connecting_of}
use Rattle.plain_machine.specs.Rows.Sockets.{may_listen}
use Rattle.plain_machine.specs.Serve.{row}
use Rattle.plain_machine.specs.SocketWords.{socket_at, bound_or}
use Rattle.host_tables.specs.declared.attempt.Attempt.{Attempt}
use Rattle.host_tables.specs.declared.attempt.Attempt.TheVariants as answer
use Rattle.host_tables.specs.declared.kernel.Kernel.{Kernel}
use Rattle.host_tables.specs.declared.reply.KernelReply.{KernelReply}
use Rattle.host_tables.specs.declared.reply.KernelReply.TheVariants as kernel_reply
use Rattle.host_tables.specs.declared.request.ChannelIds.{ChannelIds}
use Rattle.host_tables.specs.declared.request.RealRequest.{RealRequest}
use Rattle.host_tables.specs.declared.request.RealRequest.TheVariants.{Fcntl, Pipe2, Getpid, Getppid, Socket, Socketpair, Listen, Connect, Clone, Wait4}
use Rattle.host_tables.specs.Numbers.{real}
use Rattle.host_tables.specs.Requests.{plain_of, IsNamed}
use Rattle.host_tables.specs.Stands.{Given, Stands, with_number, with_place, with_name, open_conn, with_conn}

abbrev pub Through : Kernel → RealPid → (Given → PlainKernel → VPid → Type 0) → Type 0
Through old who M =
    (g : Given) (k : PlainKernel) (p : VPid) → IsKernel k → Stands g None old k
    → map.get g.pids p.0 ≡ Some who → M g k p

-- how a real value is the plain one, by the pairs

abbrev pub ValueRelation : Type 1
ValueRelation = ℕ → ℕ → Given → Type 0

abbrev pub ByNumber : ValueRelation
ByNumber n m g = n ≡ m

-- the number of a process or thread of the caller's node
abbrev pub ByPid : RealPid → ValueRelation
ByPid who n m g = map.get g.pids m ≡ Some (real who.node n)

-- 0 is nobody's number
abbrev pub ByPidUnless : Bool → ℕ → RealPid → ValueRelation
ByPidUnless true none who n m g = m ≡ none
ByPidUnless false none who n m g = ByPid who n m g

abbrev pub ByPidOr : ℕ → RealPid → ValueRelation
ByPidOr none who n m g = ByPidUnless (n == 0) none who n m g

-- a new port, where the guest is told 0
abbrev pub ByPort : ValueRelation
ByPort n m g = m ≡ 0

-- what stands in the transfer then: the guest's bytes where there are any
abbrev pub bytes_or : List Byte → List Byte → List Byte
bytes_or before [] = before
bytes_or before (byte ∷ bytes) = byte ∷ bytes

-- an error that changes something is answered with it (EPIPE, with its signal)
abbrev pub IsReply : (ℕ → ℕ → Type 0) → Attempt → Reply → Type 0
IsReply V (answer.Gives n) (Value m) = V n m
IsReply V (answer.Fails e) (Error f) = e ≡ f
IsReply V _ _ = ⊥

abbrev pub value_of : Attempt → ℕ
value_of (answer.Gives n) = n
value_of _ = 0

abbrev pub reply_value : Reply → ℕ
reply_value (Value m) = m
reply_value (Error e) = 0

-- what is given after a call, of its real value and its plain one
abbrev pub After : Type 0
After = ℕ → ℕ → Given → Given

abbrev pub same : After
same n m g = g

pub record Gave (V : ℕ → ℕ → Type 0) (g : Given) (new : Kernel) (before now : List Byte) (a : Attempt)
    (s : Served) : Type 0 where
  pub reply : IsReply V a s.reply
  pub bytes : now ≡ bytes_or before s.bytes
  pub stands : Stands g None new s.kernel

pub record Unchanged (old new : Kernel) (before now : List Byte) (a said : Attempt) : Type 0 where
  pub answer : a ≡ said
  pub kernel : new ≡ old
  pub bytes : now ≡ before

abbrev pub Serves : ValueRelation → After → Given → Kernel → Kernel → List Byte → List Byte → Attempt
    → Try Served → Type 0
Serves V after g old new before now a (Fails e) =
    Unchanged old new before now a (answer.Fails (record { 0 = e }))
Serves V after g old new before now a NotReady = Unchanged old new before now a answer.NotReady
Serves V after g old new before now a (Gives s) =
    let given = after (value_of a) (reply_value s.reply) g in
    Gave (λ n m. V n m given) given new before now a s

-- of each call

abbrev pub ValueOfCommand : RealPid → Option FcntlCommand → ValueRelation
ValueOfCommand who (Some GetOwn) = ByPidOr 0 who
ValueOfCommand who _ = ByNumber

abbrev pub ValueOf : RealPid → RealRequest → ValueRelation
ValueOf who (Fcntl fd command argument target) = ValueOfCommand who (fcntl_command command)
ValueOf who Getpid = ByPid who
ValueOf who Getppid = ByPidOr NOBODY who
ValueOf who (Listen fd backlog port_free of_pipe) = ByPort
ValueOf who (Clone flags) = ByPid who
ValueOf who (Wait4 number options usage target) = ByPidOr 0 who
ValueOf who _ = ByNumber

-- kinds of channels in the table of connections
abbrev pub PAIR : ℕ
PAIR = 0

abbrev pub INTERNET : ℕ
INTERNET = 1

abbrev pub PIPE : ℕ
PIPE = 2

abbrev pub with_new_name : Given → Option DescId → VirtAddr → Given
with_new_name g None a = g
with_new_name g (Some id) a = with_name g id a

abbrev pub with_new_channel : Given → Option ChannelIds → ℕ → Given
with_new_channel g None kind = g
with_new_channel g (Some ids) kind = with_conn g (open_conn ids.channel kind None None)

abbrev pub with_connection : Given → Option ConnId → Try Connecting → Given
with_connection g (Some id) (Gives c) = with_conn g (open_conn id INTERNET (Some c.own) (Some c.to))
with_connection g _ _ = g

-- the socket that listens, and its address then
unfoldable pub listened_at : PlainKernel → VPid → ℕ → Try (Held × VirtAddr)
listened_at k p fd = do
  h ← socket_at k p fd
  socket ← may_listen h.description.object
  address ← bound_or k socket EADDRINUSE
  Gives (h, address)

abbrev pub with_listening : Given → RealAddr → Try (Held × VirtAddr) → Given
with_listening g at (Gives found) = with_place (with_name g found.0.desc found.1) found.1 at
with_listening g at _ = g

abbrev pub GivenAfter : RealPid → PlainKernel → VPid → ℕ → List Byte → RealRequest → After
GivenAfter who k p length given (Pipe2 flags ids) n m g = with_new_channel g ids PIPE
GivenAfter who k p length given (Socket domain socket_type protocol id) n m g =
    with_new_name g id (address_at (host_of k p) 0)
GivenAfter who k p length given (Socketpair domain socket_type protocol streams datagrams) n m g =
    if socket_type % 16 == STREAMS then with_new_channel g streams PAIR else g
GivenAfter who k p length given (Listen fd backlog port_free of_pipe) n m g =
    with_listening g (record { node = who.node; port = n }) (listened_at k p fd)
GivenAfter who k p length given (Connect fd to channel port_free of_pipe) n m g =
    with_connection g channel (connecting_of k p fd length (endpoint_of given))
GivenAfter who k p length given (Clone flags) n m g = with_number g m (real who.node n)
GivenAfter who k p length given _ n m g = g

-- a row without its bytes, which are virtual numbers
abbrev pub silent : Try Served → Try Served
silent (Gives s) = Gives (record s { bytes = [] })
silent m = m

abbrev pub row_of : RealRequest → Try Served → Try Served
row_of (Clone flags) m = silent m
row_of _ m = m

-- a call of the real thread, whatever the length that a connect's guest names for its address
abbrev pub ServesAttempt : Kernel → Kernel → RealPid → ThreadNumber → RealRequest → List Byte → List Byte → Attempt
    → Type 0
ServesAttempt old new who thread req before now a =
    Through old who (λ g k p. (t : ThreadNumber) (length : ℕ) → map.get g.pids t ≡ Some (real who.node thread)
    → IsNamed g k who p length before req
    → Serves (ValueOf who req) (GivenAfter who k p length before req) g old new before now a
    (row_of req (row k p t (plain_of length req) before)))

-- after want of memory all is as before
abbrev pub ServesCall : Kernel → Kernel → RealPid → ThreadNumber → RealRequest → List Byte → List Byte → KernelReply
    → Type 0
ServesCall old new who thread req before now (kernel_reply.Done n) =
    ServesAttempt old new who thread req before now (answer.Gives n)
ServesCall old new who thread req before now (kernel_reply.Error e) =
    ServesAttempt old new who thread req before now (answer.Fails e)
ServesCall old new who thread req before now kernel_reply.NotReady =
    ServesAttempt old new who thread req before now answer.NotReady
ServesCall old new who thread req before now kernel_reply.Memory = (new ≡ old) × (now ≡ before)
