-- What a kernel call does: one row a call. A call that the machine doesn't know answers ENOSYS.
--     row k p t q given            the row of the call q of thread t of p, which reads the bytes given
--     serve k p t q given          its answer: none where the call waits
--     is_ready k p t q front       whether it doesn't wait, by the front of what it reads
use Rattle.std.specs.Prelude.{Bool, true, false, List, ◌++◌, take, replicate, Option, Some, None}
use Rattle.plain_tables.specs.OfViews.Numbers.{ThreadNumber, Byte}
use Rattle.plain_tables.specs.OfSysAbi.declared.identity.VPid.{VPid}
use Rattle.plain_tables.specs.OfSysAbi.declared.errors.TheConstants.{ENOSYS}
use Rattle.plain_tables.specs.OfCallTable.declared.request.Request.{Request}
use Rattle.plain_tables.specs.OfCallTable.declared.request.Request.TheVariants.{Eventfd2, Dup, Dup3, Fcntl, Unlinkat, Openat, Close, Pipe2, Lseek, Read, Write, Exit, ExitGroup, Kill, Tgkill, Getpid, Getppid, Socket, Socketpair, Bind, Listen, Accept, Connect, Getsockname, Getpeername, Setsockopt, Shutdown, Clone, Wait4}
use Rattle.plain_tables.specs.declared.description.Description.{Description}
use Rattle.plain_tables.specs.declared.description.Object.{Object}
use Rattle.plain_tables.specs.declared.description.Object.TheVariants.{Console}
use Rattle.plain_machine.specs.declared.kernel.PlainKernel.{PlainKernel}
use Rattle.plain_tables.specs.OfPlainProcess.Attempts.{Try, Fails}
use Rattle.plain_machine.specs.Attempts.{Served, settled}
use Rattle.plain_machine.specs.Rows.Channels.{pipe2_row, socketpair_row}
use Rattle.plain_machine.specs.Rows.Clone.{clone_row}
use Rattle.plain_machine.specs.Rows.Connections.{accept_row, connect_row, is_accept_ready, is_connect_ready}
use Rattle.plain_machine.specs.Rows.Counters.{eventfd2_row}
use Rattle.plain_machine.specs.Rows.Descriptors.{dup_row, dup3_row, fcntl_row, close_row}
use Rattle.plain_machine.specs.Rows.End.{exit_group_row, exit_row}
use Rattle.plain_machine.specs.Rows.Files.{openat_row, unlinkat_row, lseek_row}
use Rattle.plain_machine.specs.Rows.Numbers.{getpid_row, getppid_row}
use Rattle.plain_machine.specs.Rows.Read.{read_row, is_read_ready}
use Rattle.plain_machine.specs.Rows.Send.{kill_row, tgkill_row}
use Rattle.plain_machine.specs.Rows.Sockets.{socket_row, bind_row, listen_row, getsockname_row, getpeername_row, setsockopt_row, shutdown_row}
use Rattle.plain_machine.specs.Rows.Wait.{wait4_row, is_wait4_ready}
use Rattle.plain_machine.specs.Rows.Write.{write_row, is_write_ready}

unfoldable pub row : PlainKernel → VPid → ThreadNumber → Request → List Byte → Try Served
row k p t (Eventfd2 value flags) given = eventfd2_row k p value flags
row k p t (Dup fd) given = dup_row k p fd
row k p t (Dup3 fd to flags) given = dup3_row k p fd to flags
row k p t (Fcntl fd command argument) given = fcntl_row k p fd command argument
row k p t (Unlinkat directory path flags) given = unlinkat_row k p directory flags given
row k p t (Openat directory path flags mode) given = openat_row k p directory flags given
row k p t (Close fd) given = close_row k p fd
row k p t (Pipe2 fds flags) given = pipe2_row k p flags
row k p t (Lseek fd offset whence) given = lseek_row k p fd offset whence
row k p t (Read fd buffer count) given = read_row k p fd count
row k p t (Write fd buffer count) given = write_row k p t fd count given
row k p t (Exit code) given = exit_row k p t code
row k p t (ExitGroup code) given = exit_group_row k p code
row k p t (Kill number s) given = kill_row k p number s
row k p t (Tgkill number tid s) given = tgkill_row k p number tid s
row k p t Getpid given = getpid_row k p
row k p t Getppid given = getppid_row k p
row k p t (Socket domain socket_type protocol) given = socket_row k p domain socket_type protocol
row k p t (Socketpair domain socket_type protocol fds) given = socketpair_row k p domain socket_type protocol
row k p t (Bind fd address length) given = bind_row k p fd length given
row k p t (Listen fd backlog) given = listen_row k p fd backlog
row k p t (Accept fd address length) given = accept_row k p fd address given
row k p t (Connect fd address length) given = connect_row k p fd length given
row k p t (Getsockname fd address length) given = getsockname_row k p fd given
row k p t (Getpeername fd address length) given = getpeername_row k p fd given
row k p t (Setsockopt fd level name value length) given = setsockopt_row k p fd
row k p t (Shutdown fd how) given = shutdown_row k p fd how
row k p t (Clone flags stack parent_tid tls child_tid) given = clone_row k p flags
row k p t (Wait4 number status options usage) given = wait4_row k p number options usage
row k p t _ given = Fails ENOSYS

unfoldable pub serve : PlainKernel → VPid → ThreadNumber → Request → List Byte → Option Served
serve k p t q given = settled k (row k p t q given)

-- the first 16 bytes of what a call reads, with zeros where it reads fewer
abbrev pub front_of : List Byte → List Byte
front_of given = take 16 (given ++ replicate 16 0)

-- only these calls may wait
unfoldable pub is_ready : PlainKernel → VPid → ThreadNumber → Request → List Byte → Bool
is_ready k p t (Read fd buffer count) front = is_read_ready k p fd count
is_ready k p t (Write fd buffer count) front = is_write_ready k p fd count front
is_ready k p t (Accept fd address length) front = is_accept_ready k p fd
is_ready k p t (Connect fd address length) front = is_connect_ready k p fd length front
is_ready k p t (Wait4 number status options usage) front = is_wait4_ready k p number options usage
is_ready k p t _ front = true

abbrev pub is_console : Object → Bool
is_console Console = true
is_console _ = false

abbrev pub is_on_console : Option Description → Bool
is_on_console None = true
is_on_console (Some description) = is_console description.object
