-- Each kernel call meets the law of rows: one line a call, each proved beside its family.
--     each_row      each_is_served, ready_by_front, serve_is_short      the laws of `serve`
use Rattle.std.proofs.Common.{◌≡◌, ℕ, ◌≤◌, List, length, refl}
use Rattle.std.specs.Prelude.{Some}
use Rattle.plain_tables.specs.OfSysAbi.declared.identity.VPid.{VPid}
use Rattle.plain_tables.specs.OfSysAbi.declared.errors.TheConstants.{ENOSYS}
use Rattle.plain_tables.specs.OfCallTable.declared.request.Request.{Request}
use Rattle.plain_tables.specs.OfCallTable.declared.request.Request.TheVariants.{Eventfd2, Dup, Dup3, Fcntl, Unlinkat, Openat, Close, Pipe2, Lseek, Read, Write, Exit, ExitGroup, Kill, Tgkill, Getpid, Getppid, Socket, Socketpair, Bind, Listen, Accept, Connect, Getsockname, Getpeername, Setsockopt, Shutdown, Clone, Wait4}
use Rattle.plain_machine.specs.declared.kernel.PlainKernel.{PlainKernel}
use Rattle.plain_tables.specs.OfSysAbi.declared.transfer.TheConstants.{TRANSFER_LIMIT}
use Rattle.plain_machine.specs.Attempts.{Served}
use Rattle.plain_machine.specs.Laws.{EachIsServed, ReadyByFront}
use Rattle.plain_machine.specs.RowLaws.{IsAsked}
use Rattle.plain_machine.specs.Serve.{row, serve, is_ready}
use Rattle.plain_machine.proofs.RowBounds.{RowLaw, unbuilt}
use Rattle.plain_machine.proofs.Rows.Channels.{pipe2_law, socketpair_law}
use Rattle.plain_machine.proofs.Rows.Clone.{clone_law}
use Rattle.plain_machine.proofs.Rows.Connections.{accept_law, connect_law}
use Rattle.plain_machine.proofs.Rows.Counters.{eventfd2_law}
use Rattle.plain_machine.proofs.Rows.Descriptors.{dup_law, dup3_law, fcntl_law, close_law}
use Rattle.plain_machine.proofs.Rows.End.{exit_group_law, exit_law}
use Rattle.plain_machine.proofs.Rows.Files.{openat_law, unlinkat_law, lseek_law}
use Rattle.plain_machine.proofs.Rows.Numbers.{getpid_law, getppid_law}
use Rattle.plain_machine.proofs.Rows.Read.{read_law}
use Rattle.plain_machine.proofs.Rows.Send.{kill_law, tgkill_law}
use Rattle.plain_machine.proofs.Rows.Sockets.{socket_law, bind_law, listen_law, getsockname_law, getpeername_law, setsockopt_law, shutdown_law}
use Rattle.plain_machine.proofs.Rows.Wait.{wait4_law}
use Rattle.plain_machine.proofs.Rows.Write.{write_law}

each_row : (k : PlainKernel) (p : VPid) (t : ℕ) (q : Request) (given : List ℕ) → RowLaw k p t q given
unfolding row is_ready
each_row k p t (Eventfd2 value flags) given = eventfd2_law k p t given value flags
each_row k p t (Dup fd) given = dup_law k p t given fd
each_row k p t (Dup3 fd to flags) given = dup3_law k p t given fd to flags
each_row k p t (Fcntl fd command argument) given = fcntl_law k p t given fd command argument
each_row k p t (Unlinkat directory path flags) given = unlinkat_law k p t given directory path flags
each_row k p t (Openat directory path flags mode) given = openat_law k p t given directory path flags mode
each_row k p t (Close fd) given = close_law k p t given fd
each_row k p t (Pipe2 fds flags) given = pipe2_law k p t given fds flags
each_row k p t (Lseek fd offset whence) given = lseek_law k p t given fd offset whence
each_row k p t (Read fd buffer count) given = read_law k p t given fd buffer count
each_row k p t (Write fd buffer count) given = write_law k p t fd buffer count given
each_row k p t (Exit code) given = exit_law k p t code given
each_row k p t (ExitGroup code) given = exit_group_law k p t code given
each_row k p t (Kill number s) given = kill_law k p t number s given
each_row k p t (Tgkill number u s) given = tgkill_law k p t number s given u
each_row k p t Getpid given = getpid_law k p t given
each_row k p t Getppid given = getppid_law k p t given
each_row k p t (Socket domain socket_type protocol) given = socket_law k p t given domain socket_type protocol
each_row k p t (Socketpair domain socket_type protocol fds) given = socketpair_law k p t given domain socket_type protocol fds
each_row k p t (Bind fd address length) given = bind_law k p t given fd address length
each_row k p t (Listen fd backlog) given = listen_law k p t given fd backlog
each_row k p t (Accept fd address length) given = accept_law k p t given fd address length
each_row k p t (Connect fd address length) given = connect_law k p t given fd address length
each_row k p t (Getsockname fd address length) given = getsockname_law k p t given fd address length
each_row k p t (Getpeername fd address length) given = getpeername_law k p t given fd address length
each_row k p t (Setsockopt fd level name value length) given = setsockopt_law k p t given fd level name value length
each_row k p t (Shutdown fd how) given = shutdown_law k p t given fd how
each_row k p t (Clone flags stack parent_tid tls child_tid) given = clone_law k p t flags stack parent_tid tls child_tid given
each_row k p t (Wait4 number status options usage) given = wait4_law k p t given number status options usage
each_row k p t q given = unbuilt k p t q given ENOSYS refl refl refl

pub each_is_served : EachIsServed
each_is_served k p t q given served asked goes = ((each_row k p t q given).served.each served goes).law asked

pub ready_by_front : ReadyByFront
ready_by_front k p t q given = (each_row k p t q given).ready

pub serve_is_short : (k : PlainKernel) (p : VPid) (t : ℕ) (q : Request) (given : List ℕ) (served : Served) → serve k p t q given ≡ Some served → length served.bytes ≤ TRANSFER_LIMIT
serve_is_short k p t q given served goes = ((each_row k p t q given).served.each served goes).short
