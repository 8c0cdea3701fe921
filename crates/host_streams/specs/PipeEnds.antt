-- Which descriptors lead to sockets: an end of a pipe is none. Which channels are pipes is told by the table
-- of channels, and not by the kernel over real numbers.
-- Source: `man 2 shutdown` (ENOTSOCK), `man 7 pipe`.
--     is_pipe_of conns found        what a look-up found is an end of a pipe, by the table
--     is_socket_unless of_pipe o    a socket, where of_pipe tells whether a stream is of a pipe
--     socket_in b at of_pipe        the socket of a descriptor that is there, or why it leads to none
use Rattle.std.specs.Prelude.{Bool, true, false, not, Option, Some, None, Result, Ok, Err, if◌then◌else◌}
use Rattle.std.specs.FinMap as map
use Rattle.sys_abi.specs.declared.errors.TheConstants.{EBADF, ENOTSOCK}
use Rattle.sys_abi.specs.declared.reply.Errno.{Errno}
use Rattle.fd_book.specs.Books.{Books}
use Rattle.fd_tables.specs.declared.description.Object as real_object
use Rattle.fd_tables.specs.declared.description.Object.TheVariants as real
use Rattle.fd_tables.specs.declared.real_slot.RealSlot.{RealSlot}
use Rattle.host_processes.specs.HandedOn.{Held}
use Rattle.host_processes.specs.HandedOn.{held_in}
use Rattle.host_processes.specs.OfHostTables.Network.{Conns, is_pipe_conn}

abbrev pub is_pipe_object : Conns → real_object.Object → Bool
is_pipe_object conns (real.Stream conn side) = is_pipe_conn (map.get conns conn)
is_pipe_object conns _ = false

abbrev pub is_pipe_of : Conns → Option Held → Bool
is_pipe_of conns None = false
is_pipe_of conns (Some h) = is_pipe_object conns h.description.object

abbrev pub is_socket_unless : Bool → real_object.Object → Bool
is_socket_unless of_pipe (real.Stream conn side) = not of_pipe
is_socket_unless of_pipe real.Socket = true
is_socket_unless of_pipe (real.Listener at) = true
is_socket_unless of_pipe (real.Datagram queue side) = true
is_socket_unless of_pipe _ = false

abbrev pub socket_by : Option Held → Bool → Result Held Errno
socket_by None of_pipe = Err (record { 0 = EBADF })
socket_by (Some h) of_pipe =
    if is_socket_unless of_pipe h.description.object then Ok h else Err (record { 0 = ENOTSOCK })

abbrev pub socket_in : Books → RealSlot → Bool → Result Held Errno
socket_in b at of_pipe = socket_by (held_in b at) of_pipe
