-- write(fd, buffer, count) (`man 2 write`): EBADF unless the descriptor is open for writing. `given` are the
-- bytes, of which at most 65,536 were read; t is the thread that writes. A console takes all of them.
use Rattle.std.specs.Prelude.{ℕ, not, Bool, true, List, length}
use Rattle.plain_tables.specs.OfViews.Numbers.{ThreadNumber, Byte}
use Rattle.plain_tables.specs.OfSysAbi.declared.identity.VPid.{VPid}
use Rattle.plain_tables.specs.OfSysAbi.declared.errors.TheConstants.{EBADF}
use Rattle.plain_machine.specs.declared.kernel.PlainKernel.{PlainKernel}
use Rattle.plain_tables.specs.declared.description.Object.{Object}
use Rattle.plain_tables.specs.declared.description.Object.TheVariants.{Console, File, Stream, Socket, Listener, Datagram, Counter}
use Rattle.plain_tables.specs.Objects.{dir}
use Rattle.plain_tables.specs.OfPlainProcess.Attempts.{Try, Gives, need, ◌>>=◌, ◌>>◌}
use Rattle.plain_machine.specs.Attempts.{Served, replied_on_console}
use Rattle.plain_machine.specs.Channels.{direction_at}
use Rattle.plain_machine.specs.Kernel.{Held, held}
use Rattle.plain_tables.specs.Tables.{may_write}
use Rattle.plain_machine.specs.Waiting.{need_ready, waits}
use Rattle.plain_machine.specs.Transfers.Answers.{broken_pipe}
use Rattle.plain_machine.specs.Transfers.Counters.{takes_more, write_counter}
use Rattle.plain_machine.specs.Transfers.Datagrams.{takes_message, write_message}
use Rattle.plain_machine.specs.Transfers.Files.{write_file}
use Rattle.plain_machine.specs.Transfers.Streams.{is_sendable, write_stream}

-- a write to the object has an answer yet; a counter's hangs on the front of the bytes
abbrev pub is_writable : PlainKernel → ℕ → List Byte → Object → Bool
is_writable k count front (Stream conn side) = is_sendable count (direction_at k (dir conn side))
is_writable k count front (Datagram peer) = takes_message k peer count
is_writable k count front (Counter value) = takes_more value count front
is_writable k count front _ = true

abbrev pub write_object : PlainKernel → VPid → ThreadNumber → Held → ℕ → List Byte → Object → Try Served
write_object k p t h count given Console = replied_on_console k (length given) given
write_object k p t h count given (File number offset) = write_file k h number offset given
write_object k p t h count given (Stream conn side) = write_stream k p t (dir conn side) count given
write_object k p t h count given (Socket address) = broken_pipe k p t
write_object k p t h count given (Listener address) = broken_pipe k p t
write_object k p t h count given (Datagram peer) = write_message k peer count given
write_object k p t h count given (Counter value) = write_counter k h value count given

-- the description, where it is open for writing and a write has an answer yet
unfoldable pub write_access : PlainKernel → VPid → ℕ → ℕ → List Byte → Try Held
write_access k p fd count front = do
  h ← held k p fd
  need (may_write h.description.flags) EBADF
  need_ready h.description.flags (is_writable k count front h.description.object)
  Gives h

unfoldable pub write_row : PlainKernel → VPid → ThreadNumber → ℕ → ℕ → List Byte → Try Served
write_row k p t fd count given = do
  h ← write_access k p fd count given
  write_object k p t h count given h.description.object

unfoldable pub is_write_ready : PlainKernel → VPid → ℕ → ℕ → List Byte → Bool
is_write_ready k p fd count front = not (waits (write_access k p fd count front))
