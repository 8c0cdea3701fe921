-- read(fd, buffer, count) (`man 2 read`): EBADF unless the descriptor is open for reading. At most 65,536
-- bytes are read.
use Rattle.std.specs.Prelude.{ℕ, ◌-◌, not, min, Bool, true, []}
use Rattle.plain_tables.specs.OfSysAbi.declared.identity.VPid.{VPid}
use Rattle.plain_tables.specs.OfSysAbi.declared.errors.TheConstants.{EBADF, ENOTCONN}
use Rattle.plain_tables.specs.OfSysAbi.declared.transfer.TheConstants.{TRANSFER_LIMIT}
use Rattle.plain_machine.specs.declared.kernel.PlainKernel.{PlainKernel}
use Rattle.plain_tables.specs.declared.description.Object.{Object}
use Rattle.plain_tables.specs.declared.description.Object.TheVariants.{Console, File, Stream, Socket, Listener, Datagram, Counter}
use Rattle.plain_tables.specs.Objects.{dir}
use Rattle.plain_tables.specs.OfPlainProcess.Attempts.{Try, Fails, Gives, need, ◌>>=◌, ◌>>◌}
use Rattle.plain_machine.specs.Attempts.{Served}
use Rattle.plain_machine.specs.Channels.{direction_at}
use Rattle.plain_machine.specs.Kernel.{Held, held}
use Rattle.plain_machine.specs.Waiting.{need_ready, waits}
use Rattle.plain_machine.specs.Transfers.Answers.{gave, may_read}
use Rattle.plain_machine.specs.Transfers.Counters.{is_counted, read_counter}
use Rattle.plain_machine.specs.Transfers.Datagrams.{has_message, read_message}
use Rattle.plain_machine.specs.Transfers.Files.{read_file}
use Rattle.plain_machine.specs.Transfers.Streams.{is_receivable, read_stream}

-- a read of the object has an answer yet
abbrev pub is_readable : PlainKernel → Held → ℕ → Object → Bool
is_readable k h count (Stream conn side) = is_receivable count (direction_at k (dir conn (1 - side)))
is_readable k h count (Datagram peer) = has_message k h.desc peer
is_readable k h count (Counter value) = is_counted value count
is_readable k h count _ = true

abbrev pub read_object : PlainKernel → Held → ℕ → Object → Try Served
read_object k h count Console = gave k []
read_object k h count (File number offset) = read_file k h number offset count
read_object k h count (Stream conn side) = read_stream k (dir conn (1 - side)) count
read_object k h count (Socket address) = Fails ENOTCONN
read_object k h count (Listener address) = Fails ENOTCONN
read_object k h count (Datagram peer) = read_message k h.desc count
read_object k h count (Counter value) = read_counter k h value count

-- the description, where it is open for reading and a read has an answer yet
unfoldable pub read_access : PlainKernel → VPid → ℕ → ℕ → Try Held
read_access k p fd count = do
  h ← held k p fd
  need (may_read h.description.flags) EBADF
  need_ready h.description.flags (is_readable k h count h.description.object)
  Gives h

unfoldable pub read_row : PlainKernel → VPid → ℕ → ℕ → Try Served
read_row k p fd count = do
  h ← read_access k p fd (min count TRANSFER_LIMIT)
  read_object k h (min count TRANSFER_LIMIT) h.description.object

unfoldable pub is_read_ready : PlainKernel → VPid → ℕ → ℕ → Bool
is_read_ready k p fd count = not (waits (read_access k p fd (min count TRANSFER_LIMIT)))
