-- What each call that the kernel answers leaves of what the pairs are about.
--     passed_keeps      each that changes no pair, no name and no maker
use Rattle.std.proofs.Common.{◌≡◌, ℕ, ◌-◌, Bool, true, false, List, [], ◌∷◌, Option, Some, None, refl, sym, ap, ◌∙◌}
use Rattle.std.specs.Prelude.{◌==◌, ◌&&◌, ◌+◌, min, nat_lt, nat_le, length}
use Rattle.std.specs.FinMap as map
use Rattle.views.specs.Limits.{DESCRIPTOR_LIMIT}
use Rattle.views.proofs.MapLaws.{true_false}
use Rattle.sys_abi.specs.declared.identity.VPid.{VPid}
use Rattle.sys_abi.specs.declared.identity.Dir.{Dir}
use Rattle.sys_abi.specs.declared.identity.DescId.{DescId}
use Rattle.sys_abi.specs.declared.errors.TheConstants.{EBADF, EINVAL, EMSGSIZE, ENOENT, ENOSPC, EFBIG, EPIPE, ENOTCONN, EOPNOTSUPP, ECONNREFUSED, ESPIPE, ESRCH}
use Rattle.sys_abi.specs.declared.flags.TheConstants.{AT_FDCWD}
use Rattle.sys_abi.specs.declared.signals.TheConstants.{SIGPIPE}
use Rattle.sys_abi.specs.declared.transfer.TheConstants.{TRANSFER_LIMIT}
use Rattle.call_table.specs.declared.request.Request.{Request}
use Rattle.call_table.specs.declared.request.Request.TheVariants.{Dup, Fcntl, Unlinkat, Lseek, Read, Write, Kill, Tgkill, Getpid, Getppid, Setsockopt, Shutdown}
use Rattle.plain_process.specs.declared.commands.FcntlCommand.{FcntlCommand}
use Rattle.plain_process.specs.declared.commands.FcntlCommand.TheVariants.{DupFd, DupFdCloexec, GetFd, SetFd, GetFl, SetFl, SetOwn, GetOwn}
use Rattle.plain_process.specs.Commands.{fcntl_command}
use Rattle.plain_process.specs.Attempts.{need, found}
use Rattle.plain_tables.specs.declared.description.Object.{Object}
use Rattle.plain_tables.specs.declared.description.Object.TheVariants.{Console, File, Stream, Socket, Listener, Datagram, Counter}
use Rattle.plain_tables.specs.declared.channel.Direction.{Direction}
use Rattle.plain_tables.specs.Tables.{Files, pid, may_write}
use Rattle.plain_tables.specs.Objects.{dir}
use Rattle.plain_machine.specs.declared.kernel.PlainKernel.{PlainKernel}
use Rattle.plain_machine.specs.Attempts.{Served}
use Rattle.plain_machine.specs.Channels.{direction_at}
use Rattle.plain_machine.specs.Kernel.{Held, held, free_from, has_thread, is_neighbour, with_object}
use Rattle.plain_machine.specs.Rows.Descriptors.{dup_from, dup_row, dup_above, may_own, set_owner, fcntl_by, fcntl_row}
use Rattle.plain_machine.specs.Rows.Files.{path_of, unlinkat_row, seek_start, place_moved, file_size, seek, lseek_row, OFFSET_LIMIT}
use Rattle.plain_machine.specs.Rows.Numbers.{getpid_row, getppid_row}
use Rattle.plain_machine.specs.Rows.Read.{is_readable, read_object, read_access, read_row}
use Rattle.plain_machine.specs.Rows.Send.{is_above_zero, may_be_sent, kill_row, tgkill_row}
use Rattle.plain_machine.specs.Rows.Sockets.{setsockopt_row, shut_object, shutdown_row}
use Rattle.plain_machine.specs.SocketWords.{socket_at}
use Rattle.plain_machine.specs.Rows.Write.{is_writable, write_object, write_access, write_row}
use Rattle.plain_machine.specs.Serve.{row}
use Rattle.plain_machine.specs.Transfers.Answers.{may_read}
use Rattle.plain_machine.specs.Transfers.Counters.{COUNTER_SIZE, may_add, read_counter, write_counter}
use Rattle.plain_machine.specs.Transfers.Datagrams.{messages_at, read_first, read_message, write_message}
use Rattle.plain_machine.specs.Transfers.Files.{write_place, read_file, write_piece, write_file}
use Rattle.plain_machine.specs.Transfers.Streams.{is_broken, fitting_bytes, sent, read_stream, write_stream}
use Rattle.plain_machine.specs.Waiting.{need_ready}
use Rattle.plain_machine.proofs.HeldDescriptors.{IsHeldAt, held_is}
use Rattle.plain_machine.proofs.LocalReplies.{or_try}
use Rattle.plain_machine.proofs.Trying.{Trying, succeeds, fails, after}
use Rattle.host_tables.specs.Systems.{has_own_name}
use Rattle.wrap_passing.specs.Asking.{is_passed}
use Rattle.wrap_names.proofs.Keeps.{KeepsAll, all_still, others, object_kept, raised_kept, raised_for_all_kept}

module _ (k : PlainKernel) (p : VPid) where
  abbrev Kept : Served → Type 0
  Kept s = KeepsAll k s.kernel

  -- descriptors
  dup_from_keeps : (h : Held) (from : ℕ) (cloexec : Bool) → Trying (dup_from k p h from cloexec) Kept
  dup_from_keeps h from cloexec = after (free_from k p from) (λ fd free. succeeds _ (others k _ _ _ _ _))

  dup_keeps : (fd : ℕ) → Trying (dup_row k p fd) Kept
  unfolding dup_row
  dup_keeps fd = after (held k p fd) (λ h is. dup_from_keeps h 0 false)

  above_keeps : (h : Held) (argument : ℕ) (cloexec : Bool) → Trying (dup_above k p h argument cloexec) Kept
  unfolding dup_above
  above_keeps h argument cloexec =
      after (need (nat_lt argument DESCRIPTOR_LIMIT) EINVAL) (λ done low. dup_from_keeps h argument cloexec)

  module _ (fd : ℕ) (h : Held) (at : IsHeldAt k.descriptors k.descriptions p fd h) where
    owner_keeps : (argument : ℕ) → Trying (set_owner k p h argument) Kept
    unfolding set_owner
    owner_keeps argument =
        after (need (may_own k p argument) ESRCH) (λ done may.
        succeeds _ (object_kept k k.files h.desc h.description (record h.description { owner = argument }) at.description
        (λ e. e)))

    command_keeps : (argument : ℕ) (c : Option FcntlCommand) → Trying (fcntl_by k p fd h argument c) Kept
    command_keeps argument None = fails EINVAL
    command_keeps argument (Some DupFd) = above_keeps h argument false
    command_keeps argument (Some DupFdCloexec) = above_keeps h argument true
    command_keeps argument (Some GetFd) = succeeds _ (all_still k)
    command_keeps argument (Some SetFd) = succeeds _ (others k _ _ _ _ _)
    command_keeps argument (Some GetFl) = succeeds _ (all_still k)
    command_keeps argument (Some SetFl) =
        succeeds _ (object_kept k k.files h.desc h.description _ at.description (λ e. e))
    command_keeps argument (Some SetOwn) = owner_keeps argument
    command_keeps argument (Some GetOwn) = succeeds _ (all_still k)

    -- another object in the place of one without a name
    object_keeps_in : (files : Files) (object new : Object) → h.description.object ≡ object
        → has_own_name object ≡ false → KeepsAll k (record (with_object k h new) { files = files })
    object_keeps_in files object new is unnamed =
        object_kept k files h.desc h.description (record h.description { object = new }) at.description
        (λ e. true_false (sym e ∙ ap has_own_name is ∙ unnamed))

    object_keeps : (object new : Object) → h.description.object ≡ object → has_own_name object ≡ false
        → KeepsAll k (with_object k h new)
    object_keeps object new is unnamed = object_keeps_in k.files object new is unnamed

    seek_keeps : (offset whence : ℕ) (object : Object) → h.description.object ≡ object
        → Trying (seek k h offset whence object) Kept
    unfolding seek
    seek_keeps offset whence (File number place) is =
        after (found (seek_start whence place (file_size k number)) EINVAL) (λ start from.
        after (found (place_moved offset start) EINVAL) (λ to moved.
        succeeds _ (object_keeps (File number place) (File number to) is refl)))
    seek_keeps offset whence _ is = fails ESPIPE

    -- reads
    read_file_keeps : (number offset count : ℕ) → h.description.object ≡ File number offset
        → Trying (read_file k h number offset count) Kept
    unfolding read_file
    read_file_keeps number offset count is =
        after (found (map.get k.files number) EBADF) (λ bytes there.
        succeeds _ (object_keeps (File number offset) _ is refl))

    read_counter_keeps : (value count : ℕ) → h.description.object ≡ Counter value
        → Trying (read_counter k h value count) Kept
    unfolding read_counter
    read_counter_keeps value count is =
        after (need (nat_le COUNTER_SIZE count) EINVAL) (λ done room.
        succeeds _ (object_keeps (Counter value) (Counter 0) is refl))

    first_keeps : (d : DescId) (count : ℕ) (messages : List (List ℕ)) → Trying (read_first k d count messages) Kept
    first_keeps d count [] = succeeds _ (all_still k)
    first_keeps d count (message ∷ rest) = succeeds _ (others k _ _ _ _ _)

    message_keeps : (d : DescId) (count : ℕ) → Trying (read_message k d count) Kept
    unfolding read_message
    message_keeps d count = first_keeps d count (messages_at k d)

    stream_keeps : (from : Dir) (count : ℕ) → Trying (read_stream k from count) Kept
    unfolding read_stream
    stream_keeps from count =
        after (found (direction_at k from) ENOTCONN) (λ direction there. succeeds _ (others k _ _ _ _ _))

    read_keeps_of : (count : ℕ) (object : Object) → h.description.object ≡ object
        → Trying (read_object k h count object) Kept
    read_keeps_of count Console is = succeeds _ (all_still k)
    read_keeps_of count (File number offset) is = read_file_keeps number offset count is
    read_keeps_of count (Stream conn side) is = stream_keeps (dir conn (1 - side)) count
    read_keeps_of count (Socket address) is = fails ENOTCONN
    read_keeps_of count (Listener address) is = fails ENOTCONN
    read_keeps_of count (Datagram peer) is = message_keeps h.desc count
    read_keeps_of count (Counter value) is = read_counter_keeps value count is

    -- writes
    piece_keeps : (number offset place : ℕ) (bytes given : List ℕ) → h.description.object ≡ File number offset
        → Trying (write_piece k h number place bytes given) Kept
    unfolding write_piece
    piece_keeps number offset place bytes given is =
        after (need (nat_lt (place + length given) OFFSET_LIMIT) EFBIG) (λ low below.
        after (need _ ENOSPC) (λ room fits.
        succeeds _ (object_keeps_in _ (File number offset) _ is refl)))

    write_file_keeps : (number offset : ℕ) (given : List ℕ) → h.description.object ≡ File number offset
        → Trying (write_file k h number offset given) Kept
    unfolding write_file
    write_file_keeps number offset given is =
        after (found (map.get k.files number) EBADF) (λ bytes there.
        or_try (length given == 0) _ _ (succeeds _ (all_still k))
        (piece_keeps number offset (write_place h.description.flags offset bytes) bytes given is))

    sent_keeps : (to : Dir) (direction : Direction) (bytes : List ℕ) → Trying (sent k to direction bytes) Kept
    sent_keeps to direction bytes = succeeds _ (others k _ _ _ _ _)

    write_stream_keeps : (t : ℕ) (to : Dir) (count : ℕ) (given : List ℕ)
        → Trying (write_stream k p t to count given) Kept
    unfolding write_stream
    write_stream_keeps t to count given =
        after (found (direction_at k to) EPIPE) (λ direction there.
        or_try (count == 0) _ _ (succeeds _ (all_still k))
        (or_try (is_broken direction) _ _ (succeeds _ (raised_kept k p t SIGPIPE))
        (sent_keeps to direction (fitting_bytes given direction))))

    write_message_keeps : (peer : DescId) (count : ℕ) (given : List ℕ)
        → Trying (write_message k peer count given) Kept
    unfolding write_message
    write_message_keeps peer count given =
        after (need _ EMSGSIZE) (λ done short.
        after (found (map.get k.inboxes peer) ECONNREFUSED) (λ messages there. succeeds _ (others k _ _ _ _ _)))

    write_counter_keeps : (value count : ℕ) (given : List ℕ) → h.description.object ≡ Counter value
        → Trying (write_counter k h value count given) Kept
    unfolding write_counter
    write_counter_keeps value count given is =
        after (need (may_add count given) EINVAL) (λ done may.
        succeeds _ (object_keeps (Counter value) _ is refl))

    write_keeps_of : (t count : ℕ) (given : List ℕ) (object : Object) → h.description.object ≡ object
        → Trying (write_object k p t h count given object) Kept
    write_keeps_of t count given Console is = succeeds _ (all_still k)
    write_keeps_of t count given (File number offset) is = write_file_keeps number offset given is
    write_keeps_of t count given (Stream conn side) is = write_stream_keeps t (dir conn side) count given
    write_keeps_of t count given (Socket address) is = succeeds _ (raised_kept k p t SIGPIPE)
    write_keeps_of t count given (Listener address) is = succeeds _ (raised_kept k p t SIGPIPE)
    write_keeps_of t count given (Datagram peer) is = write_message_keeps peer count given
    write_keeps_of t count given (Counter value) is = write_counter_keeps value count given is

  -- what a look at the description found
  read_held : (fd count : ℕ) → Trying (read_access k p fd count) (IsHeldAt k.descriptors k.descriptions p fd)
  unfolding read_access
  read_held fd count =
      after (held k p fd) (λ h is. after (need (may_read h.description.flags) EBADF) (λ done may.
      after (need_ready h.description.flags (is_readable k h count h.description.object)) (λ done ready.
      succeeds h (held_is k p fd h is))))

  write_held : (fd count : ℕ) (front : List ℕ)
      → Trying (write_access k p fd count front) (IsHeldAt k.descriptors k.descriptions p fd)
  unfolding write_access
  write_held fd count front =
      after (held k p fd) (λ h is. after (need (may_write h.description.flags) EBADF) (λ done may.
      after (need_ready h.description.flags (is_writable k count front h.description.object)) (λ done ready.
      succeeds h (held_is k p fd h is))))

  shut_keeps : (how : ℕ) (object : Object) → Trying (shut_object k how object) Kept
  shut_keeps how (Stream conn side) =
      after (need (nat_le how 2) EINVAL) (λ done may. succeeds _ (others k _ _ _ _ _))
  shut_keeps how (Datagram peer) = fails EOPNOTSUPP
  shut_keeps how Console = after (need (nat_le how 2) EINVAL) (λ done may. fails ENOTCONN)
  shut_keeps how (File number offset) = after (need (nat_le how 2) EINVAL) (λ done may. fails ENOTCONN)
  shut_keeps how (Socket address) = after (need (nat_le how 2) EINVAL) (λ done may. fails ENOTCONN)
  shut_keeps how (Listener address) = after (need (nat_le how 2) EINVAL) (λ done may. fails ENOTCONN)
  shut_keeps how (Counter value) = after (need (nat_le how 2) EINVAL) (λ done may. fails ENOTCONN)

  pub passed_keeps : (t : ℕ) (r : Request) (given : List ℕ) → is_passed r ≡ true → Trying (row k p t r given) Kept
  unfolding row is_passed fcntl_row lseek_row unlinkat_row read_row write_row kill_row tgkill_row getpid_row getppid_row setsockopt_row shutdown_row
  passed_keeps t (Dup fd) given passed = dup_keeps fd
  passed_keeps t (Fcntl fd command argument) given passed =
      after (held k p fd) (λ h is. command_keeps fd h (held_is k p fd h is) argument (fcntl_command command))
  passed_keeps t (Unlinkat directory path flags) given passed =
      after (need (directory == AT_FDCWD) EBADF) (λ here at. after (need (flags == 0) EINVAL) (λ plain none.
      after (path_of given) (λ name is_path. after (found (map.get k.names name) ENOENT) (λ number there.
      succeeds _ (others k _ _ _ _ _)))))
  passed_keeps t (Lseek fd offset whence) given passed =
      after (held k p fd) (λ h is. seek_keeps fd h (held_is k p fd h is) offset whence h.description.object refl)
  passed_keeps t (Read fd buffer count) given passed =
      after (read_access k p fd (min count TRANSFER_LIMIT)) (λ h is.
      read_keeps_of fd h ((read_held fd (min count TRANSFER_LIMIT)).each h is) (min count TRANSFER_LIMIT)
      h.description.object refl)
  passed_keeps t (Write fd buffer count) given passed =
      after (write_access k p fd count given) (λ h is.
      write_keeps_of fd h ((write_held fd count given).each h is) t count given h.description.object refl)
  passed_keeps t (Kill number s) given passed =
      after (need (is_above_zero number && may_be_sent s) EINVAL) (λ done may.
      after (need (is_neighbour k p number) ESRCH) (λ done near.
      succeeds _ (raised_for_all_kept k (pid number) s)))
  passed_keeps t (Tgkill number u s) given passed =
      after (need (is_above_zero number && may_be_sent s) EINVAL) (λ done may.
      after (need (is_neighbour k p number && has_thread k (pid number) u) ESRCH) (λ done near.
      succeeds _ (raised_kept k (pid number) u s)))
  passed_keeps t Getpid given passed = succeeds _ (all_still k)
  passed_keeps t Getppid given passed = succeeds _ (all_still k)
  passed_keeps t (Setsockopt fd level name value length) given passed =
      after (socket_at k p fd) (λ h is. succeeds _ (all_still k))
  passed_keeps t (Shutdown fd how) given passed =
      after (socket_at k p fd) (λ h is. shut_keeps how h.description.object)
  passed_keeps t _ given passed = true_false (sym passed)
