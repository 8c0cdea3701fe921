-- Only a write to a console shows anything there, and that shows all that it reads.
--     shows          what a call shows, by where its write leads
--     whole_count    a write reads as many bytes as it is asked for, at most those that a call moves
use Rattle.std.proofs.Common.{◌≡◌, ℕ, zero, suc, ◌+◌, Bool, true, false, ◌&&◌, cond, List, [], ◌∷◌, ◌++◌, length}
use Rattle.std.proofs.Common.{refl, sym, ap, ◌∙◌, arith}
use Rattle.std.specs.Prelude.{◌==◌, min, Option, Some, None, is_some}
use Rattle.std.proofs.lemmas.List.{length-append}
use Rattle.std.proofs.lemmas.Option.{none-some, same_Some, option_and_then_some}
use Rattle.views.proofs.MapLaws.{true_false}
use Rattle.sys_abi.specs.declared.cloning.CloneForm.{CloneForm}
use Rattle.sys_abi.specs.declared.cloning.CloneForm.TheVariants.{Fork, Thread}
use Rattle.sys_abi.specs.declared.errors.TheConstants.{EBADF}
use Rattle.sys_abi.specs.declared.identity.Dir.{Dir}
use Rattle.sys_abi.specs.declared.identity.VPid.{VPid}
use Rattle.sys_abi.specs.declared.transfer.TheConstants.{TRANSFER_LIMIT}
use Rattle.sys_abi.specs.Clones.{clone_form}
use Rattle.call_table.specs.declared.request.Request.{Request}
use Rattle.call_table.specs.declared.request.Request.TheVariants.{Eventfd2, Dup, Dup3, Fcntl, Unlinkat, Openat, Close, Pipe2, Lseek, Read, Write, Exit, ExitGroup, Kill, Tgkill, Getpid, Getppid, Socket, Socketpair, Bind, Listen, Accept, Connect, Getsockname, Getpeername, Setsockopt, Shutdown, Clone, Wait4}
use Rattle.plain_process.specs.Attempts.{Try, NotReady, Gives, and_then, need}
use Rattle.plain_process.specs.Buffers.{reads_of, given_of, if_writable, lent}
use Rattle.plain_process.specs.Commands.{fcntl_command}
use Rattle.plain_process.specs.Memory.{Memory, byte_at, followed_by, bytes_at}
use Rattle.plain_process.specs.declared.commands.FcntlCommand.{FcntlCommand}
use Rattle.plain_process.specs.declared.commands.FcntlCommand.TheVariants.{DupFd, DupFdCloexec, GetFd, SetFd, GetFl, SetFl, SetOwn, GetOwn}
use Rattle.plain_process.specs.declared.memory.Right.{Right}
use Rattle.plain_process.specs.declared.memory.Right.TheVariants.{Read as ToRead}
use Rattle.plain_tables.specs.declared.channel.Direction.{Direction}
use Rattle.plain_tables.specs.declared.description.Object.{Object}
use Rattle.plain_tables.specs.declared.description.Object.TheVariants as object
use Rattle.plain_tables.specs.declared.waiting.Waiting.{Waiting}
use Rattle.plain_tables.specs.declared.waiting.Waiting.TheVariants as found
use Rattle.plain_tables.specs.Objects.{dir}
use Rattle.plain_tables.specs.Tables.{may_write}
use Rattle.plain_machine.specs.declared.kernel.PlainKernel.{PlainKernel}
use Rattle.plain_machine.specs.Attempts.{Served, replied}
use Rattle.plain_machine.specs.Kernel.{Held, held}
use Rattle.plain_machine.specs.Rows.Channels.{pipe2_row, stream_pair, datagram_pair, socketpair_row}
use Rattle.plain_machine.specs.Rows.Clone.{clone_thread, clone_process, clone_by, clone_row}
use Rattle.plain_machine.specs.Rows.Connections.{accept_row, connect_row}
use Rattle.plain_machine.specs.Rows.Counters.{eventfd2_row}
use Rattle.plain_machine.specs.Rows.Descriptors.{dup_row, dup3_row, dup_above, set_owner, fcntl_by, fcntl_row, close_row}
use Rattle.plain_machine.specs.Rows.End.{exit_group_row, exit_row}
use Rattle.plain_machine.specs.Rows.Files.{openat_row, open_at, unlinkat_row, seek, lseek_row}
use Rattle.plain_machine.specs.Rows.Numbers.{getpid_row, getppid_row}
use Rattle.plain_machine.specs.Rows.Read.{read_object, read_row}
use Rattle.plain_machine.specs.Rows.Send.{kill_row, tgkill_row}
use Rattle.plain_machine.specs.Rows.Sockets.{socket_row, bind_row, listen_row, getsockname_row, getpeername_row, setsockopt_row, shut_object, shutdown_row}
use Rattle.plain_machine.specs.Rows.Wait.{WNOHANG, wait4_by, wait4_row}
use Rattle.plain_machine.specs.Rows.Write.{is_writable, write_object, write_access, write_row}
use Rattle.plain_machine.specs.Serve.{row, is_console}
use Rattle.plain_machine.specs.Transfers.Answers.{broken_pipe}
use Rattle.plain_machine.specs.Transfers.Counters.{read_counter, write_counter}
use Rattle.plain_machine.specs.Transfers.Datagrams.{read_first, messages_at, read_message, write_message}
use Rattle.plain_machine.specs.Transfers.Files.{read_file, write_piece, write_file}
use Rattle.plain_machine.specs.Transfers.Streams.{is_broken, fitting_bytes, sent, read_stream, write_direction, write_stream}
use Rattle.plain_machine.specs.Waiting.{need_ready}
use Rattle.plain_machine.proofs.LocalReplies.{needed}
use Rattle.plain_machine.proofs.Trying.{Trying, succeeds, fails, after}
use Rattle.wrap_calls.specs.Console.{written, takes_writes, writes_console, console_write}

abbrev IsQuiet : Try Served → Type 0
IsQuiet m = Trying m (λ served. served.console ≡ [])

then : {A : Type 0} (attempt : Try A) {f : A → Try Served} → ((a : A) → IsQuiet (f a))
    → IsQuiet (and_then attempt f)
then attempt each = after attempt (λ a is. each a)

waits_quiet : IsQuiet NotReady
waits_quiet = record { each = λ served is. cc }

either : (b : Bool) (m n : Try Served) → IsQuiet m → IsQuiet n → IsQuiet (cond b m n)
either true m n first second = first
either false m n first second = second

module _ (k : PlainKernel) (p : VPid) where
  eventfd2_quiet : (value flags : ℕ) → IsQuiet (eventfd2_row k p value flags)
  unfolding eventfd2_row
  eventfd2_quiet value flags = then _ (λ a. then _ (λ b. then _ (λ fd. succeeds _ refl)))

  dup_quiet : (fd : ℕ) → IsQuiet (dup_row k p fd)
  unfolding dup_row
  dup_quiet fd = then _ (λ h. then _ (λ fd. succeeds _ refl))

  dup3_quiet : (fd to flags : ℕ) → IsQuiet (dup3_row k p fd to flags)
  unfolding dup3_row
  dup3_quiet fd to flags = then _ (λ h. then _ (λ a. then _ (λ b. succeeds _ refl)))

  above_quiet : (h : Held) (argument : ℕ) (cloexec : Bool) → IsQuiet (dup_above k p h argument cloexec)
  unfolding dup_above
  above_quiet h argument cloexec = then _ (λ a. then _ (λ fd. succeeds _ refl))

  owner_quiet : (h : Held) (owner : ℕ) → IsQuiet (set_owner k p h owner)
  unfolding set_owner
  owner_quiet h owner = then _ (λ a. succeeds _ refl)

  command_quiet : (fd : ℕ) (h : Held) (argument : ℕ) (command : Option FcntlCommand)
      → IsQuiet (fcntl_by k p fd h argument command)
  command_quiet fd h argument None = fails _
  command_quiet fd h argument (Some DupFd) = above_quiet h argument false
  command_quiet fd h argument (Some DupFdCloexec) = above_quiet h argument true
  command_quiet fd h argument (Some GetFd) = succeeds _ refl
  command_quiet fd h argument (Some SetFd) = succeeds _ refl
  command_quiet fd h argument (Some GetFl) = succeeds _ refl
  command_quiet fd h argument (Some SetFl) = succeeds _ refl
  command_quiet fd h argument (Some SetOwn) = owner_quiet h argument
  command_quiet fd h argument (Some GetOwn) = succeeds _ refl

  fcntl_quiet : (fd command argument : ℕ) → IsQuiet (fcntl_row k p fd command argument)
  unfolding fcntl_row
  fcntl_quiet fd command argument = then _ (λ h. command_quiet fd h argument (fcntl_command command))

  unlinkat_quiet : (directory flags : ℕ) (given : List ℕ) → IsQuiet (unlinkat_row k p directory flags given)
  unfolding unlinkat_row
  unlinkat_quiet directory flags given =
      then _ (λ a. then _ (λ b. then _ (λ name. then _ (λ number. succeeds _ refl))))

  open_quiet : (name : List ℕ) (flags fd : ℕ) (file : Option ℕ) → IsQuiet (open_at k p name flags fd file)
  unfolding open_at
  open_quiet name flags fd file = then _ (λ a. succeeds _ refl)

  openat_quiet : (directory flags : ℕ) (given : List ℕ) → IsQuiet (openat_row k p directory flags given)
  unfolding openat_row
  openat_quiet directory flags given =
      then _ (λ a. then _ (λ name. then _ (λ b. then _ (λ c. then _ (λ d. then _ (λ fd.
      open_quiet name flags fd _))))))

  close_quiet : (fd : ℕ) → IsQuiet (close_row k p fd)
  unfolding close_row
  close_quiet fd = then _ (λ h. succeeds _ refl)

  pipe2_quiet : (flags : ℕ) → IsQuiet (pipe2_row k p flags)
  unfolding pipe2_row
  pipe2_quiet flags = then _ (λ a. then _ (λ b. then _ (λ fds. succeeds _ refl)))

  seek_quiet : (h : Held) (offset whence : ℕ) (o : Object) → IsQuiet (seek k h offset whence o)
  unfolding seek
  seek_quiet h offset whence (object.File number at) = then _ (λ start. then _ (λ place. succeeds _ refl))
  seek_quiet h offset whence _ = fails _

  lseek_quiet : (fd offset whence : ℕ) → IsQuiet (lseek_row k p fd offset whence)
  unfolding lseek_row
  lseek_quiet fd offset whence = then _ (λ h. seek_quiet h offset whence h.description.object)

  first_quiet : (h : Held) (count : ℕ) (messages : List (List ℕ))
      → IsQuiet (read_first k h.desc count messages)
  first_quiet h count [] = succeeds _ refl
  first_quiet h count (message ∷ rest) = succeeds _ refl

  object_read : (h : Held) (count : ℕ) (o : Object) → IsQuiet (read_object k h count o)
  unfolding read_file read_stream read_message read_counter
  object_read h count object.Console = succeeds _ refl
  object_read h count (object.File number offset) = then _ (λ bytes. succeeds _ refl)
  object_read h count (object.Stream conn side) = then _ (λ direction. succeeds _ refl)
  object_read h count (object.Socket address) = fails _
  object_read h count (object.Listener address) = fails _
  object_read h count (object.Datagram peer) = first_quiet h count (messages_at k h.desc)
  object_read h count (object.Counter value) = then _ (λ a. succeeds _ refl)

  read_quiet : (fd count : ℕ) → IsQuiet (read_row k p fd count)
  unfolding read_row
  read_quiet fd count = then _ (λ h. object_read h (min count TRANSFER_LIMIT) h.description.object)

  exit_quiet : (t code : ℕ) → IsQuiet (exit_row k p t code)
  unfolding exit_row
  exit_quiet t code = succeeds _ refl

  exit_group_quiet : (code : ℕ) → IsQuiet (exit_group_row k p code)
  unfolding exit_group_row
  exit_group_quiet code = succeeds _ refl

  getpid_quiet : IsQuiet (getpid_row k p)
  unfolding getpid_row
  getpid_quiet = succeeds _ refl

  getppid_quiet : IsQuiet (getppid_row k p)
  unfolding getppid_row
  getppid_quiet = succeeds _ refl

  kill_quiet : (number s : ℕ) → IsQuiet (kill_row k p number s)
  unfolding kill_row
  kill_quiet number s = then _ (λ a. then _ (λ b. succeeds _ refl))

  tgkill_quiet : (number u s : ℕ) → IsQuiet (tgkill_row k p number u s)
  unfolding tgkill_row
  tgkill_quiet number u s = then _ (λ a. then _ (λ b. succeeds _ refl))

  socket_quiet : (domain socket_type protocol : ℕ) → IsQuiet (socket_row k p domain socket_type protocol)
  unfolding socket_row
  socket_quiet domain socket_type protocol =
      then _ (λ a. then _ (λ b. then _ (λ c. then _ (λ fd. succeeds _ refl))))

  streams_quiet : (flags : ℕ) → IsQuiet (stream_pair k p flags)
  unfolding stream_pair
  streams_quiet flags = then _ (λ a. then _ (λ fds. succeeds _ refl))

  datagrams_quiet : (flags : ℕ) → IsQuiet (datagram_pair k p flags)
  unfolding datagram_pair
  datagrams_quiet flags = then _ (λ a. then _ (λ fds. succeeds _ refl))

  socketpair_quiet : (domain socket_type protocol : ℕ)
      → IsQuiet (socketpair_row k p domain socket_type protocol)
  unfolding socketpair_row
  socketpair_quiet domain socket_type protocol =
      then _ (λ a. then _ (λ b. then _ (λ c.
      either _ _ _ (streams_quiet socket_type) (datagrams_quiet socket_type))))

  bind_quiet : (fd length : ℕ) (given : List ℕ) → IsQuiet (bind_row k p fd length given)
  unfolding bind_row
  bind_quiet fd length given =
      then _ (λ h. then _ (λ a. then _ (λ own. then _ (λ b. then _ (λ c. then _ (λ port. succeeds _ refl))))))

  listen_quiet : (fd backlog : ℕ) → IsQuiet (listen_row k p fd backlog)
  unfolding listen_row
  listen_quiet fd backlog = then _ (λ h. then _ (λ socket. then _ (λ address. succeeds _ refl)))

  accept_quiet : (fd address : ℕ) (given : List ℕ) → IsQuiet (accept_row k p fd address given)
  unfolding accept_row
  accept_quiet fd address given = then _ (λ a. succeeds _ refl)

  connect_quiet : (fd length : ℕ) (given : List ℕ) → IsQuiet (connect_row k p fd length given)
  unfolding connect_row
  connect_quiet fd length given = then _ (λ c. succeeds _ refl)

  getsockname_quiet : (fd : ℕ) (given : List ℕ) → IsQuiet (getsockname_row k p fd given)
  unfolding getsockname_row
  getsockname_quiet fd given = then _ (λ h. succeeds _ refl)

  getpeername_quiet : (fd : ℕ) (given : List ℕ) → IsQuiet (getpeername_row k p fd given)
  unfolding getpeername_row
  getpeername_quiet fd given = then _ (λ h. then _ (λ name. succeeds _ refl))

  setsockopt_quiet : (fd : ℕ) → IsQuiet (setsockopt_row k p fd)
  unfolding setsockopt_row
  setsockopt_quiet fd = then _ (λ h. succeeds _ refl)

  shut_quiet : (how : ℕ) (o : Object) → IsQuiet (shut_object k how o)
  shut_quiet how (object.Stream conn side) = then _ (λ a. succeeds _ refl)
  shut_quiet how (object.Datagram peer) = fails _
  shut_quiet how _ = then _ (λ a. fails _)

  shutdown_quiet : (fd how : ℕ) → IsQuiet (shutdown_row k p fd how)
  unfolding shutdown_row
  shutdown_quiet fd how = then _ (λ h. shut_quiet how h.description.object)

  form_quiet : (flags : ℕ) (form : Option CloneForm) → IsQuiet (clone_by k p flags form)
  unfolding clone_process clone_thread
  form_quiet flags None = fails _
  form_quiet flags (Some Fork) = then _ (λ a. succeeds _ refl)
  form_quiet flags (Some Thread) = then _ (λ a. succeeds _ refl)

  clone_quiet : (flags : ℕ) → IsQuiet (clone_row k p flags)
  unfolding clone_row
  clone_quiet flags = form_quiet flags (clone_form flags)

  waited_quiet : (options : ℕ) (w : Waiting) → IsQuiet (wait4_by k options w)
  waited_quiet options found.NoChild = fails _
  waited_quiet options found.NotReady = either (options == WNOHANG) _ _ (succeeds _ refl) waits_quiet
  waited_quiet options (found.Ended q status) = succeeds _ refl

  wait4_quiet : (number options usage : ℕ) → IsQuiet (wait4_row k p number options usage)
  unfolding wait4_row
  wait4_quiet number options usage = then _ (λ a. waited_quiet options _)

  -- a write

  record IsOpen (fd : ℕ) (h : Held) : Type 0 where
    held_at : held k p fd ≡ Gives h
    may : may_write h.description.flags ≡ true

  opened : (fd count : ℕ) (front : List ℕ) → Trying (write_access k p fd count front) (IsOpen fd)
  unfolding write_access
  opened fd count front =
      after (held k p fd) (λ h is. after (need (may_write h.description.flags) EBADF) (λ done may.
      after (need_ready h.description.flags (is_writable k count front h.description.object)) (λ a ready.
      succeeds h (record { held_at = is; may = needed (may_write h.description.flags) EBADF done may }))))

  module _ (t fd count : ℕ) (given : List ℕ) where
    abbrev console_if : Bool → List ℕ
    console_if b = cond (is_some (cond b (Some (min count TRANSFER_LIMIT)) None)) given []

    abbrev Shows : Try Served → Type 0
    Shows m = Trying m (λ served. served.console ≡ console_if (writes_console k p fd))

    shows_none : (m : Try Served) → writes_console k p fd ≡ false → IsQuiet m → Shows m
    shows_none m none quiet = record {
      each = λ served is. quiet.each served is ∙ sym (ap console_if none);
    }

    piece_quiet : (h : Held) (number place : ℕ) (bytes : List ℕ)
        → IsQuiet (write_piece k h number place bytes given)
    unfolding write_piece
    piece_quiet h number place bytes = then _ (λ a. then _ (λ b. succeeds _ refl))

    direction_written : (to : Dir) (direction : Direction)
        → IsQuiet (write_direction k p t to count given direction)
    direction_written to direction =
        let flowing = sent k to direction (fitting_bytes given direction) in
        either (count == 0) (replied k 0) (cond (is_broken direction) (broken_pipe k p t) flowing)
        (succeeds _ refl)
        (either (is_broken direction) (broken_pipe k p t) flowing (succeeds _ refl) (succeeds _ refl))

    object_written : (h : Held) (o : Object) → is_console o ≡ false
        → IsQuiet (write_object k p t h count given o)
    unfolding write_file write_stream write_message write_counter
    object_written h object.Console other = true_false other
    object_written h (object.File number offset) other =
        then _ (λ bytes. either _ _ _ (succeeds _ refl) (piece_quiet h number _ bytes))
    object_written h (object.Stream conn side) other =
        then _ (λ direction. direction_written (dir conn side) direction)
    object_written h (object.Socket address) other = succeeds _ refl
    object_written h (object.Listener address) other = succeeds _ refl
    object_written h (object.Datagram peer) other = then _ (λ a. then _ (λ messages. succeeds _ refl))
    object_written h (object.Counter value) other = then _ (λ a. succeeds _ refl)

    writes_is : (h : Held) → IsOpen fd h → (o : Object) → h.description.object ≡ o → (b : Bool)
        → is_console o ≡ b → writes_console k p fd ≡ b
    writes_is h is o at b console =
        ap takes_writes is.held_at ∙ (λ i. is_console (at i) && is.may i) ∙ (λ i. console i && true) ∙ both b
      where
        both : (b : Bool) → (b && true) ≡ b
        both true = refl
        both false = refl

    quiet_shows : (h : Held) → IsOpen fd h → (o : Object) → h.description.object ≡ o → is_console o ≡ false
        → Shows (write_object k p t h count given o)
    quiet_shows h is o at other = shows_none _ (writes_is h is o at false other) (object_written h o other)

    object_shows : (h : Held) → IsOpen fd h → (o : Object) → h.description.object ≡ o
        → Shows (write_object k p t h count given o)
    object_shows h is object.Console at =
        succeeds _ (sym (ap console_if (writes_is h is object.Console at true refl)))
    object_shows h is (object.File number offset) at = quiet_shows h is (object.File number offset) at refl
    object_shows h is (object.Stream conn side) at = quiet_shows h is (object.Stream conn side) at refl
    object_shows h is (object.Socket address) at = quiet_shows h is (object.Socket address) at refl
    object_shows h is (object.Listener address) at = quiet_shows h is (object.Listener address) at refl
    object_shows h is (object.Datagram peer) at = quiet_shows h is (object.Datagram peer) at refl
    object_shows h is (object.Counter value) at = quiet_shows h is (object.Counter value) at refl

    write_shows : Shows (write_row k p t fd count given)
    unfolding write_row
    write_shows = after (write_access k p fd count given) (λ h is.
        object_shows h ((opened fd count given).each h is) h.description.object refl)

each_shows : (k : PlainKernel) (p : VPid) (t : ℕ) (q : Request) (given : List ℕ)
    → Trying (row k p t q given) (λ served. served.console ≡ cond (is_some (console_write k p q)) given [])
unfolding row written
each_shows k p t (Eventfd2 value flags) given = eventfd2_quiet k p value flags
each_shows k p t (Dup fd) given = dup_quiet k p fd
each_shows k p t (Dup3 fd to flags) given = dup3_quiet k p fd to flags
each_shows k p t (Fcntl fd command argument) given = fcntl_quiet k p fd command argument
each_shows k p t (Unlinkat directory path flags) given = unlinkat_quiet k p directory flags given
each_shows k p t (Openat directory path flags mode) given = openat_quiet k p directory flags given
each_shows k p t (Close fd) given = close_quiet k p fd
each_shows k p t (Pipe2 fds flags) given = pipe2_quiet k p flags
each_shows k p t (Lseek fd offset whence) given = lseek_quiet k p fd offset whence
each_shows k p t (Read fd buffer count) given = read_quiet k p fd count
each_shows k p t (Write fd buffer count) given = write_shows k p t fd count given
each_shows k p t (Exit code) given = exit_quiet k p t code
each_shows k p t (ExitGroup code) given = exit_group_quiet k p code
each_shows k p t (Kill number s) given = kill_quiet k p number s
each_shows k p t (Tgkill number u s) given = tgkill_quiet k p number u s
each_shows k p t Getpid given = getpid_quiet k p
each_shows k p t Getppid given = getppid_quiet k p
each_shows k p t (Socket domain socket_type protocol) given = socket_quiet k p domain socket_type protocol
each_shows k p t (Socketpair domain socket_type protocol fds) given =
    socketpair_quiet k p domain socket_type protocol
each_shows k p t (Bind fd address length) given = bind_quiet k p fd length given
each_shows k p t (Listen fd backlog) given = listen_quiet k p fd backlog
each_shows k p t (Accept fd address length) given = accept_quiet k p fd address given
each_shows k p t (Connect fd address length) given = connect_quiet k p fd length given
each_shows k p t (Getsockname fd address length) given = getsockname_quiet k p fd given
each_shows k p t (Getpeername fd address length) given = getpeername_quiet k p fd given
each_shows k p t (Setsockopt fd level name value length) given = setsockopt_quiet k p fd
each_shows k p t (Shutdown fd how) given = shutdown_quiet k p fd how
each_shows k p t (Clone flags stack parent_tid tls child_tid) given = clone_quiet k p flags
each_shows k p t (Wait4 number status options usage) given = wait4_quiet k p number options usage
each_shows k p t q given = fails _

pub shows : (k : PlainKernel) (p : VPid) (t : ℕ) (q : Request) (given : List ℕ) (served : Served)
    → row k p t q given ≡ Gives served → served.console ≡ cond (is_some (console_write k p q)) given []
shows k p t q given served is = (each_shows k p t q given).each served is

-- how much is read

read_count : (memory : Memory) (right : Right) (address n : ℕ) (bytes : List ℕ)
    → bytes_at memory right address n ≡ Some bytes → length bytes ≡ n
unfolding bytes_at
read_count memory right address zero bytes is = ap length (sym (same_Some [] bytes is))
read_count memory right address (suc n) bytes is =
    chosen (bytes_at memory right address n) (byte_at memory right (address + n))
    (λ front there. read_count memory right address n front there) is
  where
    chosen : (front : Option (List ℕ)) (byte : Option ℕ) → ((xs : List ℕ) → front ≡ Some xs → length xs ≡ n)
        → followed_by front byte ≡ Some bytes → length bytes ≡ suc n
    chosen None None before is = absurd (none-some bytes is)
    chosen None (Some byte) before is = absurd (none-some bytes is)
    chosen (Some xs) None before is = absurd (none-some bytes is)
    chosen (Some xs) (Some byte) before is =
        let count = length-append xs (byte ∷ []) in
        let few = before xs refl in
        let whole = ap length (same_Some (xs ++ byte ∷ []) bytes is) in
        omega arith

module _ (memory : Memory) (fd count : ℕ) (given : List ℕ) where
  kept : (b : Bool) (xs : List ℕ) → cond b (Some xs) None ≡ Some given → xs ≡ given
  kept true xs is = same_Some xs given is
  kept false xs is = absurd (none-some given is)

  pub whole_count : (q : Request) → written q ≡ Some (fd, count) → lent memory q ≡ Some given
      → min count TRANSFER_LIMIT ≡ length given
  unfolding written lent given_of reads_of
  whole_count (Write f buffer c) is reads =
      let same = same_Some (f, c) (fd, count) is in
      option_and_then_some (if_writable memory (Write f buffer c))
      (bytes_at memory ToRead buffer (min c TRANSFER_LIMIT)) given reads
      (λ xs at writable.
      ap (λ (x : ℕ × ℕ). min x.1 TRANSFER_LIMIT) (sym same)
      ∙ sym (read_count memory ToRead buffer (min c TRANSFER_LIMIT) xs at)
      ∙ ap length (kept _ xs writable))
  whole_count _ is reads = absurd (none-some (fd, count) is)
