-- The law of read.
use Rattle.std.proofs.Common.{◌≡◌, ℕ, ◌+◌, ◌-◌, ◌^◌, ◌<◌, ◌≤◌, true, List, [], ◌∷◌, length, take, drop, refl, sym, ap, subst, arith}
use Rattle.std.specs.Prelude.{min, nat_le, Option, Some, None, is_some, unwrap_or, All}
use Rattle.std.specs.FinMap as map
use Rattle.std.proofs.Math.Nat.{min-le_left, min-le_right}
use Rattle.std.proofs.lemmas.Bool.Decides.{nat_tests}
use Rattle.std.proofs.lemmas.List.{length-take}
use Rattle.std.proofs.lemmas.List.Elements.{All-nil, All-head, All-tail, All-take, All-drop}
use Rattle.plain_tables.specs.OfSysAbi.declared.identity.VPid.{VPid}
use Rattle.plain_tables.specs.OfSysAbi.declared.identity.DescId.{DescId}
use Rattle.plain_tables.specs.OfSysAbi.declared.identity.Dir.{Dir}
use Rattle.plain_tables.specs.OfSysAbi.declared.errors.TheConstants.{EBADF, EINVAL, ENOTCONN}
use Rattle.plain_tables.specs.OfCallTable.declared.request.Request.TheVariants.{Read}
use Rattle.plain_tables.specs.OfSysAbi.declared.transfer.TheConstants.{TRANSFER_LIMIT}
use Rattle.plain_machine.specs.declared.kernel.PlainKernel.{PlainKernel}
use Rattle.plain_tables.specs.declared.channel.Direction.{Direction}
use Rattle.plain_tables.specs.declared.description.Object.{Object}
use Rattle.plain_tables.specs.declared.description.Object.TheVariants.{Console, File, Stream, Socket, Listener, Datagram, Counter}
use Rattle.plain_tables.specs.Objects.{dir}
use Rattle.plain_tables.specs.Valid.Datagrams.{IsInbox}
use Rattle.plain_tables.specs.Valid.Files.{IsOpenFile}
use Rattle.plain_tables.specs.OfPlainProcess.Attempts.{Gives, need, found}
use Rattle.plain_tables.specs.OfPlainProcess.Memory.{low_bytes}
use Rattle.plain_tables.specs.OfPlainProcess.Valid.{IsByte}
use Rattle.plain_tables.proofs.OfPlainProcess.MemoryBounds.{low_bytes_are}
use Rattle.plain_machine.specs.Channels.{direction_at, with_direction}
use Rattle.plain_machine.specs.Kernel.{Held, held, with_object}
use Rattle.plain_machine.specs.Making.{with_inbox}
use Rattle.plain_machine.specs.Rows.Read.{is_readable, read_object, read_access, read_row, is_read_ready}
use Rattle.plain_machine.specs.Serve.{row, is_ready}
use Rattle.plain_machine.specs.Transfers.Answers.{may_read}
use Rattle.plain_machine.specs.Transfers.Counters.{COUNTER_SIZE, read_counter}
use Rattle.plain_machine.specs.Transfers.Datagrams.{messages_at, read_first, read_message}
use Rattle.plain_machine.specs.Transfers.Files.{read_room, bytes_from, moved_behind, read_file}
use Rattle.plain_machine.specs.Transfers.Streams.{taken_bytes, without_front, read_stream}
use Rattle.plain_machine.specs.Waiting.{need_ready}
use Rattle.plain_machine.proofs.HeldDescriptors.{held_is}
use Rattle.plain_machine.specs.FileLaws.{shape}
use Rattle.plain_machine.proofs.LocalReplies.{needed, was_found}
use Rattle.plain_machine.proofs.RowBounds.{RowLaw, Meets, Settles, row_law, quiet, tested, looked_up}
use Rattle.plain_machine.proofs.Transferring.{access_settles, gave_meets}
use Rattle.plain_machine.proofs.TransferredFiles.{piece_short, piece_ends}
use Rattle.plain_machine.proofs.Trying.{Trying, succeeds, fails, after}
use Rattle.plain_machine.proofs.WholeDatagrams.{whole_inbox}
use Rattle.plain_machine.proofs.WholeObjects.{whole_object, whole_offset}
use Rattle.plain_machine.proofs.WholeStreams.{whole_received}

-- what a look at the description found
access_held : (k : PlainKernel) (p : VPid) (fd n : ℕ) → Trying (read_access k p fd n) (λ h. held k p fd ≡ Gives h)
unfolding read_access
access_held k p fd n = after (held k p fd) (λ h is. after (need (may_read h.description.flags) EBADF) (λ may allowed. after (need_ready h.description.flags (is_readable k h n h.description.object)) (λ done ready.
    succeeds h is)))

-- the messages after the first one
later_messages : (message : List ℕ) (rest : List (List ℕ)) → IsInbox (message ∷ rest) → IsInbox rest
later_messages message rest is = let few = is.count in record { count = omega arith; sizes = All-tail (λ m. length m ≤ 4096) message rest is.sizes; bytes = All-tail (All IsByte) message rest is.bytes }

waiting_there : (found : Option (List (List ℕ))) (message : List ℕ) (rest : List (List ℕ)) → unwrap_or found [] ≡ message ∷ rest → found ≡ Some (message ∷ rest)
waiting_there None message rest is = cc
waiting_there (Some messages) message rest is = ap Some is

module _ (k : PlainKernel) (p : VPid) (t fd buffer count : ℕ) (given : List ℕ) where
  abbrev n : ℕ
  n = min count TRANSFER_LIMIT

  taken_few : (direction : Direction) → length (taken_bytes (min count TRANSFER_LIMIT) direction) ≤ min count TRANSFER_LIMIT
  taken_few direction =
      let some = length-take (min n direction.arrived) direction.left in
      let least = min-le_left (min n direction.arrived) (length direction.left) in
      let most = min-le_left n direction.arrived in
      omega arith

  stream_served : (from : Dir) → Trying (read_stream k from (min count TRANSFER_LIMIT)) (Meets k p t (Read fd buffer count) given)
  unfolding read_stream
  stream_served from = after (found (direction_at k from) ENOTCONN) (λ direction there.
      let known = was_found (direction_at k from) ENOTCONN direction there in
      gave_meets k p t fd buffer count given (with_direction k from (without_front (min n direction.arrived) direction)) (taken_bytes n direction) refl (omega arith) (taken_few direction)
      (λ asked. record {
        kernel = whole_received k from direction asked.kernel known (min n direction.arrived) (min-le_right n direction.arrived);
        bytes_are = All-take IsByte (min n direction.arrived) direction.left (asked.kernel.channels.each from direction known).bytes;
      }))

  first_served : (d : DescId) (messages : List (List ℕ)) → messages_at k d ≡ messages → Trying (read_first k d (min count TRANSFER_LIMIT) messages) (Meets k p t (Read fd buffer count) given)
  first_served d [] are = gave_meets k p t fd buffer count given k [] refl (omega arith) (omega arith) (λ asked. record { kernel = asked.kernel; bytes_are = All-nil IsByte })
  first_served d (message ∷ rest) are =
      let there = waiting_there (map.get k.inboxes d) message rest are in
      gave_meets k p t fd buffer count given (with_inbox k d rest) (take n message) refl (omega arith) (let some = length-take n message in let least = min-le_left n (length message) in omega arith)
      (λ asked. let fits = asked.kernel.inboxes.messages d (message ∷ rest) there in record {
        kernel = whole_inbox k d rest asked.kernel (ap is_some there) (later_messages message rest fits);
        bytes_are = All-take IsByte n message (All-head (All IsByte) message rest fits.bytes);
      })

  message_served : (d : DescId) → Trying (read_message k d (min count TRANSFER_LIMIT)) (Meets k p t (Read fd buffer count) given)
  unfolding read_message
  message_served d = first_served d (messages_at k d) refl

  module _ (h : Held) (is : held k p fd ≡ Gives h) where
    file_served : (number offset : ℕ) → h.description.object ≡ File number offset → Trying (read_file k h number offset (min count TRANSFER_LIMIT)) (Meets k p t (Read fd buffer count) given)
    unfolding read_file
    file_served number offset object = after (found (map.get k.files number) EBADF) (λ bytes there.
        let known = was_found (map.get k.files number) EBADF bytes there in
        let piece = bytes_from bytes offset (read_room offset n) in
        let at = held_is k p fd h is in
        gave_meets k p t fd buffer count given (moved_behind k h number (offset + length piece)) piece refl (omega arith) (piece_short bytes offset n)
        (λ asked.
        let opened : (is_some (map.get k.files number) ≡ true) × (offset < 2 ^ 32) = subst (IsOpenFile k.files) object (asked.kernel.open_files.there h.desc h.description at.description) in
        record {
          kernel = whole_offset k h number offset (offset + length piece) asked.kernel at.description object (piece_ends bytes offset n opened.1);
          bytes_are = All-take IsByte (read_room offset n) (drop offset bytes) (All-drop IsByte offset bytes (asked.kernel.files.bytes number bytes known));
        }))

    counter_served : (value : ℕ) → h.description.object ≡ Counter value → Trying (read_counter k h value (min count TRANSFER_LIMIT)) (Meets k p t (Read fd buffer count) given)
    unfolding read_counter
    counter_served value object = after (need (nat_le COUNTER_SIZE n) EINVAL) (λ room has.
        let enough : 8 ≤ n = let holds = needed (nat_le COUNTER_SIZE n) EINVAL room has in grind (arith, nat_tests, holds) in
        gave_meets k p t fd buffer count given (with_object k h (Counter 0)) (low_bytes COUNTER_SIZE value) refl (omega arith) enough
        (λ asked. record {
          kernel = whole_object k h (Counter 0) asked.kernel (held_is k p fd h is).description (ap shape (sym object)) tt (omega arith);
          bytes_are = low_bytes_are 8 value;
        }))

    object_served : (object : Object) → h.description.object ≡ object → Trying (read_object k h (min count TRANSFER_LIMIT) object) (Meets k p t (Read fd buffer count) given)
    object_served Console at = gave_meets k p t fd buffer count given k [] refl (omega arith) (omega arith) (λ asked. record { kernel = asked.kernel; bytes_are = All-nil IsByte })
    object_served (File number offset) at = file_served number offset at
    object_served (Stream conn side) at = stream_served (dir conn (1 - side))
    object_served (Socket address) at = fails ENOTCONN
    object_served (Listener address) at = fails ENOTCONN
    object_served (Datagram peer) at = message_served h.desc
    object_served (Counter value) at = counter_served value at

  -- none of them waits
  first_settles : (d : DescId) (messages : List (List ℕ)) → Settles k (read_first k d (min count TRANSFER_LIMIT) messages)
  first_settles d [] = refl
  first_settles d (message ∷ rest) = refl

  object_settles : (h : Held) (object : Object) → Settles k (read_object k h (min count TRANSFER_LIMIT) object)
  unfolding read_file read_stream read_message read_counter
  object_settles h Console = refl
  object_settles h (File number offset) = looked_up k (map.get k.files number) EBADF _ (λ bytes. refl)
  object_settles h (Stream conn side) = looked_up k (direction_at k (dir conn (1 - side))) ENOTCONN _ (λ direction. refl)
  object_settles h (Socket address) = refl
  object_settles h (Listener address) = refl
  object_settles h (Datagram peer) = first_settles h.desc (messages_at k h.desc)
  object_settles h (Counter value) = tested k (nat_le COUNTER_SIZE n) EINVAL _ refl

  read_meets : RowLaw k p t (Read fd buffer count) given
  unfolding row read_row is_ready is_read_ready
  read_meets = row_law k p t (Read fd buffer count) given (λ e. quiet t (Read fd buffer count) _ refl)
      (after (read_access k p fd n) (λ h is. object_served h ((access_held k p fd n).each h is) h.description.object refl))
      (access_settles k (read_access k p fd n) _ (λ h. object_settles h h.description.object))

module _ (k : PlainKernel) (p : VPid) (t : ℕ) (given : List ℕ) where
  pub read_law : (fd buffer count : ℕ) → RowLaw k p t (Read fd buffer count) given
  read_law fd buffer count = read_meets k p t fd buffer count given
