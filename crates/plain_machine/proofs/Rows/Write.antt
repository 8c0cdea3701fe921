-- The law of write.
use Rattle.std.proofs.Common.{◌≡◌, ℕ, zero, suc, ◌+◌, ◌*◌, ◌-◌, ◌%◌, ◌^◌, ◌<◌, ◌≤◌, Bool, true, false, ◌&&◌, cond, List, [], ◌∷◌, ◌++◌, length, take, refl, sym, ap, subst, ◌∙◌, arith}
use Rattle.std.specs.Prelude.{◌==◌, ◌||◌, not, nat_le, nat_lt, replicate, Option, Some, None, is_some, unwrap_or, All}
use Rattle.std.specs.FinMap as map
use Rattle.std.proofs.Math.Nat.{min-le_left}
use Rattle.std.proofs.lemmas.Bool.Decides.{nat_tests}
use Rattle.std.proofs.lemmas.List.{length-take, length-append, take-take}
use Rattle.std.proofs.lemmas.List.Elements.{All-nil, All-cons, All-take, All-append}
use Rattle.plain_tables.specs.OfViews.Limits.{ALL_FILES_LIMIT, DIRECTION_LIMIT, MESSAGE_LIMIT}
use Rattle.plain_tables.specs.OfSysAbi.declared.identity.VPid.{VPid}
use Rattle.plain_tables.specs.OfSysAbi.declared.identity.DescId.{DescId}
use Rattle.plain_tables.specs.OfSysAbi.declared.identity.Dir.{Dir}
use Rattle.plain_tables.specs.OfSysAbi.declared.identity.ConnId.{ConnId}
use Rattle.plain_tables.specs.OfSysAbi.declared.errors.TheConstants.{EBADF, EINVAL, EPIPE, EFBIG, ENOSPC, EMSGSIZE, ECONNREFUSED}
use Rattle.plain_tables.specs.OfCallTable.declared.request.Request.{Request}
use Rattle.plain_tables.specs.OfCallTable.declared.request.Request.TheVariants.{Write}
use Rattle.plain_tables.specs.OfSysAbi.declared.reply.Reply.TheVariants.{Value}
use Rattle.plain_machine.specs.declared.kernel.PlainKernel.{PlainKernel}
use Rattle.plain_tables.specs.declared.channel.Channel.{Channel}
use Rattle.plain_tables.specs.declared.channel.ChannelKind.TheVariants.{Pipe}
use Rattle.plain_tables.specs.declared.channel.Direction.{Direction}
use Rattle.plain_tables.specs.declared.description.Object.{Object}
use Rattle.plain_tables.specs.declared.description.Object.TheVariants.{Console, File, Stream, Socket, Listener, Datagram, Counter}
use Rattle.plain_tables.specs.Objects.{dir}
use Rattle.plain_tables.specs.Tables.{may_write}
use Rattle.plain_tables.specs.Valid.Channels.{IsStream}
use Rattle.plain_tables.specs.Valid.Datagrams.{IsInbox}
use Rattle.plain_tables.specs.OfPlainProcess.Attempts.{Try, Fails, NotReady, Gives, and_then, need, found}
use Rattle.plain_tables.specs.OfPlainProcess.Buffers.{filled_spans}
use Rattle.plain_tables.specs.OfPlainProcess.Memory.{little_endian}
use Rattle.plain_tables.specs.OfPlainProcess.Valid.{IsByte}
use Rattle.plain_machine.specs.Attempts.{replied}
use Rattle.plain_machine.specs.Channels.{direction_at, with_direction}
use Rattle.plain_machine.specs.Kernel.{Held, held, with_object}
use Rattle.plain_machine.specs.Kernels.{IsKernel}
use Rattle.plain_machine.specs.Making.{with_inbox}
use Rattle.plain_machine.specs.RowLaws.{IsAnswer}
use Rattle.plain_machine.specs.Rows.Files.{OFFSET_LIMIT, with_file_bytes}
use Rattle.plain_machine.specs.Rows.Write.{is_writable, write_object, write_access, write_row, is_write_ready}
use Rattle.plain_machine.specs.Serve.{row, is_ready, front_of}
use Rattle.plain_machine.specs.Transfers.Counters.{COUNTER_SIZE, COUNTER_LIMIT, number_added, may_add, takes_more, write_counter}
use Rattle.plain_machine.specs.Transfers.Datagrams.{takes_message, write_message}
use Rattle.plain_machine.specs.Transfers.Files.{total_bytes, with_piece, write_place, moved_behind, write_piece, write_file}
use Rattle.plain_machine.specs.Transfers.Streams.{is_broken, with_sent, fitting_bytes, sent, write_direction, write_stream}
use Rattle.plain_machine.specs.Waiting.{need_ready, waits}
use Rattle.plain_machine.proofs.HeldDescriptors.{held_is}
use Rattle.plain_machine.specs.FileLaws.{shape}
use Rattle.plain_machine.proofs.LocalReplies.{needed, was_found, or_try}
use Rattle.plain_machine.proofs.MemoryPages.{no_bytes_taken}
use Rattle.plain_machine.proofs.QuietRows.{unchanged_meets}
use Rattle.plain_machine.proofs.RowBounds.{RowLaw, Meets, Settles, row_law, quiet, stays, same_processes, tested, looked_up}
use Rattle.plain_machine.proofs.Transferring.{ready_is, access_settles, chosen_settles, by_test, breaks_pipe}
use Rattle.plain_machine.proofs.TransferredFiles.{whole_piece}
use Rattle.plain_machine.proofs.Trying.{Trying, succeeds, after}
use Rattle.plain_machine.proofs.WholeDatagrams.{whole_inbox}
use Rattle.plain_machine.proofs.WholeObjects.{whole_object}
use Rattle.plain_machine.proofs.WholeStreams.{whole_sent}

-- the console gets all that the call read
shown : (q : Request) (k : PlainKernel) (given : List ℕ) → length given ≤ 65536 → IsAnswer q given (record { kernel = k; reply = Value (length given); bytes = []; console = given })
shown q k given short = record {
  reply = omega arith;
  bytes = All-nil _;
  short = omega arith;
  room = λ memory reads. no_bytes_taken memory (filled_spans memory q);
  is_shown = true;
  console = refl;
}

-- what a look at the description found
record IsWritten (k : PlainKernel) (p : VPid) (fd count : ℕ) (front : List ℕ) (h : Held) : Type 0 where
  held_at : held k p fd ≡ Gives h
  may : may_write h.description.flags ≡ true
  ready : is_writable k count front h.description.object ≡ true

access_held : (k : PlainKernel) (p : VPid) (fd count : ℕ) (front : List ℕ) → Trying (write_access k p fd count front) (IsWritten k p fd count front)
unfolding write_access
access_held k p fd count front = after (held k p fd) (λ h is. after (need (may_write h.description.flags) EBADF) (λ may allowed.
    after (need_ready h.description.flags (is_writable k count front h.description.object)) (λ done ready.
    succeeds h (record {
      held_at = is;
      may = needed (may_write h.description.flags) EBADF may allowed;
      ready = ready_is h.description.flags (is_writable k count front h.description.object) done ready;
    }))))

-- the front of the bytes tells whether it waits

no_number : (n m : ℕ) → little_endian (take n (replicate m 0)) ≡ 0
no_number zero m = refl
no_number (suc n) zero = refl
no_number (suc n) (suc m) = let rest = no_number n m in omega (arith, rest)

padded : (n m : ℕ) (bytes : List ℕ) → little_endian (take n (bytes ++ replicate m 0)) ≡ little_endian (take n bytes)
padded n m [] = no_number n m ∙ sym (nothing n)
  where
    nothing : (n : ℕ) → little_endian (take n []) ≡ 0
    nothing zero = refl
    nothing (suc n) = refl
padded zero m (byte ∷ rest) = refl
padded (suc n) m (byte ∷ rest) = ap (λ value. byte + 256 * value) (padded n m rest)

same_added : (given : List ℕ) → number_added (front_of given) ≡ number_added given
same_added given = ap little_endian (take-take 8 16 (given ++ replicate 16 0) (omega arith)) ∙ padded 8 16 given

front_tells : (k : PlainKernel) (count : ℕ) (given : List ℕ) (object : Object) → is_writable k count given object ≡ is_writable k count (front_of given) object
front_tells k count given Console = refl
front_tells k count given (File number offset) = refl
front_tells k count given (Stream conn side) = refl
front_tells k count given (Socket address) = refl
front_tells k count given (Listener address) = refl
front_tells k count given (Datagram peer) = refl
front_tells k count given (Counter value) =
    ap (λ added. not (nat_le COUNTER_SIZE count && not (added == 2 ^ 64 - 1)) || nat_le (value + added) COUNTER_LIMIT) (sym (same_added given))

same_waits : (k : PlainKernel) (p : VPid) (fd count : ℕ) (given : List ℕ) → waits (write_access k p fd count given) ≡ waits (write_access k p fd count (front_of given))
unfolding write_access and_then
same_waits k p fd count given = by_held (held k p fd)
  where
    by_held : (attempt : Try Held) → waits (and_then attempt (λ h. and_then (need (may_write h.description.flags) EBADF) (λ _. and_then (need_ready h.description.flags (is_writable k count given h.description.object)) (λ _. Gives h))))
        ≡ waits (and_then attempt (λ h. and_then (need (may_write h.description.flags) EBADF) (λ _. and_then (need_ready h.description.flags (is_writable k count (front_of given) h.description.object)) (λ _. Gives h))))
    by_held (Fails e) = refl
    by_held NotReady = refl
    by_held (Gives h) = ap (λ ready. waits (and_then (need (may_write h.description.flags) EBADF) (λ _. and_then (need_ready h.description.flags ready) (λ _. Gives h)))) (front_tells k count given h.description.object)

-- a message more
one_more : (messages : List (List ℕ)) (message : List ℕ) → IsInbox messages → length messages < 64 → length message ≤ 4096 → All IsByte message → IsInbox (messages ++ message ∷ [])
one_more messages message is room short are =
    let count = length-append messages (message ∷ []) in
    record {
      count = omega arith;
      sizes = All-append (λ m. length m ≤ 4096) messages (message ∷ []) is.sizes (All-cons (λ m. length m ≤ 4096) message [] short (All-nil _));
      bytes = All-append (All IsByte) messages (message ∷ []) is.bytes (All-cons (All IsByte) message [] are (All-nil _));
    }

module _ (k : PlainKernel) (p : VPid) (t fd buffer count : ℕ) (given : List ℕ) where
  abbrev call : Request
  call = Write fd buffer count

  nothing_written : Trying (replied k 0) (Meets k p t (Write fd buffer count) given)
  nothing_written = succeeds _ (unchanged_meets k p t call given k 0 refl refl (omega arith) (λ asked. record { word = omega arith; kernel = asked.kernel }))

  module _ (h : Held) (is : IsWritten k p fd count given h) where
    -- files
    piece_served : (number offset : ℕ) (bytes : List ℕ) → h.description.object ≡ File number offset → map.get k.files number ≡ Some bytes
        → Trying (write_piece k h number (write_place h.description.flags offset bytes) bytes given) (Meets k p t (Write fd buffer count) given)
    unfolding write_piece
    piece_served number offset bytes object there =
        let place = write_place h.description.flags offset bytes in
        let end = place + length given in
        after (need (nat_lt end OFFSET_LIMIT) EFBIG) (λ low below. after (need (nat_le (total_bytes k.files + (end - length bytes)) ALL_FILES_LIMIT) ENOSPC) (λ room fits.
        let ends : end < 2 ^ 31 = let holds = needed (nat_lt end OFFSET_LIMIT) EFBIG low below in grind (arith, nat_tests, holds) in
        let all : total_bytes k.files + (end - length bytes) ≤ ALL_FILES_LIMIT = let holds = needed (nat_le (total_bytes k.files + (end - length bytes)) ALL_FILES_LIMIT) ENOSPC room fits in grind (arith, nat_tests, holds) in
        succeeds _ (unchanged_meets k p t call given (moved_behind (with_file_bytes k number (with_piece bytes place given)) h number end) (length given) refl refl (omega arith) (λ asked. let short = asked.short in record {
          word = omega arith;
          kernel = whole_piece k h number offset place bytes given asked.kernel (held_is k p fd h is.held_at).description object there asked.bytes ends all;
        }))))

    file_served : (number offset : ℕ) → h.description.object ≡ File number offset → Trying (write_file k h number offset given) (Meets k p t (Write fd buffer count) given)
    unfolding write_file
    file_served number offset object = after (found (map.get k.files number) EBADF) (λ bytes there.
        or_try (length given == 0) (replied k 0) (write_piece k h number (write_place h.description.flags offset bytes) bytes given) nothing_written
        (piece_served number offset bytes object (was_found (map.get k.files number) EBADF bytes there)))

    -- channels' ends
    no_reader : (conn : ConnId) (side : ℕ) → h.description.object ≡ Stream conn side → IsKernel k → (channel : Channel) → map.get k.channels conn ≡ Some channel → channel.kind ≡ Pipe → side ≡ 1 → ⊥
    no_reader conn side object kernel channel there pipe one =
        let at = held_is k p fd h is.held_at in
        let end : IsStream k.channels h.description.flags (Stream conn side) = subst (IsStream k.channels h.description.flags) object (kernel.streams.each h.desc h.description at.description) in
        let same : end.0 ≡ channel = let known = end.1 in cc in
        let mode : h.description.flags % 4 ≡ 0 = end.2.mode (ap (λ (c : Channel). c.kind) same ∙ pipe) ∙ ap (λ s. cond (s == 0) 1 0) one in
        not_both (h.description.flags % 4) mode is.may
      where
        not_both : (mode : ℕ) → mode ≡ 0 → ((mode == 1) || (mode == 2)) ≡ true → ⊥
        not_both mode none may = grind (arith, nat_tests, none, may)

    sent_served : (conn : ConnId) (side : ℕ) (direction : Direction) → h.description.object ≡ Stream conn side → direction_at k (dir conn side) ≡ Some direction → is_broken direction ≡ false
        → Trying (sent k (dir conn side) direction (fitting_bytes given direction)) (Meets k p t (Write fd buffer count) given)
    sent_served conn side direction object there goes_on =
        let bytes = fitting_bytes given direction in
        let room = DIRECTION_LIMIT - length direction.left in
        let some = length-take room given in
        let least = min-le_left room (length given) in
        succeeds _ (unchanged_meets k p t call given (with_direction k (dir conn side) (with_sent bytes direction)) (length bytes) refl refl (omega arith) (λ asked. record {
          word = omega arith;
          kernel = whole_sent k (dir conn side) direction asked.kernel there given goes_on asked.bytes (no_reader conn side object asked.kernel);
        }))

    stream_served : (conn : ConnId) (side : ℕ) → h.description.object ≡ Stream conn side → Trying (write_stream k p t (dir conn side) count given) (Meets k p t (Write fd buffer count) given)
    unfolding write_stream
    stream_served conn side object = after (found (direction_at k (dir conn side)) EPIPE) (λ direction there.
        or_try (count == 0) (replied k 0) _ nothing_written
        (by_test (is_broken direction) _ _ (λ broken. breaks_pipe k p t call given refl)
        (λ goes_on. sent_served conn side direction object (was_found (direction_at k (dir conn side)) EPIPE direction there) goes_on)))

    -- datagram ends
    has_room : (peer : DescId) (messages : List (List ℕ)) → takes_message k peer count ≡ true → count ≤ 4096 → map.get k.inboxes peer ≡ Some messages → length messages < 64
    has_room peer messages takes short there =
        by_found (map.get k.inboxes peer) there takes
      where
        by_found : (found : Option (List (List ℕ))) → found ≡ Some messages → ((nat_lt MESSAGE_LIMIT count || not (is_some found)) || nat_lt (length (unwrap_or found [])) 64) ≡ true → length messages < 64
        by_found None is takes = cc
        by_found (Some waiting) is takes =
            let same : waiting ≡ messages = cc in
            let few : length waiting < 64 = grind (arith, nat_tests, short, takes) in
            subst (λ m. length m < 64) same few

    message_served : (peer : DescId) → takes_message k peer count ≡ true → Trying (write_message k peer count given) (Meets k p t (Write fd buffer count) given)
    unfolding write_message
    message_served peer takes = after (need (nat_le count MESSAGE_LIMIT) EMSGSIZE) (λ short fits. after (found (map.get k.inboxes peer) ECONNREFUSED) (λ messages there.
        let few : count ≤ 4096 = let holds = needed (nat_le count MESSAGE_LIMIT) EMSGSIZE short fits in grind (arith, nat_tests, holds) in
        let known = was_found (map.get k.inboxes peer) ECONNREFUSED messages there in
        let some = length-take count given in
        let least = min-le_left count (length given) in
        succeeds _ (unchanged_meets k p t call given (with_inbox k peer (messages ++ take count given ∷ [])) (length (take count given)) refl refl (omega arith) (λ asked. record {
          word = omega arith;
          kernel = whole_inbox k peer (messages ++ take count given ∷ []) asked.kernel (ap is_some known)
              (one_more messages (take count given) (asked.kernel.inboxes.messages peer messages known) (has_room peer messages takes few known) (omega arith) (All-take IsByte count given asked.bytes));
        }))))

    -- counters
    counter_served : (value : ℕ) → h.description.object ≡ Counter value → takes_more value count given ≡ true → Trying (write_counter k h value count given) (Meets k p t (Write fd buffer count) given)
    unfolding write_counter
    counter_served value object takes = after (need (may_add count given) EINVAL) (λ may can.
        let sum = value + number_added given in
        let fits : sum ≤ 2 ^ 64 - 2 = within (may_add count given) sum takes (needed (may_add count given) EINVAL may can) in
        succeeds _ (unchanged_meets k p t call given (with_object k h (Counter sum)) COUNTER_SIZE refl refl (omega arith) (λ asked. record {
          word = omega arith;
          kernel = whole_object k h (Counter sum) asked.kernel (held_is k p fd h is.held_at).description (ap shape (sym object)) tt (omega arith);
        })))
      where
        within : (may : Bool) (sum : ℕ) → (not may || nat_le sum COUNTER_LIMIT) ≡ true → may ≡ true → sum ≤ 2 ^ 64 - 2
        within true sum takes can = grind (arith, nat_tests, takes)
        within false sum takes can = cc

    object_served : (object : Object) → h.description.object ≡ object → is_writable k count given object ≡ true → Trying (write_object k p t h count given object) (Meets k p t (Write fd buffer count) given)
    object_served Console at ready = succeeds _ (record {
      short = omega arith;
      law = λ asked. stays k p t call given asked _ (shown call k given asked.short) asked.kernel (same_processes k) (omega arith) (quiet t call _ refl);
    })
    object_served (File number offset) at ready = file_served number offset at
    object_served (Stream conn side) at ready = stream_served conn side at
    object_served (Socket address) at ready = breaks_pipe k p t call given refl
    object_served (Listener address) at ready = breaks_pipe k p t call given refl
    object_served (Datagram peer) at ready = message_served peer ready
    object_served (Counter value) at ready = counter_served value at ready

  -- none of them waits
  direction_settles : (to : Dir) (direction : Direction) → Settles k (write_direction k p t to count given direction)
  direction_settles to direction = chosen_settles k (count == 0) (replied k 0) _ refl (chosen_settles k (is_broken direction) _ _ refl refl)

  piece_settles : (h : Held) (number place : ℕ) (bytes : List ℕ) → Settles k (write_piece k h number place bytes given)
  unfolding write_piece
  piece_settles h number place bytes = tested k _ EFBIG _ (tested k _ ENOSPC _ refl)

  object_settles : (h : Held) (object : Object) → Settles k (write_object k p t h count given object)
  unfolding write_file write_stream write_message write_counter
  object_settles h Console = refl
  object_settles h (File number offset) = looked_up k (map.get k.files number) EBADF _ (λ bytes.
      chosen_settles k (length given == 0) (replied k 0) _ refl (piece_settles h number (write_place h.description.flags offset bytes) bytes))
  object_settles h (Stream conn side) = looked_up k (direction_at k (dir conn side)) EPIPE _ (λ direction. direction_settles (dir conn side) direction)
  object_settles h (Socket address) = refl
  object_settles h (Listener address) = refl
  object_settles h (Datagram peer) = tested k (nat_le count MESSAGE_LIMIT) EMSGSIZE _ (looked_up k (map.get k.inboxes peer) ECONNREFUSED _ (λ messages. refl))
  object_settles h (Counter value) = tested k (may_add count given) EINVAL _ refl

  pub write_law : RowLaw k p t (Write fd buffer count) given
  unfolding row write_row is_ready is_write_ready
  write_law = row_law k p t call given (λ e. quiet t call _ refl)
      (after (write_access k p fd count given) (λ h is.
      let found_it = (access_held k p fd count given).each h is in
      object_served h found_it h.description.object refl found_it.ready))
      (access_settles k (write_access k p fd count given) _ (λ h. object_settles h h.description.object) ∙ ap not (same_waits k p fd count given))
