-- A read and a write lose and make no byte of a direction.
--     reads_flow, writes_flow
use Rattle.std.proofs.Common.{◌≡◌, ℕ, ◌-◌, Bool, true, false, cond, List, [], ◌∷◌, ◌++◌, length, take, refl, sym, ap, subst, ◌∙◌}
use Rattle.std.specs.Prelude.{◌==◌, min, nat_le, Option, Some, option_and_then}
use Rattle.std.specs.Ordering.{eq_by_cmp}
use Rattle.std.specs.FinMap as map
use Rattle.std.proofs.lemmas.List.{take-append-drop, take_min, length-take, append-nil}
use Rattle.plain_tables.specs.OfViews.Limits.{DIRECTION_LIMIT, MESSAGE_LIMIT}
use Rattle.plain_tables.proofs.OfViews.MapLaws.{get_insert_same, get_insert_other, same_key, key_tied, true_false}
use Rattle.plain_tables.specs.OfSysAbi.declared.identity.VPid.{VPid}
use Rattle.plain_tables.specs.OfSysAbi.declared.identity.DescId.{DescId}
use Rattle.plain_tables.specs.OfSysAbi.declared.identity.Dir.{Dir}
use Rattle.plain_tables.specs.OfSysAbi.declared.errors.TheConstants.{EBADF, EINVAL, ENOTCONN, EPIPE, EFBIG, ENOSPC, EMSGSIZE, ECONNREFUSED}
use Rattle.plain_tables.specs.OfSysAbi.declared.transfer.TheConstants.{TRANSFER_LIMIT}
use Rattle.plain_tables.specs.OfSysAbi.Orders.{dir_cmp}
use Rattle.plain_tables.proofs.OfSysAbi.OrderLaws.{dir_total, dir_exact}
use Rattle.plain_machine.specs.declared.kernel.PlainKernel.{PlainKernel}
use Rattle.plain_tables.specs.declared.channel.Direction.{Direction}
use Rattle.plain_tables.specs.declared.description.Description.{Description}
use Rattle.plain_tables.specs.OfSysAbi.declared.descriptor.Descriptor.{Descriptor}
use Rattle.plain_tables.specs.declared.description.Object.{Object}
use Rattle.plain_tables.specs.declared.description.Object.TheVariants.{Console, File, Stream, Socket, Listener, Datagram, Counter}
use Rattle.plain_tables.specs.Objects.{dir}
use Rattle.plain_tables.specs.Tables.{may_write}
use Rattle.plain_tables.specs.OfPlainProcess.Attempts.{Gives, need, found}
use Rattle.plain_tables.specs.OfPlainProcess.Memory.{low_bytes}
use Rattle.plain_machine.specs.Attempts.{Served, replied}
use Rattle.plain_machine.specs.Channels.{direction_at, with_direction}
use Rattle.plain_machine.specs.Kernel.{Held, held, description_at, after_raise, with_object}
use Rattle.plain_machine.specs.Rows.Read.{is_readable, read_object, read_access, read_row}
use Rattle.plain_machine.specs.Rows.Write.{is_writable, write_object, write_access, write_row}
use Rattle.plain_machine.specs.StreamLaws.{reads_from, writes_to, is_open_by, given_of, count_of, taken_of, ReadsFlow, WritesFlow}
use Rattle.plain_machine.specs.Transfers.Answers.{may_read, gave, broken_pipe}
use Rattle.plain_machine.specs.Transfers.Counters.{COUNTER_SIZE, may_add, read_counter, write_counter}
use Rattle.plain_machine.specs.Transfers.Datagrams.{messages_at, read_first, read_message, write_message}
use Rattle.plain_machine.specs.Transfers.Files.{read_file, write_place, write_piece, write_file}
use Rattle.plain_machine.specs.Transfers.Streams.{is_broken, without_front, with_sent, fitting_bytes, read_stream, sent, write_direction, write_stream}
use Rattle.plain_machine.specs.Waiting.{need_ready}
use Rattle.plain_machine.proofs.HeldDescriptors.{held_is}
use Rattle.plain_machine.proofs.LocalReplies.{was_found, or_try}
use Rattle.plain_machine.proofs.Trying.{Trying, succeeds, fails, after}

-- a direction that is the same holds the same
same_left : (found after : Option Direction) (old new : Direction) → after ≡ found → found ≡ Some old → after ≡ Some new → new.left ≡ old.left
same_left found after old new same there now = let one : new ≡ old = cc in ap (λ (d : Direction). d.left) one

pub described : (k : PlainKernel) (p : VPid) (fd : ℕ) (h : Held) → held k p fd ≡ Gives h → description_at k p fd ≡ Some h.description
unfolding description_at
described k p fd h is =
    let at = held_is k p fd h is in
    ap (option_and_then (λ (descriptor : Descriptor). map.get k.descriptions descriptor.desc)) at.descriptor ∙ at.description

-- reads

record Reads (k : PlainKernel) (found : Option Description) (served : Served) : Type 0 where
  each : (at : Dir) (old new : Direction) → direction_at k at ≡ Some old → direction_at served.kernel at ≡ Some new → given_of (is_open_by (reads_from at) found) served ++ new.left ≡ old.left

module _ (k : PlainKernel) (description : Description) where
  -- of what is no end of a channel
  no_gift : (next : PlainKernel) (bytes : List ℕ) → next.directions ≡ k.directions → ((at : Dir) → reads_from at description.object ≡ false) → Trying (gave next bytes) (Reads k (Some description))
  no_gift next bytes same other = succeeds _ (record {
    each = λ at old new there now.
        ap (λ b. cond b bytes [] ++ new.left) (other at) ∙ same_left (map.get k.directions at) (map.get next.directions at) old new (ap (λ m. map.get m at) same) there now;
  })

  gift : (from : Dir) (direction : Direction) (n : ℕ) → direction_at k from ≡ Some direction → ((at : Dir) → reads_from at description.object ≡ eq_by_cmp dir_cmp at from)
      → Trying (gave (with_direction k from (without_front n direction)) (take n direction.left)) (Reads k (Some description))
  gift from direction n there its = succeeds _ (record {
    each = λ at old new stood now.
        ap (λ b. cond b (take n direction.left) [] ++ new.left) (its at) ∙ by_test at old new (eq_by_cmp dir_cmp at from) refl stood now;
  })
    where
      by_test : (at : Dir) (old new : Direction) (b : Bool) → eq_by_cmp dir_cmp at from ≡ b → map.get k.directions at ≡ Some old → map.get (map.insert k.directions from (without_front n direction)) at ≡ Some new
          → cond b (take n direction.left) [] ++ new.left ≡ old.left
      by_test at old new true tied stood now =
          let here = same_key dir_total dir_exact at from tied in
          let was : direction ≡ old = let found = subst (λ d. map.get k.directions d ≡ Some old) here stood in cc in
          let is : without_front n direction ≡ new =
          let found = subst (λ d. map.get (map.insert k.directions from (without_front n direction)) d ≡ Some new) here now in
          let put = get_insert_same dir_total dir_exact k.directions from (without_front n direction) in cc in
          ap (λ (d : Direction). take n direction.left ++ d.left) (sym is) ∙ take-append-drop n direction.left ∙ ap (λ (d : Direction). d.left) was
      by_test at old new false other stood now =
          same_left (map.get k.directions at) (map.get (map.insert k.directions from (without_front n direction)) at) old new
          (get_insert_other dir_total dir_exact k.directions from (without_front n direction) at (λ same. true_false (sym (ap (λ d. eq_by_cmp dir_cmp d from) same ∙ key_tied dir_total dir_exact from) ∙ other))) stood now

  no_first : (d : DescId) (count : ℕ) (messages : List (List ℕ)) → ((at : Dir) → reads_from at description.object ≡ false) → Trying (read_first k d count messages) (Reads k (Some description))
  no_first d count [] other = no_gift k [] refl other
  no_first d count (message ∷ rest) other = no_gift _ (take count message) refl other

  object_reads : (h : Held) (count : ℕ) (object : Object) → description.object ≡ object → Trying (read_object k h count object) (Reads k (Some description))
  unfolding read_file read_stream read_message read_counter
  object_reads h count Console is = no_gift k [] refl (λ at. ap (reads_from at) is)
  object_reads h count (File number offset) is = after (found (map.get k.files number) EBADF) (λ bytes there. no_gift _ _ refl (λ at. ap (reads_from at) is))
  object_reads h count (Stream conn side) is = after (found (direction_at k (dir conn (1 - side))) ENOTCONN) (λ direction there.
      gift (dir conn (1 - side)) direction (min count direction.arrived) (was_found (direction_at k (dir conn (1 - side))) ENOTCONN direction there) (λ at. ap (reads_from at) is))
  object_reads h count (Socket address) is = fails ENOTCONN
  object_reads h count (Listener address) is = fails ENOTCONN
  object_reads h count (Datagram peer) is = no_first h.desc count (messages_at k h.desc) (λ at. ap (reads_from at) is)
  object_reads h count (Counter value) is = after (need (nat_le COUNTER_SIZE count) EINVAL) (λ room has. no_gift (with_object k h (Counter 0)) (low_bytes COUNTER_SIZE value) refl (λ at. ap (reads_from at) is))

row_reads : (k : PlainKernel) (p : VPid) (fd count : ℕ) → Trying (read_row k p fd count) (Reads k (description_at k p fd))
unfolding read_row read_access
row_reads k p fd count =
    let n = min count TRANSFER_LIMIT in
    after (read_access k p fd n) (λ h access.
    subst (λ found. Trying (read_object k h n h.description.object) (Reads k found)) (sym (described k p fd h ((access_held n).each h access))) (object_reads k h.description h n h.description.object refl))
  where
    access_held : (n : ℕ) → Trying (read_access k p fd n) (λ h. held k p fd ≡ Gives h)
    access_held n = after (held k p fd) (λ h is. after (need (may_read h.description.flags) EBADF) (λ may allowed. after (need_ready h.description.flags (is_readable k h n h.description.object)) (λ done ready. succeeds h is)))

pub reads_flow : ReadsFlow
reads_flow k p fd count served at old new goes there now = ((row_reads k p fd count).each served goes).each at old new there now

-- writes

record Writes (k : PlainKernel) (given : List ℕ) (found : Option Description) (served : Served) : Type 0 where
  each : (at : Dir) (old new : Direction) → direction_at k at ≡ Some old → direction_at served.kernel at ≡ Some new → new.left ≡ old.left ++ taken_of (is_open_by (writes_to at) found) served given

none_taken : (b : Bool) (given : List ℕ) → cond b (take 0 given) [] ≡ []
none_taken true [] = refl
none_taken true (byte ∷ rest) = refl
none_taken false given = refl

module _ (k : PlainKernel) (given : List ℕ) (description : Description) where
  -- of what is no end of a channel
  not_sent : (served : Served) → served.kernel.directions ≡ k.directions → ((at : Dir) → writes_to at description.object ≡ false) → Trying (Gives served) (Writes k given (Some description))
  not_sent served same other = succeeds served (record {
    each = λ at old new there now.
        same_left (map.get k.directions at) (map.get served.kernel.directions at) old new (ap (λ m. map.get m at) same) there now
        ∙ sym (ap (λ b. old.left ++ cond b (take (count_of served.reply) given) []) (other at) ∙ append-nil old.left);
  })

  -- an answer of nothing
  nothing_sent : (served : Served) → served.kernel.directions ≡ k.directions → count_of served.reply ≡ 0 → Trying (Gives served) (Writes k given (Some description))
  nothing_sent served same none = succeeds served (record {
    each = λ at old new there now.
        same_left (map.get k.directions at) (map.get served.kernel.directions at) old new (ap (λ m. map.get m at) same) there now
        ∙ sym (ap (λ n. old.left ++ cond (writes_to at description.object) (take n given) []) none ∙ ap (λ bytes. old.left ++ bytes) (none_taken (writes_to at description.object) given) ∙ append-nil old.left);
  })

  breaks : (p : VPid) (t : ℕ) → Trying (broken_pipe k p t) (Writes k given (Some description))
  unfolding after_raise
  breaks p t = nothing_sent _ refl refl

  fitting_is : (direction : Direction) → take (length (fitting_bytes given direction)) given ≡ fitting_bytes given direction
  fitting_is direction =
      ap (λ n. take n given) (length-take (DIRECTION_LIMIT - length direction.left) given) ∙ take_min (DIRECTION_LIMIT - length direction.left) given

  bytes_sent : (to : Dir) (direction : Direction) → direction_at k to ≡ Some direction → ((at : Dir) → writes_to at description.object ≡ eq_by_cmp dir_cmp at to)
      → Trying (sent k to direction (fitting_bytes given direction)) (Writes k given (Some description))
  bytes_sent to direction there its = succeeds _ (record {
    each = λ at old new stood now.
        by_test at old new (eq_by_cmp dir_cmp at to) refl stood now ∙ sym (ap (λ b. old.left ++ cond b (take (length (fitting_bytes given direction)) given) []) (its at));
  })
    where
      by_test : (at : Dir) (old new : Direction) (b : Bool) → eq_by_cmp dir_cmp at to ≡ b → map.get k.directions at ≡ Some old
          → map.get (map.insert k.directions to (with_sent (fitting_bytes given direction) direction)) at ≡ Some new → new.left ≡ old.left ++ cond b (take (length (fitting_bytes given direction)) given) []
      by_test at old new true tied stood now =
          let here = same_key dir_total dir_exact at to tied in
          let after_it = with_sent (fitting_bytes given direction) direction in
          let was : direction ≡ old = let found = subst (λ d. map.get k.directions d ≡ Some old) here stood in cc in
          let is : after_it ≡ new =
          let found = subst (λ d. map.get (map.insert k.directions to after_it) d ≡ Some new) here now in
          let put = get_insert_same dir_total dir_exact k.directions to after_it in cc in
          ap (λ (d : Direction). d.left) (sym is) ∙ ap (λ (d : Direction). d.left ++ fitting_bytes given direction) was ∙ ap (λ bytes. old.left ++ bytes) (sym (fitting_is direction))
      by_test at old new false other stood now =
          same_left (map.get k.directions at) (map.get (map.insert k.directions to (with_sent (fitting_bytes given direction) direction)) at) old new
          (get_insert_other dir_total dir_exact k.directions to (with_sent (fitting_bytes given direction) direction) at (λ same. true_false (sym (ap (λ d. eq_by_cmp dir_cmp d to) same ∙ key_tied dir_total dir_exact to) ∙ other))) stood now
          ∙ sym (append-nil old.left)

  direction_writes : (p : VPid) (t count : ℕ) (to : Dir) (direction : Direction) → direction_at k to ≡ Some direction → ((at : Dir) → writes_to at description.object ≡ eq_by_cmp dir_cmp at to)
      → Trying (write_direction k p t to count given direction) (Writes k given (Some description))
  direction_writes p t count to direction there its = or_try (count == 0) (replied k 0) _ (nothing_sent _ refl refl)
      (or_try (is_broken direction) (broken_pipe k p t) (sent k to direction (fitting_bytes given direction)) (breaks p t) (bytes_sent to direction there its))

  piece_writes : (h : Held) (number place : ℕ) (bytes : List ℕ) → ((at : Dir) → writes_to at description.object ≡ false) → Trying (write_piece k h number place bytes given) (Writes k given (Some description))
  unfolding write_piece
  piece_writes h number place bytes other = after (need _ EFBIG) (λ low below. after (need _ ENOSPC) (λ room fits. not_sent _ refl other))

  object_writes : (p : VPid) (t : ℕ) (h : Held) (count : ℕ) (object : Object) → description.object ≡ object → Trying (write_object k p t h count given object) (Writes k given (Some description))
  unfolding write_file write_stream write_message write_counter
  object_writes p t h count Console is = not_sent _ refl (λ at. ap (writes_to at) is)
  object_writes p t h count (File number offset) is = after (found (map.get k.files number) EBADF) (λ bytes there.
      or_try (length given == 0) (replied k 0) _ (nothing_sent _ refl refl) (piece_writes h number (write_place h.description.flags offset bytes) bytes (λ at. ap (writes_to at) is)))
  object_writes p t h count (Stream conn side) is = after (found (direction_at k (dir conn side)) EPIPE) (λ direction there.
      direction_writes p t count (dir conn side) direction (was_found (direction_at k (dir conn side)) EPIPE direction there) (λ at. ap (writes_to at) is))
  object_writes p t h count (Socket address) is = breaks p t
  object_writes p t h count (Listener address) is = breaks p t
  object_writes p t h count (Datagram peer) is = after (need (nat_le count MESSAGE_LIMIT) EMSGSIZE) (λ short fits. after (found (map.get k.inboxes peer) ECONNREFUSED) (λ messages there.
      not_sent _ refl (λ at. ap (writes_to at) is)))
  object_writes p t h count (Counter value) is = after (need (may_add count given) EINVAL) (λ may can. not_sent _ refl (λ at. ap (writes_to at) is))

row_writes : (k : PlainKernel) (p : VPid) (t fd count : ℕ) (given : List ℕ) → Trying (write_row k p t fd count given) (Writes k given (description_at k p fd))
unfolding write_row write_access
row_writes k p t fd count given =
    after (write_access k p fd count given) (λ h access.
    subst (λ found. Trying (write_object k p t h count given h.description.object) (Writes k given found)) (sym (described k p fd h (access_held.each h access))) (object_writes k given h.description p t h count h.description.object refl))
  where
    access_held : Trying (write_access k p fd count given) (λ h. held k p fd ≡ Gives h)
    access_held = after (held k p fd) (λ h is. after (need (may_write h.description.flags) EBADF) (λ may allowed. after (need_ready h.description.flags (is_writable k count given h.description.object)) (λ done ready. succeeds h is)))

pub writes_flow : WritesFlow
writes_flow k p t fd count given served at old new goes there now = ((row_writes k p t fd count given).each served goes).each at old new there now
