-- The laws of the calls of a socket that never wait.
use Rattle.std.proofs.Common.{◌≡◌, ℕ, ◌<◌, ◌^◌, Bool, true, false, cond, List, [], length, refl, sym, ap, subst, ◌∙◌, arith}
use Rattle.std.specs.Prelude.{◌==◌, ◌&&◌, ◌||◌, not, nat_le, min, max, Some, None}
use Rattle.std.specs.FinMap as map
use Rattle.plain_tables.specs.OfSysAbi.declared.identity.VPid.{VPid}
use Rattle.plain_tables.specs.OfSysAbi.declared.identity.VirtAddr.{VirtAddr}
use Rattle.plain_tables.specs.OfSysAbi.declared.errors.TheConstants.{EINVAL, ENFILE, EOPNOTSUPP, EAFNOSUPPORT, EADDRINUSE, EADDRNOTAVAIL, ENOTCONN}
use Rattle.plain_tables.specs.OfSysAbi.declared.flags.TheConstants.{O_NONBLOCK, O_CLOEXEC}
use Rattle.plain_tables.specs.OfSysAbi.Flags.{has_flag}
use Rattle.plain_tables.specs.OfSysAbi.declared.reply.Reply.TheVariants.{Value}
use Rattle.plain_tables.specs.OfCallTable.declared.request.Request.{Request}
use Rattle.plain_tables.specs.OfCallTable.declared.request.Request.TheVariants.{Socket as SocketCall, Bind, Listen, Getsockname, Getpeername, Setsockopt, Shutdown}
use Rattle.plain_machine.specs.declared.kernel.PlainKernel.{PlainKernel}
use Rattle.plain_tables.specs.declared.description.Object.{Object}
use Rattle.plain_tables.specs.declared.description.Object.TheVariants.{Stream, Socket, Datagram}
use Rattle.plain_tables.specs.Valid.Channels.{IsStream}
use Rattle.plain_tables.specs.Valid.Descriptions.{AreFlags}
use Rattle.plain_tables.specs.Valid.Sockets.{has_host}
use Rattle.plain_tables.specs.OfPlainProcess.Attempts.{Gives, and_then, need, found}
use Rattle.plain_tables.specs.OfPlainProcess.Buffers.{reads_of, length_place, writes_of, fills_of, filled_spans, lent}
use Rattle.plain_tables.specs.OfPlainProcess.Memory.{Memory}
use Rattle.plain_tables.specs.OfPlainProcess.Put.{CanTake}
use Rattle.plain_tables.specs.OfPlainProcess.Valid.{IsWord}
use Rattle.plain_machine.specs.Kernel.{Held, host_of, has_numbers, free_from, made_of, numbered, placed, with_object}
use Rattle.plain_machine.specs.RowLaws.{IsAsked}
use Rattle.plain_machine.specs.Addresses.{AF_INET, ADDRESS_SIZE, endpoint_of, named_host, address_at, cut_to, is_port_used, automatic_port}
use Rattle.plain_machine.specs.SocketWords.{is_settled, socket_at, unbound_host, bound_or, is_stream_type, socket_flags, next_description}
use Rattle.plain_machine.specs.Rows.Sockets.{socket_row, is_own_host, port_for, bind_row, may_listen, listening, listen_row, own_name, peer_name, named, getsockname_row, getpeername_row, setsockopt_row, shut, shut_object, shutdown_row}
use Rattle.plain_machine.specs.Kernels.{IsKernel}
use Rattle.plain_machine.specs.KernelLaws.{IsAlone, MayBePlaced}
use Rattle.plain_machine.specs.Serve.{row, is_ready}
use Rattle.plain_machine.proofs.Trying.{Trying, succeeds, fails, after}
use Rattle.plain_machine.proofs.LocalReplies.{needed, was_found}
use Rattle.plain_machine.proofs.WholePlaced.{whole_placed}
use Rattle.plain_machine.proofs.WholeSockets.{socket_addressed, whole_bound, whole_listening}
use Rattle.plain_machine.proofs.WholeShutdown.{whole_shut}
use Rattle.plain_machine.proofs.SocketTests.{unchanged, settles_then, certain_then, certain_need, certain_found, Holds, socket_is, certain_socket, is_free_fd, certain_free, Making, makes, numbered_is, next_number, own_host, still_lives, automatic_is, unused_free, bound_is, certain_bound}
use Rattle.plain_machine.proofs.AddressBounds.{endpoint_port, IsShown, own_shown, peer_shown, cut_short, cut_bytes, named_room}
use Rattle.plain_machine.proofs.RowBounds.{RowLaw, Meets, row_law, quiet, leaves_threads, stays, same_processes, meets, Settles, tested, looked_up}

inner : (a b : ℕ) → Some a ≡ Some b → a ≡ b
inner a b is = cc

no_number : (a : ℕ) → None ≡ Some a → ⊥
no_number a is = cc

-- socket

new_flags : (nonblocking : Bool) → AreFlags (socket_flags nonblocking)
new_flags true = record { known = refl; mode = λ is. absurd (omega arith) }
new_flags false = record { known = refl; mode = λ is. absurd (omega arith) }

socket_alone : (host : ℕ) → IsAlone (Socket (address_at host 0))
socket_alone host = record { no_end = λ c s. refl; no_listener = λ a. refl; no_datagram = refl; knows_none = λ d. refl; unbound = refl }

may_be_placed : (k : PlainKernel) (p : VPid) → Making k p → MayBePlaced (numbered k p 1).files (numbered k p 1).channels (numbered k p 1).makers p (Socket (address_at (host_of k p) 0))
may_be_placed k p making = record {
  opened = tt;
  addressed = (let low = making.low in let same = making.host in omega arith, omega arith);
  counts = tt;
  host = λ host on. subst (λ h. has_host (map.get (numbered k p 1).makers p) h ≡ true) (inner (host_of k p) host on) (own_host k p making);
}

-- bind

unbound_is : (object : Object) (own : ℕ) → unbound_host object ≡ Some own → (old : VirtAddr) × (object ≡ Socket old) × (old.host ≡ own)
unbound_is (Socket address) own is = (address, refl, chosen (address.port == 0) is)
  where
    chosen : (b : Bool) → cond b (Some address.host) None ≡ Some own → address.host ≡ own
    chosen true is = inner address.host own is
    chosen false is = cc
unbound_is _ own is = absurd (no_number own is)

port_is : (k : PlainKernel) (host port : ℕ) → port < 65536 → Trying (port_for k host port) (λ got. (got < 65536) × (is_port_used k (address_at host got) ≡ false))
unfolding port_for
port_is k host port low = chosen (port == 0)
  where
    chosen : (b : Bool) → Trying (cond b (found (automatic_port k host) EADDRINUSE) (and_then (need (not (is_port_used k (address_at host port))) EADDRINUSE) (λ done. Gives port)))
        (λ got. (got < 65536) × (is_port_used k (address_at host got) ≡ false))
    chosen true = record { each = λ got is. let at = automatic_is k host got (was_found (automatic_port k host) EADDRINUSE got is) in (at.1, at.2) }
    chosen false = after (need (not (is_port_used k (address_at host port))) EADDRINUSE) (λ done is.
        succeeds port (low, not_used (is_port_used k (address_at host port)) (needed (not (is_port_used k (address_at host port))) EADDRINUSE done is)))
      where
        not_used : (b : Bool) → not b ≡ true → b ≡ false
        not_used true is = sym is
        not_used false is = refl

certain_port : (k : PlainKernel) (host port : ℕ) → is_settled (port_for k host port) ≡ true
unfolding port_for
certain_port k host port = chosen (port == 0)
  where
    chosen : (b : Bool) → is_settled (cond b (found (automatic_port k host) EADDRINUSE) (and_then (need (not (is_port_used k (address_at host port))) EADDRINUSE) (λ done. Gives port))) ≡ true
    chosen true = certain_found (automatic_port k host) EADDRINUSE
    chosen false = certain_then (need (not (is_port_used k (address_at host port))) EADDRINUSE) _ (certain_need (not (is_port_used k (address_at host port))) EADDRINUSE) (λ done. refl)

-- listen

listens : (object : Object) → Trying (may_listen object) (λ socket. object ≡ Socket socket)
listens (Socket address) = succeeds address refl
listens (Datagram peer) = fails EOPNOTSUPP
listens _ = fails EINVAL

certain_listen : (object : Object) → is_settled (may_listen object) ≡ true
certain_listen (Socket address) = refl
certain_listen (Datagram peer) = refl
certain_listen _ = refl

certain_peer : (k : PlainKernel) (object : Object) → is_settled (peer_name k object) ≡ true
certain_peer k (Stream conn side) = refl
certain_peer k (Datagram peer) = refl
certain_peer k _ = refl

few_waiting : (backlog : ℕ) → max 1 (min backlog 128) < 2 ^ 32
few_waiting backlog = omega arith

module _ (k : PlainKernel) (p : VPid) (t : ℕ) (given : List ℕ) where
  -- an answer of a call that leaves the processes as they were
  module _ (q : Request) (plain : leaves_threads q ≡ true) where
    answers : (next : PlainKernel) (value : ℕ) → next.processes ≡ k.processes → next.next_id ≡ k.next_id → IsWord value → (IsAsked k p t q given → IsKernel next)
        → Trying (Gives (record { kernel = next; reply = Value value; bytes = []; console = [] })) (Meets k p t q given)
    answers next value processes ids word whole = succeeds _ (meets k p t q given next value (λ asked. word)
        (λ asked answer. stays k p t q given asked _ answer (whole asked) (unchanged k next processes) (omega arith) (quiet t q _ plain)))

    names : (name : List ℕ) → IsShown name → ((memory : Memory) → lent memory q ≡ Some given → CanTake memory (filled_spans memory q) (cut_to given name)) → Trying (Gives (named k given name)) (Meets k p t q given)
    names name shown room =
        let short = cut_short given name shown in
        succeeds (named k given name) (record {
          short = omega arith;
          law = λ asked. stays k p t q given asked (named k given name)
              (record { reply = omega arith; bytes = cut_bytes given name shown; short = omega arith; room = room; is_shown = false; console = refl })
              asked.kernel (same_processes k) (omega arith) (quiet t q _ plain);
        })

  pub socket_law : (domain socket_type protocol : ℕ) → RowLaw k p t (SocketCall domain socket_type protocol) given
  unfolding row is_ready socket_row
  socket_law domain socket_type protocol = row_law k p t (SocketCall domain socket_type protocol) given (λ e. quiet t (SocketCall domain socket_type protocol) _ refl)
      (after (need (domain == AF_INET) EAFNOSUPPORT) (λ one done. after (need (is_stream_type socket_type && ((protocol == 0) || (protocol == 6))) EINVAL) (λ two done_too.
      after (need (has_numbers k p) ENFILE) (λ three room. after (free_from k p 0) (λ fd free.
      let place = is_free_fd k p fd free in
      let low = place.0 in
      let numbers = needed (has_numbers k p) ENFILE three room in
      answers (SocketCall domain socket_type protocol) refl
      (placed (numbered k p 1) p fd (next_description k p) (has_flag socket_type O_CLOEXEC) (Socket (address_at (host_of k p) 0)) (socket_flags (has_flag socket_type O_NONBLOCK)))
      fd refl refl (omega arith) (λ asked.
      let number = next_number k asked.kernel p asked.alive numbers in
      whole_placed (numbered k p 1) p fd (made_of k p) (has_flag socket_type O_CLOEXEC) (Socket (address_at (host_of k p) 0)) (socket_flags (has_flag socket_type O_NONBLOCK)) number.maker
      (numbered_is k asked.kernel p asked.alive numbers) (still_lives k p asked.alive) low place.1 number.known number.new number.below number.unknown (new_flags (has_flag socket_type O_NONBLOCK))
      (socket_alone (host_of k p)) (may_be_placed k p (makes k asked.kernel p asked.alive))))))))
      (tested k (domain == AF_INET) EAFNOSUPPORT _ (tested k (is_stream_type socket_type && ((protocol == 0) || (protocol == 6))) EINVAL _ (tested k (has_numbers k p) ENFILE _
      (settles_then k (free_from k p 0) _ (certain_free k p) (λ fd. refl)))))

  pub bind_law : (fd address length : ℕ) → RowLaw k p t (Bind fd address length) given
  unfolding row is_ready bind_row
  bind_law fd address length = row_law k p t (Bind fd address length) given (λ e. quiet t (Bind fd address length) _ refl)
      (after (socket_at k p fd) (λ h at. after (need (nat_le ADDRESS_SIZE length) EINVAL) (λ one done. after (found (unbound_host h.description.object) EINVAL) (λ own unbound.
      after (need ((endpoint_of given).family == AF_INET) EAFNOSUPPORT) (λ two done_too. after (need (is_own_host own (named_host own (endpoint_of given))) EADDRNOTAVAIL) (λ three done_again.
      after (port_for k own (endpoint_of given).port) (λ port got.
      let holds = (socket_is k p fd).each h at in
      let was = unbound_is h.description.object own (was_found (unbound_host h.description.object) EINVAL own unbound) in
      answers (Bind fd address length) refl (with_object k h (Socket (address_at own port))) 0 refl refl (omega arith) (λ asked.
      let port_fits = (port_is k own (endpoint_of given).port (endpoint_port given asked.bytes)).each port got in
      subst (λ host. IsKernel (with_object k h (Socket (address_at host port)))) was.2
      (whole_bound k asked.kernel h.desc h.description holds.known was.0 was.1 port port_fits.0
      (unused_free k h.desc (address_at was.0.host port) (ap (λ host. is_port_used k (address_at host port)) was.2 ∙ port_fits.1)))))))))))
      (settles_then k (socket_at k p fd) _ (certain_socket k p fd) (λ h. tested k (nat_le ADDRESS_SIZE length) EINVAL _ (looked_up k (unbound_host h.description.object) EINVAL _ (λ own.
      tested k ((endpoint_of given).family == AF_INET) EAFNOSUPPORT _ (tested k (is_own_host own (named_host own (endpoint_of given))) EADDRNOTAVAIL _
      (settles_then k (port_for k own (endpoint_of given).port) _ (certain_port k own (endpoint_of given).port) (λ port. refl)))))))

  pub listen_law : (fd backlog : ℕ) → RowLaw k p t (Listen fd backlog) given
  unfolding row is_ready listen_row
  listen_law fd backlog = row_law k p t (Listen fd backlog) given (λ e. quiet t (Listen fd backlog) _ refl)
      (after (socket_at k p fd) (λ h at. after (may_listen h.description.object) (λ socket may. after (bound_or k socket EADDRINUSE) (λ address found.
      let holds = (socket_is k p fd).each h at in
      let was = (listens h.description.object).each socket may in
      answers (Listen fd backlog) refl (listening k h address backlog) 0 refl refl (omega arith) (λ asked.
      let low = socket_addressed k asked.kernel h.desc h.description holds.known socket was in
      let may_use = (bound_is k asked.kernel h.desc h.description holds.known socket was low.1 EADDRINUSE).each address found in
      whole_listening k asked.kernel h.desc h.description holds.known socket was address may_use.host may_use.above may_use.low may_use.free (max 1 (min backlog 128)) (few_waiting backlog))))))
      (settles_then k (socket_at k p fd) _ (certain_socket k p fd) (λ h. settles_then k (may_listen h.description.object) _ (certain_listen h.description.object) (λ socket.
      settles_then k (bound_or k socket EADDRINUSE) _ (certain_bound k socket EADDRINUSE) (λ address. refl))))

  pub getsockname_law : (fd address length : ℕ) → RowLaw k p t (Getsockname fd address length) given
  unfolding row is_ready getsockname_row reads_of length_place fills_of writes_of
  getsockname_law fd address length = row_law k p t (Getsockname fd address length) given (λ e. quiet t (Getsockname fd address length) _ refl)
      (after (socket_at k p fd) (λ h at. names (Getsockname fd address length) refl (own_name k h.description.object) (own_shown k h.description.object) (λ memory reads.
      named_room memory (Getsockname fd address length) address length given (own_name k h.description.object) refl refl (λ size. refl) (own_shown k h.description.object) reads)))
      (settles_then k (socket_at k p fd) _ (certain_socket k p fd) (λ h. refl))

  pub getpeername_law : (fd address length : ℕ) → RowLaw k p t (Getpeername fd address length) given
  unfolding row is_ready getpeername_row reads_of length_place fills_of writes_of
  getpeername_law fd address length = row_law k p t (Getpeername fd address length) given (λ e. quiet t (Getpeername fd address length) _ refl)
      (after (socket_at k p fd) (λ h at. after (peer_name k h.description.object) (λ name is.
      let shown = (peer_shown k h.description.object).each name is in
      names (Getpeername fd address length) refl name shown (λ memory reads. named_room memory (Getpeername fd address length) address length given name refl refl (λ size. refl) shown reads))))
      (settles_then k (socket_at k p fd) _ (certain_socket k p fd) (λ h. settles_then k (peer_name k h.description.object) _ (certain_peer k h.description.object) (λ name. refl)))

  pub setsockopt_law : (fd level name value length : ℕ) → RowLaw k p t (Setsockopt fd level name value length) given
  unfolding row is_ready setsockopt_row
  setsockopt_law fd level name value length = row_law k p t (Setsockopt fd level name value length) given (λ e. quiet t (Setsockopt fd level name value length) _ refl)
      (after (socket_at k p fd) (λ h at. answers (Setsockopt fd level name value length) refl k 0 refl refl (omega arith) (λ asked. asked.kernel)))
      (settles_then k (socket_at k p fd) _ (certain_socket k p fd) (λ h. refl))

  -- shutdown
  module _ (fd how : ℕ) (h : Held) (holds : Holds k p fd h) where
    shut_served : (object : Object) → h.description.object ≡ object → Trying (shut_object k how object) (Meets k p t (Shutdown fd how) given)
    shut_served (Stream conn side) is = after (need (nat_le how 2) EINVAL) (λ one done.
        answers (Shutdown fd how) refl (record k { directions = shut k.directions conn side how }) 0 refl refl (omega arith) (λ asked.
        let stream = subst (IsStream k.channels h.description.flags) is (asked.kernel.streams.each h.desc h.description holds.known) in
        whole_shut k asked.kernel conn stream.0 side stream.1 stream.2.is_side how))
    shut_served (Datagram peer) is = fails EOPNOTSUPP
    shut_served _ is = after (need (nat_le how 2) EINVAL) (λ one done. fails ENOTCONN)

  shut_settles : (how : ℕ) (object : Object) → Settles k (shut_object k how object)
  shut_settles how (Stream conn side) = tested k (nat_le how 2) EINVAL _ refl
  shut_settles how (Datagram peer) = refl
  shut_settles how _ = tested k (nat_le how 2) EINVAL _ refl

  pub shutdown_law : (fd how : ℕ) → RowLaw k p t (Shutdown fd how) given
  unfolding row is_ready shutdown_row
  shutdown_law fd how = row_law k p t (Shutdown fd how) given (λ e. quiet t (Shutdown fd how) _ refl)
      (after (socket_at k p fd) (λ h at. shut_served fd how h ((socket_is k p fd).each h at) h.description.object refl))
      (settles_then k (socket_at k p fd) _ (certain_socket k p fd) (λ h. shut_settles how h.description.object))
