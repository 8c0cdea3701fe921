-- The laws of accept and connect.
use Rattle.std.proofs.Common.{◌≡◌, ℕ, ◌<◌, ◌≤◌, Bool, true, false, cond, List, [], ◌∷◌, length, refl, sym, ap, subst, ◌∙◌, arith}
use Rattle.std.specs.Prelude.{◌==◌, ◌&&◌, nat_le, nat_lt, Some, None, All}
use Rattle.std.specs.FinMap as map
use Rattle.std.proofs.lemmas.Bool.Decides.{nat_tests}
use Rattle.std.proofs.lemmas.List.Elements.{All-nil}
use Rattle.plain_tables.specs.OfViews.Limits.{CHANNEL_LIMIT}
use Rattle.plain_tables.specs.OfSysAbi.declared.identity.VPid.{VPid}
use Rattle.plain_tables.specs.OfSysAbi.declared.identity.ConnId.{ConnId}
use Rattle.plain_tables.specs.OfSysAbi.declared.identity.VirtAddr.{VirtAddr}
use Rattle.plain_tables.specs.OfSysAbi.declared.errors.TheConstants.{EINVAL, ENFILE, EOPNOTSUPP, EAFNOSUPPORT, EADDRNOTAVAIL, EISCONN, ECONNREFUSED}
use Rattle.plain_tables.specs.OfSysAbi.declared.flags.TheConstants.{O_RDWR}
use Rattle.plain_tables.specs.OfSysAbi.declared.reply.Reply.TheVariants.{Value}
use Rattle.plain_tables.specs.OfCallTable.declared.request.Request.TheVariants.{Accept, Connect}
use Rattle.plain_machine.specs.declared.kernel.PlainKernel.{PlainKernel}
use Rattle.plain_tables.specs.declared.channel.ChannelKind.TheVariants.{Internet}
use Rattle.plain_tables.specs.declared.channel.Listening.{Listening}
use Rattle.plain_tables.specs.declared.description.Object.{Object}
use Rattle.plain_tables.specs.declared.description.Object.TheVariants.{Stream, Socket, Listener, Datagram}
use Rattle.plain_tables.specs.Tables.{Listeners, changed_by, slot}
use Rattle.plain_tables.specs.Valid.Descriptions.{AreFlags}
use Rattle.plain_tables.specs.OfPlainProcess.Attempts.{Gives, need, found}
use Rattle.plain_tables.specs.OfPlainProcess.declared.buffers.Source.TheVariants.{Nothing, Bytes}
use Rattle.plain_tables.specs.OfPlainProcess.Buffers.{span, reads_of, length_place, address_spans, writes_of, fills_of, filled_spans, lent}
use Rattle.plain_tables.specs.OfPlainProcess.Memory.{Memory}
use Rattle.plain_tables.specs.OfPlainProcess.Put.{CanTake}
use Rattle.plain_tables.specs.OfPlainProcess.Valid.{IsByte}
use Rattle.plain_machine.specs.Kernel.{Held, is_live, made_of, has_numbers, free_from, numbered, placed, with_description}
use Rattle.plain_machine.specs.Channels.{open_channel, with_channel}
use Rattle.plain_machine.specs.Addresses.{AF_INET, ADDRESS_SIZE, Endpoint, endpoint_of, named_host, address_at, cut_to}
use Rattle.plain_machine.specs.SocketWords.{is_settled, unready, socket_at, listens_at, bound_or, end_name, next_description, next_channel, without_first, with_last}
use Rattle.plain_machine.specs.Rows.Connections.{Accepting, first_waiting, accepting_of, accepted, accept_served, accept_row, is_accept_ready, Connecting, may_connect, if_room, connecting_of, connected, connect_row, is_connect_ready}
use Rattle.plain_machine.specs.Kernels.{IsKernel}
use Rattle.plain_machine.specs.Serve.{row, is_ready}
use Rattle.plain_tables.proofs.Queues.{waiting_at}
use Rattle.plain_machine.proofs.Trying.{Trying, succeeds, fails, after}
use Rattle.plain_machine.proofs.LocalReplies.{needed, was_found}
use Rattle.plain_machine.proofs.MemoryPages.{no_bytes_taken}
use Rattle.plain_machine.proofs.WholeSockets.{socket_addressed, whole_accepted, whole_connected, given_out}
use Rattle.plain_machine.proofs.SocketTests.{unchanged, settled_gives, never, Holds, socket_is, is_free_fd, numbered_is, next_number, new_channel, still_lives, MayUse, bound_is}
use Rattle.plain_machine.proofs.AddressBounds.{front_endpoint, IsShown, end_shown, cut_short, cut_bytes, named_room}
use Rattle.plain_machine.proofs.RowBounds.{RowLaw, row_law, quiet, stays, meets}

stream_flags : AreFlags O_RDWR
stream_flags = record { known = refl; mode = λ is. absurd (omega arith) }

-- accept

-- the tests of accept passed
pub record MayAccept (k : PlainKernel) (p : VPid) (fd : ℕ) (a : Accepting) : Type 0 where
  pub h : Held
  pub holds : Holds k p fd h
  pub listens : h.description.object ≡ Listener a.address
  pub backlog : ℕ
  pub rest : List ConnId
  pub there : map.get k.listeners a.address ≡ Some (waiting_at backlog (a.conn ∷ rest))
  pub room : has_numbers k p ≡ true
  pub low : a.fd < 256
  pub free : map.get k.descriptors (slot p a.fd) ≡ None

listener_is : (object : Object) (address : VirtAddr) → listens_at object ≡ Some address → object ≡ Listener address
listener_is (Listener own) address is = let same : own ≡ address = cc in ap Listener same
listener_is _ address is = absurd (nothing is)
  where
    nothing : None ≡ Some address → ⊥
    nothing is = cc

module _ (k : PlainKernel) (p : VPid) (fd : ℕ) (h : Held) (holds : Holds k p fd h) (address : VirtAddr) (listens : h.description.object ≡ Listener address) (listening : Listening)
    (there : map.get k.listeners address ≡ Some listening) (room : has_numbers k p ≡ true) (new : ℕ) (place : (new < 256) × (map.get k.descriptors (slot p new) ≡ None)) where
  first_is : (queue : List ConnId) → listening.queue ≡ queue → Trying (first_waiting h.description.flags address new queue) (MayAccept k p fd)
  first_is [] is = never h.description.flags
  first_is (conn ∷ rest) is = succeeds (record { fd = new; address = address; conn = conn }) (record {
    h = h;
    holds = holds;
    listens = listens;
    backlog = listening.backlog;
    rest = rest;
    there = there ∙ ap (λ queue. Some (waiting_at listening.backlog queue)) is;
    room = room;
    low = place.0;
    free = place.1;
  })

may_accept : (k : PlainKernel) (p : VPid) (fd : ℕ) → Trying (accepting_of k p fd) (MayAccept k p fd)
unfolding accepting_of
may_accept k p fd =
    after (socket_at k p fd) (λ h at. after (found (listens_at h.description.object) EINVAL) (λ address listens. after (found (map.get k.listeners address) EINVAL) (λ listening there.
    after (need (has_numbers k p) ENFILE) (λ done room. after (free_from k p 0) (λ new free.
    first_is k p fd h ((socket_is k p fd).each h at) address (listener_is h.description.object address (was_found (listens_at h.description.object) EINVAL address listens)) listening
    (was_found (map.get k.listeners address) EINVAL listening there) (needed (has_numbers k p) ENFILE done room) new (is_free_fd k p new free) listening.queue refl)))))

module _ (k : PlainKernel) (p : VPid) (t : ℕ) (given : List ℕ) where
  module _ (fd address place : ℕ) where
    accept_room : (name : List ℕ) → IsShown name → (b : Bool) → (address == 0) ≡ b → (memory : Memory) → lent memory (Accept fd address place) ≡ Some given
        → CanTake memory (filled_spans memory (Accept fd address place)) (cond b [] (cut_to given name))
    unfolding reads_of length_place fills_of writes_of
    accept_room name shown true none memory reads = no_bytes_taken memory (filled_spans memory (Accept fd address place))
    accept_room name shown false some memory reads = named_room memory (Accept fd address place) address place given name (ap (λ b. cond b Nothing (Bytes (span place 4))) some) refl
        (λ size. ap (λ b. cond b [] (address_spans address place size)) some) shown reads

    accept_short : (name : List ℕ) → IsShown name → (b : Bool) → length (cond b [] (cut_to given name)) ≤ 20
    accept_short name shown true = omega arith
    accept_short name shown false = cut_short given name shown

    accept_bytes : (name : List ℕ) → IsShown name → (b : Bool) → All IsByte (cond b [] (cut_to given name))
    accept_bytes name shown true = All-nil IsByte
    accept_bytes name shown false = cut_bytes given name shown

    accept_whole : IsKernel k → is_live k p ≡ true → (a : Accepting) → MayAccept k p fd a → IsKernel (accepted k p a)
    accept_whole is alive a may =
        let before = numbered_is k is p alive may.room in
        let number = next_number k is p alive may.room in
        subst (λ (m : Listeners). IsKernel (placed (record (numbered k p 1) { listeners = m }) p a.fd (next_description k p) false (Stream a.conn 1) O_RDWR))
        (sym (ap (changed_by k.listeners a.address without_first) may.there))
        (whole_accepted (numbered k p 1) before p (still_lives k p alive) fd a.fd may.holds.descriptor may.h.description a.address may.holds.there
        (ap (map.get k.descriptions) may.holds.same ∙ may.holds.known) may.listens may.backlog a.conn may.rest may.there (made_of k p) O_RDWR may.low may.free number stream_flags)

  pub accept_law : (fd address place : ℕ) → RowLaw k p t (Accept fd address place) given
  unfolding row is_ready accept_row is_accept_ready
  accept_law fd address place = row_law k p t (Accept fd address place) given (λ e. quiet t (Accept fd address place) _ refl)
      (after (accepting_of k p fd) (λ a passes.
      let may = (may_accept k p fd).each a passes in
      let shown = end_shown (map.get k.channels a.conn) 0 in
      let short = accept_short fd address place (end_name (map.get k.channels a.conn) 0) shown (address == 0) in
      let low = may.low in
      succeeds (accept_served k p address given a) (record {
        short = omega arith;
        law = λ asked. stays k p t (Accept fd address place) given asked (accept_served k p address given a)
            (record {
              reply = omega arith;
              bytes = accept_bytes fd address place (end_name (map.get k.channels a.conn) 0) shown (address == 0);
              short = omega arith;
              room = accept_room fd address place (end_name (map.get k.channels a.conn) 0) shown (address == 0) refl;
              is_shown = false;
              console = refl;
            })
            (accept_whole fd address place asked.kernel asked.alive a may) (unchanged k (accepted k p a) refl) (omega arith) (quiet t (Accept fd address place) _ refl);
      })))
      (settled_gives k (accepting_of k p fd) (accept_served k p address given))

-- connect

-- the tests of connect passed
pub record MayConnect (k : PlainKernel) (p : VPid) (fd : ℕ) (c : Connecting) : Type 0 where
  pub holds : Holds k p fd c.held
  pub old : VirtAddr
  pub was : c.held.description.object ≡ Socket old
  pub use_by : IsKernel k → MayUse k c.held.desc old c.own
  pub backlog : ℕ
  pub queue : List ConnId
  pub there : map.get k.listeners c.to ≡ Some (waiting_at backlog queue)
  pub waits : length queue < backlog
  pub numbers : has_numbers k p ≡ true
  pub few : map.len k.channels < 256

connects : (object : Object) → Trying (may_connect object) (λ socket. object ≡ Socket socket)
connects (Socket address) = succeeds address refl
connects (Datagram peer) = fails EOPNOTSUPP
connects _ = fails EISCONN

module _ (k : PlainKernel) (p : VPid) (fd : ℕ) (h : Held) (holds : Holds k p fd h) (old own to : VirtAddr) (was : h.description.object ≡ Socket old) (use_by : IsKernel k → MayUse k h.desc old own) (listening : Listening)
    (there : map.get k.listeners to ≡ Some listening) (room : (has_numbers k p && nat_lt (map.len k.channels) CHANNEL_LIMIT) ≡ true) where
  room_is : Trying (if_room h.description.flags listening (record { held = h; own = own; to = to })) (MayConnect k p fd)
  room_is = chosen (nat_lt (length listening.queue) listening.backlog) refl
    where
      numbers_room : has_numbers k p ≡ true
      numbers_room = grind (arith, room)

      few_channels : map.len k.channels < 256
      few_channels = grind (arith, nat_tests, room)

      chosen : (b : Bool) → nat_lt (length listening.queue) listening.backlog ≡ b → Trying (cond b (Gives (record { held = h; own = own; to = to })) (unready h.description.flags)) (MayConnect k p fd)
      chosen true fits = succeeds (record { held = h; own = own; to = to }) (record {
        holds = holds;
        old = old;
        was = was;
        use_by = use_by;
        backlog = listening.backlog;
        queue = listening.queue;
        there = there;
        waits = grind (arith, nat_tests, fits);
        numbers = numbers_room;
        few = few_channels;
      })
      chosen false full = never h.description.flags

may_connect_is : (k : PlainKernel) (p : VPid) (fd length : ℕ) (endpoint : Endpoint) → Trying (connecting_of k p fd length endpoint) (MayConnect k p fd)
unfolding connecting_of
may_connect_is k p fd length endpoint =
    after (socket_at k p fd) (λ h at. after (may_connect h.description.object) (λ socket may. after (need (nat_le ADDRESS_SIZE length) EINVAL) (λ one done. after (need (endpoint.family == AF_INET) EAFNOSUPPORT) (λ two done_too.
    after (found (named_host socket.host endpoint) ECONNREFUSED) (λ host named. after (found (map.get k.listeners (address_at host endpoint.port)) ECONNREFUSED) (λ listening there.
    after (need (has_numbers k p && nat_lt (map.len k.channels) CHANNEL_LIMIT) ENFILE) (λ three room. after (bound_or k socket EADDRNOTAVAIL) (λ own got.
    let holds = (socket_is k p fd).each h at in
    let was = (connects h.description.object).each socket may in
    room_is k p fd h holds socket own (address_at host endpoint.port) was
    (λ is. (bound_is k is h.desc h.description holds.known socket was (socket_addressed k is h.desc h.description holds.known socket was).1 EADDRNOTAVAIL).each own got)
    listening (was_found (map.get k.listeners (address_at host endpoint.port)) ECONNREFUSED listening there) (needed (has_numbers k p && nat_lt (map.len k.channels) CHANNEL_LIMIT) ENFILE three room)))))))))

connect_whole : (k : PlainKernel) (p : VPid) (fd : ℕ) → IsKernel k → is_live k p ≡ true → (c : Connecting) → MayConnect k p fd c → IsKernel (connected k p c)
connect_whole k p fd is alive c may =
    let before = numbered_is k is p alive may.numbers in
    let number = next_number k is p alive may.numbers in
    let may_use = may.use_by is in
    subst (λ (m : Listeners). IsKernel (with_description (record (with_channel (numbered k p 1) (next_channel k p) (open_channel Internet (Some c.own) (Some c.to))) { listeners = m }) c.held.desc
    (record { object = Stream (next_channel k p) 0; flags = c.held.description.flags; owner = c.held.description.owner })))
    (sym (ap (changed_by k.listeners c.to (with_last (next_channel k p))) may.there))
    (whole_connected (numbered k p 1) before c.held.desc c.held.description may.holds.known may.old c.own c.to may.was may_use.host may_use.low may.backlog may.queue may.there may.waits
    (next_channel k p) may.few (new_channel k is p alive may.numbers) (given_out (numbered k p 1) before p (still_lives k p alive) (made_of k p) number.maker number.known number.below))

module _ (k : PlainKernel) (p : VPid) (t : ℕ) (given : List ℕ) where
  pub connect_law : (fd address length : ℕ) → RowLaw k p t (Connect fd address length) given
  unfolding row is_ready connect_row is_connect_ready
  connect_law fd address length = row_law k p t (Connect fd address length) given (λ e. quiet t (Connect fd address length) _ refl)
      (after (connecting_of k p fd length (endpoint_of given)) (λ c passes.
      let may = (may_connect_is k p fd length (endpoint_of given)).each c passes in
      succeeds _ (meets k p t (Connect fd address length) given (connected k p c) 0 (λ asked. omega arith)
      (λ asked answer. stays k p t (Connect fd address length) given asked _ answer (connect_whole k p fd asked.kernel asked.alive c may) (unchanged k (connected k p c) refl) (omega arith)
      (quiet t (Connect fd address length) _ refl)))))
      (settled_gives k (connecting_of k p fd length (endpoint_of given)) (λ c. record { kernel = connected k p c; reply = Value 0; bytes = []; console = [] })
      ∙ ap (λ endpoint. is_settled (connecting_of k p fd length endpoint)) (sym (front_endpoint given)))
