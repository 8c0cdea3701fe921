-- A call that can be served still can be once all bytes have arrived.
--     arrived_goes      of the call at which a thread stands, in a valid state
use Rattle.std.proofs.Common.{◌≡◌, ℕ, zero, suc, ◌+◌, ◌-◌, ◌≤◌, Bool, true, false, cond, not, List, length, Option, Some, None, refl, sym, ap, ◌∙◌, arith}
use Rattle.std.specs.Prelude.{◌==◌, ◌&&◌, ◌||◌, is_some, min, nat_le, nat_lt}
use Rattle.std.specs.Option.{option_map}
use Rattle.std.specs.FinMap as map
use Rattle.std.proofs.lemmas.Bool.{lt-ltb}
use Rattle.views.specs.Limits.{CHANNEL_LIMIT}
use Rattle.views.proofs.MapValues.{get-map_values}
use Rattle.sys_abi.specs.declared.identity.VPid.{VPid}
use Rattle.sys_abi.specs.declared.identity.Dir.{Dir}
use Rattle.sys_abi.specs.declared.identity.VirtAddr.{VirtAddr}
use Rattle.call_table.specs.declared.request.Request.{Request}
use Rattle.call_table.specs.declared.request.Request.TheVariants.{Read, Write, Accept, Connect, Wait4}
use Rattle.sys_abi.specs.declared.errors.TheConstants.{EBADF, EINVAL, ENFILE, EAFNOSUPPORT, EADDRNOTAVAIL, ECONNREFUSED}
use Rattle.sys_abi.specs.declared.flags.TheConstants.{O_NONBLOCK}
use Rattle.sys_abi.specs.declared.transfer.TheConstants.{TRANSFER_LIMIT}
use Rattle.sys_abi.specs.Flags.{has_flag}
use Rattle.call_table.specs.Requests.{is_local}
use Rattle.plain_tables.specs.declared.channel.Direction.{Direction}
use Rattle.plain_tables.specs.declared.description.Object.{Object}
use Rattle.plain_tables.specs.declared.description.Object.TheVariants.{Console, File, Stream, Socket, Listener, Datagram, Counter}
use Rattle.plain_tables.specs.Objects.{dir}
use Rattle.plain_tables.specs.Tables.{may_write}
use Rattle.plain_process.specs.declared.user_part.UserPart.{UserPart}
use Rattle.plain_process.specs.Attempts.{Try, Fails, NotReady, Gives, and_then, need, found}
use Rattle.plain_process.specs.Local.{local_row}
use Rattle.plain_machine.specs.declared.plain.Plain.{Plain}
use Rattle.plain_machine.specs.declared.kernel.PlainKernel.{PlainKernel}
use Rattle.plain_machine.specs.Addresses.{AF_INET, ADDRESS_SIZE, Endpoint, address_at, endpoint_of, named_host, is_port_used, unused_among, automatic_port}
use Rattle.plain_machine.specs.Attempts.{Served}
use Rattle.plain_machine.specs.Channels.{direction_at}
use Rattle.plain_machine.specs.Kernel.{Held, held, free_from, has_numbers}
use Rattle.plain_machine.specs.Records.{quiet, with_user, outcome_of_lent, outcome_of_serve}
use Rattle.plain_machine.specs.Rows.Connections.{Connecting, may_connect, if_room, accepting_of, connecting_of, is_accept_ready, is_connect_ready}
use Rattle.plain_machine.specs.Rows.Read.{is_readable, read_access, is_read_ready}
use Rattle.plain_machine.specs.Rows.Wait.{is_wait4_ready}
use Rattle.plain_machine.specs.Rows.Write.{is_writable, write_access, is_write_ready}
use Rattle.plain_machine.specs.Serve.{serve, is_ready, front_of}
use Rattle.plain_machine.specs.SocketWords.{is_settled, socket_at, bound_or}
use Rattle.plain_machine.specs.Tests.{all_arrived, full_arrive}
use Rattle.plain_machine.specs.Transfers.Answers.{may_read}
use Rattle.plain_machine.specs.Transfers.Streams.{is_receivable, is_sendable}
use Rattle.plain_machine.specs.Valid.{IsValid}
use Rattle.plain_machine.specs.Waiting.{need_ready, waits}
use Rattle.plain_machine.proofs.EachRow.{ready_by_front}

abbrev arrived : Plain → PlainKernel
arrived g = (full_arrive g).kernel

-- ---- bytes that can be read, and room for more

some_there : (n : ℕ) (b : Bool) → (nat_lt 0 (suc n) || b) ≡ true
some_there n b = ap (λ c. c || b) (lt-ltb 0 (suc n) (omega arith))

more_there : (c broken : Bool) (there len : ℕ) → there ≤ len → (c || nat_lt 0 there || (broken && (len == 0))) ≡ true → (c || nat_lt 0 len || (broken && (len == 0))) ≡ true
more_there true broken there len few is = refl
more_there false broken zero zero few is = is
more_there false broken zero (suc len) few is = some_there len (broken && (suc len == 0))
more_there false broken (suc there) zero few is = absurd (omega (arith, few))
more_there false broken (suc there) (suc len) few is = some_there len (broken && (suc len == 0))

receivable : (count : ℕ) (found : Option Direction) → ((direction : Direction) → found ≡ Some direction → direction.arrived ≤ length direction.left) → is_receivable count found ≡ true
    → is_receivable count (option_map all_arrived found) ≡ true
receivable count None few is = refl
receivable count (Some direction) few is = more_there (count == 0) (direction.ended || direction.unread) direction.arrived (length direction.left) (few direction refl) is

sendable : (count : ℕ) (found : Option Direction) → is_sendable count (option_map all_arrived found) ≡ is_sendable count found
sendable count None = refl
sendable count (Some direction) = refl

arrived_at : (g : Plain) (at : Dir) → direction_at (arrived g) at ≡ option_map all_arrived (direction_at g.kernel at)
unfolding full_arrive
arrived_at g at = get-map_values all_arrived g.kernel.directions at

readable : (g : Plain) (h : Held) (count : ℕ) (object : Object) → IsValid g → is_readable g.kernel h count object ≡ true → is_readable (arrived g) h count object ≡ true
unfolding full_arrive
readable g h count (Stream conn side) valid is =
    ap (is_receivable count) (arrived_at g (dir conn (1 - side)))
    ∙ receivable count (direction_at g.kernel (dir conn (1 - side))) (λ direction there. (valid.kernel.channels.each (dir conn (1 - side)) direction there).arrived) is
readable g h count (Datagram peer) valid is = is
readable g h count (Counter value) valid is = is
readable g h count Console valid is = refl
readable g h count (File number offset) valid is = refl
readable g h count (Socket address) valid is = refl
readable g h count (Listener address) valid is = refl

writable : (g : Plain) (count : ℕ) (front : List ℕ) (object : Object) → is_writable g.kernel count front object ≡ true → is_writable (arrived g) count front object ≡ true
unfolding full_arrive
writable g count front (Stream conn side) is = ap (is_sendable count) (arrived_at g (dir conn side)) ∙ sendable count (direction_at g.kernel (dir conn side)) ∙ is
writable g count front (Datagram peer) is = is
writable g count front (Counter value) is = is
writable g count front Console is = refl
writable g count front (File number offset) is = refl
writable g count front (Socket address) is = refl
writable g count front (Listener address) is = refl

-- ---- a description that is ready

abbrev Ready : Try Held → Type 0
Ready try = not (waits try) ≡ true

abbrev wants : ℕ → Bool → Held → Try Held
wants flags ready h = and_then (need_ready flags ready) (λ _. Gives h)

by_flag : (h : Held) (flags : ℕ) (r : Bool) (blocks : Bool) → has_flag flags O_NONBLOCK ≡ blocks → Ready (wants flags false h) → Ready (wants flags r h)
unfolding need_ready and_then
by_flag h flags true blocks is ready = refl
by_flag h flags false blocks is ready = ready

still_wanted : (h : Held) (flags : ℕ) (r s : Bool) → (r ≡ true → s ≡ true) → Ready (wants flags r h) → Ready (wants flags s h)
unfolding need_ready and_then
still_wanted h flags true s more ready = ap (λ b. not (waits (wants flags b h))) (more refl)
still_wanted h flags false s more ready = by_flag h flags s (has_flag flags O_NONBLOCK) refl ready

still_needed : (h : Held) (flags : ℕ) (may r s : Bool) → (r ≡ true → s ≡ true) → Ready (and_then (need may EBADF) (λ _. wants flags r h)) → Ready (and_then (need may EBADF) (λ _. wants flags s h))
unfolding need and_then
still_needed h flags true r s more ready = still_wanted h flags r s more ready
still_needed h flags false r s more ready = refl

same_held : (g : Plain) (p : VPid) (fd : ℕ) → held (arrived g) p fd ≡ held g.kernel p fd
unfolding held full_arrive
same_held g p fd = refl

-- the tests behind a look-up
abbrev behind : (Held → Bool) → (Held → Bool) → Held → Try Held
behind may ready h = and_then (need (may h) EBADF) (λ _. wants h.description.flags (ready h) h)

after_held : (try : Try Held) (may r s : Held → Bool) → ((h : Held) → r h ≡ true → s h ≡ true) → Ready (and_then try (behind may r)) → Ready (and_then try (behind may s))
unfolding and_then
after_held (Fails e) may r s more ready = refl
after_held NotReady may r s more ready = ready
after_held (Gives h) may r s more ready = still_needed h h.description.flags (may h) (r h) (s h) (more h) ready

read_stays : (g : Plain) (p : VPid) (fd count : ℕ) → IsValid g → is_read_ready g.kernel p fd count ≡ true → is_read_ready (arrived g) p fd count ≡ true
unfolding is_read_ready read_access
read_stays g p fd count valid is =
    let n = min count TRANSFER_LIMIT in
    let may : Held → Bool = λ h. may_read h.description.flags in
    ap (λ try. not (waits (and_then try (behind may (λ h. is_readable (arrived g) h n h.description.object))))) (same_held g p fd)
    ∙ after_held (held g.kernel p fd) may (λ h. is_readable g.kernel h n h.description.object) (λ h. is_readable (arrived g) h n h.description.object)
    (λ h. readable g h n h.description.object valid) is

write_stays : (g : Plain) (p : VPid) (fd count : ℕ) (front : List ℕ) → is_write_ready g.kernel p fd count front ≡ true → is_write_ready (arrived g) p fd count front ≡ true
unfolding is_write_ready write_access
write_stays g p fd count front is =
    let may : Held → Bool = λ h. may_write h.description.flags in
    ap (λ try. not (waits (and_then try (behind may (λ h. is_writable (arrived g) count front h.description.object))))) (same_held g p fd)
    ∙ after_held (held g.kernel p fd) may (λ h. is_writable g.kernel count front h.description.object) (λ h. is_writable (arrived g) count front h.description.object)
    (λ h. writable g count front h.description.object) is

-- ---- calls for which no bytes count

same_socket : (g : Plain) (p : VPid) (fd : ℕ) → socket_at (arrived g) p fd ≡ socket_at g.kernel p fd
unfolding socket_at held full_arrive
same_socket g p fd = refl

accept_stays : (g : Plain) (p : VPid) (fd : ℕ) → is_accept_ready (arrived g) p fd ≡ is_accept_ready g.kernel p fd
unfolding is_accept_ready accepting_of socket_at held free_from full_arrive
accept_stays g p fd = refl

same_ports : (g : Plain) (host from n : ℕ) → unused_among (arrived g) host from n ≡ unused_among g.kernel host from n
unfolding unused_among is_port_used full_arrive
same_ports g host from zero = refl
same_ports g host from (suc n) = ap (λ later. cond (is_port_used g.kernel (address_at host from)) later (Some from)) (same_ports g host (from + 1) n)

same_automatic : (g : Plain) (host : ℕ) → automatic_port (arrived g) host ≡ automatic_port g.kernel host
unfolding automatic_port
same_automatic g host = same_ports g host 32768 28232

bound_so : (address : VirtAddr) (e : ℕ) (port other : Option ℕ) → port ≡ other → (b : Bool)
    → cond b (and_then (found port e) (λ n. Gives (address_at address.host n))) (Gives address) ≡ cond b (and_then (found other e) (λ n. Gives (address_at address.host n))) (Gives address)
bound_so address e port other same b = ap (λ o. cond b (and_then (found o e) (λ n. Gives (address_at address.host n))) (Gives address)) same

same_bound : (g : Plain) (address : VirtAddr) (e : ℕ) → bound_or (arrived g) address e ≡ bound_or g.kernel address e
unfolding bound_or
same_bound g address e = bound_so address e (automatic_port (arrived g) address.host) (automatic_port g.kernel address.host) (same_automatic g address.host) (address.port == 0)

-- the same tests, where this gives an address to a socket that has none
connecting_by : PlainKernel → (VirtAddr → ℕ → Try VirtAddr) → VPid → ℕ → ℕ → Endpoint → Try Connecting
connecting_by k bound p fd length endpoint = and_then (socket_at k p fd) (λ h.
    and_then (may_connect h.description.object) (λ socket.
    and_then (need (nat_le ADDRESS_SIZE length) EINVAL) (λ _.
    and_then (need (endpoint.family == AF_INET) EAFNOSUPPORT) (λ _.
    and_then (found (named_host socket.host endpoint) ECONNREFUSED) (λ host.
    and_then (found (map.get k.listeners (address_at host endpoint.port)) ECONNREFUSED) (λ listening.
    and_then (need (has_numbers k p && nat_lt (map.len k.channels) CHANNEL_LIMIT) ENFILE) (λ _.
    and_then (bound socket EADDRNOTAVAIL) (λ own.
    if_room h.description.flags listening (record { held = h; own = own; to = address_at host endpoint.port })))))))))

connect_same : (g : Plain) (p : VPid) (fd length : ℕ) (endpoint : Endpoint) → connecting_of (arrived g) p fd length endpoint ≡ connecting_of g.kernel p fd length endpoint
unfolding connecting_of connecting_by socket_at held full_arrive
connect_same g p fd length endpoint =
    ap (λ (bound : VirtAddr → ℕ → Try VirtAddr). connecting_by g.kernel bound p fd length endpoint) (λ i address e. same_bound g address e i)

connect_stays : (g : Plain) (p : VPid) (fd length : ℕ) (front : List ℕ) → is_connect_ready (arrived g) p fd length front ≡ is_connect_ready g.kernel p fd length front
unfolding is_connect_ready
connect_stays g p fd length front = ap is_settled (connect_same g p fd length (endpoint_of front))

wait_stays : (g : Plain) (p : VPid) (number options usage : ℕ) → is_wait4_ready (arrived g) p number options usage ≡ is_wait4_ready g.kernel p number options usage
unfolding is_wait4_ready full_arrive
wait_stays g p number options usage = refl

-- ---- every call

ready_stays : (g : Plain) (p : VPid) (t : ℕ) (q : Request) (front : List ℕ) → IsValid g → is_ready g.kernel p t q front ≡ true → is_ready (arrived g) p t q front ≡ true
unfolding is_ready
ready_stays g p t (Read fd buffer count) front valid is = read_stays g p fd count valid is
ready_stays g p t (Write fd buffer count) front valid is = write_stays g p fd count front is
ready_stays g p t (Accept fd address length) front valid is = accept_stays g p fd ∙ is
ready_stays g p t (Connect fd address length) front valid is = connect_stays g p fd length front ∙ is
ready_stays g p t (Wait4 number status options usage) front valid is = wait_stays g p number options usage ∙ is
ready_stays g p t _ front valid is = refl

serve_stays : (g : Plain) (p : VPid) (t : ℕ) (q : Request) (given : List ℕ) → IsValid g → is_some (serve g.kernel p t q given) ≡ true → is_some (serve (arrived g) p t q given) ≡ true
serve_stays g p t q given valid is =
    ready_by_front (arrived g) p t q given ∙ ready_stays g p t q (front_of given) valid (sym (ready_by_front g.kernel p t q given) ∙ is)

-- the call at which a thread stands, by what its buffers hold
module _ (g : Plain) (p : VPid) (t : ℕ) (user : UserPart) (q : Request) where
  served_goes : (h : Plain) (served : Option Served) → is_some (outcome_of_serve h p t user q served) ≡ is_some served
  served_goes h None = refl
  served_goes h (Some served) = refl

  by_kind : (given : List ℕ) (local : Bool) → IsValid g
      → is_some (cond local (Some (quiet (with_user g p (local_row user t q)))) (outcome_of_serve g p t user q (serve g.kernel p t q given))) ≡ true
      → is_some (cond local (Some (quiet (with_user (full_arrive g) p (local_row user t q)))) (outcome_of_serve (full_arrive g) p t user q (serve (arrived g) p t q given))) ≡ true
  by_kind given true valid goes = refl
  by_kind given false valid goes =
      served_goes (full_arrive g) (serve (arrived g) p t q given) ∙ serve_stays g p t q given valid (sym (served_goes g (serve g.kernel p t q given)) ∙ goes)

  pub arrived_goes : (given : Option (List ℕ)) → IsValid g → is_some (outcome_of_lent g p t user q given) ≡ true → is_some (outcome_of_lent (full_arrive g) p t user q given) ≡ true
  arrived_goes None valid goes = refl
  arrived_goes (Some given) valid goes = by_kind given (is_local q) valid goes
