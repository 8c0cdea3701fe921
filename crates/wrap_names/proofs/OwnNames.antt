-- The names of sockets through the tables.
--     own_stream, own_other     the own name, by what a socket is of
--     peer_stream, peer_end, no_peer      the name of a peer, or none
--     getsockname_is, ..        the rows, once the socket is found
use Rattle.std.proofs.Common.{◌≡◌, ℕ, ◌-◌, List, refl, ap}
use Rattle.std.specs.FinMap as map
use Rattle.views.specs.Numbers.{Byte}
use Rattle.sys_abi.specs.declared.errors.TheConstants.{ENOTCONN}
use Rattle.sys_abi.specs.declared.identity.ConnId.{ConnId}
use Rattle.sys_abi.specs.declared.identity.DescId.{DescId}
use Rattle.sys_abi.specs.declared.identity.VPid.{VPid}
use Rattle.conn_table.specs.Pairs.{Pairs}
use Rattle.fd_tables.specs.declared.description.Object.{Object}
use Rattle.fd_tables.specs.declared.description.Object.TheVariants as real
use Rattle.plain_tables.specs.Objects.{bound_at}
use Rattle.plain_process.specs.Attempts.{Fails, Gives, and_then}
use Rattle.plain_machine.specs.declared.kernel.PlainKernel.{PlainKernel}
use Rattle.plain_machine.specs.Addresses.{unbound_bytes, pair_bytes}
use Rattle.plain_machine.specs.Kernel.{Held}
use Rattle.plain_machine.specs.Rows.Sockets.{own_name, named, getsockname_row, getpeername_row}
use Rattle.plain_machine.specs.SocketWords.{shown_as, end_name, socket_at}
use Rattle.host_streams.specs.OfHostTables.Descriptions.{Names, seen_object}
use Rattle.wrap_names.specs.Calls.{peer_named}

module _ (k : PlainKernel) (names : Names) (pairs : Pairs) (id : DescId) where
  pub own_other : (o : Object) → ((queue side : ℕ) → o ≡ real.Datagram queue side → ⊥)
      → ((conn : ConnId) (side : ℕ) → o ≡ real.Stream conn side → ⊥)
      → own_name k (seen_object names pairs id o)
      ≡ shown_as unbound_bytes (bound_at (seen_object names pairs id o))
  own_other real.Console no_end no_stream = refl
  own_other (real.File number offset) no_end no_stream = refl
  own_other (real.Stream conn side) no_end no_stream = absurd (no_stream conn side refl)
  own_other real.Socket no_end no_stream = refl
  own_other (real.Listener at) no_end no_stream = refl
  own_other (real.Datagram queue side) no_end no_stream = absurd (no_end queue side refl)
  own_other (real.Counter value) no_end no_stream = refl

  pub peer_stream : (given : List Byte) (conn : ConnId) (side : ℕ)
      → peer_named k given (seen_object names pairs id (real.Stream conn side))
      ≡ Gives (named k given (end_name (map.get k.channels conn) (1 - side)))
  unfolding and_then
  peer_stream given conn side = refl

  pub peer_end : (given : List Byte) (o : Object) (queue side : ℕ) → o ≡ real.Datagram queue side
      → peer_named k given (seen_object names pairs id o) ≡ Gives (named k given pair_bytes)
  unfolding and_then
  peer_end given o queue side is = ap (λ x. peer_named k given (seen_object names pairs id x)) is

  pub no_peer : (given : List Byte) (o : Object) → ((queue side : ℕ) → o ≡ real.Datagram queue side → ⊥)
      → ((conn : ConnId) (side : ℕ) → o ≡ real.Stream conn side → ⊥)
      → peer_named k given (seen_object names pairs id o) ≡ Fails ENOTCONN
  unfolding and_then
  no_peer given real.Console no_end no_stream = refl
  no_peer given (real.File number offset) no_end no_stream = refl
  no_peer given (real.Stream conn side) no_end no_stream = absurd (no_stream conn side refl)
  no_peer given real.Socket no_end no_stream = refl
  no_peer given (real.Listener at) no_end no_stream = refl
  no_peer given (real.Datagram queue side) no_end no_stream = absurd (no_end queue side refl)
  no_peer given (real.Counter value) no_end no_stream = refl

module _ (k : PlainKernel) (p : VPid) (fd : ℕ) (given : List Byte) where
  pub getsockname_fails : (e : ℕ) → socket_at k p fd ≡ Fails e → getsockname_row k p fd given ≡ Fails e
  unfolding getsockname_row and_then
  getsockname_fails e is =
      ap (λ m. and_then m (λ h. Gives (named k given (own_name k h.description.object)))) is

  pub getsockname_is : (h : Held) → socket_at k p fd ≡ Gives h
      → getsockname_row k p fd given ≡ Gives (named k given (own_name k h.description.object))
  unfolding getsockname_row and_then
  getsockname_is h is =
      ap (λ m. and_then m (λ h. Gives (named k given (own_name k h.description.object)))) is

  pub getpeername_fails : (e : ℕ) → socket_at k p fd ≡ Fails e → getpeername_row k p fd given ≡ Fails e
  unfolding getpeername_row and_then
  getpeername_fails e is = ap (λ m. and_then m (λ (h : Held). peer_named k given h.description.object)) is

  pub getpeername_is : (h : Held) → socket_at k p fd ≡ Gives h
      → getpeername_row k p fd given ≡ peer_named k given h.description.object
  unfolding getpeername_row and_then
  getpeername_is h is = ap (λ m. and_then m (λ (h : Held). peer_named k given h.description.object)) is
