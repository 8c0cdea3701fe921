-- The row of a bind, by its tests.
--     after_host k given h own      the row once the socket and its host are known
--     bind_fails, bind_refused      there is no socket;  it can't be bound so
--     on_socket_is, host_then       its host is known
--     no_address, bind_gives        no address for it;  the address that it gets
use Rattle.std.proofs.Common.{◌≡◌, ℕ, Bool, true, false, List, Option, refl, ap, ◌∙◌}
use Rattle.std.specs.Prelude.{◌==◌, nat_le}
use Rattle.views.specs.Numbers.{Byte}
use Rattle.sys_abi.specs.declared.identity.VPid.{VPid}
use Rattle.sys_abi.specs.declared.identity.VirtAddr.{VirtAddr}
use Rattle.sys_abi.specs.declared.errors.TheConstants.{EINVAL, EAFNOSUPPORT, EADDRNOTAVAIL}
use Rattle.plain_tables.specs.declared.description.Object.TheVariants.{Socket}
use Rattle.plain_process.specs.Attempts.{Try, Fails, NotReady, Gives, and_then, need, found}
use Rattle.plain_machine.specs.declared.kernel.PlainKernel.{PlainKernel}
use Rattle.plain_machine.specs.Attempts.{Served, replied}
use Rattle.plain_machine.specs.Kernel.{Held, with_object}
use Rattle.plain_machine.specs.Addresses.{AF_INET, ADDRESS_SIZE, endpoint_of, named_host, address_at}
use Rattle.plain_machine.specs.Rows.Sockets.{is_own_host, port_for, bind_row}
use Rattle.plain_machine.specs.SocketWords.{socket_at, unbound_host}
use Rattle.wrap_names.specs.Binding.{host_for, address_for}

module _ (k : PlainKernel) (given : List Byte) (h : Held) where
  abbrev binds : VirtAddr → Try Served
  binds address = replied (with_object k h (Socket address)) 0

  -- the row's steps as it has them
  abbrev on_family : ℕ → Bool → Bool → Try ℕ → Try Served
  on_family own family near m =
      and_then (need family EAFNOSUPPORT) (λ _. and_then (need near EADDRNOTAVAIL)
      (λ _. and_then m (λ port. binds (address_at own port))))

  abbrev address_by : ℕ → Bool → Bool → Try ℕ → Try VirtAddr
  address_by own family near m =
      and_then (need family EAFNOSUPPORT) (λ _. and_then (need near EADDRNOTAVAIL)
      (λ _. and_then m (λ port. Gives (address_at own port))))

  joined : (own : ℕ) (family near : Bool) (m : Try ℕ)
      → on_family own family near m ≡ and_then (address_by own family near m) binds
  unfolding and_then need
  joined own false near m = refl
  joined own true false m = refl
  joined own true true (Fails e) = refl
  joined own true true NotReady = refl
  joined own true true (Gives port) = refl

  abbrev after_host : ℕ → Try Served
  after_host own =
      on_family own ((endpoint_of given).family == AF_INET)
      (is_own_host own (named_host own (endpoint_of given))) (port_for k own (endpoint_of given).port)

  host_is : (own : ℕ) → after_host own ≡ and_then (address_for k own given) binds
  host_is own =
      joined own ((endpoint_of given).family == AF_INET)
      (is_own_host own (named_host own (endpoint_of given))) (port_for k own (endpoint_of given).port)

  abbrev on_host : Bool → Option ℕ → Try Served
  on_host long o = and_then (need long EINVAL) (λ _. and_then (found o EINVAL) after_host)

  split : (long : Bool) (o : Option ℕ)
      → on_host long o ≡ and_then (and_then (need long EINVAL) (λ _. found o EINVAL)) after_host
  unfolding and_then need
  split true o = refl
  split false o = refl

  abbrev on_socket : ℕ → Try Served
  on_socket length = on_host (nat_le ADDRESS_SIZE length) (unbound_host h.description.object)

  pub on_socket_is : (length : ℕ) (m : Try ℕ) → host_for h.description.object length ≡ m
      → on_socket length ≡ and_then m after_host
  on_socket_is length m is =
      split (nat_le ADDRESS_SIZE length) (unbound_host h.description.object)
      ∙ ap (λ x. and_then x after_host) is

  pub host_then : (length own : ℕ) (m : Try VirtAddr) → host_for h.description.object length ≡ Gives own
      → address_for k own given ≡ m → on_socket length ≡ and_then m binds
  unfolding and_then
  host_then length own m host address =
      on_socket_is length (Gives own) host ∙ host_is own ∙ ap (λ x. and_then x binds) address

module _ (k : PlainKernel) (p : VPid) (fd length : ℕ) (given : List Byte) where
  pub bind_fails : (e : ℕ) → socket_at k p fd ≡ Fails e → bind_row k p fd length given ≡ Fails e
  unfolding bind_row and_then
  bind_fails e is = ap (λ m. and_then m (λ h. on_socket k given h length)) is

  module _ (h : Held) (socket : socket_at k p fd ≡ Gives h) where
    row_is : bind_row k p fd length given ≡ on_socket k given h length
    unfolding bind_row and_then
    row_is = ap (λ m. and_then m (λ h. on_socket k given h length)) socket

    pub bind_refused : (e : ℕ) → host_for h.description.object length ≡ Fails e
        → bind_row k p fd length given ≡ Fails e
    unfolding and_then
    bind_refused e is = row_is ∙ on_socket_is k given h length (Fails e) is

    module _ (own : ℕ) (host : host_for h.description.object length ≡ Gives own) where
      pub no_address : (e : ℕ) → address_for k own given ≡ Fails e → bind_row k p fd length given ≡ Fails e
      unfolding and_then
      no_address e is = row_is ∙ host_then k given h length own (Fails e) host is

      pub bind_gives : (address : VirtAddr) → address_for k own given ≡ Gives address
          → bind_row k p fd length given ≡ replied (with_object k h (Socket address)) 0
      unfolding and_then
      bind_gives address is = row_is ∙ host_then k given h length own (Gives address) host is
