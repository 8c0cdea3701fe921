-- The host of a socket that may be bound, and the address that it gets.
--     host_short, host_bound, host_found      too few bytes, none, and one
--     other_family, other_host                the address is none of the host
--     no_port, some_port                      whether it gets a port
--     is_unbound                              only a socket is bound
use Rattle.std.proofs.Common.{◌≡◌, ◌≢◌, ℕ, ◌<◌, ◌≤◌, Bool, true, false, List, Option, Some, None, refl, ap, ◌∙◌, arith}
use Rattle.std.specs.Prelude.{◌==◌, nat_le}
use Rattle.std.proofs.lemmas.Bool.{eq-eqb}
use Rattle.std.proofs.lemmas.Bool.Decides.{nat_tests}
use Rattle.views.specs.Numbers.{Byte}
use Rattle.sys_abi.specs.declared.errors.TheConstants.{EINVAL, EAFNOSUPPORT, EADDRNOTAVAIL}
use Rattle.sys_abi.specs.declared.identity.VirtAddr.{VirtAddr}
use Rattle.sys_abi.specs.declared.identity.DescId.{DescId}
use Rattle.conn_table.specs.Pairs.{Pairs}
use Rattle.fd_tables.specs.declared.description.Object as real_object
use Rattle.fd_tables.specs.declared.description.Object.TheVariants as real
use Rattle.plain_tables.specs.declared.description.Object.{Object}
use Rattle.plain_process.specs.Attempts.{Try, Fails, Gives, and_then, need, found}
use Rattle.plain_machine.specs.declared.kernel.PlainKernel.{PlainKernel}
use Rattle.plain_machine.specs.Addresses.{AF_INET, ADDRESS_SIZE, endpoint_of, named_host, address_at}
use Rattle.plain_machine.specs.Rows.Sockets.{is_own_host, port_for}
use Rattle.plain_machine.specs.SocketWords.{unbound_host}
use Rattle.host_streams.specs.OfHostTables.Descriptions.{Names, seen_object}
use Rattle.wrap_names.specs.Binding.{host_for, address_for}

module _ (object : Object) (length : ℕ) where
  pub host_short : length < 16 → host_for object length ≡ Fails EINVAL
  unfolding and_then need
  host_short short =
      let few : nat_le 16 length ≡ false = grind (arith, nat_tests, short) in
      ap (λ b. and_then (need b EINVAL) (λ _. found (unbound_host object) EINVAL)) few

  long_enough : 16 ≤ length → (o : Option ℕ) → unbound_host object ≡ o
      → host_for object length ≡ found o EINVAL
  unfolding and_then need
  long_enough long o is =
      let enough : nat_le 16 length ≡ true = grind (arith, nat_tests, long) in
      ap (λ b. and_then (need b EINVAL) (λ _. found (unbound_host object) EINVAL)) enough
      ∙ ap (λ x. found x EINVAL) is

  pub host_found : 16 ≤ length → (host : ℕ) → unbound_host object ≡ Some host
      → host_for object length ≡ Gives host
  unfolding found
  host_found long host is = long_enough long (Some host) is

  pub host_bound : 16 ≤ length → unbound_host object ≡ None → host_for object length ≡ Fails EINVAL
  unfolding found
  host_bound long is = long_enough long None is

-- the address that a socket gets
module _ (k : PlainKernel) (own : ℕ) (given : List Byte) where
  abbrev family : Bool
  family = (endpoint_of given).family == AF_INET

  abbrev near : Bool
  near = is_own_host own (named_host own (endpoint_of given))

  abbrev by : Bool → Bool → Try ℕ → Try VirtAddr
  by b c m =
      and_then (need b EAFNOSUPPORT) (λ _. and_then (need c EADDRNOTAVAIL)
      (λ _. and_then m (λ port. Gives (address_at own port))))

  abbrev port : Try ℕ
  port = port_for k own (endpoint_of given).port

  pub other_family : (endpoint_of given).family ≢ 2 → address_for k own given ≡ Fails EAFNOSUPPORT
  unfolding and_then need
  other_family differs =
      let other : ((endpoint_of given).family == 2) ≡ false = grind (arith, nat_tests, differs) in
      ap (λ b. by b near port) other

  pub other_host : (endpoint_of given).family ≡ 2 → near ≡ false
      → address_for k own given ≡ Fails EADDRNOTAVAIL
  unfolding and_then need
  other_host same far = λ i. by (eq-eqb (endpoint_of given).family 2 same i) (far i) port

  pub on_port : (endpoint_of given).family ≡ 2 → near ≡ true → (m : Try ℕ) → port ≡ m
      → address_for k own given ≡ and_then m (λ n. Gives (address_at own n))
  unfolding and_then need
  on_port same here m is = λ i. by (eq-eqb (endpoint_of given).family 2 same i) (here i) (is i)

  pub no_port : (endpoint_of given).family ≡ 2 → near ≡ true → (e : ℕ) → port ≡ Fails e
      → address_for k own given ≡ Fails e
  unfolding and_then
  no_port same here e is = on_port same here (Fails e) is

  pub some_port : (endpoint_of given).family ≡ 2 → near ≡ true → (n : ℕ) → port ≡ Gives n
      → address_for k own given ≡ Gives (address_at own n)
  unfolding and_then
  some_port same here n is = on_port same here (Gives n) is

-- only a socket is bound
module _ (names : Names) (pairs : Pairs) (id : DescId) (length host : ℕ) where
  none_gives : (b : Bool) → and_then (need b EINVAL) (λ _. found {A = ℕ} None EINVAL) ≡ Gives host → ⊥
  unfolding and_then need found
  none_gives true e = cc
  none_gives false e = cc

  pub is_unbound : (o : real_object.Object) → host_for (seen_object names pairs id o) length ≡ Gives host
      → o ≡ real.Socket
  is_unbound real.Console e = absurd (none_gives (nat_le ADDRESS_SIZE length) e)
  is_unbound (real.File number offset) e = absurd (none_gives (nat_le ADDRESS_SIZE length) e)
  is_unbound (real.Stream conn side) e = absurd (none_gives (nat_le ADDRESS_SIZE length) e)
  is_unbound real.Socket e = refl
  is_unbound (real.Listener at) e = absurd (none_gives (nat_le ADDRESS_SIZE length) e)
  is_unbound (real.Datagram queue side) e = absurd (none_gives (nat_le ADDRESS_SIZE length) e)
  is_unbound (real.Counter value) e = absurd (none_gives (nat_le ADDRESS_SIZE length) e)
