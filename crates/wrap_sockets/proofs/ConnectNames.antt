-- What a connect names is what the kernel part tells, and what is listed for it is the channel that it makes.
--     conn_is             the next number for a channel
--     names_nothing       of a descriptor that leads to no such socket
--     names_socket        of one that does
use Rattle.std.proofs.Common.{◌≡◌, ℕ, ◌-◌, ◌^◌, Bool, true, false, not, ◌||◌, cond, List, Option, Some, None, Ok, Err, refl, sym, ap, ◌∙◌, subst}
use Rattle.std.specs.Prelude.{◌==◌, nat_le, nat_lt, is_some, is_ok, Result, option_map, option_and_then, if◌then◌else◌}
use Rattle.std.specs.FinMap as map
use Rattle.views.specs.Numbers.{Byte}
use Rattle.sys_abi.specs.declared.identity.VPid.{VPid}
use Rattle.sys_abi.specs.declared.identity.DescId.{DescId}
use Rattle.sys_abi.specs.declared.identity.ConnId.{ConnId}
use Rattle.sys_abi.specs.declared.identity.VirtAddr.{VirtAddr}
use Rattle.sys_abi.specs.declared.errors.TheConstants.{EINVAL, EAFNOSUPPORT, EADDRNOTAVAIL}
use Rattle.sys_abi.specs.declared.reply.Errno.{Errno}
use Rattle.plain_process.specs.Attempts.{Try, Fails, NotReady, Gives, and_then, found}
use Rattle.plain_tables.specs.declared.description.Object.{Object}
use Rattle.plain_tables.specs.declared.description.Object.TheVariants.{Console, File, Stream, Socket, Listener, Datagram, Counter}
use Rattle.plain_tables.specs.Tables.{Makers}
use Rattle.plain_ports.specs.Told.{told, same_address}
use Rattle.plain_machine.specs.declared.kernel.PlainKernel.{PlainKernel}
use Rattle.plain_machine.specs.Addresses.{AF_INET, ADDRESS_SIZE, endpoint_of, named_host, address_at, automatic_port}
use Rattle.plain_machine.specs.Kernel.{Held, held, made_of}
use Rattle.plain_machine.specs.Making.{desc_id, conn_id}
use Rattle.plain_machine.specs.Rows.Connections.{Connecting}
use Rattle.plain_machine.specs.SocketWords.{bound_or, next_channel}
use Rattle.host_tables.specs.declared.system.System.{System}
use Rattle.host_tables.specs.Descriptions.{Addresses}
use Rattle.host_tables.specs.Requests.{next_conn, target_of, has_port, leads_to_pipe, IfSocket, IfHeld, ConnectNames}
use Rattle.host_tables.specs.Serves.{INTERNET}
use Rattle.host_tables.specs.Stands.{open_conn}
use Rattle.host_tables.specs.Systems.{given_of}
use Rattle.wrap_names.specs.Wrapping.{IsWrapped}
use Rattle.wrap_sockets.specs.declared.targets.OwnSocket.{OwnSocket}
use Rattle.wrap_sockets.specs.Naming.{conn_in, virtual_target, real_target, entry_of, IsEntryOf, IsNamedConnect}
use Rattle.wrap_sockets.proofs.ConnectTests.{ConnectsTo, connects_to, IsOwn, IsHeldSocket}

-- the port at which the named address is listened

target_by : (addresses : Addresses) (port : ℕ) (long inet : Bool) (o : Option ℕ)
    → (if not long then Err (record { 0 = EINVAL }) else
    if not inet then Err (record { 0 = EAFNOSUPPORT }) else
    Ok (option_and_then (λ host. map.get addresses (address_at host port)) o))
    ≡ real_target addresses (if not long then Err (record { 0 = EINVAL }) else
    if not inet then Err (record { 0 = EAFNOSUPPORT }) else Ok (option_map (λ host. address_at host port) o))
target_by addresses port false inet o = refl
target_by addresses port true false o = refl
target_by addresses port true true None = refl
target_by addresses port true true (Some host) = refl

target_is : (addresses : Addresses) (own : VirtAddr) (length : ℕ) (given : List Byte)
    → target_of addresses own length given ≡ real_target addresses (virtual_target own length given)
target_is addresses own length given =
    target_by addresses (endpoint_of given).port (nat_le ADDRESS_SIZE length)
    ((endpoint_of given).family == AF_INET)
    (named_host own.host (endpoint_of given))

-- a socket has a port where it gets an address

abbrev bound_by : ℕ → VirtAddr → Bool → Option ℕ → Try VirtAddr
bound_by e own b o = if b then and_then (found o e) (λ port. Gives (address_at own.host port)) else Gives own

port_by : (e : ℕ) (own : VirtAddr) (b : Bool) (o : Option ℕ) (r : Result VirtAddr Errno)
    → bound_by e own b o ≡ told same_address r → is_ok r ≡ (not b || is_some o)
unfolding and_then found
port_by e own true None (Ok a) is = absurd (no_gift is)
  where
    no_gift : Fails e ≡ Gives a → ⊥
    no_gift h = cc
port_by e own true None (Err f) is = refl
port_by e own true (Some port) (Ok a) is = refl
port_by e own true (Some port) (Err f) is = absurd (no_error is)
  where
    no_error : Gives (address_at own.host port) ≡ Fails f.0 → ⊥
    no_error h = cc
port_by e own false o (Ok a) is = refl
port_by e own false o (Err f) is = absurd (no_error is)
  where
    no_error : Gives own ≡ Fails f.0 → ⊥
    no_error h = cc

port_is : (k : PlainKernel) (own : VirtAddr) (e : ℕ) (r : Result VirtAddr Errno)
    → bound_or k own e ≡ told same_address r → is_ok r ≡ has_port k own
unfolding bound_or
port_is k own e r is = port_by e own (own.port == 0) (automatic_port k own.host) r is

-- the address that it gets
bound_told : (m : Try VirtAddr) (r : Result VirtAddr Errno) (a : VirtAddr) → m ≡ told same_address r
    → m ≡ Gives a
    → r ≡ Ok a
bound_told m (Ok b) a is gives = let same : b ≡ a = cc in ap Ok same
bound_told m (Err e) a is gives = absurd (no_error (sym is ∙ gives))
  where
    no_error : Fails e.0 ≡ Gives a → ⊥
    no_error h = cc

-- the next number for a channel
conn_by : (p : VPid) (num : ℕ) (b : Bool)
    → option_map (λ (id : DescId). conn_id id.pid id.num) (if b then Some (desc_id p num) else None)
    ≡ (if b then Some (conn_id p num) else None)
conn_by p num true = refl
conn_by p num false = refl

pub conn_is : (s : System) (next_id : ℕ) (k : PlainKernel) → IsWrapped s next_id k → (p : VPid)
    → conn_in s.conns.makers p ≡ next_conn k p
conn_is s next_id k w p =
    ap (λ (makers : Makers). conn_in makers p) (sym w.stands.exact.makers)
    ∙ conn_by p (made_of k p) (nat_lt (made_of k p) (2 ^ 32 - 4))

-- what is listed has the number that was named
entry_by : (channel : Option ConnId) (own : Result VirtAddr Errno) (target : Result (Option VirtAddr) Errno)
    (desc : DescId) → IsEntryOf channel (entry_of channel own target desc)
entry_by None own target desc = tt
entry_by (Some id) (Err e) target desc = tt
entry_by (Some id) (Ok own) (Err e) desc = tt
entry_by (Some id) (Ok own) (Ok None) desc = tt
entry_by (Some id) (Ok own) (Ok (Some to)) desc = (refl, refl)

-- no socket
unnamed_by : (M : VirtAddr → Type 0) (o : Object) → ((address : VirtAddr) → o ≡ Socket address → ⊥)
    → IfSocket o M
unnamed_by M Console none = tt
unnamed_by M (File number offset) none = tt
unnamed_by M (Stream conn side) none = tt
unnamed_by M (Socket address) none = absurd (none address refl)
unnamed_by M (Listener address) none = tt
unnamed_by M (Datagram peer) none = tt
unnamed_by M (Counter value) none = tt

unnamed : (M : VirtAddr → Type 0) (m : Try Held) → IsOwn m None → IfHeld m M
unnamed M (Fails e) none = tt
unnamed M NotReady none = tt
unnamed M (Gives h) none = unnamed_by M h.description.object (λ address is. none h address refl is)

module _ (s : System) (k : PlainKernel) (p : VPid) (fd length : ℕ) (given : List Byte) (of_pipe : Bool)
    (pipe_is : of_pipe ≡ leads_to_pipe k p fd) (channel : Option ConnId)
    (channel_is : channel ≡ next_conn k p) where
  pub names_nothing : IsOwn (held k p fd) None → IsNamedConnect (given_of s) k p fd length given (record {
    of_pipe = of_pipe;
    channel = channel;
    to = Ok None;
    port_free = false;
    listed = None;
  })
  names_nothing none = record {
    of_pipe = pipe_is;
    channel = channel_is;
    names = unnamed (ConnectNames (given_of s) k length given (Ok None) false) (held k p fd) none;
    entry = tt;
    listed_is = λ c gives.
        let to = (connects_to k p fd length (endpoint_of given)).each c gives in
        absurd (none c.held to.socket to.held_is to.object);
  }

  module _ (o : OwnSocket) (own : IsHeldSocket (held k p fd) o) (bound : Result VirtAddr Errno)
      (bound_is : bound_or k o.address EADDRNOTAVAIL ≡ told same_address bound) where
    abbrev target : Result (Option VirtAddr) Errno
    target = virtual_target o.address length given

    -- the socket of a connect that gives
    module _ (c : Connecting) (to : ConnectsTo k p fd length (endpoint_of given) c) where
      same_held : (x y : Held) → Gives x ≡ Gives y → x ≡ y
      same_held x y e = cc

      its_held : own.held ≡ c.held
      its_held = same_held own.held c.held (sym own.is ∙ to.held_is)

      same_address_of : (a b : VirtAddr) → Socket a ≡ Socket b → a ≡ b
      same_address_of a b e = cc

      its_address : o.address ≡ to.socket
      its_address =
          same_address_of o.address to.socket
          (sym own.object ∙ ap (λ (h : Held). h.description.object) its_held ∙ to.object)

      target_found : target ≡ Ok (Some c.to)
      target_found =
          (λ i. if not (to.long i) then Err (record { 0 = EINVAL }) else
          if not (to.inet i) then Err (record { 0 = EAFNOSUPPORT }) else
          Ok (option_map (λ host. address_at host (endpoint_of given).port)
          (named_host (its_address i).host (endpoint_of given))))
          ∙ ap (λ q. Ok (option_map (λ host. address_at host (endpoint_of given).port) q)) to.names
          ∙ ap (λ (a : VirtAddr). Ok (Some a)) (sym to.to_is)

      bound_found : bound ≡ Ok c.own
      bound_found =
          bound_told (bound_or k o.address EADDRNOTAVAIL) bound c.own bound_is
          (ap (λ a. bound_or k a EADDRNOTAVAIL) its_address ∙ to.own_is)

      channel_found : channel ≡ Some (next_channel k p)
      channel_found = channel_is ∙ ap (λ b. cond b (Some (next_channel k p)) None) to.numbers

      pub listed_told : entry_of channel bound target o.desc ≡ Some (record {
        conn = open_conn (next_channel k p) INTERNET (Some c.own) (Some c.to);
        desc = c.held.desc;
      })
      listed_told =
          (λ i. entry_of (channel_found i) (bound_found i) (target_found i) (sym own.desc i))
          ∙ ap (λ (h : Held). Some (record {
            conn = open_conn (next_channel k p) INTERNET (Some c.own) (Some c.to);
            desc = h.desc;
          })) its_held

    names_own : ConnectNames (given_of s) k length given (real_target s.ids.addresses target) (is_ok bound)
        o.address
    names_own = record {
      to_is = sym (target_is s.ids.addresses o.address length given);
      port_is = port_is k o.address EADDRNOTAVAIL bound bound_is;
    }

    pub names_socket : IsNamedConnect (given_of s) k p fd length given (record {
      of_pipe = of_pipe;
      channel = channel;
      to = real_target s.ids.addresses target;
      port_free = is_ok bound;
      listed = entry_of channel bound target o.desc;
    })
    names_socket = record {
      of_pipe = pipe_is;
      channel = channel_is;
      names = subst (λ m. IfHeld m (ConnectNames (given_of s) k length given
          (real_target s.ids.addresses target)
          (is_ok bound))) (sym own.is)
          (subst (λ x. IfSocket x (ConnectNames (given_of s) k length given
          (real_target s.ids.addresses target)
          (is_ok bound))) (sym own.object) names_own);
      entry = entry_by channel bound target o.desc;
      listed_is = λ c gives. listed_told c ((connects_to k p fd length (endpoint_of given)).each c gives);
    }
