-- What a connect names is what its kernel part has.
--     if_none, if_told      the address of a socket that a descriptor leads to
--     if_held               what holds of it
--     conn_is               the number of the next channel
use Rattle.std.proofs.Common.{◌≡◌, ℕ, Some, None, sym, ap, subst}
use Rattle.std.specs.FinMap as map
use Rattle.sys_abi.specs.declared.identity.DescId.{DescId}
use Rattle.sys_abi.specs.declared.identity.VPid.{VPid}
use Rattle.sys_abi.specs.declared.identity.RealPid.{RealPid}
use Rattle.sys_abi.specs.declared.identity.VirtAddr.{VirtAddr}
use Rattle.fd_book.specs.Books.{IsWhole}
use Rattle.fd_tables.specs.declared.description.Object as real_object
use Rattle.fd_tables.specs.declared.description.Object.TheVariants as real
use Rattle.fd_tables.specs.Slots as slots
use Rattle.conn_table.specs.Pairs.{Pairs}
use Rattle.plain_process.specs.Attempts.{Try, Fails, NotReady, Gives}
use Rattle.plain_tables.specs.declared.description.Object.{Object}
use Rattle.plain_tables.specs.declared.description.Object.TheVariants as object
use Rattle.plain_tables.specs.Tables.{Makers}
use Rattle.plain_machine.specs.declared.kernel.PlainKernel.{PlainKernel}
use Rattle.plain_machine.specs.Kernel as kernels
use Rattle.host_descriptors.specs.declared.held.Held.{Held}
use Rattle.host_descriptors.specs.Held.{held_in}
use Rattle.host_descriptors.proofs.HeldChanges.{there_of, none_held}
use Rattle.host_descriptors.proofs.HeldTold.{held_told}
use Rattle.host_tables.specs.declared.kernel.Kernel.{Kernel}
use Rattle.host_tables.specs.declared.system.System.{System}
use Rattle.host_tables.specs.Descriptions.{Names, address_of, seen_object}
use Rattle.host_tables.specs.Requests.{IfSocket, IfHeld, next_conn}
use Rattle.host_tables.specs.Stands.{Given, Stands}
use Rattle.host_tables.proofs.LookUps.{held_none}
use Rattle.wrap_passing.specs.OfWrapNames.Wrapping.{IsWrapped}
use Rattle.wrap_calls.specs.Naming.{conn_in}

if_seen : (names : Names) (pairs : Pairs) (id : DescId) (M : VirtAddr → Type 0) → M (address_of names id)
    → (o : real_object.Object) → IfSocket (seen_object names pairs id o) M
if_seen names pairs id M holds real.Console = tt
if_seen names pairs id M holds (real.File number offset) = tt
if_seen names pairs id M holds (real.Stream conn side) = tt
if_seen names pairs id M holds real.Socket = holds
if_seen names pairs id M holds (real.Listener at) = tt
if_seen names pairs id M holds (real.Datagram queue side) = tt
if_seen names pairs id M holds (real.Counter value) = tt

module _ (g : Given) (s : Kernel) (k : PlainKernel) (st : Stands g None s k) (p : VPid) (who : RealPid)
    (paired : map.get g.pids p.0 ≡ Some who) (fd : ℕ) (M : VirtAddr → Type 0) where
  pub if_none : IsWhole s.book → held_in s.book (slots.slot who fd) ≡ None → IfHeld (kernels.held k p fd) M
  if_none book none =
      subst (λ m. IfHeld m M)
      (sym (held_none g s k st p who paired fd (none_held s.book (slots.slot who fd) book none))) tt

  pub if_told : (h : Held) → held_in s.book (slots.slot who fd) ≡ Some h → M (address_of g.names h.desc)
      → IfHeld (kernels.held k p fd) M
  if_told h is holds =
      subst (λ m. IfHeld m M) (sym (held_told g s k st p who paired fd (there_of s who fd h is)))
      (if_seen g.names s.datagrams h.desc M holds h.description.object)

module _ (M N : VirtAddr → Type 0) (each : (a : VirtAddr) → M a → N a) where
  if_socket : (o : Object) → IfSocket o M → IfSocket o N
  if_socket object.Console h = tt
  if_socket (object.File number offset) h = tt
  if_socket (object.Stream conn side) h = tt
  if_socket (object.Socket address) h = each address h
  if_socket (object.Listener address) h = tt
  if_socket (object.Datagram peer) h = tt
  if_socket (object.Counter value) h = tt

  pub if_held : (m : Try kernels.Held) → IfHeld m M → IfHeld m N
  if_held (Fails e) h = tt
  if_held NotReady h = tt
  if_held (Gives x) h = if_socket x.description.object h

pub conn_is : (s : System) (next_id : ℕ) (k : PlainKernel) → IsWrapped s next_id k → (p : VPid)
    → conn_in s.conns.makers p ≡ next_conn k p
conn_is s next_id k w p = ap (λ (makers : Makers). conn_in makers p) (sym w.stands.exact.makers)
