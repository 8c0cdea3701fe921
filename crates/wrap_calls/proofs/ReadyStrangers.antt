-- A process that has no real number has no descriptor, and no child but where it is nobody.
--     stranger_holds                      a descriptor
--     stranger_reads, stranger_writes, stranger_accepts, stranger_connects     a call on one never waits
--     strangers_ready                     so that no call but a wait for a child waits
--     others_ready                        nor does a call of any other kind
use Rattle.std.proofs.Common.{◌≡◌, ℕ, true, List, Option, None, refl, sym, ap}
use Rattle.std.specs.Prelude.{not, option_map}
use Rattle.std.specs.FinMap as map
use Rattle.sys_abi.specs.declared.descriptor.Descriptor.{Descriptor}
use Rattle.sys_abi.specs.declared.identity.VPid.{VPid}
use Rattle.sys_abi.specs.declared.errors.TheConstants.{EBADF}
use Rattle.call_table.specs.declared.request.Request.{Request}
use Rattle.call_table.specs.declared.request.Request.TheVariants.{Read, Write, Accept, Connect, Wait4}
use Rattle.fd_tables.specs.Slots as slots
use Rattle.plain_tables.specs.Tables.{slot}
use Rattle.plain_process.specs.Attempts.{Try, Fails, Gives, and_then, found}
use Rattle.plain_machine.specs.declared.kernel.PlainKernel.{PlainKernel}
use Rattle.plain_machine.specs.Kernel.{Held, held}
use Rattle.plain_machine.specs.Rows.Connections.{Accepting, Connecting, accepting_of, connecting_of, is_accept_ready, is_connect_ready}
use Rattle.plain_machine.specs.Rows.Read.{read_access, is_read_ready}
use Rattle.plain_machine.specs.Rows.Write.{write_access, is_write_ready}
use Rattle.plain_machine.specs.Serve.{is_ready}
use Rattle.plain_machine.specs.SocketWords.{socket_at, is_settled}
use Rattle.plain_machine.specs.Waiting.{waits}
use Rattle.host_tables.specs.declared.kernel.Kernel.{Kernel}
use Rattle.host_tables.specs.Stands.{Given, Stands}

stopped : {A B : Type 0} (m : Try A) (e : ℕ) → m ≡ Fails e → (f : A → Try B) → and_then m f ≡ Fails e
unfolding and_then
stopped m e is f = ap (λ x. and_then x f) is

module _ (g : Given) (real : Kernel) (k : PlainKernel) (st : Stands g None real k) (p : VPid)
    (none : map.get g.pids p.0 ≡ None) where
  no_slot : (fd : ℕ) → map.get k.descriptors (slot p fd) ≡ None
  no_slot fd = st.descriptors.virt_alone (slot p fd) (ap (option_map (λ r. slots.slot r fd)) none)

  abbrev described : Descriptor → Try Held
  described d = and_then (found (map.get k.descriptions d.desc) EBADF)
      (λ x. Gives (record { desc = d.desc; cloexec = d.cloexec; description = x }))

  pub stranger_holds : (fd : ℕ) → held k p fd ≡ Fails EBADF
  unfolding held and_then found
  stranger_holds fd = ap (λ (o : Option Descriptor). and_then (found o EBADF) described) (no_slot fd)

  pub stranger_reads : (fd count : ℕ) → is_read_ready k p fd count ≡ true
  unfolding is_read_ready read_access
  stranger_reads fd count =
      ap (λ (m : Try Held). not (waits m)) (stopped (held k p fd) EBADF (stranger_holds fd) _)

  pub stranger_writes : (fd count : ℕ) (front : List ℕ) → is_write_ready k p fd count front ≡ true
  unfolding is_write_ready write_access
  stranger_writes fd count front =
      ap (λ (m : Try Held). not (waits m)) (stopped (held k p fd) EBADF (stranger_holds fd) _)

  no_socket : (fd : ℕ) → socket_at k p fd ≡ Fails EBADF
  unfolding socket_at
  no_socket fd = stopped (held k p fd) EBADF (stranger_holds fd) _

  pub stranger_accepts : (fd : ℕ) → is_accept_ready k p fd ≡ true
  unfolding is_accept_ready accepting_of
  stranger_accepts fd =
      ap (λ (m : Try Accepting). is_settled m) (stopped (socket_at k p fd) EBADF (no_socket fd) _)

  pub stranger_connects : (fd length : ℕ) (front : List ℕ) → is_connect_ready k p fd length front ≡ true
  unfolding is_connect_ready connecting_of
  stranger_connects fd length front =
      ap (λ (m : Try Connecting). is_settled m) (stopped (socket_at k p fd) EBADF (no_socket fd) _)

  pub strangers_ready : (t : ℕ) (front : List ℕ) (q : Request)
      → ((number status options usage : ℕ) → q ≡ Wait4 number status options usage → ⊥)
      → true ≡ is_ready k p t q front
  unfolding is_ready
  strangers_ready t front (Read fd buffer count) other = sym (stranger_reads fd count)
  strangers_ready t front (Write fd buffer count) other = sym (stranger_writes fd count front)
  strangers_ready t front (Accept fd address length) other = sym (stranger_accepts fd)
  strangers_ready t front (Connect fd address length) other = sym (stranger_connects fd length front)
  strangers_ready t front (Wait4 number status options usage) other =
      absurd (other number status options usage refl)
  strangers_ready t front _ other = refl

pub others_ready : (k : PlainKernel) (p : VPid) (t : ℕ) (front : List ℕ) (q : Request)
    → ((fd buffer count : ℕ) → q ≡ Read fd buffer count → ⊥)
    → ((fd buffer count : ℕ) → q ≡ Write fd buffer count → ⊥)
    → ((fd address length : ℕ) → q ≡ Accept fd address length → ⊥)
    → ((fd address length : ℕ) → q ≡ Connect fd address length → ⊥)
    → ((number status options usage : ℕ) → q ≡ Wait4 number status options usage → ⊥)
    → true ≡ is_ready k p t q front
unfolding is_ready
others_ready k p t front (Read fd buffer count) read write accept connect wait =
    absurd (read fd buffer count refl)
others_ready k p t front (Write fd buffer count) read write accept connect wait =
    absurd (write fd buffer count refl)
others_ready k p t front (Accept fd address length) read write accept connect wait =
    absurd (accept fd address length refl)
others_ready k p t front (Connect fd address length) read write accept connect wait =
    absurd (connect fd address length refl)
others_ready k p t front (Wait4 number status options usage) read write accept connect wait =
    absurd (wait number status options usage refl)
others_ready k p t front _ read write accept connect wait = refl
