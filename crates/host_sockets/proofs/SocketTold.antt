-- The socket of a descriptor through the pairs.
--     IsSeenHeld g real k .. x y    the plain look-up gives what the real one does
--     same_held, same_socket        a descriptor;  its socket
--     described                     its description in the plain table
use Rattle.std.proofs.Common.{◌≡◌, ℕ, Bool, not, Option, Some, None, refl, sym, ap, ◌∙◌, subst}
use Rattle.std.specs.Prelude.{option_map}
use Rattle.std.specs.FinMap as map
use Rattle.sys_abi.specs.declared.errors.TheConstants.{EBADF, ENOTSOCK}
use Rattle.sys_abi.specs.declared.identity.DescId.{DescId}
use Rattle.sys_abi.specs.declared.identity.VPid.{VPid}
use Rattle.sys_abi.specs.declared.identity.RealPid.{RealPid}
use Rattle.fd_book.specs.Books.{IsWhole}
use Rattle.fd_tables.specs.declared.description.Object as real_object
use Rattle.fd_tables.specs.declared.description.Object.TheVariants as object
use Rattle.fd_tables.specs.Slots as slots
use Rattle.plain_tables.specs.Tables.{slot}
use Rattle.plain_process.specs.Attempts.{Fails, Gives, found}
use Rattle.plain_machine.specs.declared.kernel.PlainKernel.{PlainKernel}
use Rattle.plain_machine.specs.Kernel as plain
use Rattle.plain_machine.specs.SocketWords as words
use Rattle.host_descriptors.specs.OfHostTables.declared.kernel.Kernel.{Kernel}
use Rattle.host_descriptors.specs.OfHostTables.Descriptions.{seen_object, seen_desc}
use Rattle.host_descriptors.specs.OfHostTables.Requests.{is_pipe_end, holds_pipe, leads_to_pipe}
use Rattle.host_descriptors.specs.OfHostTables.Stands.{Given, Stands}
use Rattle.host_descriptors.proofs.OfHostTables.LookUps.{at_slot, held_none, held_some}
use Rattle.host_descriptors.specs.declared.held.Held.{Held}
use Rattle.host_descriptors.specs.Held.{held_in, seen_held}
use Rattle.host_descriptors.proofs.HeldChanges.{held_by, none_held}
use Rattle.host_sockets.specs.Tests.{is_socket, socket_in}
use Rattle.host_sockets.proofs.Tries.{SameTry, same_then, same_need, same_gives}

pub record IsSeenHeld (g : Given) (real : Kernel) (k : PlainKernel) (p : VPid) (who : RealPid) (fd : ℕ)
    (x : plain.Held) (y : Held) : Type 0 where
  pub seen : x ≡ seen_held g real y
  pub at : held_in real.book (slots.slot who fd) ≡ Some y
  pub told : plain.held k p fd ≡ Gives (seen_held g real y)

module _ (g : Given) (real : Kernel) (k : PlainKernel) (st : Stands g None real k) (p : VPid) (who : RealPid)
    (paired : map.get g.pids p.0 ≡ Some who) (fd : ℕ) where
  -- a description that a look-up found, in the plain tables
  pub described : (y : Held) → held_in real.book (slots.slot who fd) ≡ Some y
      → map.get k.descriptions y.desc
      ≡ Some (seen_desc g.virts g.names real.datagrams None y.desc y.description)
  described y at =
      st.descriptions.each y.desc
      ∙ ap (option_map (seen_desc g.virts g.names real.datagrams None y.desc))
      (held_by real.book (slots.slot who fd) y at).described

  pub plain_slot : (y : Held) → held_in real.book (slots.slot who fd) ≡ Some y
      → map.get k.descriptors (slot p fd) ≡ Some (record { desc = y.desc; cloexec = y.cloexec })
  plain_slot y at =
      at_slot g.pids g.virts real.book.descriptors k.descriptors st.descriptors p who paired fd
      ∙ (held_by real.book (slots.slot who fd) y at).slot_is

  module _ (whole : IsWhole real.book) where
    by_look_up : (o : Option Held) → held_in real.book (slots.slot who fd) ≡ o
        → SameTry (IsSeenHeld g real k p who fd) (plain.held k p fd) (found o EBADF)
    unfolding found
    by_look_up None is =
        subst (λ m. SameTry (IsSeenHeld g real k p who fd) m (Fails EBADF))
        (sym (held_none g real k st p who paired fd (none_held real.book (slots.slot who fd) whole is)))
        (record { alike = refl })
    by_look_up (Some y) is =
        let there = held_by real.book (slots.slot who fd) y is in
        let told =
        held_some g real k st p who paired fd (record { desc = y.desc; cloexec = y.cloexec }) y.description
        there.slot_is there.described in
        subst (λ m. SameTry (IsSeenHeld g real k p who fd) m (Gives y)) (sym told)
        (record { alike = record { seen = refl; at = is; told = told } })

    pub same_held : SameTry (IsSeenHeld g real k p who fd) (plain.held k p fd)
        (found (held_in real.book (slots.slot who fd)) EBADF)
    same_held = by_look_up (held_in real.book (slots.slot who fd)) refl

    object_alike : (of_pipe : Bool) (id : DescId) (o : real_object.Object)
        → of_pipe ≡ is_pipe_end k (seen_object g.names real.datagrams id o)
        → words.is_socket k (seen_object g.names real.datagrams id o) ≡ is_socket of_pipe o
    object_alike of_pipe id object.Console told = refl
    object_alike of_pipe id (object.File n offset) told = refl
    object_alike of_pipe id (object.Stream conn side) told = ap not (sym told)
    object_alike of_pipe id object.Socket told = refl
    object_alike of_pipe id (object.Listener at) told = refl
    object_alike of_pipe id (object.Datagram queue side) told = refl
    object_alike of_pipe id (object.Counter value) told = refl

    socket_alike : (of_pipe : Bool) → of_pipe ≡ leads_to_pipe k p fd → (x : plain.Held) (y : Held)
        → IsSeenHeld g real k p who fd x y
        → words.is_socket k x.description.object ≡ is_socket of_pipe y.description.object
    socket_alike of_pipe tells x y is =
        ap (λ (h : plain.Held). words.is_socket k h.description.object) is.seen
        ∙ object_alike of_pipe y.desc y.description.object (tells ∙ ap (holds_pipe k) is.told)

    pub same_socket : (of_pipe : Bool) → of_pipe ≡ leads_to_pipe k p fd
        → SameTry (IsSeenHeld g real k p who fd)
        (words.socket_at k p fd) (socket_in real.book (slots.slot who fd) of_pipe)
    unfolding words.socket_at socket_in
    same_socket of_pipe tells =
        same_then same_held (λ x y is.
        same_then (same_need ENOTSOCK (socket_alike of_pipe tells x y is)) (λ _ _ _.
        same_gives x y is))
