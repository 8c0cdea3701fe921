-- The socket of a descriptor through the pairs, where the caller knows whether it is an end of a pipe.
--     socket_none, socket_some      the look-up gives none, or one
use Rattle.std.proofs.Common.{◌≡◌, ℕ, Bool, true, false, cond, Option, Some, None, Result, Ok, Err, refl, sym, ap, ◌∙◌, subst}
use Rattle.std.specs.Prelude.{not}
use Rattle.std.specs.FinMap as map
use Rattle.sys_abi.specs.declared.errors.TheConstants.{EBADF, ENOTSOCK}
use Rattle.sys_abi.specs.declared.identity.DescId.{DescId}
use Rattle.sys_abi.specs.declared.identity.RealPid.{RealPid}
use Rattle.sys_abi.specs.declared.identity.VPid.{VPid}
use Rattle.sys_abi.specs.declared.reply.Errno.{Errno}
use Rattle.fd_book.specs.Books.{IsWhole}
use Rattle.fd_tables.specs.declared.description.Object.{Object}
use Rattle.fd_tables.specs.declared.description.Object.TheVariants as object
use Rattle.fd_tables.specs.Slots as slots
use Rattle.conn_table.specs.Pairs.{Pairs}
use Rattle.plain_process.specs.Attempts.{Try, Fails, Gives, and_then, need}
use Rattle.plain_machine.specs.declared.kernel.PlainKernel.{PlainKernel}
use Rattle.plain_machine.specs.Kernel as plain
use Rattle.plain_machine.specs.SocketWords.{is_socket, socket_at}
use Rattle.host_processes.specs.HandedOn.{Held}
use Rattle.host_processes.specs.HandedOn.{held_in, seen_held}
use Rattle.host_processes.proofs.HandedOn.{there_of, none_held}
use Rattle.host_processes.proofs.HandedOn.{held_told}
use Rattle.host_processes.specs.OfHostTables.declared.kernel.Kernel.{Kernel}
use Rattle.host_processes.specs.OfHostTables.Descriptions.{Names, seen_object}
use Rattle.host_processes.specs.OfHostTables.Stands.{Given, Stands}
use Rattle.host_processes.proofs.OfHostTables.LookUps.{held_none}
use Rattle.host_processes.specs.OfHostTables.Requests.{is_pipe_end, holds_pipe, leads_to_pipe}
use Rattle.host_streams.specs.PipeEnds.{is_socket_unless, socket_by, socket_in}

-- objects

module _ (k : PlainKernel) (names : Names) (pairs : Pairs) (id : DescId) (of_pipe : Bool) where
  same_test : (o : Object) → of_pipe ≡ is_pipe_end k (seen_object names pairs id o)
      → is_socket k (seen_object names pairs id o) ≡ is_socket_unless of_pipe o
  same_test object.Console is = refl
  same_test (object.File number offset) is = refl
  same_test (object.Stream conn side) is = ap not (sym is)
  same_test object.Socket is = refl
  same_test (object.Listener at) is = refl
  same_test (object.Datagram queue side) is = refl
  same_test (object.Counter value) is = refl

-- descriptors

module _ (g : Given) (real : Kernel) (k : PlainKernel) (st : Stands g None real k) (p : VPid) (who : RealPid)
    (paired : map.get g.pids p.0 ≡ Some who) (whole : IsWhole real.book) (fd : ℕ) (of_pipe : Bool)
    (named : of_pipe ≡ leads_to_pipe k p fd) where
  abbrev IsToldBy : Result Held Errno → Type 0
  IsToldBy (Err e) = socket_at k p fd ≡ Fails e.0
  IsToldBy (Ok h) = socket_at k p fd ≡ Gives (seen_held g real h)

  abbrev then : plain.Held → Try plain.Held
  then h = and_then (need (is_socket k h.description.object) ENOTSOCK) (λ _. Gives h)

  told_none : map.get real.book.descriptors (slots.slot who fd) ≡ None → socket_at k p fd ≡ Fails EBADF
  unfolding socket_at and_then
  told_none none = ap (λ m. and_then m then) (held_none g real k st p who paired fd none)

  module _ (h : Held) (is : held_in real.book (slots.slot who fd) ≡ Some h) where
    held_is : plain.held k p fd ≡ Gives (seen_held g real h)
    held_is = held_told g real k st p who paired fd (there_of real who fd h is)

    pipe_is : of_pipe ≡ is_pipe_end k (seen_object g.names real.datagrams h.desc h.description.object)
    pipe_is = named ∙ ap (holds_pipe k) held_is

    socket_is : (b : Bool) → is_socket_unless of_pipe h.description.object ≡ b
        → socket_at k p fd ≡ and_then (need b ENOTSOCK) (λ _. Gives (seen_held g real h))
    unfolding socket_at and_then
    socket_is b test =
        ap (λ m. and_then m then) held_is
        ∙ ap (λ c. and_then (need c ENOTSOCK) (λ _. Gives (seen_held g real h)))
        (same_test k g.names real.datagrams h.desc of_pipe h.description.object pipe_is ∙ test)

    told_some : (b : Bool) → is_socket_unless of_pipe h.description.object ≡ b
        → IsToldBy (cond b (Ok h) (Err (record { 0 = ENOTSOCK })))
    unfolding and_then need
    told_some true test = socket_is true test
    told_some false test = socket_is false test

  told_by : (o : Option Held) → held_in real.book (slots.slot who fd) ≡ o → IsToldBy (socket_by o of_pipe)
  told_by None is = told_none (none_held real.book (slots.slot who fd) whole is)
  told_by (Some h) is = told_some h is (is_socket_unless of_pipe h.description.object) refl

  told : (r : Result Held Errno) → r ≡ socket_in real.book (slots.slot who fd) of_pipe → IsToldBy r
  told r is = subst IsToldBy (sym is) (told_by (held_in real.book (slots.slot who fd)) refl)

  pub socket_none : (r : Result Held Errno) → r ≡ socket_in real.book (slots.slot who fd) of_pipe
      → (e : Errno) → r ≡ Err e → socket_at k p fd ≡ Fails e.0
  socket_none r is e err = subst IsToldBy err (told r is)

  pub socket_some : (r : Result Held Errno) → r ≡ socket_in real.book (slots.slot who fd) of_pipe → (h : Held)
      → r ≡ Ok h → socket_at k p fd ≡ Gives (seen_held g real h)
  socket_some r is h ok = subst IsToldBy ok (told r is)
