-- The socket of a descriptor, by the tables of a system and in the kernel part.
--     socket_told       what the look-up gives
--     socket_there      the descriptor and its description are there then
use Rattle.std.proofs.Common.{◌≡◌, ℕ, Bool, true, false, cond, Option, Some, None, Result, Ok, Err, refl}
use Rattle.std.specs.Prelude.{IfOk}
use Rattle.std.specs.FinMap as map
use Rattle.sys_abi.specs.declared.errors.TheConstants.{ENOTSOCK}
use Rattle.sys_abi.specs.declared.identity.RealPid.{RealPid}
use Rattle.sys_abi.specs.declared.identity.VPid.{VPid}
use Rattle.sys_abi.specs.declared.reply.Errno.{Errno}
use Rattle.fd_book.specs.Books.{Books, IsWhole}
use Rattle.fd_tables.specs.declared.real_slot.RealSlot.{RealSlot}
use Rattle.fd_tables.specs.Slots as slots
use Rattle.plain_machine.specs.declared.kernel.PlainKernel.{PlainKernel}
use Rattle.plain_machine.specs.SocketWords.{socket_at}
use Rattle.plain_ports.specs.Told.{told}
use Rattle.host_streams.specs.HandedOn.{Held}
use Rattle.host_streams.specs.HandedOn.{held_in, seen_held}
use Rattle.host_streams.specs.PipeEnds.{is_socket_unless, socket_by, socket_in}
use Rattle.host_streams.proofs.SocketLookUps.{socket_none, socket_some}
use Rattle.host_streams.specs.OfHostTables.declared.system.System.{System}
use Rattle.host_streams.specs.OfHostTables.Systems.{given_of}
use Rattle.wrap_names.specs.Naming.{of_pipe_in}
use Rattle.wrap_names.specs.Wrapping.{IsWrapped}
use Rattle.wrap_names.proofs.Named.{pipe_is}

module _ (s : System) (next_id : ℕ) (k : PlainKernel) (w : IsWrapped s next_id k) (p : VPid) (who : RealPid)
    (paired : map.get s.ids.pids p.0 ≡ Some who) (whole : IsWhole s.kernel.book) (fd : ℕ) where
  abbrev found : Result Held Errno
  found = socket_in s.kernel.book (slots.slot who fd) (of_pipe_in s who fd)

  told_by : (r : Result Held Errno) → r ≡ found
      → socket_at k p fd ≡ told (seen_held (given_of s) s.kernel) r
  told_by (Err e) is =
      socket_none (given_of s) s.kernel k w.stands.tables p who paired whole fd (of_pipe_in s who fd)
      (pipe_is s next_id k w p who paired whole fd) (Err e) is e refl
  told_by (Ok h) is =
      socket_some (given_of s) s.kernel k w.stands.tables p who paired whole fd (of_pipe_in s who fd)
      (pipe_is s next_id k w p who paired whole fd) (Ok h) is h refl

  pub socket_told : socket_at k p fd ≡ told (seen_held (given_of s) s.kernel) found
  socket_told = told_by found refl

module _ (b : Books) (at : RealSlot) (of_pipe : Bool) where
  abbrev IsThere : Result Held Errno → Type 0
  IsThere r = IfOk r (λ (h : Held). held_in b at ≡ Some h)

  there_of : (h : Held) → held_in b at ≡ Some h → (c : Bool)
      → IsThere (cond c (Ok h) (Err (record { 0 = ENOTSOCK })))
  there_of h is true = is
  there_of h is false = tt

  there_by : (o : Option Held) → held_in b at ≡ o → IsThere (socket_by o of_pipe)
  there_by None is = tt
  there_by (Some h) is = there_of h is (is_socket_unless of_pipe h.description.object)

  pub socket_there : IsThere (socket_in b at of_pipe)
  socket_there = there_by (held_in b at) refl
