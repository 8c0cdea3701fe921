-- The tests of accept through the pairs.
--     IsAccepting g k p x y     what they find: the port of the address, the connection that waits there
--                               longest, and the name of the new description
--     same_accepting            they go alike
use Rattle.std.proofs.Common.{◌≡◌, ℕ, Bool, true, false, List, [], ◌∷◌, Option, Some, None, refl, sym, ap, ◌∙◌, subst}
use Rattle.std.specs.Prelude.{option_and_then, slice_get, if◌then◌else◌}
use Rattle.std.specs.FinMap as map
use Rattle.views.proofs.Seen.{agree_found}
use Rattle.sys_abi.specs.declared.errors.TheConstants.{EINVAL, ENFILE}
use Rattle.sys_abi.specs.declared.identity.DescId.{DescId}
use Rattle.sys_abi.specs.declared.identity.ConnId.{ConnId}
use Rattle.sys_abi.specs.declared.identity.VPid.{VPid}
use Rattle.sys_abi.specs.declared.identity.RealPid.{RealPid}
use Rattle.sys_abi.specs.declared.identity.RealAddr.{RealAddr}
use Rattle.sys_abi.specs.declared.identity.VirtAddr.{VirtAddr}
use Rattle.fd_book.specs.Books.{IsWhole}
use Rattle.plain_tables.specs.declared.channel.Listening.{Listening}
use Rattle.plain_process.specs.Attempts.{Gives, need, found}
use Rattle.plain_machine.specs.declared.kernel.PlainKernel.{PlainKernel}
use Rattle.plain_machine.specs.Kernel as plain
use Rattle.plain_machine.specs.Kernels.{IsKernel}
use Rattle.plain_machine.specs.Rows.Connections as rows
use Rattle.plain_machine.specs.SocketWords.{next_description}
use Rattle.wire_channels.specs.declared.listener.Listener.{Listener}
use Rattle.host_descriptors.specs.OfHostTables.declared.kernel.Kernel.{Kernel}
use Rattle.host_descriptors.specs.OfHostTables.Network.{SameListener}
use Rattle.host_descriptors.specs.OfHostTables.Requests.{next_desc, leads_to_pipe}
use Rattle.host_descriptors.specs.OfHostTables.Stands.{Given, Stands}
use Rattle.host_sockets.specs.declared.accepting.Accepting.{Accepting}
use Rattle.host_sockets.specs.Tests.{first_in, if_waiting, accepting_in}
use Rattle.host_sockets.proofs.Tries.{SameTry, same_then, same_skip, same_unready}
use Rattle.host_sockets.proofs.SocketTold.{same_socket}
use Rattle.host_sockets.proofs.FreeNumbers.{same_free}
use Rattle.host_sockets.proofs.ListenersTold.{same_place, placed_there}

pub record IsAccepting (g : Given) (k : PlainKernel) (p : VPid) (x : rows.Accepting)
    (y : Accepting) : Type 0 where
  pub place : map.get g.addresses x.address ≡ Some y.at
  pub conn : x.conn ≡ y.conn
  pub named : y.id ≡ next_description k p
  pub free : plain.free_from k p 0 ≡ Gives x.fd

module _ (k : PlainKernel) (p : VPid) where
  by_room : (b : Bool) → SameTry (λ (passed : Unit {0}) (id : DescId). id ≡ next_description k p)
      (need b ENFILE) (found (if b then Some (next_description k p) else None) ENFILE)
  unfolding need found
  by_room true = record { alike = refl }
  by_room false = record { alike = refl }

  -- the next number for a description
  pub same_number : (id : Option DescId) → id ≡ next_desc k p
      → SameTry (λ (passed : Unit {0}) (id : DescId). id ≡ next_description k p)
      (need (plain.has_numbers k p) ENFILE) (found id ENFILE)
  same_number id is =
      subst (λ o. SameTry (λ (passed : Unit {0}) (id : DescId). id ≡ next_description k p)
      (need (plain.has_numbers k p) ENFILE) (found o ENFILE)) (sym is) (by_room (plain.has_numbers k p))

module _ (g : Given) (real : Kernel) (k : PlainKernel) (st : Stands g None real k) (p : VPid) where
  module _ (a : VirtAddr) (at : RealAddr) (place : map.get g.addresses a ≡ Some at) (fd : ℕ)
      (free : plain.free_from k p 0 ≡ Gives fd) (id : DescId) (named : id ≡ next_description k p) where
    by_queue : (flags : ℕ) (queue : List ConnId)
        → SameTry (IsAccepting g k p) (rows.first_waiting flags a fd queue)
        (if_waiting flags id at (slice_get queue 0))
    by_queue flags [] = same_unready refl
    by_queue flags (conn ∷ rest) = record {
      alike = record { place = place; conn = refl; named = named; free = free };
    }

    -- the connection that waits longest
    pub same_first : (flags flags' : ℕ) → flags ≡ flags' → (x : Listening) → map.get k.listeners a ≡ Some x
        → SameTry (IsAccepting g k p) (rows.first_waiting flags a fd x.queue)
        (if_waiting flags' id at (first_in real.net at))
    same_first flags flags' same x is =
        let y = agree_found (SameListener a at) (map.get k.listeners a) (map.get real.net.listeners at) x
        (st.listeners.each.at a at place) is in
        let first : first_in real.net at ≡ slice_get x.queue 0 =
        ap (option_and_then (λ (l : Listener). slice_get l.queue 0)) y.1.0
        ∙ ap (λ (queue : List ConnId). slice_get queue 0) (sym y.1.1.queue) in
        subst (λ f. SameTry (IsAccepting g k p) (rows.first_waiting flags a fd x.queue)
        (if_waiting f id at (first_in real.net at))) same
        (subst (λ o. SameTry (IsAccepting g k p) (rows.first_waiting flags a fd x.queue)
        (if_waiting flags id at o)) (sym first) (by_queue flags x.queue))

  module _ (who : RealPid) (paired : map.get g.pids p.0 ≡ Some who) (fd : ℕ) (whole : IsKernel k)
      (whole_book : IsWhole real.book) (of_pipe : Bool) (tells : of_pipe ≡ leads_to_pipe k p fd)
      (id : Option DescId)
      (named : id ≡ next_desc k p) where
    pub same_accepting : SameTry (IsAccepting g k p) (rows.accepting_of k p fd)
        (accepting_in real who fd id of_pipe)
    unfolding rows.accepting_of accepting_in
    same_accepting =
        same_then (same_socket g real k st p who paired fd whole_book of_pipe tells) (λ x y is.
        same_then (same_place g real k st p who fd x y is) (λ a at placed.
        same_skip (map.get k.listeners a) EINVAL
        (placed_there g real k st p who fd paired whole x y is a at placed) (λ l there.
        same_then (same_number k p id named) (λ _ new number.
        same_then (same_free g real k st p who paired) (λ n _ free.
        same_first a at placed.place n free new number x.description.flags y.description.flags
        (ap (λ (h : plain.Held). h.description.flags) is.seen) l there)))))
