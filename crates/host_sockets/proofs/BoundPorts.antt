-- The address that a socket gets: whether there is one is what the caller told of its port.
--     IsBound k socket e x       the address
--     same_port                  one test on both sides
--     same_unconnected           a socket that isn't connected yet, with its own address
use Rattle.std.proofs.Common.{◌≡◌, ℕ, Bool, true, false, not, ◌||◌, Option, Some, None, refl, sym, subst}
use Rattle.std.specs.Prelude.{◌==◌, is_some, if◌then◌else◌}
use Rattle.sys_abi.specs.declared.identity.VirtAddr.{VirtAddr}
use Rattle.plain_process.specs.Attempts.{Try, Gives, and_then, need, found}
use Rattle.plain_machine.specs.declared.kernel.PlainKernel.{PlainKernel}
use Rattle.plain_machine.specs.Addresses.{address_at, automatic_port}
use Rattle.plain_machine.specs.SocketWords.{bound_or}
use Rattle.host_descriptors.specs.OfHostTables.Requests.{has_port}
use Rattle.host_sockets.proofs.Tries.{SameTry}

abbrev pub IsBound : PlainKernel → VirtAddr → ℕ → VirtAddr → Unit {0} → Type 0
IsBound k socket e x passed = bound_or k socket e ≡ Gives x

module _ (k : PlainKernel) (socket : VirtAddr) (e : ℕ) where
  abbrev bound_by : Bool → Option ℕ → Try VirtAddr
  bound_by b o =
      if b then and_then (found o e) (λ port. Gives (address_at socket.host port)) else Gives socket

  abbrev Is : Try VirtAddr → VirtAddr → Unit {0} → Type 0
  Is m x passed = m ≡ Gives x

  by_port : (b : Bool) (o : Option ℕ) → SameTry (Is (bound_by b o)) (bound_by b o)
      (need (not b || is_some o) e)
  unfolding and_then need found
  by_port true None = record { alike = refl }
  by_port true (Some port) = record { alike = refl }
  by_port false o = record { alike = refl }

  pub same_port : (port_free : Bool) → port_free ≡ has_port k socket
      → SameTry (IsBound k socket e) (bound_or k socket e) (need port_free e)
  unfolding bound_or
  same_port port_free is =
      subst (λ b. SameTry (IsBound k socket e) (bound_or k socket e) (need b e)) (sym is)
      (by_port (socket.port == 0) (automatic_port k socket.host))
