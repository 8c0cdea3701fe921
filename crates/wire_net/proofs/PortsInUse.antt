-- Ports at which somebody listens, one after the other.
--     all_ports-many      where somebody listens at each port of a node, there are as many listeners
use Rattle.std.proofs.Common.{◌≡◌, ℕ, ◌+◌, ◌<◌, ◌≤◌, Bool, true, false, inl, inr, refl, ap, ◌∙◌, sym, arith}
use Rattle.std.specs.Prelude.{Option, Some, None, is_some}
use Rattle.std.specs.Cmp.{nat_cmp_total}
use Rattle.std.specs.FinMap as map
use Rattle.std.specs.FinMap.{nat_cmp-IsAntisymmetric}
use Rattle.views.proofs.MapLaws.{true_false, same_or_other}
use Rattle.views.proofs.Counting.{at_keys}
use Rattle.sys_abi.specs.declared.identity.RealAddr.{RealAddr}
use Rattle.sys_abi.proofs.OrderLaws.{real_address_total, real_address_exact}
use Rattle.wire_channels.specs.Listeners.{Listeners, real, AreUsed, AllPortsUsed, IsNextPort}
use Rattle.wire_channels.specs.declared.limits.TheConstants.{PORT_COUNT}

pub none_there : {A : Type 0} (found : Option A) → is_some found ≡ false → found ≡ None
none_there None is = refl
none_there (Some x) is = true_false is

pub used-none : (m : Listeners) (node base : ℕ) → AreUsed m node base base
used-none m node base port low high = absurd (omega arith)

pub used-more : (m : Listeners) (node base end : ℕ) (found : Bool) → AreUsed m node base end → found ≡ is_some (map.get m (real node end)) → found ≡ true → AreUsed m node base (end + 1)
used-more m node base end found before told is port low high = elim (same_or_other nat_cmp_total nat_cmp-IsAntisymmetric port end) [
  | inl same ↦ ap (λ p. is_some (map.get m (real node p))) same ∙ sym told ∙ is
  | inr differ ↦ before port low (omega (arith, differ))
]

pub used-all : (m : Listeners) (node base end last : ℕ) → AreUsed m node base end → last ≤ end → AreUsed m node base last
used-all m node base end last before reached port low high = before port low (omega arith)

pub next_port-found : (m : Listeners) (node base port : ℕ) (found : Bool) → AreUsed m node base port → found ≡ is_some (map.get m (real node port)) → found ≡ false
    → base ≤ port → port < base + PORT_COUNT → IsNextPort m node base (real node port)
next_port-found m node base port found before told is low high = record {
  node_is = refl;
  first = low;
  last = high;
  free = none_there (map.get m (real node port)) (sym told ∙ is);
  before = before;
}

-- so a table with fewer listeners has a port left
pub all_ports-many : (m : Listeners) (node base : ℕ) → AllPortsUsed m node base → PORT_COUNT ≤ map.len m
all_ports-many m node base used =
    at_keys real_address_total real_address_exact (λ i. real node (base + i)) apart PORT_COUNT m
    (λ i below. used (base + i) (omega arith) (omega (arith, below)))
  where
    apart : (i j : ℕ) → real node (base + i) ≡ real node (base + j) → i ≡ j
    apart i j same = let ports = ap (λ (at : RealAddr). at.port) same in omega (arith, ports)
