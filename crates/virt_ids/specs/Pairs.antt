-- Virtual numbers and addresses with the real ones that they are paired with.
--     Pairs                    what a contract sees of a table: both ways, from each side the other
--     IsTaken there back v r   either side is paired already
--     AreInverse there back    each of two maps leads back to where the other came from
--     without_back back r      the way back without what a pair that was taken out led to
--     AreWhole p               what is always true of a table: each way leads back
use Rattle.std.specs.Prelude.{◌≡◌, ℕ, Option, Some, None, IsSome, ◌⊎◌, refl}
use Rattle.std.specs.declared.cmp.Ordering.{Ordering}
use Rattle.std.specs.Ordering.{nat_cmp}
use Rattle.std.specs.FinMap as map
use Rattle.std.specs.FinMap.{FinMap}
use Rattle.std.specs.Coded.{Coded, code_by, coded×, coded_ℕ}
use Rattle.id_maps.specs.OfSysAbi.declared.identity.RealPid.{RealPid}
use Rattle.id_maps.specs.OfSysAbi.declared.identity.RealAddr.{RealAddr}
use Rattle.id_maps.specs.OfSysAbi.declared.identity.VirtAddr.{VirtAddr}
use Rattle.id_maps.specs.OfSysAbi.Orders.{address_cmp, real_pid_cmp, real_address_cmp, coded_address, coded_real_pid, coded_real_address}

pub record Pairs : Type 0 where
  pub pids : FinMap nat_cmp RealPid
  pub virts : FinMap real_pid_cmp ℕ
  pub addresses : FinMap address_cmp RealAddr
  pub ports : FinMap real_address_cmp VirtAddr

-- stored as the pairs of its maps
abbrev pub coded_pairs : Coded Pairs
coded_pairs =
    code_by
    ((FinMap nat_cmp RealPid × FinMap real_pid_cmp ℕ) × (FinMap address_cmp RealAddr × FinMap real_address_cmp VirtAddr))
    (coded× (coded× (map.code coded_ℕ coded_real_pid) (map.code coded_real_pid coded_ℕ)) (coded× (map.code coded_address coded_real_address) (map.code coded_real_address coded_address)))
    (λ p. ((p.pids, p.virts), (p.addresses, p.ports)))
    (λ p. record { pids = p.0.0; virts = p.0.1; addresses = p.1.0; ports = p.1.1 })
    (λ _. refl)

module _ {V R : Type 0} {C : V → V → Ordering} {D : R → R → Ordering} where
  abbrev pub IsTaken : FinMap C R → FinMap D V → V → R → Type 0
  IsTaken there back v r = IsSome (map.get there v) ⊎ IsSome (map.get back r)

abbrev pub without_back : {V R : Type 0} {D : R → R → Ordering} → FinMap D V → Option R → FinMap D V
without_back back None = back
without_back back (Some r) = map.remove back r

pub record AreInverse {V R : Type 0} {C : V → V → Ordering} {D : R → R → Ordering} (there : FinMap C R) (back : FinMap D V) : Type 0 where
  pub leads_back : (v : V) (r : R) → map.get there v ≡ Some r → map.get back r ≡ Some v
  pub leads_there : (v : V) (r : R) → map.get back r ≡ Some v → map.get there v ≡ Some r

pub record AreWhole (p : Pairs) : Type 0 where
  pub numbers : AreInverse p.pids p.virts
  pub places : AreInverse p.addresses p.ports
