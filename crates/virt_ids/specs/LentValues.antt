-- What a borrow of a value in a map does to the map. Each word says: the map behind s has at the key the last
-- value written through r, and is unchanged if r is `None`.
--     LendsByRealPid, LendsByRealAddress V s key r
use Rattle.std.specs.Prelude.{◌≡◌, Option, OnSome}
use Rattle.std.specs.Borrow.{Fml, RattleType, MutBor, LendsSo}
use Rattle.std.specs.FinMap as map
use Rattle.id_maps.specs.OfSysAbi.declared.identity.RealPid.{RealPid}
use Rattle.id_maps.specs.OfSysAbi.declared.identity.RealAddr.{RealAddr}
use Rattle.id_maps.specs.OfSysAbi.Orders.{real_pid_cmp, real_address_cmp}
use Rattle.virt_ids.specs.contracts.by_real_pid.ByRealPid as by_real_pid
use Rattle.virt_ids.specs.contracts.by_real_address.ByRealAddress as by_real_address

abbrev pub LendsByRealPid : (V : RattleType) → MutBor (map.FinMap real_pid_cmp V.Denot) → RealPid → Option (MutBor V.Denot) → Fml
LendsByRealPid V s key r = LendsSo (by_real_pid.the_row V) V s r (λ n w. OnSome r (n ≡ map.insert s.now key w)) (λ n. n ≡ s.now)

abbrev pub LendsByRealAddress : (V : RattleType) → MutBor (map.FinMap real_address_cmp V.Denot) → RealAddr → Option (MutBor V.Denot) → Fml
LendsByRealAddress V s key r = LendsSo (by_real_address.the_row V) V s r (λ n w. OnSome r (n ≡ map.insert s.now key w)) (λ n. n ≡ s.now)
