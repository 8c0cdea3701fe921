-- What a borrow of a value in a map does to the map. Each word says: the map behind s has at the key the last
-- value written through r, and is unchanged if r is `None`.
--     LendsByPid, LendsBySlot, LendsByDesc V s key r
use Rattle.std.specs.Prelude.{◌≡◌, Option, OnSome}
use Rattle.std.specs.Borrow.{Fml, RattleType, MutBor, LendsSo}
use Rattle.std.specs.FinMap as map
use Rattle.conn_maps.specs.OfSysAbi.declared.identity.VPid.{VPid}
use Rattle.conn_maps.specs.OfSysAbi.declared.identity.Slot.{Slot}
use Rattle.conn_maps.specs.OfSysAbi.declared.identity.DescId.{DescId}
use Rattle.conn_maps.specs.OfSysAbi.Orders.{vpid_cmp, slot_cmp, desc_cmp}
use Rattle.id_maps.specs.contracts.by_pid.ByPid as by_pid
use Rattle.id_maps.specs.contracts.by_slot.BySlot as by_slot
use Rattle.id_maps.specs.contracts.by_desc.ByDesc as by_desc

abbrev pub LendsByPid : (V : RattleType) → MutBor (map.FinMap vpid_cmp V.Denot) → VPid → Option (MutBor V.Denot) → Fml
LendsByPid V s key r = LendsSo (by_pid.the_row V) V s r (λ n w. OnSome r (n ≡ map.insert s.now key w)) (λ n. n ≡ s.now)

abbrev pub LendsBySlot : (V : RattleType) → MutBor (map.FinMap slot_cmp V.Denot) → Slot → Option (MutBor V.Denot) → Fml
LendsBySlot V s key r = LendsSo (by_slot.the_row V) V s r (λ n w. OnSome r (n ≡ map.insert s.now key w)) (λ n. n ≡ s.now)

abbrev pub LendsByDesc : (V : RattleType) → MutBor (map.FinMap desc_cmp V.Denot) → DescId → Option (MutBor V.Denot) → Fml
LendsByDesc V s key r = LendsSo (by_desc.the_row V) V s r (λ n w. OnSome r (n ≡ map.insert s.now key w)) (λ n. n ≡ s.now)
