-- What a borrow of a value in a map does to the map. Each word says: the map behind s has at the key the last
-- value written through r, and is unchanged if r is `None`.
--     LendsByConn, LendsByDir, LendsByAddress V s key r
use Rattle.std.specs.Prelude.{◌≡◌, Option, OnSome}
use Rattle.std.specs.Borrow.{Fml, RattleType, MutBor, LendsSo}
use Rattle.std.specs.FinMap as map
use Rattle.sys_abi.specs.declared.identity.ConnId.{ConnId}
use Rattle.sys_abi.specs.declared.identity.Dir.{Dir}
use Rattle.sys_abi.specs.declared.identity.VirtAddr.{VirtAddr}
use Rattle.sys_abi.specs.Orders.{conn_cmp, dir_cmp, address_cmp}
use Rattle.conn_maps.specs.contracts.by_conn.ByConn as by_conn
use Rattle.conn_maps.specs.contracts.by_dir.ByDir as by_dir
use Rattle.conn_maps.specs.contracts.by_address.ByAddress as by_address

abbrev pub LendsByConn : (V : RattleType) → MutBor (map.FinMap conn_cmp V.Denot) → ConnId → Option (MutBor V.Denot) → Fml
LendsByConn V s key r = LendsSo (by_conn.the_row V) V s r (λ n w. OnSome r (n ≡ map.insert s.now key w)) (λ n. n ≡ s.now)

abbrev pub LendsByDir : (V : RattleType) → MutBor (map.FinMap dir_cmp V.Denot) → Dir → Option (MutBor V.Denot) → Fml
LendsByDir V s key r = LendsSo (by_dir.the_row V) V s r (λ n w. OnSome r (n ≡ map.insert s.now key w)) (λ n. n ≡ s.now)

abbrev pub LendsByAddress : (V : RattleType) → MutBor (map.FinMap address_cmp V.Denot) → VirtAddr → Option (MutBor V.Denot) → Fml
LendsByAddress V s key r = LendsSo (by_address.the_row V) V s r (λ n w. OnSome r (n ≡ map.insert s.now key w)) (λ n. n ≡ s.now)
