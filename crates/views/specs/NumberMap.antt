-- Words on maps whose keys are numbers.
--     is_above key n                a key that comes after this one; each key does after no key
--     bound_above key               the start of the range of these keys
--     LendsValue V s key r          the map behind s has at the key the last value written through r, and is unchanged if r is `None`
use Rattle.std.specs.Prelude.{◌≡◌, ℕ, Bool, true, nat_lt, Option, Some, None, OnSome}
use Rattle.std.specs.Borrow.{Fml, RattleType, MutBor, LendsSo}
use Rattle.std.specs.Ordering.{nat_cmp}
use Rattle.std.specs.declared.ops.Bound.{Bound}
use Rattle.std.specs.declared.ops.Bound.TheVariants.{Excluded, Unbounded}
use Rattle.std.specs.FinMap as map
use Rattle.views.specs.contracts.number_map.NumberMap.{the_row}

abbrev pub is_above : Option ℕ → ℕ → Bool
is_above None n = true
is_above (Some key) n = nat_lt key n

abbrev pub bound_above : Option ℕ → Bound ℕ
bound_above None = Unbounded
bound_above (Some key) = Excluded key

abbrev pub LendsValue : (V : RattleType) → MutBor (map.FinMap nat_cmp V.Denot) → ℕ → Option (MutBor V.Denot) → Fml
LendsValue V s key r = LendsSo (the_row V) V s r (λ n w. OnSome r (n ≡ map.insert s.now key w)) (λ n. n ≡ s.now)
