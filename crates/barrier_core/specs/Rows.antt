-- The members of a request as rows, each with its number, in rising order.
--     members_of rows      the members as a finite map      IsRising rows      the numbers rise
--     place p rows         how many rows have lower numbers before p's place
--     IsIndex p rows i     the row of p stands at i, or there is none
use Rattle.std.specs.Prelude.{◌≡◌, ℕ, suc, nat_lt, T, List, [], ◌∷◌, slice_get, Option, Some, None, if◌then◌else◌}
use Rattle.std.specs.Option.{option_map}
use Rattle.std.specs.FinMap as map
use Rattle.sys_abi.specs.declared.identity.VPid.{VPid}
use Rattle.sys_abi.specs.Orders.{vpid_cmp}
use Rattle.barrier_core.specs.declared.member.Member.{Member}
use Rattle.barrier_core.specs.Members.{Members}

abbrev pub Row : Type 0
Row = VPid × Member

unfoldable pub members_of : List Row → Members
members_of rows = map.from_entries rows

unfoldable pub IsRising : List Row → Type 0
IsRising rows = T (map.is_sorted vpid_cmp rows)

unfoldable pub place : VPid → List Row → ℕ
place p [] = 0
place p (row ∷ rest) = if nat_lt row.0.0 p.0 then suc (place p rest) else 0

abbrev pub IsIndex : VPid → List Row → Option ℕ → Type 0
IsIndex p rows None = map.get (members_of rows) p ≡ None
IsIndex p rows (Some i) = (i ≡ place p rows) × (option_map (λ row. row.0.0) (slice_get rows i) ≡ Some p.0)
