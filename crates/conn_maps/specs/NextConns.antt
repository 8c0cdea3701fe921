-- Words on the channel that comes next in a map.
--     is_above above id             a channel that comes after this one; each comes after none
--     bound_above above             the start of the range of these channels
use Rattle.std.specs.Prelude.{Bool, true, Option, Some, None}
use Rattle.std.specs.Ordering.{is_lt}
use Rattle.std.specs.declared.ops.Bound.{Bound}
use Rattle.std.specs.declared.ops.Bound.TheVariants.{Excluded, Unbounded}
use Rattle.sys_abi.specs.declared.identity.ConnId.{ConnId}
use Rattle.sys_abi.specs.Orders.{conn_cmp}

abbrev pub is_above : Option ConnId → ConnId → Bool
is_above None id = true
is_above (Some above) id = is_lt (conn_cmp above id)

abbrev pub bound_above : Option ConnId → Bound ConnId
bound_above None = Unbounded
bound_above (Some above) = Excluded above
