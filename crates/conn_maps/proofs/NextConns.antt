-- The least channel above another, read off the range of the tree that begins there.
use Rattle.std.proofs.Common.{◌≡◌, Bool, true, false, ◌&&◌, List, refl, ap, ◌∙◌}
use Rattle.std.specs.Prelude.{Option, Some, None, find, option_map}
use Rattle.std.specs.Ordering.{is_lt}
use Rattle.std.specs.Borrow.{Bor}
use Rattle.std.specs.declared.ops.Bound.{Bound}
use Rattle.std.specs.declared.ops.Bound.TheVariants.{Unbounded}
use Rattle.std.specs.FinMap as map
use Rattle.std.specs.BTreeMap as tree
use Rattle.std.specs.BTreeMap.{BTreeMap}
use Rattle.std.specs.BTreeMap.Range.{range_contains, entries_between}
use Rattle.std.specs.Map.Iter.{TakesFirst, deref_pair}
use Rattle.sys_abi.proofs.OfViews.TreeMaps.{view}
use Rattle.sys_abi.proofs.OfViews.NextKeys.{next-by}
use Rattle.sys_abi.specs.declared.identity.ConnId.{ConnId}
use Rattle.sys_abi.specs.Orders.{conn_cmp}
use Rattle.sys_abi.proofs.OrderLaws.{conn_total}
use Rattle.conn_maps.specs.NextConns.{is_above, bound_above}

in_range : (above : Option ConnId) (q : ConnId) → range_contains conn_cmp (bound_above above) Unbounded q ≡ is_above above q
in_range None q = refl
in_range (Some above) q = elim (is_lt (conn_cmp above q)) as (λ b. (b && true) ≡ b) [ true ↦ refl | false ↦ refl ]

pub next_conn : {V : Type 0} (above : Option ConnId) (start : Bound ConnId) (m : BTreeMap ConnId V) (now : map.FinMap conn_cmp V) (inside rest : List (ConnId × V)) (r : Option (Bor ConnId × Bor V))
    → start ≡ bound_above above → inside ≡ entries_between conn_cmp start Unbounded m.entries → TakesFirst deref_pair inside r rest → tree.IsOrdered conn_cmp m → view conn_cmp m ≡ now
    → option_map (λ p. p.0.now) r ≡ find (is_above above) (map.keys now)
next_conn above start m now inside rest r begins is =
    next-by conn_cmp conn_total (is_above above) (bound_above above) m now inside rest r (in_range above) (is ∙ ap (λ b. entries_between conn_cmp b Unbounded m.entries) begins)
