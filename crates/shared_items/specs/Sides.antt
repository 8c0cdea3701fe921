-- Which open descriptions name a side of a channel: a stream that is its end, and a listener in whose queue
-- it waits to be accepted, which side 1 alone can.
--     is_side_named descriptions conn side      some description of the list names it
-- Source: docs/FORMATS.md, "Shared image".
use Rattle.std.specs.Prelude.{◌==◌, ◌&&◌, ℕ, Bool, false, List}
use Rattle.std.specs.List.{list_any}
use Rattle.std.specs.Ordering.{eq_by_cmp}
use Rattle.sys_abi.specs.declared.identity.ConnId.{ConnId}
use Rattle.sys_abi.specs.Orders.{conn_cmp}
use Rattle.shared_items.specs.declared.shared.ObjectImage.{ObjectImage}
use Rattle.shared_items.specs.declared.shared.ObjectImage.TheVariants.{Stream, Listener}
use Rattle.shared_items.specs.declared.shared.DescriptionImage.{DescriptionImage}

abbrev pub same_channel : ConnId → ConnId → Bool
same_channel = eq_by_cmp conn_cmp

abbrev pub names_side : ConnId → ℕ → ObjectImage → Bool
names_side conn side (Stream other at) = same_channel conn other && (side == at)
names_side conn side (Listener address backlog pending) = (side == 1) && list_any (same_channel conn) pending
names_side conn side _ = false

unfoldable pub is_side_named : List DescriptionImage → ConnId → ℕ → Bool
is_side_named descriptions conn side = list_any (λ it. names_side conn side it.object) descriptions
