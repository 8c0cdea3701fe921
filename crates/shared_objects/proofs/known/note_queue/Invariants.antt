use Rattle.std.proofs.Common.{◌==◌, ◌&&◌, ◌||◌, take}
use Rattle.std.specs.Prelude.{is_some}
use Rattle.std.specs.List.{list_any}
use Rattle.std.specs.FinMap as map
use Rattle.shared_items.specs.Sides.{same_channel}
use Rattle.shared_items.specs.Keys.{HasKeys}
use Rattle.shared_objects.proofs.known.note_queue.Given as goal

abbrev pub invariant-loop-conn : goal.invariant-loop-conn
invariant-loop-conn l =
    HasKeys l.sides (λ at. is_some (map.get l.initial.sides at) || ((at.side == 1) && list_any (same_channel at.conn) (take l.conn-index l.pending)))
