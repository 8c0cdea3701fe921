use Rattle.std.proofs.Common.{List, ap}
use Rattle.std.specs.Prelude.{true}
use Rattle.wire_net.specs.CutRooms.{Named, RoomView}
use Rattle.wire_net.proofs.RoomLaws.{names_of-made, whole-made, room-made}
use Rattle.wire_net.proofs.cut_room.CutRoom.reserve.Goals as goal

with_names : List Named → RoomView
with_names lengths = record { lengths = lengths; is_whole = true }

pub invariant_of-result : goal.invariant_of-result
invariant_of-result c = (λ _. whole-made _ _ _ c.args.lengths.now c.in_ok-transfer.ensures c.in_ok-notes.ensures c.in_ok-lists.ensures, room-made c.args.lengths.now _ c.in_ok-notes.ensures)

pub returns : goal.returns
unfolding with_names
returns c = ap with_names (names_of-made _ c.args.lengths.now c.in_ok-notes.ensures)
