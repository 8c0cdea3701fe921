use Rattle.std.proofs.Common.{◌≡◌, take}
use Rattle.wire_net.specs.CutRooms.{all_notes}
use Rattle.wire_net.proofs.cut_room.reserve_notes.Given as goal

abbrev pub invariant-loop-named : goal.invariant-loop-named
invariant-loop-named l = l.notes.items ≡ all_notes (take l.named-index l.lengths)
