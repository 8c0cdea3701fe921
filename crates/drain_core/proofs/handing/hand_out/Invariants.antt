use Rattle.std.proofs.Common.{◌≡◌, ◌++◌, map as each, take, drop}
use Rattle.wire_net.specs.Reserves.{reserve}
use Rattle.drain_core.specs.Openings.{emptied, lists_of}
use Rattle.drain_core.proofs.handing.hand_out.Given as goal

abbrev pub invariant-loop-notes : goal.invariant-loop-notes
invariant-loop-notes l = record {
  notes : l.all ≡ each emptied (take l.notes-index l.initial.all) ++ drop l.notes-index l.initial.all;
  lists : l.lists ≡ reserve (l.initial.lists.items ++ lists_of l.net.channels (take l.notes-index l.initial.all)) l.initial.lists.room;
}
