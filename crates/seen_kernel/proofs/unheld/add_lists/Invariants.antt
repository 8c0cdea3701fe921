use Rattle.std.proofs.Common.{◌≡◌, map as each, take}
use Rattle.seen_kernel.specs.Unheld.{arrived_in}
use Rattle.seen_kernel.proofs.unheld.add_lists.Given as goal

abbrev pub invariant-loop-d : goal.invariant-loop-d
invariant-loop-d l = l.lists.items ≡ each (arrived_in l.net.channels) (take l.d-index l.dirs)
