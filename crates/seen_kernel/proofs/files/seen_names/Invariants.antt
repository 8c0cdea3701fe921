use Rattle.std.proofs.Common.{Some}
use Rattle.std.specs.FinMap as map
use Rattle.views.specs.NumberMap.{is_above}
use Rattle.leader_vote.proofs.Walks.{count_of}
use Rattle.seen_kernel.proofs.SeenFiles.{AreNamed}
use Rattle.seen_kernel.proofs.files.seen_names.Given as goal

abbrev pub invariant-loop-file : goal.invariant-loop-file
invariant-loop-file l = AreNamed l.files l.seen l.above

abbrev pub decreases-loop-file : goal.decreases-loop-file
decreases-loop-file l = count_of (is_above (Some l.above)) (map.keys l.files.files)
