use Rattle.std.proofs.Common.{◌≤◌, length}
use Rattle.std.specs.List.{filter_map}
use Rattle.views.proofs.MapValues.{EachEntry}
use Rattle.trace_log.specs.Requests.{left_in}
use Rattle.staged_cut.specs.HandedOn.{state_of}
use Rattle.checkpointer.specs.Marks.{mark_of, marks_of}
use Rattle.checkpointer.proofs.Passing.{AreSoFar}
use Rattle.checkpointer.proofs.checkpointer.Checkpointer.mark_all.Given as goal

abbrev pub invariant-loop-dir : goal.invariant-loop-dir
invariant-loop-dir l = record {
  so_far : AreSoFar l.initial.self l.self l.initial.trace l.trace (marks_of l.passes (state_of l.start)) (filter_map (left_in (mark_of l.passes)) l.dir-iterator);
  short : EachEntry (λ at direction. length direction.left ≤ 65536) l.dir-iterator;
}
