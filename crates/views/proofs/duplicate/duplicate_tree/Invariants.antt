use Rattle.std.proofs.Common.{◌≡◌, ◌++◌}
use Rattle.views.proofs.duplicate.duplicate_tree.Given as goal

-- what has been copied stands after what is left
abbrev pub invariant-loop-key : goal.invariant-loop-key
invariant-loop-key g l = l.key-iterator.iter ++ l.copy.entries ≡ l.tree.entries
