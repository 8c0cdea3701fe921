use Rattle.std.proofs.Common.{◌≡◌, ℕ, ◌++◌, List}
use Rattle.std.specs.FinMap as map
use Rattle.views.proofs.MapValues.{EachEntry}
use Rattle.checkpointer.specs.Images.{AreFilesOf, HasFile}
use Rattle.checkpointer.proofs.set_files.push_files.Given as goal

abbrev pub invariant-loop-guest : goal.invariant-loop-guest
invariant-loop-guest l = record {
  texts : List (List ℕ);
  pushed : l.files ≡ l.initial.files ++ texts;
  rest : (more : List (List ℕ)) → AreFilesOf l.guest-iterator more → AreFilesOf (map.entries l.guests) (texts ++ more);
  have : EachEntry (λ p guest. HasFile guest) l.guest-iterator;
}
