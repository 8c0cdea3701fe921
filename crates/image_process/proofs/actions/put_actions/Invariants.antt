use Rattle.std.proofs.Common.{◌≡◌, ◌++◌, take}
use Rattle.std.specs.Prelude.{All}
use Rattle.std.specs.List.{flat_map}
use Rattle.image_process.specs.ProcessFits.{ActionWords}
use Rattle.image_process.specs.ProcessTexts.{action_text}
use Rattle.image_process.proofs.actions.put_actions.Given as goal

abbrev pub invariant-loop-action : goal.invariant-loop-action
invariant-loop-action l = record {
  value : l.bytes.items ≡ l.fn.bytes.items ++ flat_map action_text (take l.action-index l.actions);
  words : All ActionWords (take l.action-index l.actions);
}
