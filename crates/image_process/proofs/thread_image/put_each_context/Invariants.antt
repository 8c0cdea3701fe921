use Rattle.std.proofs.Common.{◌≡◌, ◌++◌, take}
use Rattle.std.specs.Prelude.{All}
use Rattle.std.specs.List.{flat_map}
use Rattle.image_process.specs.ProcessFits.{ContextWords}
use Rattle.image_process.specs.ProcessTexts.{context_text}
use Rattle.image_process.proofs.thread_image.put_each_context.Given as goal

abbrev pub invariant-loop-context : goal.invariant-loop-context
invariant-loop-context l = record {
  value : l.bytes.items ≡ l.fn.bytes.items ++ flat_map context_text (take l.context-index l.contexts);
  words : All ContextWords (take l.context-index l.contexts);
}
