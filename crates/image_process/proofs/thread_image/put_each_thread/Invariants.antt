use Rattle.std.proofs.Common.{◌≡◌, ◌++◌, take}
use Rattle.std.specs.Prelude.{All}
use Rattle.std.specs.List.{flat_map}
use Rattle.image_process.specs.ProcessFits.{ThreadWords}
use Rattle.image_process.specs.ProcessTexts.{thread_text}
use Rattle.image_process.proofs.thread_image.put_each_thread.Given as goal

abbrev pub invariant-loop-thread : goal.invariant-loop-thread
invariant-loop-thread l = record {
  value : l.bytes.items ≡ l.fn.bytes.items ++ flat_map thread_text (take l.thread-index l.threads);
  words : All ThreadWords (take l.thread-index l.threads);
}
