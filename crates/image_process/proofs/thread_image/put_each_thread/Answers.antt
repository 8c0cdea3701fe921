use Rattle.std.proofs.Common.{subst, ap, ◌∙◌, ◌++◌}
use Rattle.std.proofs.lemmas.List.Elements.{All-more}
use Rattle.image_process.specs.declared.thread_image.ThreadImage.{ThreadImage}
use Rattle.image_process.specs.ProcessFits.{ThreadWords}
use Rattle.image_process.specs.ProcessTexts.{thread_text}
use Rattle.image_format.proofs.Writing.{puts_more}
use Rattle.image_process.proofs.thread_image.put_each_thread.Goals as goal

pub loop-thread-preserved : goal.loop-thread-preserved
loop-thread-preserved c = record {
  value =
      puts_more thread_text c.args.bytes.now.items c.loop-thread.bytes.items _ c.args.threads.now c.loop-thread.thread-index c.thread-item.result c.loop-thread-test.true c.loop-thread.invariant.value
      (c.in_ok-put_thread.ensures.value ∙ ap (λ (t : ThreadImage). c.loop-thread.bytes.items ++ thread_text t) c.thread-item.is);
  words =
      All-more ThreadWords c.args.threads.now c.loop-thread.thread-index c.thread-item.result c.loop-thread-test.true c.loop-thread.invariant.words
      (subst ThreadWords c.thread-item.is c.in_ok-put_thread.ensures.words);
}
