use Rattle.std.proofs.lemmas.List.Elements.{All-more}
use Rattle.image_process.specs.ProcessFits.{ContextWords}
use Rattle.image_process.specs.ProcessTexts.{context_text}
use Rattle.image_format.proofs.Writing.{puts_more}
use Rattle.image_process.proofs.thread_image.put_each_context.Goals as goal

pub loop-context-preserved : goal.loop-context-preserved
loop-context-preserved c = record {
  value =
      puts_more context_text c.args.bytes.now.items c.loop-context.bytes.items _ c.args.contexts.now c.loop-context.context-index _ c.loop-context-test.true c.loop-context.invariant.value
      c.in_ok-put_context.ensures.value;
  words = All-more ContextWords c.args.contexts.now c.loop-context.context-index _ c.loop-context-test.true c.loop-context.invariant.words c.in_ok-put_context.ensures.words;
}
