use Rattle.std.proofs.lemmas.List.Elements.{All-more}
use Rattle.image_process.specs.ProcessFits.{WaiterWords}
use Rattle.image_process.specs.ProcessTexts.{waiter_text}
use Rattle.image_format.proofs.Writing.{puts_more}
use Rattle.image_process.proofs.waiters.put_each_waiter.Goals as goal

pub loop-waiter-preserved : goal.loop-waiter-preserved
loop-waiter-preserved c = record {
  value =
      puts_more waiter_text c.args.bytes.now.items c.loop-waiter.bytes.items _ c.args.waiters.now c.loop-waiter.waiter-index _ c.loop-waiter-test.true c.loop-waiter.invariant.value
      c.in_ok-put_waiter.ensures.value;
  words = All-more WaiterWords c.args.waiters.now c.loop-waiter.waiter-index _ c.loop-waiter-test.true c.loop-waiter.invariant.words c.in_ok-put_waiter.ensures.words;
}
