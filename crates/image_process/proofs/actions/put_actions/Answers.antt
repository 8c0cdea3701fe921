use Rattle.std.proofs.lemmas.List.Elements.{All-more}
use Rattle.image_process.specs.ProcessFits.{ActionWords}
use Rattle.image_process.specs.ProcessTexts.{action_text}
use Rattle.image_format.proofs.Writing.{puts_more}
use Rattle.image_process.proofs.actions.put_actions.Goals as goal

pub loop-action-preserved : goal.loop-action-preserved
loop-action-preserved c = record {
  value =
      puts_more action_text c.args.bytes.now.items c.loop-action.bytes.items _ c.args.actions.now c.loop-action.action-index _ c.loop-action-test.true c.loop-action.invariant.value
      c.in_ok-put_action.ensures.value;
  words = All-more ActionWords c.args.actions.now c.loop-action.action-index _ c.loop-action-test.true c.loop-action.invariant.words c.in_ok-put_action.ensures.words;
}
