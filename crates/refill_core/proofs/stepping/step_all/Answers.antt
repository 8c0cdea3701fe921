use Rattle.std.proofs.Common.{◌<◌, ◌≤◌, length, ◌∙◌, arith}
use Rattle.refill_core.proofs.AllSteps.{next_fits, next_dirs, next_net, next_after, next_moved, all_moved, all_after}
use Rattle.refill_core.specs.Stepping.{dir_at}
use Rattle.refill_core.proofs.stepping.step_all.Goals as goal

below : (c : goal.After-all-1) → c.loop-place.place < length c.loop-place.all
below c = let less = c.loop-place-test.true in let same = c.loop-place.auto.all in omega (arith, less, same)

pub loop-place-preserved : goal.loop-place-preserved
loop-place-preserved c = record {
  fits = next_fits c.args.agent c.loop-place.all c.step_on-moved.new.all c.loop-place.net c.step_on-moved.new.net (dir_at c.loop-place.all c.loop-place.place) c.loop-place.invariant.fits c.step_on-moved.ensures.after;
  dirs =
      next_dirs c.args.agent c.loop-place.all c.step_on-moved.new.all c.loop-place.net c.step_on-moved.new.net (dir_at c.loop-place.all c.loop-place.place) c.loop-place.invariant.fits c.step_on-moved.ensures.after
      ∙ c.loop-place.invariant.dirs;
  net = next_net c.args.net.now c.loop-place.net c.step_on-moved.new.net c.loop-place.invariant.net c.step_on-moved.ensures.net;
  moved =
      next_moved c.args.agent c.loop-place.all c.step_on-moved.new.all c.loop-place.net c.step_on-moved.new.net c.loop-place.place c.loop-place.moved c.step_on-moved.result (below c) c.loop-place.invariant.fits
      c.step_on-moved.ensures.after c.step_on-moved.ensures.moved
      ∙ c.loop-place.invariant.moved;
  after =
      next_after c.args.agent c.loop-place.all c.step_on-moved.new.all c.loop-place.net c.step_on-moved.new.net c.loop-place.place (below c) c.loop-place.invariant.fits c.step_on-moved.ensures.after
      ∙ c.loop-place.invariant.after;
}

past : (c : goal.After-loop-place) → length c.loop-place.all ≤ c.loop-place.place
past c = let more = c.loop-place-test.false in let same = c.loop-place.auto.all in omega (arith, more, same)

pub returns-clause-moved : goal.returns-clause-moved
returns-clause-moved c = all_moved c.args.agent c.loop-place.all c.loop-place.net c.loop-place.place c.loop-place.moved _ (past c) c.loop-place.invariant.moved

pub returns-clause-after : goal.returns-clause-after
returns-clause-after c = all_after c.args.agent c.loop-place.all c.loop-place.net c.loop-place.place _ (past c) c.loop-place.invariant.after
