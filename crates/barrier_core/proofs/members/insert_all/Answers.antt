use Rattle.std.proofs.Common.{◌∙◌, ap}
use Rattle.std.specs.Slice.Iter.{iter_rest}
use Rattle.barrier_core.proofs.Asking.{joining_start, joining_one, room_start, room_kept}
use Rattle.barrier_core.proofs.members.insert_all.Goals as goal

pub loop-p-init : goal.loop-p-init
loop-p-init c =
    let all = ap (λ r. iter_rest r.iter) c.into_iter-p-iterator.ensures.into_iter_gives ∙ ap iter_rest c.rev-p-items.ensures.source ∙ c.iter.ensures.rest in
    record {
      members = joining_start c.args.live.now (iter_rest c.into_iter-p-iterator.result.iter) c.args.into.now all c.requires.nobody;
      room = room_start c.args.live.now (iter_rest c.into_iter-p-iterator.result.iter) c.args.into.now all c.requires.nobody;
    }

pub loop-p-preserved : goal.loop-p-preserved
loop-p-preserved c = record {
  members = joining_one _ _ c.in-Some.p.now c.loop-p.into c.insert.new.self _ c.in-Some.ensures.steps c.insert.ensures c.loop-p.invariant.members;
  room = room_kept _ _ c.in-Some.p.now c.loop-p.into c.insert.new.self _ c.in-Some.ensures.steps c.insert.ensures c.loop-p.invariant.room;
}
