use Rattle.std.proofs.Common.{◌≡◌, Some, sym, ap, ◌∙◌}
use Rattle.std.specs.Prelude.{find}
use Rattle.std.specs.FinMap as map
use Rattle.views.specs.NumberMap.{is_above}
use Rattle.checkpointer.specs.HandedOn.{plain_of, user_at}
use Rattle.drive.proofs.Queueing.{none_queued, one_queued, fewer_above, room_left, all_queued}
use Rattle.drive.proofs.Threads.{threads_of, keys_of, few_threads, numbers}
use Rattle.drive.proofs.rounds.queue_threads.Goals as goal

pub loop-t-init : goal.loop-t-init
loop-t-init c = none_queued (threads_of (user_at c.args.computation.now c.args.p)) c.clear.new.self (numbers (plain_of c.args.computation.now) c.args.p c.requires.valid) c.clear.ensures

next : (c : goal.After-push) → Some c.in-Some.t.0 ≡ find (is_above (Some c.loop-t.above)) (map.keys (threads_of (user_at c.args.computation.now c.args.p)))
next c = c.in-Some.ensures ∙ ap (find (is_above (Some c.loop-t.above))) (sym (keys_of (user_at c.args.computation.now c.args.p)))

pub push-requires : goal.push-requires
push-requires c =
    let last = c.loop-t.above in
    room_left (threads_of (user_at c.args.computation.now c.args.p)) last c.in-Some.t.0 c.loop-t.queue c.loop-t.invariant
    (c.in-Some.ensures ∙ ap (find (is_above (Some last))) (sym (keys_of (user_at c.args.computation.now c.args.p)))) (few_threads (plain_of c.args.computation.now) c.args.p c.requires.valid)

pub loop-t-smaller : goal.loop-t-smaller
loop-t-smaller c = fewer_above (threads_of (user_at c.args.computation.now c.args.p)) c.loop-t.above c.in-Some.t.0 (next c)

pub loop-t-preserved : goal.loop-t-preserved
loop-t-preserved c = one_queued (threads_of (user_at c.args.computation.now c.args.p)) c.loop-t.above c.in-Some.t.0 c.loop-t.queue c.push.new.self c.loop-t.invariant (next c) c.push.ensures

pub returns : goal.returns
returns c =
    all_queued (threads_of (user_at c.args.computation.now c.args.p)) c.loop-t.above c.loop-t.queue c.loop-t.invariant
    (c.in_default.ensures ∙ ap (find (is_above (Some c.loop-t.above))) (sym (keys_of (user_at c.args.computation.now c.args.p))))
    ∙ keys_of (user_at c.args.computation.now c.args.p)
