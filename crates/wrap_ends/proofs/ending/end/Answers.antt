use Rattle.std.proofs.Common.{ap, ◌∙◌, subst}
use Rattle.std.specs.FinMap as map
use Rattle.views.specs.Limits.{DESCRIPTOR_LIMIT}
use Rattle.plain_machine.specs.Ends.{closed_below}
use Rattle.wrap_names.specs.Wrapping.{IsWrapped}
use Rattle.wrap_ends.proofs.ExitCalls.{closed_alive, left_is, whole_left, few_left}
use Rattle.wrap_ends.proofs.ending.end.Goals as goal

pub returns : goal.returns
returns c k next_id w paired alive =
    let p = c.args.p in
    let who = c.args.who in
    let s = c.args.system.now in
    let word = c.ranges.status.fits in
    let closed = closed_below k p DESCRIPTOR_LIMIT in
    let threads = c.end_threads.ensures closed next_id (c.close_all.ensures.closed k next_id p w paired)
    (ap (λ pids. map.get pids p.0) c.close_all.ensures.pids ∙ paired)
    (closed_alive s next_id k w p who paired alive c.args.status word) in
    let alone = c.reap_all.ensures threads.kernel next_id p threads.wrapped threads.paired threads.alive in
    subst (IsWrapped c.leave_alone.new.system next_id)
    (left_is s next_id k w p who paired alive c.args.status word c.end_threads.new.system threads
    c.reap_all.new.system alone)
    (c.leave_alone.ensures alone.kernel next_id alone.wrapped alone.paired alone.alive
    (few_left s next_id k w p who paired alive c.args.status word c.end_threads.new.system threads
    c.reap_all.new.system alone)
    alone.also.none
    (whole_left s next_id k w p who paired alive c.args.status word c.end_threads.new.system threads
    c.reap_all.new.system alone))
