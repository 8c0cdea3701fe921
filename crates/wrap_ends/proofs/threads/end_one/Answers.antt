use Rattle.std.proofs.Common.{sym, ◌∙◌}
use Rattle.wrap_ends.proofs.ExitCalls.{one_ended}
use Rattle.wrap_ends.proofs.ThreadEnds.{thread_found, thread_there}
use Rattle.wrap_ends.proofs.threads.end_one.Goals as goal

pub returns-in_default : goal.returns-in_default
returns-in_default c k next_id w paired alive =
    absurd (thread_there c.args.system.now next_id k w c.args.p c.args.who paired alive
    (sym c.next_real_thread.ensures ∙ c.in_default.is))

pub returns : goal.returns
returns c k next_id w paired alive =
    let s = c.args.system.now in
    let found = thread_found s next_id k w c.args.p c.args.who paired alive c.in-Some.thread
    (sym c.next_real_thread.ensures ∙ c.in-Some.is) in
    one_ended s next_id k w c.args.p c.args.who paired alive found.number found.there c.end_thread.new.system
    c.end_thread.result
    (c.end_thread.ensures k next_id found.number w paired alive found.leads found.there)
