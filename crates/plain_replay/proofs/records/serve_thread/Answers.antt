use Rattle.std.proofs.Common.{ap, ◌∙◌}
use Rattle.plain_process.specs.Buffers.{lent}
use Rattle.plain_machine.specs.Records as words
use Rattle.plain_replay.specs.Replays.{after_told, state_of}
use Rattle.std.specs.FinMap as map
use Rattle.plain_replay.proofs.CallRecords.{asked, if_ok}
use Rattle.plain_replay.proofs.records.serve_thread.Goals as goal

pub returns : goal.returns
returns c =
    if_ok c.answer.result (λ is_step. after_told is_step c.answer.new.g)
    (state_of (words.outcome_of_lent c.args.g.now c.args.p c.args.t.0 c.user_step.new.user (c.in-Asks.request) (lent c.user_step.new.user.memory c.in-Asks.request)))
    (state_of (words.outcome_of_call c.args.g.now c.args.p c.args.t.0 (map.get c.args.g.now.users c.args.p)))
    (ap state_of (asked c.args.g.now c.args.p c.args.t.0 c.in-Some.user.now c.deref_mut.result.now c.user_step.new.user c.in-Asks.request c.in-Some.ensures (c.deref_mut.ensures.value ∙ c.in_ok-user.ensures) c.in-Asks.ensures.step c.in-Asks.ensures.stays))
    c.answer.ensures
