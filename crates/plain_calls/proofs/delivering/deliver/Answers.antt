use Rattle.std.proofs.Common.{◌-◌, ap, ◌∙◌}
use Rattle.std.specs.Prelude.{slice_get, unwrap_or}
use Rattle.plain_process.specs.Start.{default_action}
use Rattle.plain_process.proofs.Delivering.{enters, stays, kept}
use Rattle.plain_calls.proofs.delivering.deliver.Goals as goal

pub returns-in_ok-enter-in-Entered-clause-delivery : goal.returns-in_ok-enter-in-Entered-clause-delivery
returns-in_ok-enter-in-Entered-clause-delivery c =
    enters c.args.user.now c.enter.new.user c.args.t.0 c.args.s.0 c.len.result c.in-Some.thread.now c.action_on-action.result c.in_ok-is_trap.is_trap c.args.is_unready c.decided.result
    c.in-Some.ensures c.len.ensures (c.action_on-action.ensures ∙ ap (λ actions. unwrap_or (slice_get actions (c.args.s.0 - 1)) default_action) c.as_slice.ensures) c.in_ok-is_trap.ensures c.decided.ensures c.in-Entered.is c.in_ok-enter-in-Entered.ensures

pub returns-in_default-decided : goal.returns-in_default-decided
returns-in_default-decided c = record {
  delivery =
      stays c.args.user.now c.args.t.0 c.args.s.0 c.len.result c.in-Some.thread.now c.action_on-action.result c.in_ok-is_trap.is_trap c.args.is_unready c.decided.result
      c.in-Some.ensures c.len.ensures (c.action_on-action.ensures ∙ ap (λ actions. unwrap_or (slice_get actions (c.args.s.0 - 1)) default_action) c.as_slice.ensures) c.in_ok-is_trap.ensures c.decided.ensures c.in_default-decided.not-Entered;
  stays = kept c.args.user.now c.decided.result c.in_default-decided.not-Entered;
}
