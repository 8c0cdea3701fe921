use Rattle.std.proofs.Common.{sym, ◌∙◌}
use Rattle.std.proofs.lemmas.Option.{none-some}
use Rattle.computation.proofs.Threads.{front_waits}
use Rattle.computation.proofs.looks.call_waits.Goals as goal

pub returns-then-not-is_local : goal.returns-then-not-is_local
returns-then-not-is_local c users =
    front_waits (record { kernel = c.args.kernel.now; users = users }) c.args.p c.args.t.0 c.args.request.now
    c.args.guest.now.user.memory c.in-Some.front c.is_ready.result (sym c.is_local.ensures ∙ c.if-not-is_local.true)
    c.is_ready.ensures (λ none. none-some _ (sym (c.in-Some.ensures.fault.1 none))) c.in-Some.ensures.front
