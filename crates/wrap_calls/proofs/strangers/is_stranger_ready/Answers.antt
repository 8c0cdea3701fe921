use Rattle.std.proofs.Common.{sym, ap, ◌∙◌}
use Rattle.plain_machine.specs.Serve.{is_ready}
use Rattle.host_tables.specs.Systems.{given_of}
use Rattle.wrap_calls.proofs.ReadyStrangers.{strangers_ready}
use Rattle.wrap_calls.proofs.strangers.is_stranger_ready.Goals as goal

pub returns-in-Wait4 : goal.returns-in-Wait4
unfolding is_ready
returns-in-Wait4 c k next_id w t front =
    c.is_wait_ready.ensures k next_id w
    ∙ ap (λ q. is_ready k c.args.p t q front) (sym c.in-Wait4.is)

pub returns-in_default : goal.returns-in_default
returns-in_default c k next_id w t front =
    let s = c.args.system.now in
    strangers_ready (given_of s) s.kernel k w.stands.tables c.args.p c.requires t front c.args.request.now
    c.in_default.not-Wait4
