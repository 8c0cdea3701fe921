use Rattle.std.proofs.Common.{sym, ap, cond, ◌∙◌}
use Rattle.std.specs.Prelude.{is_some, min, Some, None, []}
use Rattle.sys_abi.specs.declared.transfer.TheConstants.{TRANSFER_LIMIT}
use Rattle.wrap_calls.specs.Console.{console_by}
use Rattle.wrap_calls.proofs.QuietConsole.{shows, whole_count}
use Rattle.wrap_calls.proofs.console.console_write.Goals as goal

-- no write
pub returns-in_default-clause-exact : goal.returns-in_default-clause-exact
returns-in_default-clause-exact c k next_id w =
    sym (ap (console_by k c.args.p) (sym c.written.ensures ∙ c.in_default.is))

pub returns-in_default-clause-shown : goal.returns-in_default-clause-shown
returns-in_default-clause-shown c k next_id w t given served goes =
    shows k c.args.p t c.args.request.now given served goes
    ∙ ap (λ o. cond (is_some o) given []) (sym (returns-in_default-clause-exact c k next_id w))

-- no console
pub returns-then-not-writes_console-clause-exact : goal.returns-then-not-writes_console-clause-exact
returns-then-not-writes_console-clause-exact c k next_id w =
    sym (ap (console_by k c.args.p) (sym c.written.ensures ∙ c.in-Some.is)
    ∙ ap (λ b. cond b (Some (min c.in-Some.count TRANSFER_LIMIT)) None)
    (sym (c.writes_console.ensures k next_id w) ∙ c.if-not-writes_console.true))

pub returns-then-not-writes_console-clause-shown : goal.returns-then-not-writes_console-clause-shown
returns-then-not-writes_console-clause-shown c k next_id w t given served goes =
    shows k c.args.p t c.args.request.now given served goes
    ∙ ap (λ o. cond (is_some o) given []) (sym (returns-then-not-writes_console-clause-exact c k next_id w))

pub returns-clause-exact : goal.returns-clause-exact
returns-clause-exact c k next_id w =
    ap Some c.limited.ensures
    ∙ sym (ap (console_by k c.args.p) (sym c.written.ensures ∙ c.in-Some.is)
    ∙ ap (λ b. cond b (Some (min c.in-Some.count TRANSFER_LIMIT)) None)
    (sym (c.writes_console.ensures k next_id w) ∙ c.if-not-writes_console.false))

pub returns-clause-shown : goal.returns-clause-shown
returns-clause-shown c k next_id w t given served goes =
    shows k c.args.p t c.args.request.now given served goes
    ∙ ap (λ o. cond (is_some o) given []) (sym (returns-clause-exact c k next_id w))

pub returns-clause-count : goal.returns-clause-count
returns-clause-count c memory given reads =
    c.limited.ensures
    ∙ whole_count memory c.in-Some.fd c.in-Some.count given c.args.request.now
    (sym c.written.ensures ∙ c.in-Some.is) reads
