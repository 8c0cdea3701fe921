use Rattle.std.proofs.Common.{◌≡◌, List, true, false, sym, ap, ◌∙◌, length, take, arith}
use Rattle.std.specs.Prelude.{nat_le}
use Rattle.std.proofs.lemmas.Bool.Decides.{nat_tests}
use Rattle.views.specs.Limits.{MESSAGE_LIMIT}
use Rattle.views.specs.Numbers.{Byte}
use Rattle.sys_abi.specs.declared.errors.TheConstants.{EMSGSIZE, ECONNREFUSED}
use Rattle.conn_table.specs.Messages as pairs
use Rattle.plain_machine.specs.Transfers.Datagrams.{write_message}
use Rattle.host_tables.specs.Serves.{ByNumber}
use Rattle.host_tables.specs.declared.attempt.Attempt.TheVariants as answer
use Rattle.host_tables.proofs.Replies.{refused}
use Rattle.host_kernel.proofs.MessageRows.{write_long, write_gone, write_sent}
use Rattle.host_kernel.proofs.messages.write_message.Goals as goal

pub returns-then-count-gt-MESSAGE_LIMIT-clause-ok : goal.returns-then-count-gt-MESSAGE_LIMIT-clause-ok
returns-then-count-gt-MESSAGE_LIMIT-clause-ok c g k st =
    let far = c.if-count-gt-MESSAGE_LIMIT.true in
    let test : nat_le c.args.count MESSAGE_LIMIT ≡ false = grind (arith, nat_tests, far) in
    let given = c.args.transfer.now in
    refused g c.args.kernel.now given ByNumber EMSGSIZE (write_message k c.args.peer c.args.count given)
    (write_long g c.args.kernel.now k st c.args.peer c.args.count given test)

pub returns-in_default-clause-ok : goal.returns-in_default-clause-ok
returns-in_default-clause-ok c g k st =
    let near = c.if-count-gt-MESSAGE_LIMIT.false in
    let test : nat_le c.args.count MESSAGE_LIMIT ≡ true = grind (arith, nat_tests, near) in
    let given = c.args.transfer.now in
    refused g c.args.kernel.now given ByNumber ECONNREFUSED (write_message k c.args.peer c.args.count given)
    (write_gone g c.args.kernel.now k st c.args.peer c.args.count given test
    (sym c.end_at.ensures ∙ c.in_default.is))

pub returns-clause-ok : goal.returns-clause-ok
returns-clause-ok c g k st =
    let near = c.if-count-gt-MESSAGE_LIMIT.false in
    let test : nat_le c.args.count MESSAGE_LIMIT ≡ true = grind (arith, nat_tests, near) in
    let given = c.args.transfer.now in
    let cut : c.front-message.result.now ≡ take c.args.count given =
    c.front-message.ensures.front ∙ ap (take c.args.count) c.as_slice.ensures.value in
    write_sent g c.args.kernel.now k st c.args.peer c.args.count given test c.in-Some.end
    (sym c.end_at.ensures ∙ c.in-Some.is) c.send.new.self
    (c.in_ok-send.ensures.ok
    ∙ ap (λ (x : List Byte). pairs.at_pair (pairs.with_sent c.in-Some.end.side x) c.args.kernel.now.datagrams
    c.in-Some.end.queue) cut)
    (answer.Gives (length c.front-message.result.now)) (ap (λ (x : List Byte). answer.Gives (length x)) cut)
