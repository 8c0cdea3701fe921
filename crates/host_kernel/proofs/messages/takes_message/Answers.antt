use Rattle.std.proofs.Common.{◌≡◌, true, false, length, sym, ap, ◌∙◌, arith}
use Rattle.std.specs.Prelude.{not, nat_lt}
use Rattle.std.proofs.lemmas.Bool.Decides.{nat_tests}
use Rattle.views.specs.Limits.{INBOX_LIMIT, MESSAGE_LIMIT}
use Rattle.plain_machine.specs.Transfers.Datagrams.{messages_at, is_open_end}
use Rattle.host_kernel.proofs.MessageTests.{long, gone, room}
use Rattle.host_kernel.proofs.messages.takes_message.Goals as goal

pub returns-then-count-gt-MESSAGE_LIMIT : goal.returns-then-count-gt-MESSAGE_LIMIT
returns-then-count-gt-MESSAGE_LIMIT c g k st =
    let far = c.if-count-gt-MESSAGE_LIMIT.true in
    let test : nat_lt MESSAGE_LIMIT c.args.count ≡ true = grind (arith, nat_tests, far) in
    long (nat_lt MESSAGE_LIMIT c.args.count) (not (is_open_end k c.args.peer))
    (nat_lt (length (messages_at k c.args.peer)) INBOX_LIMIT) test

pub returns-then-not-is_open_end : goal.returns-then-not-is_open_end
returns-then-not-is_open_end c g k st =
    gone (nat_lt MESSAGE_LIMIT c.args.count) (not (is_open_end k c.args.peer))
    (nat_lt (length (messages_at k c.args.peer)) INBOX_LIMIT)
    (ap not (sym (c.is_open_end.ensures g k st) ∙ c.if-not-is_open_end.true))

pub returns : goal.returns
returns c g k st =
    let near = c.if-count-gt-MESSAGE_LIMIT.false in
    let test : nat_lt MESSAGE_LIMIT c.args.count ≡ false = grind (arith, nat_tests, near) in
    ap (λ n. nat_lt n INBOX_LIMIT) (c.message_count.ensures g k st)
    ∙ room (nat_lt MESSAGE_LIMIT c.args.count) (not (is_open_end k c.args.peer))
    (nat_lt (length (messages_at k c.args.peer)) INBOX_LIMIT) test
    (ap not (sym (c.is_open_end.ensures g k st) ∙ c.if-not-is_open_end.false))
