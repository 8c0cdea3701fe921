use Rattle.std.proofs.Common.{◌≡◌, List, ap, ◌∙◌, length, take, subst}
use Rattle.std.specs.Prelude.{Option}
use Rattle.views.specs.Numbers.{Byte}
use Rattle.plain_machine.specs.Transfers.Datagrams.{messages_at}
use Rattle.host_tables.specs.declared.attempt.Attempt.TheVariants as answer
use Rattle.host_tables.specs.Serves.{bytes_or}
use Rattle.host_kernel.specs.Messages.{TakesFirst}
use Rattle.host_kernel.proofs.MessageRows.{read_none, read_first_of}
use Rattle.host_kernel.proofs.messages.read_message.Goals as goal

pub returns-in_default : goal.returns-in_default
returns-in_default c g k st =
    read_none g c.args.kernel.now k st c.args.id c.args.count c.args.transfer.now c.take_first.new.kernel
    (subst (λ (o : Option (List Byte)). TakesFirst g k c.args.id c.args.kernel.now c.take_first.new.kernel o
    (messages_at k c.args.id)) c.in_default.is (c.take_first.ensures g k st))

pub returns : goal.returns
returns c g k st =
    let cut : c.front.result.now ≡ take c.args.count c.in-Some.message =
    c.front.ensures.front ∙ ap (take c.args.count) c.as_slice.ensures in
    read_first_of g c.args.kernel.now k st c.args.id c.args.count c.args.transfer.now c.take_first.new.kernel
    c.in-Some.message c.give.new.transfer c.give.result
    (c.give.ensures.answer ∙ ap (λ (x : List Byte). answer.Gives (length x)) cut)
    (c.give.ensures.bytes ∙ ap (bytes_or c.args.transfer.now) cut)
    (subst (λ (o : Option (List Byte)). TakesFirst g k c.args.id c.args.kernel.now c.take_first.new.kernel o
    (messages_at k c.args.id)) c.in-Some.is (c.take_first.ensures g k st))
