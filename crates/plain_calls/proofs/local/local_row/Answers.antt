use Rattle.std.proofs.Common.{sym, ap, ◌∙◌}
use Rattle.std.specs.Prelude.{Some}
use Rattle.std.specs.Option.{option_copied}
use Rattle.plain_calls.proofs.LocalRows.{answered}
use Rattle.plain_calls.proofs.local.local_row.Goals as goal

pub returns-in-Ok : goal.returns-in-Ok
returns-in-Ok c =
    let there = sym c.get.ensures ∙ ap option_copied c.in-Some.is in
    let lends = sym c.in_ok-given.ensures.given ∙ c.in-Some-2.is ∙ ap (λ xs. Some xs) (sym c.as_slice.ensures) in
    answered c.args.user.now c.local_by.new.user c.put_answer.new.user c.args.t.0 c.args.request.now c.in-Some._thread.now c.as_slice.result.now c.in-Ok.answer
    c.put_answer.result c.in_ok-answer.field-0 there lends c.in_ok-answer.ensures c.in-Ok.is c.put_answer.ensures
