use Rattle.std.proofs.Common.{◌≡◌, ◌≤◌, get_or, length, subst, sym, ◌∙◌, arith}
use Rattle.std.specs.Prelude.{codes}
use Rattle.option_words.proofs.Numbers.{text_is, text_is_not, IfNone-of_any, NoNumber, zero_written, empty_is_none, small_first_is_none, refused_is_none, accepted_is_written}
use Rattle.option_words.proofs.number.decimal_in.Goals as goal

pub returns-then-eq-clause-some : goal.returns-then-eq-clause-some
returns-then-eq-clause-some c = text_is c.args.word.now (codes "0") c.eq.result c.eq.ensures c.if-eq.true ∙ sym zero_written

pub returns-in_err-first-clause-none : goal.returns-in_err-first-clause-none
returns-in_err-first-clause-none c =
    IfNone-of_any (NoNumber c.args.word.now) _ (empty_is_none c.args.word.now (subst (λ ds. length ds ≤ 0) c.as_bytes.ensures.value c.in_err-first.ensures.item.3))

pub returns-then-first-le48-clause-none : goal.returns-then-first-le48-clause-none
returns-then-first-le48-clause-none c =
    let first : c.in_ok-first.first.now ≡ get_or c.args.word.now 0 0 = subst (λ ds. c.in_ok-first.first.now ≡ get_or ds 0 0) c.as_bytes.ensures.value (c.in_ok-first.ensures.item.3.1 0) in
    small_first_is_none c.args.word.now (omega arith) (text_is_not c.args.word.now (codes "0") c.eq.result c.eq.ensures c.if-eq.false)

pub returns-in_err-number-clause-none : goal.returns-in_err-number-clause-none
returns-in_err-number-clause-none c =
    IfNone-of_any (NoNumber c.args.word.now) _ (refused_is_none c.args.word.now c.parse.result c.parse.ensures.value.0 c.in_err-number.ensures.variant)

pub returns-clause-some : goal.returns-clause-some
returns-clause-some c =
    let first : c.in_ok-first.first.now ≡ get_or c.args.word.now 0 0 = subst (λ ds. c.in_ok-first.first.now ≡ get_or ds 0 0) c.as_bytes.ensures.value (c.in_ok-first.ensures.item.3.1 0) in
    accepted_is_written c.args.word.now c.parse.result c.in_ok-number.number c.parse.ensures.value.0 c.in_ok-number.ensures.value (omega arith)
