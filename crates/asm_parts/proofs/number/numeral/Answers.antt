use Rattle.std.proofs.Common.{sym, ◌∙◌, lit<}
use Rattle.std.proofs.lemmas.Bool.{false≢true}
use Rattle.std.proofs.lemmas.Str.Pattern.{starts_char}
use Rattle.asm_parts.proofs.NumberLaws.{numeral_is, no_plus, small_base}
use Rattle.asm_parts.proofs.number.numeral.Goals as goal

pub returns-then-starts_with : goal.returns-then-starts_with
returns-then-starts_with c =
    let plus = starts_char 43 c.args.digits.now c.starts_with.result c.starts_with.ensures.cases (lit< tt) (lit< tt) in
    sym (no_plus c.args.base c.args.digits.now (small_base c.args.base c.requires) (plus.0 c.if-starts_with.true))

pub returns : goal.returns
returns c =
    let plus = starts_char 43 c.args.digits.now c.starts_with.result c.starts_with.ensures.cases (lit< tt) (lit< tt) in
    c.ok.ensures.value
    ∙ numeral_is c.args.base c.args.digits.now c.from_str_radix.result c.from_str_radix.ensures.value
    (λ e. false≢true (sym c.if-starts_with.false ∙ plus.1 e))
