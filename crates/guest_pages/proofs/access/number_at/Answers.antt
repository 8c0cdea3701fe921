use Rattle.std.proofs.Common.{◌≡◌, ◌<◌, ◌^◌, sym, ap, subst, ◌∙◌, arith}
use Rattle.plain_process.specs.Memory.{little_endian}
use Rattle.guest_pages.specs.Bytes.{bytes_from}
use Rattle.guest_pages.proofs.InPage.{number_of-1, number_of-2, number_of-4}
use Rattle.guest_pages.proofs.access.number_at.Goals as goal

pub returns-in-1-clause-value : goal.returns-in-1-clause-value
returns-in-1-clause-value c =
    c.byte.ensures ∙ sym (number_of-1 c.args.frame.now.page c.args.offset) ∙ ap (λ size. little_endian (bytes_from c.args.frame.now.page c.args.offset size)) (sym c.in-1.is)

pub returns-in-2-clause-value : goal.returns-in-2-clause-value
returns-in-2-clause-value c =
    c.half.ensures ∙ sym (number_of-2 c.args.frame.now.page c.args.offset) ∙ ap (λ size. little_endian (bytes_from c.args.frame.now.page c.args.offset size)) (sym c.in-2.is)

pub returns-in_default-clause-value : goal.returns-in_default-clause-value
returns-in_default-clause-value c =
    let four : c.args.size ≡ 4 = omega arith in
    c.word.ensures ∙ sym (number_of-4 c.args.frame.now.page c.args.offset) ∙ ap (λ size. little_endian (bytes_from c.args.frame.now.page c.args.offset size)) (sym four)

pub returns-in-1-clause-fits : goal.returns-in-1-clause-fits
returns-in-1-clause-fits c = subst (λ size. c.byte.result < 256 ^ size) (sym c.in-1.is) c.byte.type_inv

pub returns-in-2-clause-fits : goal.returns-in-2-clause-fits
returns-in-2-clause-fits c = subst (λ size. c.half.result < 256 ^ size) (sym c.in-2.is) c.half.type_inv

pub returns-in_default-clause-fits : goal.returns-in_default-clause-fits
returns-in_default-clause-fits c =
    let four : c.args.size ≡ 4 = omega arith in
    subst (λ size. c.word.result < 256 ^ size) (sym four) c.word.type_inv
