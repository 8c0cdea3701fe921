use Rattle.std.proofs.Common.{◌*ℤ◌, ◌∙◌, ap, rules}
use Rattle.plain_process.specs.Instructions.{shifted_down, signed}
use Rattle.plain_process.proofs.Products.{product-is}
use Rattle.rv_words.proofs.arithmetic.multiply_high_signed.Goals as goal

pub returns : goal.returns
returns c =
    c.high_word.ensures ∙ ap (λ z. shifted_down z 32) (product-is c.cast_signed.result c.cast_signed-2.result (search rules) (search rules))
    ∙ ap (λ z. shifted_down (z *ℤ c.cast_signed-2.result) 32) c.cast_signed.ensures ∙ ap (λ z. shifted_down (signed c.args.a *ℤ z) 32) c.cast_signed-2.ensures
