use Rattle.std.proofs.Common.{w32, ◌∙◌, ap, rules}
use Rattle.std.proofs.lemmas.Int.{to_z-of_z}
use Rattle.plain_process.specs.Instructions.{shifted_down, word}
use Rattle.plain_process.proofs.Shifts.{shr_signed_min}
use Rattle.rv_words.proofs.arithmetic.shift_right_signed.Goals as goal

pub returns : goal.returns
returns c =
    c.shift_down.ensures ∙ ap (λ z. shifted_down z c.min.result) (to_z-of_z w32 c.cast_signed.result (search rules))
    ∙ ap (shifted_down c.cast_signed.result) c.min.ensures ∙ ap word (shr_signed_min c.cast_signed.result c.args.amount c.cast_signed.type_inv)
    ∙ ap (λ z. shifted_down z c.args.amount) c.cast_signed.ensures
