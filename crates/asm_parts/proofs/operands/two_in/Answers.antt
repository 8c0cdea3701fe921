use Rattle.std.proofs.Common.{Some, sym, ap, ◌∙◌, List, ℕ}
use Rattle.std.specs.Prelude.{option_map}
use Rattle.asm_parts.specs.Texts.{without_spaces}
use Rattle.asm_parts.proofs.OperandLaws.{two_none, two_some}
use Rattle.asm_parts.proofs.operands.two_in.Goals as goal

pub returns-in_err-first : goal.returns-in_err-first
returns-in_err-first c = rw c.from_residual.ensures (sym (two_none c.args.text.now c.in_err-first.ensures))

pub returns-in_err-second : goal.returns-in_err-second
returns-in_err-second c =
    rw c.from_residual-in_err-second.ensures
    (sym (two_some c.args.text.now (c.in_ok-first.first.now, c.in_ok-first.more.now) c.in_ok-first.ensures
    ∙ ap (option_map (λ b. (without_spaces c.in_ok-first.first.now, b))) (sym c.in_err-second.ensures)))

pub returns : goal.returns
returns c =
    ap (λ (a : List ℕ). Some (a, c.in_ok-second.second.now)) c.without_spaces.ensures
    ∙ sym (two_some c.args.text.now (c.in_ok-first.first.now, c.in_ok-first.more.now) c.in_ok-first.ensures
    ∙ ap (option_map (λ b. (without_spaces c.in_ok-first.first.now, b))) (sym c.in_ok-second.ensures))
