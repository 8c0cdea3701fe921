use Rattle.std.proofs.Common.{Some, sym, ◌∙◌, ap}
use Rattle.std.proofs.lemmas.Bool.{false≢true}
use Rattle.std.proofs.lemmas.Option.{same_Some, none-some}
use Rattle.plain_process.specs.declared.instruction.Insn.{Insn}
use Rattle.rv_words.proofs.InsnEquality.{same-insn_eq, insn_eq-same}
use Rattle.rv_words.proofs.WordLaws.{decoded-filled}
use Rattle.rv_words.proofs.encoder.is_valid.Goals as goal

pub returns-in-Some : goal.returns-in-Some
returns-in-Some c = (
  λ t. record {
    word = c.filled_word.result;
    in_range = c.filled_word.type_inv;
    decodes = sym c.in-Some.ensures.instruction ∙ ap (λ (i : Insn). Some i) (same-insn_eq c.in-Some.found c.args.insn (sym c.eq.ensures ∙ t));
  },
  λ valid. c.eq.ensures ∙ insn_eq-same c.in-Some.found c.args.insn
      (same_Some _ _ (c.in-Some.ensures.instruction ∙ decoded-filled c.filled_word.result c.args.insn c.filled_word.ensures valid)),
)

pub returns-in-None : goal.returns-in-None
returns-in-None c = (
  λ t. absurd (false≢true t),
  λ valid. absurd (none-some _ (c.in-None.ensures.instruction ∙ decoded-filled c.filled_word.result c.args.insn c.filled_word.ensures valid)),
)
