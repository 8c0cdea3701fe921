use Rattle.std.proofs.Common.{rules, sym, ◌∙◌, ap}
use Rattle.std.specs.Option.{option_map}
use Rattle.plain_process.specs.Instructions.{decoded}
use Rattle.rv_words.specs.Fields.{with_operands}
use Rattle.rv_words.proofs.Exclusive.{row_of-match}
use Rattle.rv_words.proofs.Fields.{row_of-fields}
use Rattle.rv_words.proofs.Rows.{valid-decoded}
use Rattle.rv_words.proofs.decoder.decode.Goals as goal

pub returns-clause-instruction : goal.returns-clause-instruction
unfolding decoded
returns-clause-instruction c = c.instruction_at.ensures ∙ ap (option_map (with_operands c.args.word)) (sym (row_of-fields c.args.word c.ranges.word.fits))

pub returns-clause-valid : goal.returns-clause-valid
returns-clause-valid c = valid-decoded c.args.word c.ranges.word.fits c.instruction_at.result (returns-clause-instruction c)

pub returns-clause-only_row : goal.returns-clause-only_row
returns-clause-only_row c = λ op h. row_of-match c.args.word op (search rules)
