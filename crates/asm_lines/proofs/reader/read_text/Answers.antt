use Rattle.std.proofs.Common.{lit<, rules}
use Rattle.std.specs.Prelude.{option_map}
use Rattle.std.proofs.lemmas.Iterator.{YieldsList-from_map_by}
use Rattle.std.proofs.lemmas.Iterator.Consumers.{map_from_collect, YieldsList-at}
use Rattle.std.proofs.lemmas.Iterator.Splits.{YieldsList-from_str_split}
use Rattle.asm_lines.specs.Lines.{statement_of, statements_of}
use Rattle.asm_lines.specs.Statements.{meant}
use Rattle.asm_lines.proofs.reader.read_text.Goals as goal

pub returns : goal.returns
unfolding statements_of
returns c =
    map_from_collect _ c.collect.ensures.ran
    (YieldsList-from_map_by _ (option_map meant) statement_of
    (YieldsList-at c.map.ensures.source
    (YieldsList-from_str_split 10 c.args.text.now (lit< tt) c.split.ensures.text c.split.ensures.has_more c.split.ensures.pattern))
    c.map.ensures.closure (λ x r q k. search rules))
