use Rattle.std.proofs.Common.{ap, ◌∙◌, arith}
use Rattle.std.specs.Prelude.{is_some}
use Rattle.std.specs.Cmp.{nat_cmp_total}
use Rattle.views.proofs.MapLaws.{get_inserted, get_beside_inserted}
use Rattle.turn_cell.proofs.Parts.{exact}
use Rattle.worked_words.proofs.ledgers.empty_ledger.Goals as goal

pub returns : goal.returns
returns c = (
  ap is_some (get_beside_inserted nat_cmp_total exact c.insert.new.self c.insert-2.new.self 9 0 7 c.in_ok-insert-2.ensures.ok (λ same. omega (arith, same))
      ∙ get_inserted nat_cmp_total exact _ c.insert.new.self 7 0 c.in_ok-insert.ensures.ok),
  ap is_some (get_inserted nat_cmp_total exact c.insert.new.self c.insert-2.new.self 9 0 c.in_ok-insert-2.ensures.ok),
)
