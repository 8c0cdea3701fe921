use Rattle.std.proofs.Common.{◌≡◌, ◌≢◌, ◌⊎◌, inl, inr, true, sym, ap, ◌∙◌, eq-eqb}
use Rattle.std.specs.Prelude.{is_some}
use Rattle.std.specs.Cmp.{nat_cmp_total}
use Rattle.std.specs.FinMap as map
use Rattle.views.proofs.MapLaws.{true_false, same_or_other, get_inserted, get_beside_inserted}
use Rattle.turn_cell.proofs.Parts.{exact}
use Rattle.worked_words.proofs.ledgers.AddActLedger.act.Goals as goal

pub returns-clause-others : goal.returns-clause-others
returns-clause-others c n x other is =
    get_beside_inserted nat_cmp_total exact c.args.state.now.counts c.insert.new.self c.args.self.number _ n c.in_ok-insert.ensures.ok (λ same. true_false (sym (eq-eqb n c.args.self.number same) ∙ other)) ∙ is

pub returns-clause-does : goal.returns-clause-does
returns-clause-does c n x is = by (same_or_other nat_cmp_total exact n c.args.self.number)
  where
    by : (n ≡ c.args.self.number) ⊎ (n ≢ c.args.self.number) → is_some (map.get c.insert.new.self n) ≡ true
    by (inl same) = ap is_some (ap (map.get c.insert.new.self) same ∙ get_inserted nat_cmp_total exact c.args.state.now.counts c.insert.new.self c.args.self.number _ c.in_ok-insert.ensures.ok)
    by (inr other) = ap is_some (get_beside_inserted nat_cmp_total exact c.args.state.now.counts c.insert.new.self c.args.self.number _ n c.in_ok-insert.ensures.ok other ∙ is)
