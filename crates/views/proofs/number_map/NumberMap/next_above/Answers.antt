use Rattle.std.proofs.Common.{sym, ap, ◌∙◌}
use Rattle.std.specs.Prelude.{option_map}
use Rattle.views.proofs.NextKeys.{next-above}
use Rattle.views.proofs.number_map.NumberMap.next_above.Goals as goal

pub returns-in-Some : goal.returns-in-Some
returns-in-Some g c =
    ap (option_map (λ p. p.0.now)) (sym c.in-Some.is)
    ∙ next-above c.args.key c.start_above.result c.self.inside.tree c.args.self.now c.range.result _ c.next.result c.start_above.ensures (c.range.ensures.between tt) c.next.ensures.steps c.range.ensures.ordered c.self.view_is

pub returns-in-None : goal.returns-in-None
returns-in-None g c =
    ap (option_map (λ p. p.0.now)) (sym c.in-None.is)
    ∙ next-above c.args.key c.start_above.result c.self.inside.tree c.args.self.now c.range.result _ c.next.result c.start_above.ensures (c.range.ensures.between tt) c.next.ensures.steps c.range.ensures.ordered c.self.view_is
