use Rattle.std.proofs.Common.{sym, ap, ◌∙◌}
use Rattle.std.specs.Option.{option_map}
use Rattle.fd_tables.proofs.DescriptionViews.{next_described}
use Rattle.fd_tables.proofs.descriptions.Descriptions.next_above.Goals as goal

pub returns-in-Some : goal.returns-in-Some
returns-in-Some c =
    ap (option_map (λ p. p.0.now)) (sym c.in-Some.is)
    ∙ next_described c.args.above c.start_above.result c.self.inside.index c.self.inside.slab c.args.self.now c.range.result _ c.next.result c.start_above.ensures (c.range.ensures.between tt) c.next.ensures.steps c.range.ensures.ordered c.self.view_is

pub returns-in-None : goal.returns-in-None
returns-in-None c =
    ap (option_map (λ p. p.0.now)) (sym c.in-None.is)
    ∙ next_described c.args.above c.start_above.result c.self.inside.index c.self.inside.slab c.args.self.now c.range.result _ c.next.result c.start_above.ensures (c.range.ensures.between tt) c.next.ensures.steps c.range.ensures.ordered c.self.view_is
