use Rattle.std.proofs.Common.{sym, ap, ◌∙◌}
use Rattle.std.specs.Prelude.{option_map}
use Rattle.conn_maps.proofs.NextConns.{next_conn}
use Rattle.conn_maps.proofs.by_conn.ByConn.next_above.Goals as goal

pub returns-in-Some : goal.returns-in-Some
returns-in-Some g c =
    ap (option_map (λ p. p.0.now)) (sym c.in-Some.is)
    ∙ next_conn c.args.above c.start_above.result c.self.inside.entries c.args.self.now c.range.result _ c.next.result c.start_above.ensures (c.range.ensures.between tt) c.next.ensures.steps c.range.ensures.ordered c.self.view_is

pub returns-in-None : goal.returns-in-None
returns-in-None g c =
    ap (option_map (λ p. p.0.now)) (sym c.in-None.is)
    ∙ next_conn c.args.above c.start_above.result c.self.inside.entries c.args.self.now c.range.result _ c.next.result c.start_above.ensures (c.range.ensures.between tt) c.next.ensures.steps c.range.ensures.ordered c.self.view_is
