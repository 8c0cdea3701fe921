use Rattle.std.proofs.Common.{◌≡◌, ap, subst, ◌∙◌}
use Rattle.std.specs.Prelude.{OnSome}
use Rattle.std.specs.Option.{option_map_or}
use Rattle.std.specs.FinMap as map
use Rattle.conn_table.specs.Conns.{without_end}
use Rattle.conn_table.proofs.table.close_end.Goals as goal

pub returns-clause-closed : goal.returns-clause-closed
returns-clause-closed c =
    let conns = c.args.channels.now in
    let id = c.args.id in
    subst (λ lent. OnSome lent (c.get_mut.follows.lender c.without_end.result ≡ map.insert conns id c.without_end.result)) c.in-Some.is (c.get_mut.follows.holds c.without_end.result)
    ∙ ap (map.insert conns id) c.without_end.ensures
    ∙ ap (λ found. option_map_or (λ conn. map.insert conns id (without_end c.args.side conn)) found conns) c.in-Some.ensures.value
