use Rattle.std.proofs.Common.{◌≡◌, subst}
use Rattle.std.specs.Prelude.{OnSome}
use Rattle.std.specs.FinMap as map
use Rattle.conn_table.proofs.table.change_maker.Goals as goal

pub returns-clause-yes : goal.returns-clause-yes
returns-clause-yes c = λ _.
    subst (λ lent. OnSome lent (c.get_mut.follows.lender c.args.m ≡ map.insert c.args.makers.now c.args.p c.args.m)) c.in-Some.is (c.get_mut.follows.holds c.args.m)
