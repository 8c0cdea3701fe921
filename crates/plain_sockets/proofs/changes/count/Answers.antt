use Rattle.std.proofs.Common.{◌<◌, ◌-◌, ◌^◌, sym, ap, subst, ◌∙◌}
use Rattle.std.specs.Option.{option_map_or}
use Rattle.std.specs.FinMap as map
use Rattle.sys_abi.specs.declared.maker.Maker.{Maker}
use Rattle.plain_tables.specs.Tables.{made_more}
use Rattle.plain_tables.proofs.Lends.{changed-found}
use Rattle.plain_sockets.proofs.changes.count.Goals as goal
use Rattle.views.proofs.Outcomes.{on_some}

pub count_one-requires : goal.count_one-requires
count_one-requires c = subst (λ o. option_map_or (λ (m : Maker). m.made) o 0 < 2 ^ 32 - 4) (sym c.in-Some.ensures.value) c.requires

pub returns-in-Some : goal.returns-in-Some
returns-in-Some c =
    on_some c.in-Some.is (c.get_mut.follows.holds c.count_one.new.maker) ∙ ap (map.insert c.args.makers.now c.args.p) c.count_one.ensures
    ∙ changed-found c.args.makers.now c.args.p (made_more 1) c.in-Some.maker.now c.in-Some.ensures.value
