use Rattle.std.proofs.Common.{◌≡◌, true, ap, subst, ◌∙◌}
use Rattle.std.specs.Prelude.{OnSome}
use Rattle.std.specs.Option.{option_map_or}
use Rattle.std.specs.FinMap as map
use Rattle.discovery.specs.declared.publication.Publication.{Publication}
use Rattle.discovery.proofs.directory.look_up.Goals as goal

pub returns-clause-asked : goal.returns-clause-asked
returns-clause-asked c =
    let m = c.args.publications.now in
    let id = c.args.id in
    let asked : Publication = (record { at = c.in-Some.publication.now.at; asked = true }) in
    subst (λ lent. OnSome lent (c.get_mut.follows.lender asked ≡ map.insert m id asked)) c.in-Some.is (c.get_mut.follows.holds asked)
    ∙ ap (λ found. option_map_or (λ (p : Publication). map.insert m id (record { at = p.at; asked = true })) found m) c.in-Some.ensures.value
