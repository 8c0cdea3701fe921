use Rattle.std.proofs.Common.{arith, ap, ◌∙◌}
use Rattle.std.proofs.lemmas.Bool.Decides.{nat_tests}
use Rattle.std.specs.FinMap as map
use Rattle.conn_maps.proofs.OfViews.SeenKeys.{len-seen}
use Rattle.conn_maps.specs.OfSysAbi.Names.{name_cmp}
use Rattle.conn_maps.proofs.OfSysAbi.OrderLaws.{name_total}
use Rattle.id_maps.proofs.by_name.ByName.is_empty.Goals as goal

pub returns : goal.returns
returns g c =
    let is = c.len.ensures.len ∙ len-seen (λ n. n.items) name_total c.self.inside.entries.entries c.args.self.now c.len.ensures.ordered c.self.view_is in (
      λ none. map.empty_of_len c.args.self.now (grind (arith, nat_tests, is)),
      λ none. let zero = ap map.len none ∙ map.len-empty name_cmp _ in grind (arith, nat_tests, is, zero),
    )
