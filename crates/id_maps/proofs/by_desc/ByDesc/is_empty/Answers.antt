use Rattle.std.proofs.Common.{arith, sym, ◌∙◌}
use Rattle.std.proofs.lemmas.Bool.Decides.{nat_tests}
use Rattle.conn_maps.proofs.OfSysAbi.OrderLaws.{desc_total}
use Rattle.conn_maps.proofs.OfViews.TreeMaps.{empty-view, len-empty_view}
use Rattle.id_maps.proofs.by_desc.ByDesc.is_empty.Goals as goal

pub returns : goal.returns
returns g c = (
  λ none. sym c.self.view_is ∙ empty-view desc_total c.self.inside.entries c.len.ensures.ordered (let is = c.len.ensures.len in grind (arith, nat_tests, is)),
  λ none. let zero = len-empty_view desc_total c.self.inside.entries c.len.ensures.ordered (c.self.view_is ∙ none) in
      let is = c.len.ensures.len in
      grind (arith, nat_tests, zero, is),
)
