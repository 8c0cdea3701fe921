use Rattle.std.proofs.Common.{refl, ap, ◌∙◌}
use Rattle.std.specs.Ordering.{nat_cmp}
use Rattle.std.specs.Cmp.{nat_cmp_total}
use Rattle.std.specs.FinMap as map
use Rattle.views.proofs.TreeMaps.{view, get-seen, view-lent}
use Rattle.views.proofs.number_map.NumberMap.get_mut.Goals as goal

pub returns : goal.returns
returns g c =
    let lent = c.get_mut.follows in (
      (
        refl,
        λ w. view-lent nat_cmp_total map.nat_cmp-IsAntisymmetric c.self.inside.tree (lent.lender w) c.args.key w c.get_mut.result c.get_mut.ensures.value (λ some. ((lent.holds w).3 some).0) c.args.self.now c.self.view_is,
        ap (view nat_cmp) lent.holds-at-none ∙ c.self.view_is,
      ),
      record {
        writes_back = tt;
        value = get-seen nat_cmp_total c.self.inside.tree c.args.self.now c.args.key _ c.get_mut.ensures.value c.self.view_is;
      },
    )
