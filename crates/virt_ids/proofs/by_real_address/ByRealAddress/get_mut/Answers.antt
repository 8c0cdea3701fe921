use Rattle.std.proofs.Common.{refl, ap, ◌∙◌}
use Rattle.id_maps.specs.OfSysAbi.Orders.{real_address_cmp}
use Rattle.id_maps.proofs.OfSysAbi.OrderLaws.{real_address_total, real_address_exact}
use Rattle.id_maps.proofs.OfViews.TreeMaps.{view, get-seen, view-lent}
use Rattle.virt_ids.proofs.by_real_address.ByRealAddress.get_mut.Goals as goal

pub returns : goal.returns
returns g c =
    let lent = c.get_mut.follows in (
      (
        refl,
        λ w. view-lent real_address_total real_address_exact c.self.inside.entries (lent.lender w) c.args.key w c.get_mut.result c.get_mut.ensures.value (λ some. ((lent.holds w).3 some).0) c.args.self.now c.self.view_is,
        ap (view real_address_cmp) lent.holds-at-none ∙ c.self.view_is,
      ),
      record {
        writes_back = tt;
        value = get-seen real_address_total c.self.inside.entries c.args.self.now c.args.key _ c.get_mut.ensures.value c.self.view_is;
      },
    )
