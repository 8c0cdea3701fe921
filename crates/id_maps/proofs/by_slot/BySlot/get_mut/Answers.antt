use Rattle.std.proofs.Common.{refl, ap, ◌∙◌}
use Rattle.conn_maps.specs.OfSysAbi.Orders.{slot_cmp}
use Rattle.conn_maps.proofs.OfSysAbi.OrderLaws.{slot_total, slot_exact}
use Rattle.conn_maps.proofs.OfViews.TreeMaps.{view, get-seen, view-lent}
use Rattle.id_maps.proofs.by_slot.BySlot.get_mut.Goals as goal

pub returns : goal.returns
returns g c =
    let lent = c.get_mut.follows in (
      (
        refl,
        λ w. view-lent slot_total slot_exact c.self.inside.entries (lent.lender w) c.args.key w c.get_mut.result c.get_mut.ensures.value (λ some. ((lent.holds w).3 some).0) c.args.self.now c.self.view_is,
        ap (view slot_cmp) lent.holds-at-none ∙ c.self.view_is,
      ),
      record {
        writes_back = tt;
        value = get-seen slot_total c.self.inside.entries c.args.self.now c.args.key _ c.get_mut.ensures.value c.self.view_is;
      },
    )
