use Rattle.std.proofs.Common.{refl, ap, ◌∙◌}
use Rattle.id_maps.specs.OfSysAbi.Orders.{real_pid_cmp}
use Rattle.id_maps.proofs.OfSysAbi.OrderLaws.{real_pid_total, real_pid_exact}
use Rattle.id_maps.proofs.OfViews.TreeMaps.{view, get-seen, view-lent}
use Rattle.virt_ids.proofs.by_real_pid.ByRealPid.get_mut.Goals as goal

pub returns : goal.returns
returns g c =
    let lent = c.get_mut.follows in (
      (
        refl,
        λ w. view-lent real_pid_total real_pid_exact c.self.inside.entries (lent.lender w) c.args.key w c.get_mut.result c.get_mut.ensures.value (λ some. ((lent.holds w).3 some).0) c.args.self.now c.self.view_is,
        ap (view real_pid_cmp) lent.holds-at-none ∙ c.self.view_is,
      ),
      record {
        writes_back = tt;
        value = get-seen real_pid_total c.self.inside.entries c.args.self.now c.args.key _ c.get_mut.ensures.value c.self.view_is;
      },
    )
