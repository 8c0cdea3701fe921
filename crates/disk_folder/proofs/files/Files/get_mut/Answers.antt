use Rattle.std.proofs.Common.{refl, sym, ap, ◌∙◌}
use Rattle.disk_folder.specs.Files.{file_name_cmp}
use Rattle.disk_folder.proofs.NameOrder.{name_total, name_exact}
use Rattle.std.specs.FinMap as map
use Rattle.views.proofs.TreeMaps.{view, get-view, view-lent}
use Rattle.disk_folder.proofs.files.Files.get_mut.Goals as goal

pub returns : goal.returns
returns c =
    let lent = c.get_mut.follows in (
      (
        refl,
        λ w. view-lent name_total name_exact c.self.inside.table (lent.lender w) c.args.name w c.get_mut.result c.get_mut.ensures.value (λ some. ((lent.holds w).3 some).0) c.args.self.now c.self.view_is,
        ap (view file_name_cmp) lent.holds-at-none ∙ c.self.view_is,
      ),
      record {
        writes_back = tt;
        value = c.get_mut.ensures.value ∙ sym (get-view name_total c.self.inside.table c.args.name) ∙ ap (λ m. map.get m c.args.name) c.self.view_is;
      },
    )
