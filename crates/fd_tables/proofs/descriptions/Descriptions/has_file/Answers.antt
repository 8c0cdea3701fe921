use Rattle.std.proofs.Common.{◌∙◌}
use Rattle.sys_abi.proofs.OfViews.TreeMaps.{view}
use Rattle.sys_abi.specs.Orders.{desc_cmp}
use Rattle.fd_tables.specs.Parts.{is_of_file}
use Rattle.fd_tables.proofs.SlabLaws.{any-described}
use Rattle.fd_tables.proofs.descriptions.Descriptions.has_file.Goals as goal

pub returns : goal.returns
returns c = c.has_file_among.ensures ∙ any-described (λ o. is_of_file c.args.number o.desc) (view desc_cmp c.self.inside.index) c.self.inside.slab c.args.self.now c.self.view_is
