use Rattle.std.proofs.Common.{sym, ◌∙◌}
use Rattle.sys_abi.proofs.OfViews.TreeMaps.{values-view}
use Rattle.sys_abi.proofs.OrderLaws.{desc_total}
use Rattle.fd_tables.proofs.descriptions.slab_keys.Goals as goal

pub returns : goal.returns
returns c = c.values.ensures.rest ∙ sym (values-view desc_total c.args.index.now c.values.ensures.ordered)
