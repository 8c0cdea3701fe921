use Rattle.std.proofs.Common.{◌≡◌, sym, ap, subst, ◌∙◌}
use Rattle.std.specs.FinMap as map
use Rattle.std.specs.Map.Calls.{CalledAtPair, RetainsPairs}
use Rattle.conn_maps.proofs.OfSysAbi.OrderLaws.{vpid_total}
use Rattle.conn_maps.proofs.OfViews.TreeMaps.{view, entries-view}
use Rattle.conn_maps.specs.OfSysAbi.Orders.{vpid_cmp}
use Rattle.id_maps.proofs.by_pid.ByPid.retain_values.Goals as goal

pub returns : goal.returns
returns g c =
    let before = sym (entries-view vpid_total c.self.inside.entries c.retain.ensures.was_ordered) ∙ ap map.entries c.self.view_is in
    let after = sym (entries-view vpid_total c.retain.new.self c.retain.ensures.ordered) in
    subst (λ es. RetainsPairs (CalledAtPair g.F.FnMut) c.args.keep es (map.entries (view vpid_cmp c.retain.new.self))) before
    (subst (λ es. RetainsPairs (CalledAtPair g.F.FnMut) c.args.keep c.self.inside.entries.entries es) after c.retain.ensures.filtered)
