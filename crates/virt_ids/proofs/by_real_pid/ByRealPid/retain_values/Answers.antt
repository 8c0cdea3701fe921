use Rattle.std.proofs.Common.{sym, ap, subst, ◌∙◌}
use Rattle.std.specs.FinMap as map
use Rattle.std.specs.Map.Calls.{CalledAtPair, RetainsPairs}
use Rattle.id_maps.proofs.OfSysAbi.OrderLaws.{real_pid_total}
use Rattle.id_maps.proofs.OfViews.TreeMaps.{view, entries-view}
use Rattle.id_maps.specs.OfSysAbi.Orders.{real_pid_cmp}
use Rattle.virt_ids.proofs.by_real_pid.ByRealPid.retain_values.Goals as goal

pub returns : goal.returns
returns g c =
    let before = sym (entries-view real_pid_total c.self.inside.entries c.retain.ensures.was_ordered) ∙ ap map.entries c.self.view_is in
    let after = sym (entries-view real_pid_total c.retain.new.self c.retain.ensures.ordered) in
    subst (λ es. RetainsPairs (CalledAtPair g.F.FnMut) c.args.keep es (map.entries (view real_pid_cmp c.retain.new.self))) before
    (subst (λ es. RetainsPairs (CalledAtPair g.F.FnMut) c.args.keep c.self.inside.entries.entries es) after c.retain.ensures.filtered)
