use Rattle.std.proofs.Common.{rules, ap, ◌∙◌}
use Rattle.conn_maps.proofs.OfSysAbi.OrderLaws.{vpid_total, vpid_exact}
use Rattle.std.specs.FinMap as map
use Rattle.std.proofs.lemmas.Map.Made.{filter_same_pairs}
use Rattle.conn_maps.proofs.RetainedKeys.{view-retain}
use Rattle.id_maps.proofs.by_pid.ByPid.retain.Goals as goal

pub returns : goal.returns
returns g c test tests =
    view-retain vpid_total vpid_exact c.self.inside.entries c.retain.new.self test
    (filter_same_pairs _ (λ e. test e.0) _ (λ k v b w f' t. search (rules, tests)) c.self.inside.entries.entries c.retain.new.self.entries c.retain.ensures.filtered)
    ∙ ap (λ m. map.retain_keys m test) c.self.view_is
