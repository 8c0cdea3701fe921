use Rattle.std.proofs.Common.{rules, sym, ◌∙◌}
use Rattle.std.specs.FinMap as map
use Rattle.std.proofs.lemmas.Map.Made.{map_same_pairs}
use Rattle.plain_process.proofs.OfViews.MapValues.{entries-map_values}
use Rattle.plain_tables.specs.Ends.{orphan}
use Rattle.plain_tables.proofs.ends.orphan_children_of.Goals as goal

pub returns : goal.returns
returns c = map.same_entries_map _ _
    (map_same_pairs _ (orphan c.args.p) _ (λ k v b w f' t. search rules) (map.entries c.args.processes.now) (map.entries c.retain_values.new.self) c.retain_values.ensures
    ∙ sym (entries-map_values (orphan c.args.p) c.args.processes.now))
