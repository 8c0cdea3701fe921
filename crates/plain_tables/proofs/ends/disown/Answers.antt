use Rattle.std.proofs.Common.{rules, sym, ◌∙◌}
use Rattle.std.specs.FinMap as map
use Rattle.std.proofs.lemmas.Map.Made.{map_same_pairs}
use Rattle.plain_process.proofs.OfViews.MapValues.{entries-map_values}
use Rattle.plain_tables.specs.Ends.{disown}
use Rattle.plain_tables.proofs.ends.disown.Goals as goal

pub returns : goal.returns
returns c = map.same_entries_map _ _
    (map_same_pairs _ (disown c.args.p) _ (λ k v b w f' t. search rules) (map.entries c.args.descriptions.now) (map.entries c.retain_values.new.self) c.retain_values.ensures
    ∙ sym (entries-map_values (disown c.args.p) c.args.descriptions.now))
