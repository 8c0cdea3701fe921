use Rattle.std.proofs.Common.{rules, sym, not, ◌∙◌}
use Rattle.std.specs.FinMap as map
use Rattle.std.proofs.lemmas.Map.Made.{filter_same_pairs}
use Rattle.plain_process.proofs.OfViews.MapValues.{entries-retain}
use Rattle.plain_tables.specs.Ends.{is_zombie_child}
use Rattle.plain_tables.proofs.ends.drop_zombies_of.Goals as goal

pub returns : goal.returns
returns c = map.same_entries_map _ _
    (filter_same_pairs _ (λ e. not (is_zombie_child c.args.p e.1)) _ (λ k v b w f' t. search rules) (map.entries c.args.processes.now) (map.entries c.retain_values.new.self)
    c.retain_values.ensures
    ∙ sym (entries-retain (λ q process. not (is_zombie_child c.args.p process)) c.args.processes.now))
