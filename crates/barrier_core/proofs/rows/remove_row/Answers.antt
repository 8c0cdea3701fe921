use Rattle.std.proofs.Common.{not, rules}
use Rattle.std.specs.Prelude.{◌==◌}
use Rattle.std.proofs.lemmas.Fn.{filter_same}
use Rattle.barrier_core.proofs.RowLaws.{removed_members, removed_rising}
use Rattle.barrier_core.proofs.rows.remove_row.Goals as goal

pub returns-clause-members : goal.returns-clause-members
returns-clause-members c =
    removed_members c.args.rows.now.items c.retain.new.self.items c.args.p
    (filter_same _ (λ row. not (row.0.0 == c.args.p.0)) _ (λ x b f' r. search rules) _ _ c.retain.ensures.filtered)

pub returns-clause-rising : goal.returns-clause-rising
returns-clause-rising c =
    removed_rising c.args.rows.now.items c.retain.new.self.items c.args.p
    (filter_same _ (λ row. not (row.0.0 == c.args.p.0)) _ (λ x b f' r. search rules) _ _ c.retain.ensures.filtered) c.requires
