use Rattle.std.proofs.Common.{not, rules}
use Rattle.std.specs.Prelude.{◌==◌}
use Rattle.std.proofs.lemmas.Fn.{filter_same}
use Rattle.guest_threads.proofs.RowLaws.{removed_threads, removed_rising}
use Rattle.guest_threads.proofs.rows.remove_row.Goals as goal

pub returns-clause-threads : goal.returns-clause-threads
returns-clause-threads c =
    removed_threads c.args.rows.now.items c.retain.new.self.items c.args.t
    (filter_same _ (λ row. not (row.number == c.args.t)) _ (λ x b f' r. search rules) _ _ c.retain.ensures.filtered)

pub returns-clause-rising : goal.returns-clause-rising
returns-clause-rising c =
    removed_rising c.args.rows.now.items c.retain.new.self.items c.args.t
    (filter_same _ (λ row. not (row.number == c.args.t)) _ (λ x b f' r. search rules) _ _ c.retain.ensures.filtered) c.requires
