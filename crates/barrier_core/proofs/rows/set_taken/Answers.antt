use Rattle.std.proofs.Common.{refl}
use Rattle.barrier_core.specs.Members.{with_taken}
use Rattle.barrier_core.proofs.RowLaws.{no_row, changed_members, changed_rising}
use Rattle.barrier_core.proofs.rows.set_taken.Goals as goal

pub returns-in-Some-clause-members : goal.returns-in-Some-clause-members
returns-in-Some-clause-members c =
    changed_members c.args.rows.now c.args.p c.in-Some.index no_row _ (with_taken c.args.message) c.requires c.in-Some.ensures.index c.in-Some.ensures.within refl refl

pub returns-in-Some-clause-rising : goal.returns-in-Some-clause-rising
returns-in-Some-clause-rising c = changed_rising c.args.rows.now c.args.p c.in-Some.index no_row _ c.requires c.in-Some.ensures.index c.in-Some.ensures.within refl
