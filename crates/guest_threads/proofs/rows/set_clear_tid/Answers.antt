use Rattle.std.proofs.Common.{refl}
use Rattle.plain_process.specs.Local.{with_clear_tid}
use Rattle.guest_threads.proofs.RowLaws.{changed_threads, changed_rising}
use Rattle.guest_threads.proofs.rows.set_clear_tid.Goals as goal

pub returns-in-Some-clause-threads : goal.returns-in-Some-clause-threads
returns-in-Some-clause-threads c =
    changed_threads c.args.rows.now c.args.t c.in-Some.index c.index-rows-index.result _ (λ thread. with_clear_tid thread c.args.place) c.requires c.in-Some.ensures.index c.in-Some.ensures.within refl refl

pub returns-in-Some-clause-rising : goal.returns-in-Some-clause-rising
returns-in-Some-clause-rising c = changed_rising c.args.rows.now c.args.t c.in-Some.index c.index-rows-index.result _ c.requires c.in-Some.ensures.index c.in-Some.ensures.within refl
