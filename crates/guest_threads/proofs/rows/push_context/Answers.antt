use Rattle.std.proofs.Common.{◌<◌, ◌++◌, ◌∷◌, [], length, get_or, refl, ap, subst}
use Rattle.std.specs.Prelude.{IfSome}
use Rattle.views.specs.Limits.{CONTEXT_LIMIT}
use Rattle.guest_threads.specs.Rows.{part_of}
use Rattle.guest_threads.specs.Threads.{with_contexts}
use Rattle.guest_threads.proofs.RowLaws.{part_at, changed_threads, changed_rising}
use Rattle.guest_threads.proofs.rows.push_context.Goals as goal

pub push-requires : goal.push-requires
push-requires c =
    subst (λ o. IfSome o (λ thread. length thread.contexts < CONTEXT_LIMIT))
    (part_at c.args.rows.now c.args.t c.in-Some.index c.index-rows-index.result c.in-Some.ensures.index c.in-Some.ensures.within) c.requires.few

pub returns-in-Some-clause-threads : goal.returns-in-Some-clause-threads
returns-in-Some-clause-threads c =
    changed_threads c.args.rows.now c.args.t c.in-Some.index c.index-rows-index.result _ (λ thread. with_contexts thread (thread.contexts ++ c.args.context ∷ [])) c.requires.rising
    c.in-Some.ensures.index c.in-Some.ensures.within refl (ap (with_contexts (part_of (get_or c.args.rows.now c.in-Some.index c.index-rows-index.result))) c.push.ensures)

pub returns-in-Some-clause-rising : goal.returns-in-Some-clause-rising
returns-in-Some-clause-rising c = changed_rising c.args.rows.now c.args.t c.in-Some.index c.index-rows-index.result _ c.requires.rising c.in-Some.ensures.index c.in-Some.ensures.within refl
