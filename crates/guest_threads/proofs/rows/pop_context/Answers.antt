use Rattle.std.proofs.Common.{get_or, refl, ap, sym, ◌∙◌}
use Rattle.std.specs.Prelude.{option_and_then}
use Rattle.plain_process.specs.Rows.Handlers.{last_context}
use Rattle.guest_threads.specs.Rows.{part_of}
use Rattle.guest_threads.specs.Threads.{with_contexts, earlier}
use Rattle.guest_threads.proofs.RowLaws.{part_at, changed_threads, changed_rising}
use Rattle.guest_threads.proofs.rows.pop_context.Goals as goal

pub returns-in-Some-clause-last : goal.returns-in-Some-clause-last
returns-in-Some-clause-last c =
    c.pop.ensures.last
    ∙ sym (ap (option_and_then (λ thread. last_context thread.contexts))
    (part_at c.args.rows.now c.args.t c.in-Some.index c.index-rows-index.result c.in-Some.ensures.index c.in-Some.ensures.within))

pub returns-in-Some-clause-threads : goal.returns-in-Some-clause-threads
returns-in-Some-clause-threads c =
    changed_threads c.args.rows.now c.args.t c.in-Some.index c.index-rows-index.result _ (λ thread. with_contexts thread (earlier thread.contexts)) c.requires
    c.in-Some.ensures.index c.in-Some.ensures.within refl (ap (with_contexts (part_of (get_or c.args.rows.now c.in-Some.index c.index-rows-index.result))) c.pop.ensures.rest)

pub returns-in-Some-clause-rising : goal.returns-in-Some-clause-rising
returns-in-Some-clause-rising c = changed_rising c.args.rows.now c.args.t c.in-Some.index c.index-rows-index.result _ c.requires c.in-Some.ensures.index c.in-Some.ensures.within refl
