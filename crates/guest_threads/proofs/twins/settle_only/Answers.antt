use Rattle.std.proofs.Common.{get_or, sym, ap, ◌∙◌, arith}
use Rattle.plain_process.specs.Threads.{child_thread}
use Rattle.guest_threads.specs.Rows.{part_of}
use Rattle.guest_threads.proofs.OnlyThreads.{settled_only, not_only, one_rising}
use Rattle.guest_threads.proofs.twins.settle_only.Goals as goal

pub returns-then-rows-eq1-clause-threads : goal.returns-then-rows-eq1-clause-threads
returns-then-rows-eq1-clause-threads c = λ t caller is.
    settled_only c.args.rows.now c.settle.new.self t c.args.number caller (child_thread caller c.args.flags c.args.stack c.args.tls c.args.child_tid) c.requires is (omega arith)
    (λ first same here. c.settle.ensures
    ∙ ap (λ thread. (c.args.number, child_thread thread c.args.flags c.args.stack c.args.tls c.args.child_tid)) (ap (λ rows. part_of (get_or rows 0 c.index-rows-0.result)) (sym same) ∙ ap (λ e. e.1) here))

pub returns-then-rows-eq1-clause-rising : goal.returns-then-rows-eq1-clause-rising
returns-then-rows-eq1-clause-rising c = one_rising c.args.rows.now c.settle.new.self (omega arith)

pub returns-else-rows-eq1-clause-threads : goal.returns-else-rows-eq1-clause-threads
returns-else-rows-eq1-clause-threads c = λ t caller is. absurd (not_only c.args.rows.now t caller c.requires is (λ one. omega arith))
