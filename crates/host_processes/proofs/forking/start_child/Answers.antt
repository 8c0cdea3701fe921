use Rattle.std.proofs.Common.{refl, sym, ◌∙◌}
use Rattle.host_processes.proofs.TakenBack.{one_back, all_back}
use Rattle.host_processes.proofs.forking.start_child.Goals as goal

pub loop-smaller : goal.loop-smaller
loop-smaller c =
    (one_back c.args.book.now c.loop.book c.end_table.new.self c.args.parent c.args.child
    c.in-Some.field-0.0.0 _ c.loop.invariant c.requires.apart refl c.in-Some.ensures.lowest.open_there
    c.in-Some.ensures.closed).1

pub loop-preserved : goal.loop-preserved
loop-preserved c =
    (one_back c.args.book.now c.loop.book c.end_table.new.self c.args.parent c.args.child
    c.in-Some.field-0.0.0 _ c.loop.invariant c.requires.apart refl c.in-Some.ensures.lowest.open_there
    c.in-Some.ensures.closed).0

pub loop-init : goal.loop-init
loop-init c = record {
  descriptions = c.in_ok-fork_table.ensures.descriptions;
  others = c.in_ok-fork_table.ensures.others;
  same = λ fd d is. sym (c.in_ok-fork_table.ensures.same fd) ∙ is;
}

pub returns-in_default-clause-book : goal.returns-in_default-clause-book
returns-in_default-clause-book c =
    c.in_default-end_table.ensures.none
    ∙ all_back c.args.book.now c.loop.book c.args.parent c.args.child c.loop.invariant
    c.in_default-end_table.ensures.lowest c.requires.none
