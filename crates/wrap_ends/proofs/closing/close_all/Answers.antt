use Rattle.std.proofs.Common.{refl, sym, ap, ◌∙◌, subst, arith}
use Rattle.std.specs.FinMap as map
use Rattle.views.specs.Limits.{DESCRIPTOR_LIMIT}
use Rattle.fd_book.specs.Books.{Books}
use Rattle.plain_machine.specs.Ends.{closed_below}
use Rattle.wrap_names.specs.Wrapping.{IsWrapped}
use Rattle.wrap_ends.proofs.SoFar.{none_closed, closed_all, closed_more, at_most, lowest_is, none_is}
use Rattle.wrap_ends.proofs.closing.close_all.Goals as goal

pub loop-init : goal.loop-init
loop-init c = (λ k next_id p w paired. none_closed c.args.system.now next_id k p w, refl)

pub give_back-requires : goal.give_back-requires
give_back-requires c = record {
  none = none_is c.loop.system.kernel.book.descriptors c.args.who c.next_fd.result c.in_default.is
      c.next_fd.ensures;
}

pub returns-in_default-clause-closed : goal.returns-in_default-clause-closed
returns-in_default-clause-closed c k next_id p w paired =
    let s = c.loop.system in
    subst (λ (b : Books). IsWrapped (record s { kernel = record s.kernel { book = b } }) next_id
    (closed_below k p DESCRIPTOR_LIMIT)) (sym c.give_back.ensures)
    (closed_all s next_id k p c.args.who (ap (λ pids. map.get pids p.0) c.loop.invariant.1 ∙ paired)
    c.loop.counter
    (c.loop.invariant.0 k next_id p w paired)
    (none_is s.kernel.book.descriptors c.args.who c.next_fd.result c.in_default.is c.next_fd.ensures))

pub returns-in_default-clause-pids : goal.returns-in_default-clause-pids
returns-in_default-clause-pids c = c.loop.invariant.1

pub loop-preserved : goal.loop-preserved
loop-preserved c = (
  λ k next_id p w paired.
      let s = c.loop.system in
      let so_far = c.loop.invariant.0 k next_id p w paired in
      let still = ap (λ pids. map.get pids p.0) c.loop.invariant.1 ∙ paired in
      closed_more s next_id k p c.args.who still c.loop.counter so_far c.in-Some.fd.0
      (lowest_is s.kernel.book.descriptors c.args.who c.next_fd.result c.in-Some.fd c.in-Some.is
      c.next_fd.ensures)
      c.close_at.new.system
      (c.close_at.ensures.closed (closed_below k p so_far.below) next_id p so_far.wrapped still),
  c.close_at.ensures.pids ∙ c.loop.invariant.1,
)

pub returns-clause-closed : goal.returns-clause-closed
returns-clause-closed c k next_id p w paired =
    let over = c.loop-test.false in
    absurd (at_most c.loop.system next_id k p c.args.who
    (ap (λ pids. map.get pids p.0) c.loop.invariant.1 ∙ paired) c.loop.counter
    (c.loop.invariant.0 k next_id p w paired) (omega (arith, over)))

pub returns-clause-pids : goal.returns-clause-pids
returns-clause-pids c = c.loop.invariant.1
