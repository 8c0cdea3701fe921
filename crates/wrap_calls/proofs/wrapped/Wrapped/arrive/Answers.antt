use Rattle.std.proofs.Common.{sym, ap, ◌∙◌, subst}
use Rattle.plain_machine.specs.declared.kernel.PlainKernel.{PlainKernel}
use Rattle.wrap_passing.specs.OfWrapNames.Changes.{after_arrival, changed}
use Rattle.wrap_passing.specs.OfWrapNames.Wrapping.{IsWrapped}
use Rattle.wrap_calls.proofs.wrapped.Wrapped.arrive.Goals as goal

pub invariant_of-self : goal.invariant_of-self
unfolding changed
invariant_of-self c =
    subst (IsWrapped c.arrive-count.new.system c.self.inside.next_id) (sym c.then-next.ensures)
    (c.arrive-count.ensures.arrived c.self.inside.stood.kernel c.self.inside.next_id c.self.invariant)

pub returns-clause-arrived : goal.returns-clause-arrived
unfolding changed
returns-clause-arrived c =
    c.then-next.ensures ∙ ap (λ (k : PlainKernel). after_arrival k c.args.dir c.args.n) c.self.view_is
