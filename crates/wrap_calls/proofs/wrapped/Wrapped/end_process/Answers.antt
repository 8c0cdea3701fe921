use Rattle.std.proofs.Common.{sym, ap, ◌∙◌, subst}
use Rattle.plain_machine.specs.declared.kernel.PlainKernel.{PlainKernel}
use Rattle.plain_machine.specs.Ends.{after_end}
use Rattle.wrap_passing.specs.OfWrapNames.Changes.{changed}
use Rattle.wrap_passing.specs.OfWrapNames.Wrapping.{IsWrapped}
use Rattle.wrap_calls.proofs.wrapped.Wrapped.end_process.Goals as goal

pub invariant_of-self : goal.invariant_of-self
unfolding changed
invariant_of-self c =
    subst (IsWrapped c.end_process.new.system c.self.inside.next_id) (sym c.then-next.ensures) c.end_process.ensures

pub returns : goal.returns
unfolding changed
returns c =
    c.then-next.ensures ∙ ap (λ (k : PlainKernel). after_end k c.args.p c.args.status) c.self.view_is
