use Rattle.std.proofs.Common.{sym, ap, ◌∙◌, subst}
use Rattle.plain_machine.specs.declared.kernel.PlainKernel.{PlainKernel}
use Rattle.plain_machine.specs.Kernel as plain
use Rattle.wrap_passing.specs.OfWrapNames.Changes.{changed}
use Rattle.wrap_passing.specs.OfWrapNames.Wrapping.{IsWrapped}
use Rattle.wrap_calls.proofs.wrapped.Wrapped.take.Goals as goal

pub invariant_of-self : goal.invariant_of-self
unfolding changed
invariant_of-self c =
    subst (IsWrapped c.take_signal.new.system c.self.inside.next_id) (sym c.then-next.ensures) c.take_signal.ensures

pub returns : goal.returns
unfolding changed
returns c =
    c.then-next.ensures ∙ ap (λ (k : PlainKernel). plain.after_take k c.args.p c.args.t.0 c.args.signal.0) c.self.view_is

pub take_signal-requires-clause-alive : goal.take_signal-requires-clause-alive
take_signal-requires-clause-alive c = ap (λ (k : PlainKernel). plain.is_live k c.args.p) c.self.view_is ∙ c.requires.alive

pub take_signal-requires-clause-thread : goal.take_signal-requires-clause-thread
take_signal-requires-clause-thread c =
    ap (λ (k : PlainKernel). plain.has_thread k c.args.p c.args.t.0) c.self.view_is ∙ c.requires.thread
