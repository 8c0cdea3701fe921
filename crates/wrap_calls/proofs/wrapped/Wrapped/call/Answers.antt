use Rattle.std.proofs.Common.{sym, ap, ◌∙◌, subst}
use Rattle.views.specs.Numbers.{Byte}
use Rattle.std.specs.Prelude.{List}
use Rattle.plain_machine.specs.declared.kernel.PlainKernel.{PlainKernel}
use Rattle.plain_machine.specs.Serve.{row}
use Rattle.wrap_passing.specs.OfWrapNames.Changes.{changed}
use Rattle.wrap_passing.specs.OfWrapNames.Wrapping.{Answers, IsWrapped, kernel_left}
use Rattle.wrap_calls.proofs.Answered.{stands_then, answers_then}
use Rattle.wrap_calls.proofs.wrapped.Wrapped.call.Goals as goal

pub invariant_of-self-2 : goal.invariant_of-self-2
unfolding changed
invariant_of-self-2 c =
    let k = c.self.inside.stood.kernel in
    let before = c.args.transfer.now in
    let then = c.serve_call-reply.new in
    let its_row = λ (given : List Byte). row k c.args.p c.args.t.0 c.args.request.now given in
    subst (IsWrapped then.system then.next_id)
    (sym (c.then-next.ensures
    ∙ ap (λ (given : List Byte). kernel_left k (its_row given)) c.as_slice.ensures.value))
    (stands_then then.system then.next_id k before then.transfer (its_row before) c.serve_call-reply.result
    (sym c.is_memory.ensures ∙ c.if-is_memory.false) c.serve_call-reply.ensures)

pub returns : goal.returns
unfolding changed
returns c =
    let k = c.self.inside.stood.kernel in
    let before = c.args.transfer.now in
    let then = c.serve_call-reply.new in
    let told = c.serve_call-reply.result in
    let its_row = λ (w : PlainKernel) (given : List Byte).
    row w c.args.p c.args.t.0 c.args.request.now given in
    subst (λ (w : PlainKernel). Answers w c.then-next.result.kernel before then.transfer told (its_row w before))
    c.self.view_is
    (subst (λ (w : PlainKernel). Answers k w before then.transfer told (its_row k before))
    (sym (c.then-next.ensures
    ∙ ap (λ (given : List Byte). kernel_left k (its_row k given)) c.as_slice.ensures.value))
    (answers_then then.system then.next_id k before then.transfer (its_row k before) told
    (sym c.is_memory.ensures ∙ c.if-is_memory.false) c.serve_call-reply.ensures))
