use Rattle.std.proofs.Common.{◌≡◌, true, sym, subst, ◌∙◌}
use Rattle.std.specs.Prelude.{is_some}
use Rattle.plain_machine.specs.declared.kernel.PlainKernel.{PlainKernel}
use Rattle.plain_machine.specs.Serve.{serve}
use Rattle.computation.specs.Computations.{plain_of}
use Rattle.computation.proofs.Due.{serves_if}
use Rattle.computation.proofs.computation.Computation.call.Goals as goal

pub kernel_call-requires-clause-goes : goal.kernel_call-requires-clause-goes
kernel_call-requires-clause-goes g c =
    let asks = c.requires.asks in
    subst (λ (k : PlainKernel). is_some (serve k c.args.p c.args.t.0 c.args.request.now c.lend.new.self.transfer) ≡ true) (sym c.lend.ensures.kernel)
    (serves_if (plain_of c.args.self.now) c.args.p c.args.t asks.user c.args.request.now c.lend.new.self.transfer asks.there asks.asks (c.in-Ok.ensures.ok asks.user asks.there)
    (sym c.is_local.ensures ∙ c.if-is_local.false) c.requires.goes)
