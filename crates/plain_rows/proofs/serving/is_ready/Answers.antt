use Rattle.std.proofs.Common.{ap, sym, ◌∙◌}
use Rattle.plain_machine.specs.Serve.{is_ready}
use Rattle.plain_machine.proofs.EachRow.{ready_by_front}
use Rattle.plain_rows.proofs.serving.is_ready.Goals as goal

pub returns : goal.returns
returns c = λ given front.
    ready_by_front c.args.kernel.now c.args.p c.args.t.0 c.args.request.now given
    ∙ ap (is_ready c.args.kernel.now c.args.p c.args.t.0 c.args.request.now) front ∙ sym c.is_ready_at.ensures
