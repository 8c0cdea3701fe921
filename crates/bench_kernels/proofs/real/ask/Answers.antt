use Rattle.bench_kernels.proofs.Owned.{is_asked, answers_own}
use Rattle.bench_kernels.proofs.real.ask.Goals as goal

pub call-requires-clause-asked : goal.call-requires-clause-asked
call-requires-clause-asked c =
    is_asked c.args.kernel.now c.args.p c.args.request.now c.lend.new.transfer c.requires.own c.requires.may
    c.requires.alive c.lend.ensures

pub returns : goal.returns
returns c =
    answers_own c.args.kernel.now c.args.p c.args.request.now c.lend.new.transfer c.requires.own c.requires.may
    (is_asked c.args.kernel.now c.args.p c.args.request.now c.lend.new.transfer c.requires.own c.requires.may
    c.requires.alive c.lend.ensures) c.call.new.self c.call.new.transfer c.call.result c.call.ensures
