use Rattle.std.proofs.Common.{sym, ap, ◌∙◌, ◌+◌, ◌-◌, cond, arith}
use Rattle.std.specs.Prelude.{Some}
use Rattle.plain_tables.specs.OfSysAbi.declared.errors.TheConstants.{EMFILE}
use Rattle.plain_tables.specs.OfPlainProcess.Attempts.{found}
use Rattle.plain_machine.specs.Kernel.{free_among, free_from}
use Rattle.plain_machine.proofs.FreeNumbers.{free_among_more, free_among_none}
use Rattle.plain_machine.proofs.kernel.PlainKernel.free_from.Goals as goal

pub loop-fd-preserved : goal.loop-fd-preserved
loop-fd-preserved c =
    c.loop-fd.invariant ∙ free_among_more c.args.self.now.descriptors c.args.p c.loop-fd.fd (omega arith)
    ∙ ap (λ b. cond b (free_among c.args.self.now.descriptors c.args.p (c.loop-fd.fd + 1) (256 - (c.loop-fd.fd + 1))) (Some c.loop-fd.fd)) (sym c.contains_key.ensures ∙ c.if-not-contains_key.false)

pub returns-then-not-contains_key : goal.returns-then-not-contains_key
unfolding free_from
returns-then-not-contains_key c =
    ap (λ o. found o EMFILE) (c.loop-fd.invariant ∙ free_among_more c.args.self.now.descriptors c.args.p c.loop-fd.fd (omega arith)
    ∙ ap (λ b. cond b (free_among c.args.self.now.descriptors c.args.p (c.loop-fd.fd + 1) (256 - (c.loop-fd.fd + 1))) (Some c.loop-fd.fd)) (sym c.contains_key.ensures ∙ c.if-not-contains_key.true))

pub returns : goal.returns
unfolding free_from
returns c = ap (λ o. found o EMFILE) (c.loop-fd.invariant ∙ free_among_none c.args.self.now.descriptors c.args.p c.loop-fd.fd (omega arith))
