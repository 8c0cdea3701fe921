use Rattle.std.proofs.Common.{◌≡◌, true, false, ap, sym, ◌∙◌}
use Rattle.std.specs.Prelude.{Some}
use Rattle.plain_machine.specs.declared.plain.Plain.{Plain}
use Rattle.plain_replay.proofs.RunRecords.{run-none_yet, run-more, refused_first}
use Rattle.plain_replay.proofs.replaying.walk.Goals as goal

pub loop-i-init : goal.loop-i-init
loop-i-init c = run-none_yet c.args.start.value c.args.trace.now

pub loop-i-preserved : goal.loop-i-preserved
loop-i-preserved c =
    let steps : c.in_ok-step.field-0 ≡ true = c.if-not-branch.false in
    run-more c.args.start.value c.deref_mut.result.now c.step.new.g c.args.trace.now c.loop-i.i _ c.in_ok-step.field-0
    (c.loop-i.invariant ∙ ap (λ (g : Plain). Some g) (sym c.deref_mut.ensures.value)) c.loop-i-test.true c.in_ok-step.ensures steps

pub returns-then-not-branch-clause-refused : goal.returns-then-not-branch-clause-refused
returns-then-not-branch-clause-refused c = λ n is.
    let stops : c.in_ok-step.field-0 ≡ false = c.if-not-branch.true in
    let same : c.loop-i.i ≡ n = cc in
    refused_first c.args.start.value c.deref_mut.result.now c.step.new.g c.args.trace.now c.loop-i.i n _ c.in_ok-step.field-0
    (c.loop-i.invariant ∙ ap (λ (g : Plain). Some g) (sym c.deref_mut.ensures.value)) c.loop-i-test.true c.in_ok-step.ensures stops same
