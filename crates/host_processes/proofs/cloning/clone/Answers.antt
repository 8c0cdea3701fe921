use Rattle.std.proofs.Common.{rules, Some, refl, sym, ap, ◌∙◌}
use Rattle.sys_abi.specs.declared.cloning.CloneForm.TheVariants.{Fork, Thread}
use Rattle.host_processes.proofs.CloneForms.{no_form, by_form}
use Rattle.host_processes.proofs.cloning.clone.Goals as goal

pub returns-in-None-clause-ok : goal.returns-in-None-clause-ok
returns-in-None-clause-ok c =
    no_form c.args.kernel.now _ c.args.who c.args.flags c.in-None.ensures refl

pub returns-in-Some-Fork-clause-ok : goal.returns-in-Some-Fork-clause-ok
returns-in-Some-Fork-clause-ok c =
    by_form c.args.kernel.now _ c.args.who c.args.flags Fork
    (ap Some (sym c.in-Some-Fork.field-0-is) ∙ c.in-Some-Fork.ensures) _ (search rules)

pub returns-in-Some-Thread-clause-ok : goal.returns-in-Some-Thread-clause-ok
returns-in-Some-Thread-clause-ok c =
    by_form c.args.kernel.now _ c.args.who c.args.flags Thread
    (ap Some (sym c.in-Some-Thread.field-0-is) ∙ c.in-Some-Thread.ensures) _ (search rules)
