use Rattle.std.proofs.Common.{ℕ, ◌+◌, sym, ap, ◌∙◌, subst, None}
use Rattle.plain_tables.specs.declared.description.Object.TheVariants.{Counter}
use Rattle.plain_machine.specs.Kernel.{with_object}
use Rattle.plain_machine.specs.Transfers.Counters.{number_added}
use Rattle.host_processes.specs.HandedOn.{seen_held}
use Rattle.host_processes.specs.OfHostTables.Stands.{Stands}
use Rattle.host_streams.proofs.CounterRows.{addition_refused, counter_added, may_be}
use Rattle.host_streams.proofs.counters.write_counter.Goals as goal

pub returns-then-not-may_add-clause-row : goal.returns-then-not-may_add-clause-row
returns-then-not-may_add-clause-row c g k st =
    addition_refused g c.args.kernel.now k c.args.held c.args.value c.args.count c.args.transfer.now
    (may_be c.args.count c.number_added-added.result c.args.transfer.now
    (c.number_added-added.ensures ∙ ap number_added c.as_slice.ensures.value)
    ∙ sym c.may_add.ensures ∙ c.if-not-may_add.true)

pub returns-clause-row : goal.returns-clause-row
returns-clause-row c g k st =
    counter_added g c.args.kernel.now k c.args.held c.args.value c.args.count c.args.transfer.now
    (may_be c.args.count c.number_added-added.result c.args.transfer.now
    (c.number_added-added.ensures ∙ ap number_added c.as_slice.ensures.value)
    ∙ sym c.may_add.ensures ∙ c.if-not-may_add.false) c.put_value.new.kernel
    (subst (λ (n : ℕ). Stands g None c.put_value.new.kernel
    (with_object k (seen_held g c.args.kernel.now c.args.held) (Counter (c.args.value + n))))
    (c.number_added-added.ensures ∙ ap number_added c.as_slice.ensures.value)
    (c.put_value.ensures.stands c.args.value c.requires.counter g k st))
