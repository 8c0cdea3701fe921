use Rattle.std.proofs.Common.{sym, ap, ◌∙◌, subst}
use Rattle.fd_tables.specs.declared.description.Object.TheVariants.{Counter}
use Rattle.host_tables.specs.Conditions.{IsNewDesc}
use Rattle.host_makers.specs.Places.{new_desc, IsPlaced}
use Rattle.host_makers.proofs.MadeCalls.{counter_refused, counter_unnumbered, counter_full, counter_made}
use Rattle.host_makers.proofs.counters.eventfd2.Goals as goal

pub returns-then-not-are_making_flags-clause-ok : goal.returns-then-not-are_making_flags-clause-ok
returns-then-not-are_making_flags-clause-ok c g k p whole st paired x named =
    counter_refused g c.args.kernel.now k p x c.args.value c.args.flags
    (sym c.are_making_flags.ensures ∙ c.if-not-are_making_flags.true)

pub returns-in_default-clause-ok : goal.returns-in_default-clause-ok
returns-in_default-clause-ok c g k p whole st paired x named =
    counter_unnumbered g c.args.kernel.now k p x c.args.value c.args.flags
    (sym c.are_making_flags.ensures ∙ c.if-not-are_making_flags.false) (sym c.in_default.is ∙ named)

pub returns-in-Some-2-clause-ok : goal.returns-in-Some-2-clause-ok
returns-in-Some-2-clause-ok c g k p whole st paired x named =
    let real = c.args.kernel.now in
    counter_made g real k p x st c.args.who paired c.in-Some.id (sym c.in-Some.is ∙ named)
    (subst (IsNewDesc real.book) c.in-Some.is c.requires) c.place.new.book c.new_desc-desc.result
    c.has_cloexec.result c.args.value c.args.flags
    (sym c.are_making_flags.ensures ∙ c.if-not-are_making_flags.false) c.in-Some-2.fd.0
    (subst (IsPlaced real.book c.place.new.book c.args.who c.in-Some.id c.new_desc-desc.result
    c.has_cloexec.result)
    c.in-Some-2.is c.in_ok-fd.ensures.ok)
    (c.new_desc-desc.ensures ∙ ap (new_desc (Counter c.args.value)) c.status_flags.ensures)
    c.has_cloexec.ensures

pub returns-in-None-clause-ok : goal.returns-in-None-clause-ok
returns-in-None-clause-ok c g k p whole st paired x named =
    let real = c.args.kernel.now in
    counter_full g real k p x st c.args.who paired c.in-Some.id (sym c.in-Some.is ∙ named)
    (subst (IsNewDesc real.book) c.in-Some.is c.requires) c.place.new.book c.new_desc-desc.result
    c.has_cloexec.result c.args.value c.args.flags
    (sym c.are_making_flags.ensures ∙ c.if-not-are_making_flags.false)
    (subst (IsPlaced real.book c.place.new.book c.args.who c.in-Some.id c.new_desc-desc.result
    c.has_cloexec.result)
    c.in-None.is c.in_ok-fd.ensures.ok)
