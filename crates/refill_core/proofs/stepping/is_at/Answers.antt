use Rattle.std.proofs.Common.{ap, sym, ◌∙◌}
use Rattle.std.specs.Ordering.{is_eq}
use Rattle.refill_core.proofs.Places.{at_found}
use Rattle.refill_core.proofs.stepping.is_at.Goals as goal

pub returns-clause-found : goal.returns-clause-found
returns-clause-found c = λ there.
    at_found c.args.all.now c.args.place c.index-all-place.result c.args.d c.if-place-all.false c.requires
    (ap is_eq (sym c.cmp.ensures) ∙ sym c.is_eq.ensures ∙ there)
