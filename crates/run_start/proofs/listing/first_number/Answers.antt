use Rattle.std.proofs.Common.{sym, ◌∙◌}
use Rattle.run_start.proofs.Listed.{first_there, none_there}
use Rattle.run_start.proofs.listing.first_number.Goals as goal

pub returns-in-Some-clause-some : goal.returns-in-Some-clause-some
returns-in-Some-clause-some c =
    first_there c.args.guests.now c.in-Some.p.now c.next.new.self (sym c.keys.ensures ∙ c.in-Some.ensures.steps)

pub returns-in-None-clause-none : goal.returns-in-None-clause-none
returns-in-None-clause-none c none = none_there c.args.guests.now (sym c.keys.ensures ∙ c.in-None.ensures.steps.0)
