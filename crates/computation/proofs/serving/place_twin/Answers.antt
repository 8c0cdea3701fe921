use Rattle.std.proofs.Common.{◌∙◌}
use Rattle.computation.proofs.Twins.{none_placed, one_placed}
use Rattle.computation.proofs.serving.place_twin.Goals as goal

pub returns-in_default-clause-ok : goal.returns-in_default-clause-ok
returns-in_default-clause-ok c guest there = none_placed _ c.in_ok-twin.twin _ c.args.guests.now _ (c.in_ok-twin.ensures guest there) c.in_default.is

pub returns-clause-ok : goal.returns-clause-ok
returns-clause-ok c guest there =
    c.in_ok-insert.ensures.ok ∙ one_placed _ c.in_ok-twin.twin _ c.in-Some.twin c.args.guests.now c.args.next (c.in_ok-twin.ensures guest there) c.in-Some.is
