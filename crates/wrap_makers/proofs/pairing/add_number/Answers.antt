use Rattle.std.proofs.Common.{ap, ◌∙◌}
use Rattle.virt_ids.specs.Pairs.{Pairs}
use Rattle.wrap_makers.specs.Cloning.{without_pair}
use Rattle.wrap_makers.proofs.TakenOut.{pair_out}
use Rattle.wrap_makers.proofs.pairing.add_number.Goals as goal

pub returns-in_default-set_maker-clause-ids : goal.returns-in_default-set_maker-clause-ids
returns-in_default-set_maker-clause-ids c =
    c.drop_pid.ensures.dropped
    ∙ ap (λ (ids : Pairs). without_pair ids c.args.number) c.in-Ok.ensures.ok
    ∙ pair_out c.args.ids.now c.args.number c.args.real c.requires.new_number c.requires.new_real
