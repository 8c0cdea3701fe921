use Rattle.host_descriptors.proofs.HeldChanges.{owner_kept}
use Rattle.host_descriptors.proofs.commands.own.Goals as goal

pub returns : goal.returns
returns c g k st known =
    owner_kept g c.args.kernel.now k st c.args.held c.requires.there c.args.owner known c.set_owner.new.self
    c.set_owner.ensures
