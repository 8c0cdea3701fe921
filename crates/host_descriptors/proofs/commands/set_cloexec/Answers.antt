use Rattle.std.specs.Prelude.{◌==◌, ◌%◌}
use Rattle.host_descriptors.proofs.HeldChanges.{cloexec_kept}
use Rattle.host_descriptors.proofs.commands.set_cloexec.Goals as goal

pub returns : goal.returns
returns c g k p whole st paired =
    cloexec_kept g c.args.kernel.now k st p c.args.who paired c.args.fd c.args.held c.requires.held
    (c.args.argument % 2 == 1) c.set_cloexec.new.self c.set_cloexec.ensures
