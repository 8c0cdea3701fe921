use Rattle.host_files.proofs.Moves.{moved_kept}
use Rattle.host_files.proofs.offsets.move_to.Goals as goal

pub returns : goal.returns
returns c g k at st file =
    moved_kept g c.args.kernel.now k st c.args.held.now c.requires.there c.args.number at file c.args.offset
    c.set_object.new.self c.set_object.ensures
