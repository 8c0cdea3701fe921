use Rattle.std.proofs.Common.{sym, ap, ◌∙◌}
use Rattle.shared_reader.specs.HoldersOf.{verdict}
use Rattle.shared_reader.proofs.HolderLaws.{rightly_held}
use Rattle.shared_reader.proofs.whole.is_rightly_held.Goals as goal

pub returns : goal.returns
returns c =
    c.is_held_by.ensures
    ∙ ap (verdict c.args.channels.now c.args.processes.now c.args.description.now) (c.copied-found.ensures ∙ c.get.ensures ∙ c.requires.holders c.args.description.now.id)
    ∙ sym (rightly_held c.args.channels.now c.args.processes.now c.args.description.now)
