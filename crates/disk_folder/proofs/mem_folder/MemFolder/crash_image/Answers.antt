use Rattle.std.proofs.Common.{take, ap, ◌∙◌}
use Rattle.disk_folder.specs.History.{image_after}
use Rattle.disk_folder.proofs.MemoryFolders.{image_left}
use Rattle.disk_folder.proofs.mem_folder.MemFolder.crash_image.Goals as goal

pub returns-clause-left : goal.returns-clause-left
returns-clause-left c =
    image_left _ _ c.args.k c.args.pattern c.in_ok-start.start c.self.view_is c.requires.last
    (c.in_ok-start.ensures ∙ ap (λ calls. image_after c.args.pattern c.self.inside.start (take c.args.k calls)) c.deref.ensures.value)
