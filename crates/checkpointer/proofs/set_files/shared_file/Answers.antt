use Rattle.std.proofs.Common.{◌≡◌, ℕ, List, sym, subst}
use Rattle.shared_items.specs.declared.shared.Shared.{Shared}
use Rattle.shared_items.specs.SharedFormat.{SpellsShared}
use Rattle.shared_items.specs.SharedFits.{IsShared}
use Rattle.image_codec.specs.KernelImages.{shared_of}
use Rattle.checkpointer.proofs.set_files.shared_file.Goals as goal

pub write_shared-requires : goal.write_shared-requires
write_shared-requires c = subst IsShared (sym c.in_ok-shared.ensures.image) c.requires

pub returns : goal.returns
returns c = subst (λ (file : List ℕ). SpellsShared file (shared_of c.args.kernel.now)) (sym c.from_vec.ensures)
    (subst (λ (s : Shared). SpellsShared c.in_ok-file.file.items s) c.in_ok-shared.ensures.image c.in_ok-file.ensures)
