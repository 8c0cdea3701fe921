use Rattle.std.proofs.Common.{◌≡◌, ℕ, List, [], ◌∷◌, ◌++◌, length, sym, ap, subst, ◌∙◌, arith}
use Rattle.std.specs.FinMap as map
use Rattle.staged_cut.specs.HandedOn.{state_of}
use Rattle.image_codec.proofs.FittingKernels.{kernel_has_image}
use Rattle.image_codec.proofs.LiveParts.{parts_have_places}
use Rattle.checkpointer.specs.Sets.{SpellsState}
use Rattle.checkpointer.proofs.FilesOfProcesses.{count_of_files, each_has_file}
use Rattle.checkpointer.proofs.SpelledStates.{imaged, set_spelled, few_files}
use Rattle.checkpointer.proofs.set_files.images.Goals as goal

pub shared_file-requires : goal.shared_file-requires
shared_file-requires c = (imaged c.args.start.now c.requires.ready c.requires.held c.requires.arrived kernel_has_image).spelled

pub push_files-requires : goal.push_files-requires
push_files-requires c = each_has_file c.args.start.now c.requires.ready

pub returns-clause-spelled : goal.returns-clause-spelled
returns-clause-spelled c =
    let start = c.args.start.now in
    let one = c.in_ok-push.ensures.ok ∙ ap (λ (files : List (List ℕ)). files ++ c.in_ok-first.first ∷ []) c.new-files.ensures in
    let pushed = c.in_ok-push_files.ensures in
    let texts : c.of_files.result.files ≡ c.in_ok-first.first ∷ pushed.0 = c.of_files.ensures ∙ pushed.1.0 ∙ ap (λ (files : List (List ℕ)). files ++ pushed.0) one in
    subst (λ (files : List (List ℕ)). SpellsState files (state_of start)) (sym texts)
    (set_spelled start c.requires.ready c.requires.held c.requires.arrived kernel_has_image parts_have_places c.in_ok-first.first pushed.0
    c.in_ok-first.ensures pushed.1.1)

pub returns-clause-few : goal.returns-clause-few
returns-clause-few c =
    let start = c.args.start.now in
    let one = c.in_ok-push.ensures.ok ∙ ap (λ (files : List (List ℕ)). files ++ c.in_ok-first.first ∷ []) c.new-files.ensures in
    let pushed = c.in_ok-push_files.ensures in
    let texts : c.of_files.result.files ≡ c.in_ok-first.first ∷ pushed.0 = c.of_files.ensures ∙ pushed.1.0 ∙ ap (λ (files : List (List ℕ)). files ++ pushed.0) one in
    let size = ap length texts in
    let count = count_of_files (map.entries start.guests) pushed.0 pushed.1.1 in
    let few = few_files start c.requires.ready c.requires.held c.requires.arrived kernel_has_image parts_have_places in
    omega arith
