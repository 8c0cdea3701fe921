use Rattle.std.proofs.Common.{sym, ap, subst, ◌∙◌}
use Rattle.seen_kernel.specs.Files.{with_file}
use Rattle.seen_kernel.proofs.SeenFiles.{FilesFront, files_begun, files_on, files_fewer, files_done}
use Rattle.seen_kernel.proofs.files.seen_files.Goals as goal

pub loop-file-init : goal.loop-file-init
loop-file-init c =
    subst (λ seen. FilesFront c.args.files.now.files seen 0)
    (sym (c.in_ok-add_file.ensures.ok ∙ ap (λ seen. with_file c.args.files.now.files seen 0)
    c.new-seen.ensures))
    (files_begun c.args.files.now.files)

pub loop-file-preserved : goal.loop-file-preserved
loop-file-preserved c =
    subst (λ seen. FilesFront c.args.files.now.files seen c.in-Some.file)
    (sym c.in_ok-add_file-2.ensures.ok)
    (files_on c.args.files.now.files c.loop-file.above c.in-Some.file (sym c.in-Some.ensures)
    c.loop-file.seen c.loop-file.invariant)

pub loop-file-smaller : goal.loop-file-smaller
loop-file-smaller c =
    files_fewer c.args.files.now.files c.loop-file.above c.in-Some.file (sym c.in-Some.ensures)

pub returns : goal.returns
returns c =
    files_done c.args.files.now.files c.loop-file.seen c.loop-file.above (sym c.in_default.ensures)
    c.loop-file.invariant
