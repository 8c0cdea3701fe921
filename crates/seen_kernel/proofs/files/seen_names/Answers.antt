use Rattle.std.proofs.Common.{sym, subst}
use Rattle.seen_kernel.specs.Files.{AddsName}
use Rattle.seen_kernel.proofs.SeenFiles.{names_begun, names_on, files_fewer, names_done}
use Rattle.seen_kernel.proofs.files.seen_names.Goals as goal

pub loop-file-init : goal.loop-file-init
loop-file-init c =
    names_begun c.args.files.now c.add_name.new.seen
    (subst (λ old. AddsName c.args.files.now 0 old c.add_name.new.seen) c.new-seen.ensures
    c.in_ok-add_name.ensures.ok)

pub loop-file-preserved : goal.loop-file-preserved
loop-file-preserved c =
    names_on c.args.files.now c.loop-file.seen c.add_name-in-Some.new.seen c.loop-file.above c.in-Some.file
    c.whole.ensures (sym c.in-Some.ensures) c.loop-file.invariant c.in_ok-add_name-2.ensures.ok

pub loop-file-smaller : goal.loop-file-smaller
loop-file-smaller c =
    files_fewer c.args.files.now.files c.loop-file.above c.in-Some.file (sym c.in-Some.ensures)

pub returns : goal.returns
returns c unnamed =
    names_done c.args.files.now c.loop-file.seen c.loop-file.above c.whole.ensures unnamed
    (sym c.in_default.ensures) c.loop-file.invariant
