use Rattle.std.proofs.Common.{sym, ◌∙◌}
use Rattle.seen_kernel.proofs.SeenKernel.{none_unnamed}
use Rattle.seen_kernel.proofs.kernel.seen_stored.Goals as goal

pub returns : goal.returns
returns c held k is =
    let names = c.in_ok-names.ensures (none_unnamed c.args.system.now held k is)
    ∙ sym is.tables.files.names_are in
    let files = c.in_ok-files.ensures ∙ sym is.tables.files.files_are in λ i. (names i, files i)
