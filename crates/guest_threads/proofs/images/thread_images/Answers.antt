use Rattle.std.proofs.Common.{map as each, ap, sym, ◌∙◌}
use Rattle.std.proofs.lemmas.List.{take_all}
use Rattle.image_process.specs.UserParts.{thread_entry}
use Rattle.guest_threads.specs.Rows.{entries_of}
use Rattle.guest_threads.proofs.RowLaws.{entries-rows}
use Rattle.guest_threads.proofs.images.thread_images.Goals as goal

pub returns : goal.returns
returns c =
    ap (each thread_entry) c.from_vec.ensures ∙ c.loop-row.invariant ∙ ap entries_of (take_all c.loop-row.row-index c.args.rows.now c.loop-row-test.false)
    ∙ sym (entries-rows c.args.rows.now c.requires)
