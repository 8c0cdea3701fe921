use Rattle.std.proofs.Common.{◌∙◌, ap, sym}
use Rattle.std.specs.Result.{is_ok}
use Rattle.std.proofs.lemmas.Bool.{true≢false}
use Rattle.plain_process.specs.declared.memory.Right.TheVariants.{Read}
use Rattle.guest_pages.proofs.Checks.{is_ok-checked}
use Rattle.process_memory.proofs.buffers.copy_span.Goals as goal

pub unreachable-requires : goal.unreachable-requires
unreachable-requires c =
    let refused = is_ok-checked c.copy_out.result c.args.space.now Read c.args.at.address c.args.at.length c.copy_out.ensures.refused in
    true≢false (sym c.requires.readable ∙ sym refused ∙ ap is_ok c.in-Err.is)
