use Rattle.std.proofs.Common.{◌∙◌, ap, sym}
use Rattle.std.specs.Result.{is_ok}
use Rattle.std.proofs.lemmas.Bool.{true≢false}
use Rattle.plain_process.specs.declared.memory.Right.TheVariants.{Read}
use Rattle.guest_pages.proofs.Checks.{is_ok-checked}
use Rattle.process_memory.proofs.reads.readable_word.Goals as goal

pub unreachable-requires : goal.unreachable-requires
unreachable-requires c =
    let refused = is_ok-checked c.load.result c.args.space.now Read c.args.address 4 c.load.ensures.refused in
    true≢false (sym c.requires ∙ sym refused ∙ ap is_ok c.in-Err.is)
