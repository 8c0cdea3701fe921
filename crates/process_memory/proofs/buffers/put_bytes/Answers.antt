use Rattle.std.proofs.Common.{◌∙◌, ap, sym}
use Rattle.std.specs.Result.{is_ok}
use Rattle.std.proofs.lemmas.Bool.{true≢false}
use Rattle.plain_process.specs.declared.memory.Right.TheVariants.{Write}
use Rattle.guest_pages.proofs.Checks.{is_ok-checked}
use Rattle.std.specs.Prelude.{length}
use Rattle.process_memory.proofs.buffers.put_bytes.Goals as goal

pub unreachable-requires : goal.unreachable-requires
unreachable-requires c =
    let refused = is_ok-checked c.copy_in.result c.args.space.now Write c.args.address (length c.args.bytes.now) c.copy_in.ensures.refused in
    true≢false (sym c.requires ∙ sym refused ∙ ap is_ok c.in-Err.is)
