use Rattle.std.proofs.Common.{sym, ◌∙◌}
use Rattle.plain_process.proofs.HandlerWords.{low_word}
use Rattle.plain_process.proofs.handlers.action_bytes.Goals as goal

pub returns : goal.returns
returns c =
    rw (
      c.to_le_bytes.ensures ∙ sym (low_word c.args.action.handler),
      c.to_le_bytes-2.ensures ∙ sym (low_word c.args.action.flags),
      c.to_le_bytes-3.ensures ∙ sym (low_word c.args.action.mask),
    )
