use Rattle.std.proofs.Common.{sym, ◌∙◌}
use Rattle.guest_pages.proofs.InPage.{number_of-4}
use Rattle.guest_pages.proofs.access.word_in.Goals as goal

pub returns : goal.returns
returns c = c.from_le_bytes.ensures ∙ sym (number_of-4 c.args.page.now c.args.offset)
