use Rattle.std.proofs.Common.{◌∙◌, lit≤}
use Rattle.plain_process.specs.Start.{return_code}
use Rattle.guest_start.proofs.Breaks.{code_page}
use Rattle.guest_start.proofs.start.return_page.Goals as goal

pub returns : goal.returns
returns c = c.write.ensures ∙ code_page return_code c.in_ok-page.page c.in_ok-page.ensures (lit≤ tt)
