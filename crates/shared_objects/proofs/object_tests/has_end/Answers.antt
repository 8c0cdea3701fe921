use Rattle.std.proofs.Common.{sym, ◌∙◌}
use Rattle.shared_items.specs.SharedTests.{fits_mode}
use Rattle.shared_objects.proofs.object_tests.has_end.Goals as goal

pub returns-in-None : goal.returns-in-None
returns-in-None c = sym (c.in-None.ensures (λ channel. fits_mode channel.kind c.args.flags c.args.side))

pub returns-in-Some : goal.returns-in-Some
returns-in-Some c = c.fits_mode.ensures ∙ sym (c.in-Some.ensures (λ channel. fits_mode channel.kind c.args.flags c.args.side))
