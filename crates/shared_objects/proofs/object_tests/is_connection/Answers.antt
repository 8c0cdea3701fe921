use Rattle.std.proofs.Common.{sym, ◌∙◌}
use Rattle.shared_items.specs.SharedTests.{is_internet}
use Rattle.shared_objects.proofs.object_tests.is_connection.Goals as goal

pub returns-in-None : goal.returns-in-None
returns-in-None c = sym (c.in-None.ensures (λ channel. is_internet channel.kind))

pub returns-in-Some : goal.returns-in-Some
returns-in-Some c = c.is_internet.ensures ∙ sym (c.in-Some.ensures (λ channel. is_internet channel.kind))
