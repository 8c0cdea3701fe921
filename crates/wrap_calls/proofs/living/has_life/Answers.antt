use Rattle.std.proofs.Common.{ap, ◌∙◌}
use Rattle.std.specs.Prelude.{is_some}
use Rattle.wrap_calls.proofs.SomeLife.{has_life_told}
use Rattle.wrap_calls.proofs.living.has_life.Goals as goal

pub returns : goal.returns
returns c k next_id w =
    c.is_some.ensures ∙ ap is_some c.next_process.ensures ∙ has_life_told c.args.system.now next_id k w
