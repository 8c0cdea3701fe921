use Rattle.std.proofs.Common.{subst}
use Rattle.ckpt_stages.specs.Elections.{LiveGoesOn}
use Rattle.ckpt_stages.specs.contracts.elected.Elected.{the_view}
use Rattle.ckpt_stages.proofs.Moved.{live_goes_on}
use Rattle.ckpt_stages.proofs.elected.Elected.all_drained.Goals as goal

pub returns-clause-live : goal.returns-clause-live
returns-clause-live c = λ left.
    subst LiveGoesOn c.self.view_is
    (live_goes_on (the_view c.self.inside) c.self.inside.ends.items c.self.invariant.led
    c.self.invariant.alive (c.is_done.ensures.going left))
