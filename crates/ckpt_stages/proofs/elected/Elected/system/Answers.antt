use Rattle.std.proofs.Common.{subst}
use Rattle.drain_core.specs.Holding.{agents_of}
use Rattle.ckpt_stages.specs.Elections.{Draining}
use Rattle.cut_stages.specs.Holdings.{IsHeldBy}
use Rattle.cut_stages.proofs.Holding.{held_stands}
use Rattle.ckpt_stages.proofs.elected.Elected.system.Goals as goal

pub returns : goal.returns
returns c =
    let base = c.self.inside.base in
    subst (λ (v : Draining). IsHeldBy base.system v.kernel (agents_of v.notes)) c.self.view_is
    (held_stands base.system base.next_id base.stood.kernel base.owners (agents_of c.self.inside.drain)
    c.self.invariant.cut)
