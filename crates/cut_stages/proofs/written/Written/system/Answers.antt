use Rattle.std.proofs.Common.{subst}
use Rattle.refill_core.specs.Holding.{agents_of}
use Rattle.cut_stages.specs.Resumptions.{Filling}
use Rattle.cut_stages.specs.Holdings.{IsHeldBy}
use Rattle.cut_stages.proofs.Holding.{held_stands}
use Rattle.cut_stages.proofs.written.Written.system.Goals as goal

pub returns : goal.returns
returns c =
    let base = c.self.inside.base in
    subst (λ (v : Filling). IsHeldBy base.system v.kernel (agents_of v.notes)) c.self.view_is
    (held_stands base.system base.next_id base.stood.kernel base.owners (agents_of c.self.inside.refill)
    c.self.invariant.filling.cut)
