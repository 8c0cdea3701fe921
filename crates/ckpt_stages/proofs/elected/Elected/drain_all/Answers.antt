use Rattle.cut_stages.proofs.Cutting.{drained_step}
use Rattle.ckpt_stages.proofs.elected.Elected.drain_all.Goals as goal

pub invariant_of-self : goal.invariant_of-self
invariant_of-self c =
    let base = c.self.inside.base in
    let on = c.drain_through.ensures.on in
    drained_step base.system base.next_id base.stood.kernel base.owners c.self.inside.ends.items
    c.self.inside.drain
    c.self.invariant c.drain_through.new.net c.drain_through.new.drain on.net on.frame on.fits on.agents on.kept
