use Rattle.cut_stages.proofs.GoingOn.{refilling_further}
use Rattle.cut_stages.proofs.written.Written.step.Goals as goal

pub invariant_of-self : goal.invariant_of-self
invariant_of-self c =
    let base = c.self.inside.base in
    refilling_further base.system base.next_id base.stood.kernel base.owners c.self.inside.ends.items
    c.self.inside.refill c.self.invariant c.step.new.net c.step.new.self (record {
      net = c.step.ensures.net;
      fits = c.step.ensures.fits;
      agents = c.step.ensures.agents;
      frame = c.step.ensures.frame;
      kept = c.step.ensures.kept;
    })
