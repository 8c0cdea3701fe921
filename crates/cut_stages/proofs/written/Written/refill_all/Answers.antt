use Rattle.cut_stages.proofs.GoingOn.{refilling_further}
use Rattle.cut_stages.proofs.written.Written.refill_all.Goals as goal

pub invariant_of-self : goal.invariant_of-self
invariant_of-self c =
    let base = c.self.inside.base in
    refilling_further base.system base.next_id base.stood.kernel base.owners c.self.inside.ends.items
    c.self.inside.refill c.self.invariant c.refill_through.new.net c.refill_through.new.refill
    c.refill_through.ensures.on
