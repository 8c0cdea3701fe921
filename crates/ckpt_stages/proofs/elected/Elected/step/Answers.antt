use Rattle.std.proofs.Common.{sym, ap, ◌∙◌}
use Rattle.wire_net.specs.Networks.{Network}
use Rattle.cut_stages.proofs.Cutting.{on_channels, drained_step}
use Rattle.ckpt_stages.proofs.elected.Elected.step.Goals as goal

pub invariant_of-self : goal.invariant_of-self
invariant_of-self c =
    let base = c.self.inside.base in
    drained_step base.system base.next_id base.stood.kernel base.owners c.self.inside.ends.items
    c.self.inside.drain
    c.self.invariant c.step.new.net c.step.new.self
    (c.step.ensures.net ∙ ap (on_channels base.system.kernel.net) (sym (ap (λ (t : Network). t.channels)
    c.step.ensures.net)))
    c.step.ensures.frame c.step.ensures.fits c.step.ensures.agents c.step.ensures.kept
