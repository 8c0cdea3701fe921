use Rattle.std.proofs.Common.{sym, ap, ◌∙◌}
use Rattle.wire_net.specs.Networks.{Network}
use Rattle.cut_stages.proofs.Cutting.{on_channels}
use Rattle.ckpt_stages.proofs.draining.act.Goals as goal

pub returns-clause-on : goal.returns-clause-on
returns-clause-on c = record {
  net =
      c.step.ensures.net
      ∙ ap (on_channels c.args.net.now) (sym (ap (λ (t : Network). t.channels) c.step.ensures.net));
  fits = c.step.ensures.fits;
  agents = c.step.ensures.agents;
  frame = c.step.ensures.frame;
  kept = c.step.ensures.kept;
}
