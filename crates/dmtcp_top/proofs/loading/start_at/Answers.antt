use Rattle.dmtcp_top.proofs.Loads.{begins_at}
use Rattle.dmtcp_top.proofs.loading.start_at.Goals as goal

pub returns : goal.returns
returns c =
    begins_at c.args.origin c.in_ok-system.system c.in_ok-system.guests c.args.checkpoints c.requires.can
    c.in_ok-system.ensures
