use Rattle.host_streams.proofs.BrokenPipes.{told_broken}
use Rattle.host_streams.proofs.broken.broken_pipe.Goals as goal

pub returns-clause-row : goal.returns-clause-row
returns-clause-row c g k p whole st paired t x at =
    told_broken g c.args.kernel.now k st p c.args.who paired c.args.thread c.requires t at c.raise.new.self
    c.raise.ensures.raised x
