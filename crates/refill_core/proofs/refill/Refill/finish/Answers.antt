use Rattle.refill_core.proofs.Ending.{back_again}
use Rattle.refill_core.proofs.refill.Refill.finish.Goals as goal

pub returns : goal.returns
returns c = record { back = back_again c.args.net.now c.args.self c.requires.fits c.requires.done }
