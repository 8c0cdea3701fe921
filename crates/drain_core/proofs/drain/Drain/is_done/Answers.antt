use Rattle.std.proofs.Common.{ap, sym, ◌∙◌}
use Rattle.drain_core.specs.Drains.{is_done}
use Rattle.drain_core.proofs.Ending.{done_is}
use Rattle.drain_core.proofs.Going.{goes_on}
use Rattle.drain_core.proofs.drain.Drain.is_done.Goals as goal

pub returns-clause-done : goal.returns-clause-done
returns-clause-done c = c.all_finished.ensures ∙ ap (is_done c.args.net.now.channels) (c.deref.ensures.value ∙ c.self.view_is)

pub returns-clause-work : goal.returns-clause-work
returns-clause-work c = returns-clause-done c ∙ done_is c.args.net.now.channels c.args.self.now c.requires

pub returns-clause-going : goal.returns-clause-going
returns-clause-going c = λ fails. goes_on c.args.net.now.channels c.args.self.now c.requires (sym (returns-clause-done c) ∙ fails)
