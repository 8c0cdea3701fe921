use Rattle.std.proofs.Common.{ap, sym, ◌∙◌}
use Rattle.refill_core.specs.Work.{is_done}
use Rattle.refill_core.specs.Stepping.{state}
use Rattle.refill_core.proofs.Ending.{done_is, back_again}
use Rattle.refill_core.proofs.Going.{goes_on}
use Rattle.refill_core.proofs.refill.Refill.is_done.Goals as goal

pub returns-clause-done : goal.returns-clause-done
returns-clause-done c = c.all_finished.ensures ∙ ap (is_done c.args.net.now.channels) (c.deref.ensures.value ∙ c.self.view_is)

pub returns-clause-work : goal.returns-clause-work
returns-clause-work c = returns-clause-done c ∙ done_is c.args.net.now.channels c.args.self.now

pub returns-clause-going : goal.returns-clause-going
returns-clause-going c = λ fails. goes_on (state c.args.self.now c.args.net.now) c.requires (sym (returns-clause-done c) ∙ fails)

pub returns-clause-back : goal.returns-clause-back
returns-clause-back c = λ done. back_again c.args.net.now c.args.self.now c.requires (sym (returns-clause-done c) ∙ done)
