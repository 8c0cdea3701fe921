use Rattle.std.proofs.Common.{Some, find, sym, ap, ◌∙◌}
use Rattle.std.specs.Option.{option_copied}
use Rattle.views.specs.NumberMap.{is_above}
use Rattle.trace_log.specs.Turns.{threads_in}
use Rattle.computation.proofs.Threads.{part_of}
use Rattle.computation.proofs.computation.Computation.next_thread.Goals as goal

pub returns-in_default : goal.returns-in_default
returns-in_default c =
    sym (ap (λ part. find (is_above (Some c.args.above)) (threads_in part)) (part_of c.args.self.now.guests c.args.p _ (sym (ap option_copied c.in_default.is) ∙ c.get.ensures)))

pub returns : goal.returns
returns c =
    c.next_thread.ensures
    ∙ sym (ap (λ part. find (is_above (Some c.args.above)) (threads_in part)) (part_of c.args.self.now.guests c.args.p _ (sym (ap option_copied c.in-Some.is) ∙ c.get.ensures)))
