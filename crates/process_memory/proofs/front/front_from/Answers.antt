use Rattle.std.proofs.Common.{◌≡◌, List, ℕ, refl, sym, ap, ◌∙◌}
use Rattle.std.specs.Prelude.{Some, is_some, true}
use Rattle.plain_process.specs.declared.memory.Right.TheVariants.{Read}
use Rattle.plain_process.specs.Memory.{bytes_at}
use Rattle.plain_process.specs.Buffers.{lent}
use Rattle.process_memory.proofs.LendLemmas.{unreadable, unwritable, lent_whole}
use Rattle.process_memory.proofs.Fronts.{given_read, never_missing}
use Rattle.process_memory.proofs.front.front_from.Goals as goal

pub returns-in_err-at-clause-fault : goal.returns-in_err-at-clause-fault
returns-in_err-at-clause-fault c =
    (λ e. unreadable c.args.space.now c.args.request.now c.reads_of.result c.reads_of.ensures.source c.in_err-at.ensures, λ e. c.from_residual.ensures)

pub returns-then-not-can_write_all-clause-fault : goal.returns-then-not-can_write_all-clause-fault
returns-then-not-can_write_all-clause-fault c =
    (λ e. unwritable c.args.space.now c.args.request.now c.reads_of.result _ c.reads_of.ensures.source c.written_spans.ensures (sym c.if-not-can_write_all.ensures), λ e. refl)

there : (c : goal.After-front_of_span) → is_some (bytes_at c.args.space.now Read c.in_ok-at.at.address c.in_ok-at.at.length) ≡ true
there c = ap is_some (sym c.in_ok-at.ensures.0) ∙ c.in_ok-at.ensures.1

whole : (c : goal.After-front_of_span) (xs : List ℕ) → bytes_at c.args.space.now Read c.in_ok-at.at.address c.in_ok-at.at.length ≡ Some xs → lent c.args.space.now c.args.request.now ≡ Some xs
whole c xs read =
    lent_whole c.args.space.now c.args.request.now c.reads_of.result _ xs c.reads_of.ensures.source c.written_spans.ensures
    (c.in_ok-at.ensures.0 ∙ read) (sym c.if-not-can_write_all.ensures)

pub returns-clause-fault : goal.returns-clause-fault
returns-clause-fault c = (λ e. cc, λ e. absurd (never_missing _ (there c) (whole c) e))

pub returns-clause-front : goal.returns-clause-front
returns-clause-front c = λ given is. c.front_of_span.ensures given (given_read _ (there c) (whole c) given is)
