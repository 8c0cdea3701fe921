use Rattle.std.proofs.Common.{◌≡◌, ◌∙◌, refl, sym}
use Rattle.std.specs.Prelude.{Some}
use Rattle.plain_process.specs.Buffers.{lent}
use Rattle.process_memory.proofs.LendLemmas.{unreadable, unwritable, lent_whole}
use Rattle.process_memory.proofs.buffers.lend_from.Goals as goal

pub returns-in_default-clause-fault : goal.returns-in_default-clause-fault
returns-in_default-clause-fault c =
    (λ e. unreadable c.args.space.now c.args.request.now c.reads_of.result c.reads_of.ensures.source c.in_default.ensures, λ e. refl)

pub returns-then-not-can_write_all-clause-fault : goal.returns-then-not-can_write_all-clause-fault
returns-then-not-can_write_all-clause-fault c =
    (λ e. unwritable c.args.space.now c.args.request.now c.reads_of.result _ c.reads_of.ensures.source c.written_spans.ensures (sym c.if-not-can_write_all.ensures), λ e. refl)

whole : (c : goal.After-copy_span) → lent c.args.space.now c.args.request.now ≡ Some c.copy_span.new.transfer
whole c =
    lent_whole c.args.space.now c.args.request.now c.reads_of.result _ c.copy_span.new.transfer c.reads_of.ensures.source c.written_spans.ensures
    (c.in-Some.ensures.0 ∙ c.copy_span.ensures) (sym c.if-not-can_write_all.ensures)

pub returns-clause-ok : goal.returns-clause-ok
returns-clause-ok c = whole c

pub returns-clause-fault : goal.returns-clause-fault
returns-clause-fault c = let is = whole c in (λ e. cc, λ e. cc)
