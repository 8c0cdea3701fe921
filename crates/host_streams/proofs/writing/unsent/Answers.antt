use Rattle.std.proofs.Common.{length, sym, ◌∙◌, subst}
use Rattle.std.specs.Prelude.{IsErr}
use Rattle.wire_channels.specs.Answers.{send_answer_on}
use Rattle.host_streams.proofs.Readiness.{direction_gone, direction_found, broken_found}
use Rattle.host_streams.proofs.ReadRows.{no_direction}
use Rattle.host_streams.proofs.WriteRows.{write_refused, write_nothing, write_broken, write_full, full_answer}
use Rattle.host_streams.proofs.writing.unsent.Goals as goal

pub returns-then-not-has-clause-row : goal.returns-then-not-has-clause-row
returns-then-not-has-clause-row c g k p whole st paired t at =
    let real = c.args.kernel.now in
    let d = c.args.to in
    write_refused g real k st p t d c.args.count c.args.transfer.now
    (no_direction g real k st d c.requires.near
    (direction_gone real.net.channels d (sym c.has.ensures ∙ c.if-not-has.true)))

pub returns-then-count-eq0-clause-row : goal.returns-then-count-eq0-clause-row
returns-then-count-eq0-clause-row c g k p whole st paired t at =
    let real = c.args.kernel.now in
    let d = c.args.to in
    let found = direction_found real.net.channels d (sym c.has.ensures ∙ c.if-not-has.false) in
    write_nothing g real k st p t d c.args.count c.args.transfer.now c.requires.near found.0 found.1
    c.if-count-eq0.true

pub returns-then-is_broken_at-clause-row : goal.returns-then-is_broken_at-clause-row
returns-then-is_broken_at-clause-row c g k p whole st paired t at =
    let real = c.args.kernel.now in
    let d = c.args.to in
    let found = direction_found real.net.channels d (sym c.has.ensures ∙ c.if-not-has.false) in
    write_broken g real k st p t d c.args.count c.args.transfer.now c.requires.near found.0 found.1
    c.if-count-eq0.false
    (broken_found real.net d found.0 found.1 ∙ sym c.is_broken_at.ensures ∙ c.if-is_broken_at.true)
    c.broken_pipe.new.kernel c.broken_pipe.result
    (c.broken_pipe.ensures.row g k p whole st paired t c.args.transfer.now at)

pub returns-clause-row : goal.returns-clause-row
returns-clause-row c g k p whole st paired t at =
    let real = c.args.kernel.now in
    let d = c.args.to in
    let given = c.args.transfer.now in
    let found = direction_found real.net.channels d (sym c.has.ensures ∙ c.if-not-has.false) in
    let flows = broken_found real.net d found.0 found.1 ∙ sym c.is_broken_at.ensures
    ∙ c.if-is_broken_at.false in
    write_full g real k st p t d c.args.count given c.requires.near found.0 found.1 c.if-count-eq0.false flows
    (full_answer found.0 (length given) flows
    (subst (λ o. IsErr (send_answer_on o (length given))) found.1 (c.requires.refused c.if-count-eq0.false)))
