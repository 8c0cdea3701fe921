use Rattle.std.proofs.Common.{◌∙◌, ap, sym}
use Rattle.guest_proc.specs.Guests.{with_user}
use Rattle.guest_proc.proofs.LocalAnswers.{local_none, local_fault, same_rest, local_answered, local_refused, local_wanted}
use Rattle.guest_proc.proofs.guest.Guest.local.Goals as goal

pub returns-then-not-has_thread-clause-ok : goal.returns-then-not-has_thread-clause-ok
returns-then-not-has_thread-clause-ok c = ap (with_user c.args.self.now) (local_none c.args.self.now.user c.args.t.0 c.args.request.now (sym c.if-not-has_thread.ensures))

pub returns-then-not-is_lendable-clause-ok : goal.returns-then-not-is_lendable-clause-ok
returns-then-not-is_lendable-clause-ok c =
    c.put_error.ensures
    ∙ ap (with_user c.args.self.now) (local_fault c.args.self.now.user c.args.t.0 c.args.request.now (sym c.if-not-has_thread.ensures) (sym c.if-not-is_lendable.ensures))

pub returns-in-Ok-clause-ok : goal.returns-in-Ok-clause-ok
returns-in-Ok-clause-ok c =
    c.put_local.ensures c.args.self.now.user
    ∙ same_rest c.args.self.now c.call_alone.new.self _ c.in-Ok.ensures.pid c.in-Ok.ensures.spare
    ∙ ap (with_user c.args.self.now)
    (local_answered c.args.self.now.user c.call_alone.new.self.user c.args.t.0 c.args.request.now (sym c.if-not-has_thread.ensures) (sym c.if-not-is_lendable.ensures) c.in-Ok.answer c.in-Ok.ensures.call)

pub returns-in-Err-Refused-clause-ok : goal.returns-in-Err-Refused-clause-ok
returns-in-Err-Refused-clause-ok c =
    c.put_error-in-Err-Refused.ensures
    ∙ same_rest c.args.self.now c.call_alone.new.self _ c.in-Err-Refused.ensures.pid c.in-Err-Refused.ensures.spare
    ∙ ap (with_user c.args.self.now)
    (local_refused c.args.self.now.user c.call_alone.new.self.user c.args.t.0 c.args.request.now (sym c.if-not-has_thread.ensures) (sym c.if-not-is_lendable.ensures) c.in-Err-Refused.errno
    (rw c.in-Err-Refused.field-0-is at c.in-Err-Refused.ensures.call))

pub returns-in-Err-Memory-clause-err : goal.returns-in-Err-Memory-clause-err
returns-in-Err-Memory-clause-err c =
    let user = local_wanted c.args.self.now.user c.call_alone.new.self.user c.args.t.0 c.args.request.now (sym c.if-not-has_thread.ensures) (sym c.if-not-is_lendable.ensures)
    (rw c.in-Err-Memory.field-0-is at c.in-Err-Memory.ensures.call) in
    λ k. record { pid = c.in-Err-Memory.ensures.pid k; user = user k; spare = c.in-Err-Memory.ensures.spare k }
