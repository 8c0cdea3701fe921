use Rattle.std.proofs.Common.{refl, ◌∙◌, subst}
use Rattle.call_table.specs.declared.request.Request.TheVariants.{Futex}
use Rattle.plain_process.specs.Put.{added_thread}
use Rattle.plain_process.specs.Local.{local_by}
use Rattle.process_memory.specs.Local.{DoesRow, value_told}
use Rattle.thread_group.specs.Groups.{joined}
use Rattle.thread_group.specs.Local.{stays_told}
use Rattle.process_memory.proofs.LocalReads.{wait_reads}
use Rattle.thread_group.proofs.LocalCalls.{value_call, quiet_call, lent_given, futex_waits, futex_wakes, futex_fails}
use Rattle.thread_group.proofs.group.ThreadGroup.futex.Goals as goal

pub returns-then-is_wait-clause-call : goal.returns-then-is_wait-clause-call
unfolding local_by
returns-then-is_wait-clause-call c =
    let named = Futex c.args.address c.args.operation c.args.value c.args.timeout in
    quiet_call (joined c.args.memory.now c.args.self.now) (joined c.args.memory.now c.futex_wait.new.self) c.args.t.0 named named c.futex_wait.result c.no_answer.result refl c.no_answer.ensures
    (λ thread given asked. subst (λ row. DoesRow stays_told (joined c.args.memory.now c.args.self.now) (joined c.args.memory.now c.futex_wait.new.self) row c.futex_wait.result)
    (futex_waits (joined c.args.memory.now c.args.self.now) c.args.t.0 given c.args.address c.args.operation c.args.value c.args.timeout c.if-is_wait.ensures)
    (c.futex_wait.ensures.row c.args.memory.now given (c.word_at-word.ensures ∙ wait_reads c.args.memory.now.pages c.args.address c.args.operation c.args.value c.args.timeout given c.if-is_wait.ensures
    (lent_given c.args.memory.now.pages named given asked.read))))

pub returns-then-is_wake-clause-call : goal.returns-then-is_wake-clause-call
unfolding local_by added_thread
returns-then-is_wake-clause-call c =
    let named = Futex c.args.address c.args.operation c.args.value c.args.timeout in
    value_call (joined c.args.memory.now c.args.self.now) (joined c.args.memory.now c.futex_wake.new.self) c.args.t.0 named named c.futex_wake.result c.value_answer.result refl c.value_answer.ensures
    (λ thread given asked. subst (λ row. DoesRow value_told (joined c.args.memory.now c.args.self.now) (joined c.args.memory.now c.futex_wake.new.self) row c.futex_wake.result)
    (futex_wakes (joined c.args.memory.now c.args.self.now) c.args.t.0 given c.args.address c.args.operation c.args.value c.args.timeout c.if-is_wait.ensures c.if-is_wake.ensures)
    (c.futex_wake.ensures.row c.args.memory.now)) (λ value. refl)

pub returns-clause-call : goal.returns-clause-call
unfolding local_by
returns-clause-call c = record {
  row = λ thread given asked.
      (futex_fails (joined c.args.memory.now c.args.self.now) c.args.t.0 given c.args.address c.args.operation c.args.value c.args.timeout c.if-is_wait.ensures c.if-is_wake.ensures, refl);
  fits = tt;
}
