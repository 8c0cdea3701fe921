use Rattle.std.proofs.Common.{◌≤◌, None, sym, ap, subst, ◌∙◌}
use Rattle.std.specs.Prelude.{IfSome}
use Rattle.views.proofs.Outcomes.{on_some}
use Rattle.sys_abi.specs.declared.record.Record.TheVariants.{Call}
use Rattle.plain_process.specs.declared.user_part.UserPart.{UserPart}
use Rattle.plain_process.specs.Buffers.{filled_spans}
use Rattle.plain_process.specs.Put.{CanTake, put, put_fault, error}
use Rattle.plain_process.specs.Valid.{CanAddAs}
use Rattle.plain_machine.proofs.MemoryPages.{no_bytes_taken}
use Rattle.plain_machine.proofs.PutBounds.{error_adds_nothing}
use Rattle.computation.specs.Computations.{plain_of}
use Rattle.computation.proofs.Numbered.{Numbered, numbered_put}
use Rattle.computation.proofs.Taking.{takes_valid}
use Rattle.computation.proofs.Effects.{fault_goes, missing_part, same_part, nobody, put_takes}
use Rattle.computation.proofs.computation.Computation.refuse.Goals as goal

pub unreachable-requires : goal.unreachable-requires
unreachable-requires c = nobody _ c.requires.asks.user (missing_part c.args.self.now.guests c.args.p c.in_default.ensures.value) c.requires.asks.there

pub answer-requires-clause-writable : goal.answer-requires-clause-writable
answer-requires-clause-writable c =
    let memory = c.in-Some.guest.now.user.memory in
    subst (CanTake memory (filled_spans memory c.args.request.now)) (sym c.clear.ensures) (no_bytes_taken memory (filled_spans memory c.args.request.now))

pub answer-requires-clause-added : goal.answer-requires-clause-added
answer-requires-clause-added c = subst (CanAddAs c.in-Some.guest.now.user) (sym (error_adds_nothing c.args.request.now 14)) tt

pub answer-requires-clause-spare : goal.answer-requires-clause-spare
answer-requires-clause-spare c = subst (λ added. IfSome added (λ _. 1 ≤ c.in-Some.guest.now.spare)) (sym (error_adds_nothing c.args.request.now 14)) tt

pub returns-clause-took : goal.returns-clause-took
returns-clause-took c taken =
    let asks = c.requires.asks in
    let same = same_part c.args.self.now.guests c.args.p c.in-Some.guest.now asks.user c.in-Some.ensures.value asks.there in
    put_takes c.args.self.now _ c.args.p c.answer.new.self (put_fault asks.user c.args.t.0 c.args.request.now) (Call c.args.p c.args.t)
    (fault_goes (plain_of c.args.self.now) c.args.p c.args.t asks.user c.args.request.now asks.there asks.asks (c.requires.fault asks.user asks.there))
    (on_some c.in-Some.is (c.get_mut.follows.holds c.answer.new.self))
    (c.answer.ensures.user ∙ ap (put c.in-Some.guest.now.user c.args.t.0 c.args.request.now (error 14)) c.clear.ensures ∙ ap (λ (u : UserPart). put_fault u c.args.t.0 c.args.request.now) same)
    c.args.trace.now c.append.new.self taken c.append.ensures

pub returns-clause-ready : goal.returns-clause-ready
returns-clause-ready c = record {
  valid = takes_valid _ _ _ _ _ _ c.requires.ready.valid (returns-clause-took c None);
  numbered = subst Numbered (sym (on_some c.in-Some.is (c.get_mut.follows.holds c.answer.new.self)))
      (numbered_put c.args.self.now.guests c.args.p c.answer.new.self c.requires.ready.numbered
      (c.answer.ensures.pid ∙ c.requires.ready.numbered c.args.p c.in-Some.guest.now (sym c.in-Some.ensures.value)));
}
