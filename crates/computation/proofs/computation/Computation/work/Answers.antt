use Rattle.std.proofs.Common.{◌≡◌, sym, ap, subst, ◌∙◌}
use Rattle.plain_process.specs.Steps.{user_step}
use Rattle.sys_abi.specs.declared.record.Record.TheVariants.{User, Deliver}
use Rattle.guest_proc.specs.declared.ran.Ran.TheVariants.{Whole, Asks, Trapped, Waits}
use Rattle.computation.specs.Computations.{plain_of, CanWork, IsTurnAt}
use Rattle.trace_log.specs.Turns.{goes_on_at}
use Rattle.computation.proofs.Due.{goes_at_place, user_due, trap_due, waits_still}
use Rattle.computation.proofs.Quanta.{stands_not}
use Rattle.computation.proofs.Threads.{asks_at, traps_at, trap_can}
use Rattle.computation.proofs.computation.Computation.work.Goals as goal

pub call-requires-clause-asks : goal.call-requires-clause-asks
call-requires-clause-asks g c =
    let at = (subst (CanWork (plain_of c.args.self.now) c.args.p c.args.t) c.in-GoOn-Asks.is c.requires.turn).stands in
    let is : c.in-GoOn-Asks.field-0 ≡ Asks c.in-GoOn-Asks.request = rw c.in-GoOn-Asks.is at c.in-GoOn-Asks.field-0-is in
    record {
      user = at.user;
      there = at.there;
      asks = asks_at (user_step at.user c.args.t.0) c.in-GoOn-Asks.request (sym at.stands ∙ is);
    }

pub call-requires-clause-goes : goal.call-requires-clause-goes
call-requires-clause-goes g c =
    let h = plain_of c.args.self.now in
    let can = subst (CanWork h c.args.p c.args.t) c.in-GoOn-Asks.is c.requires.turn in
    let at = can.stands in
    let is : c.in-GoOn-Asks.field-0 ≡ Asks c.in-GoOn-Asks.request = rw c.in-GoOn-Asks.is at c.in-GoOn-Asks.field-0-is in
    let asks = asks_at (user_step at.user c.args.t.0) c.in-GoOn-Asks.request (sym at.stands ∙ is) in
    sym (ap (goes_on_at h c.args.p c.args.t.0) asks) ∙ goes_at_place h c.args.p c.args.t.0 at.user at.there can.goes

pub deliver-requires-in-GoOn-Trapped-clause-due : goal.deliver-requires-in-GoOn-Trapped-clause-due
deliver-requires-in-GoOn-Trapped-clause-due g c =
    let h = plain_of c.args.self.now in
    let at = (subst (CanWork h c.args.p c.args.t) c.in-GoOn-Trapped.is c.requires.turn).stands in
    let is : c.in-GoOn-Trapped.field-0 ≡ Trapped c.in-GoOn-Trapped.signal = rw c.in-GoOn-Trapped.is at c.in-GoOn-Trapped.field-0-is in
    trap_can h c.args.p c.args.t c.in-GoOn-Trapped.signal at.user at.there (traps_at (user_step at.user c.args.t.0) c.in-GoOn-Trapped.signal (sym at.stands ∙ is))

pub unreachable-requires : goal.unreachable-requires
unreachable-requires g c =
    let h = plain_of c.args.self.now in
    let can = subst (CanWork h c.args.p c.args.t) c.in-GoOn-Waits.is c.requires.turn in
    let at = can.stands in
    let is : c.in-GoOn-Waits.field-0 ≡ Waits = rw c.in-GoOn-Waits.is at c.in-GoOn-Waits.field-0-is in
    waits_still h c.args.p c.args.t.0 (user_step at.user c.args.t.0) (sym at.stands ∙ is) (goes_at_place h c.args.p c.args.t.0 at.user at.there can.goes)

pub returns-in-GoOn-Trapped-clause-ok : goal.returns-in-GoOn-Trapped-clause-ok
returns-in-GoOn-Trapped-clause-ok g c =
    let h = plain_of c.args.self.now in
    let at = (subst (CanWork h c.args.p c.args.t) c.in-GoOn-Trapped.is c.requires.turn).stands in
    let is : c.in-GoOn-Trapped.field-0 ≡ Trapped c.in-GoOn-Trapped.signal = rw c.in-GoOn-Trapped.is at c.in-GoOn-Trapped.field-0-is in
    let traps = traps_at (user_step at.user c.args.t.0) c.in-GoOn-Trapped.signal (sym at.stands ∙ is) in
    record {
      noted = Deliver c.args.p c.args.t c.in-GoOn-Trapped.signal;
      took = c.deliver-in-GoOn-Trapped.ensures.took (g.O.Sink.seen c.args.out.now).taken;
      kind = tt;
      told = tt;
      due = λ here turn. trap_due h c.args.p c.args.t c.in-GoOn-Trapped.signal at.user at.there traps c.in-GoOn-Trapped.field-0 here (subst (λ next. IsTurnAt h c.args.p c.args.t next here) c.in-GoOn-Trapped.is turn);
    }

pub returns-in-GoOn-Whole-clause-ok : goal.returns-in-GoOn-Whole-clause-ok
returns-in-GoOn-Whole-clause-ok g c =
    let h = plain_of c.args.self.now in
    let at = (subst (CanWork h c.args.p c.args.t) c.in-GoOn-Whole.is c.requires.turn).stands in
    let is : c.in-GoOn-Whole.field-0 ≡ Whole = rw c.in-GoOn-Whole.is at c.in-GoOn-Whole.field-0-is in
    let moves = stands_not (user_step at.user c.args.t.0) (sym at.stands ∙ is) in
    let ran = c.run_quantum-stands.ensures.took in
    record {
      noted = User c.args.p c.args.t ran.0;
      took = ran.1 (g.O.Sink.seen c.args.out.now).taken;
      kind = tt;
      told = c.run_quantum-stands.ensures.told;
      due = λ here turn. user_due h c.args.p c.args.t ran.0 at.user at.there moves c.in-GoOn-Whole.field-0 here (subst (λ next. IsTurnAt h c.args.p c.args.t next here) c.in-GoOn-Whole.is turn);
    }
