-- The answers of the call that makes the next record: how the run ends before it, and what is said once it is made.
use Rattle.std.proofs.Common.{◌<◌, sym, ◌∙◌, arith}
use Rattle.plain_machine.specs.Tests.{ended}
use Rattle.drive.specs.HandedOn.{plain_of}
use Rattle.drive.proofs.Choosing.{chosen_so, ended_if, goes_on_if, is_free, none_left}
use Rattle.drive.proofs.Ended.{at_end, at_full, at_rest, ended_so}
use Rattle.drive.proofs.Standstill.{stands_still}
use Rattle.drive.proofs.start.Start.make_record.Goals as goal

pub returns-then-not-lives-clause-ended : goal.returns-then-not-lives-clause-ended
returns-then-not-lives-clause-ended g c = λ schedule start room had told first going whole.
    let s = c.args.self.now in
    let over = ended_if (ended (plain_of s.computation)) (sym c.lives.ensures ∙ c.if-not-lives.true) in
    at_end schedule start (plain_of s.computation) going.upcoming c.args.trace.now _ room s.checkpointer _ _ _ going.under going.settled whole over

pub returns-then-room-eq0-clause-ended : goal.returns-then-room-eq0-clause-ended
returns-then-room-eq0-clause-ended g c = λ schedule start room had told first going whole.
    let s = c.args.self.now in
    let on = goes_on_if (ended (plain_of s.computation)) (sym c.lives.ensures ∙ c.if-not-lives.false) in
    at_full schedule start (plain_of s.computation) going.upcoming c.args.trace.now _ room s.checkpointer _ _ _ going.under (sym c.room.ensures ∙ c.if-room-eq0.true) whole on

pub returns-in_default-clause-ended : goal.returns-in_default-clause-ended
returns-in_default-clause-ended g c = λ schedule start room had told first going whole.
    let s = c.args.self.now in
    let h = plain_of s.computation in
    let some : 0 < c.args.trace.now.room = let room = c.room.ensures in let not_none = c.if-room-eq0.false in omega arith in
    let on = goes_on_if (ended h) (sym c.lives.ensures ∙ c.if-not-lives.false) in
    let nothing = none_left c.args.rounds.now h going.upcoming going.come (c.in_default.ensures.due going.upcoming going.come) in
    let still = stands_still h c.requires.ready.valid on nothing in
    at_rest schedule start h going.upcoming c.args.trace.now _ room s.checkpointer _ _ _ going.under (is_free _ _ _ _ c.args.trace.now _ _ _ _ going some) some whole still.0 still.1

pub step-requires-clause-drained : goal.step-requires-clause-drained
step-requires-clause-drained g c =
    let some : 0 < c.args.trace.now.room = let room = c.room.ensures in let not_none = c.if-room-eq0.false in omega arith in
    c.requires.drained some

pub returns-in-Ok-clause-going : goal.returns-in-Ok-clause-going
returns-in-Ok-clause-going g c = λ schedule start had told first going.
    let some : 0 < c.args.trace.now.room = let room = c.room.ensures in let not_none = c.if-room-eq0.false in omega arith in
    c.in-Ok.ensures.ok schedule start had told first
    (chosen_so schedule start c.args.self.now c.args.rounds.now c.args.trace.now _ _ _ _ going c.choose.new.self c.choose.result c.in-Some.choice some c.in-Some.is (c.choose.ensures.due going.upcoming going.come))

pub returns-in-Err-clause-ended : goal.returns-in-Err-clause-ended
returns-in-Err-clause-ended g c = λ schedule start room had told first going whole.
    let some : 0 < c.args.trace.now.room = let room = c.room.ensures in let not_none = c.if-room-eq0.false in omega arith in
    let chosen = chosen_so schedule start c.args.self.now c.args.rounds.now c.args.trace.now _ _ _ _ going c.choose.new.self c.choose.result c.in-Some.choice some c.in-Some.is (c.choose.ensures.due going.upcoming going.come) in
    ended_so _ _ c.ended_by.ensures (c.in-Err.ensures.ended schedule start room had told first chosen whole)
