use Rattle.std.proofs.Common.{◌≡◌, ◌<◌, ◌≤◌, ◌+◌, arith, refl, length, vec_len, vec_capacity}
use Rattle.std.proofs.lemmas.Bool.Decides.{nat_tests}
use Rattle.trace_log.proofs.Lists.{Spell-unique, Spell-not_bad, ReadTo-bad, ReadTo-push, ReadTo-end, AllSpelled-list_all}
use Rattle.trace_log.proofs.trace.Trace.from_bytes.Goals as goal

pub returns-in_default-clause-readable : goal.returns-in_default-clause-readable
returns-in_default-clause-readable c = λ records place spelled e.
    let more : 0 < length c.loop-rest.rest.now = let test = c.loop-rest-test.ensures in grind (arith, nat_tests) in
    Spell-not_bad records c.args.bytes.now _ spelled
    (ReadTo-bad c.args.bytes.now c.loop-rest.records.items c.loop-rest.rest.now _ c.loop-rest.invariant refl more c.in_default.ensures.none)

pub loop-rest-preserved : goal.loop-rest-preserved
loop-rest-preserved c =
    ReadTo-push c.args.bytes.now c.loop-rest.records.items c.push.new.self.items c.loop-rest.rest.now c.in-Some.event
    c.loop-rest.invariant c.in-Some.ensures.some c.in_ok-push.ensures.items

pub invariant_of-result : goal.invariant_of-result
invariant_of-result c =
    let holds : vec_len c.loop-rest.records + 0 ≤ vec_capacity c.loop-rest.records = let ok = c.loop-rest.records.ok in omega arith in
    (holds, AllSpelled-list_all c.loop-rest.records.items c.loop-rest.invariant.front)

pub returns-clause-unique : goal.returns-clause-unique
returns-clause-unique c = λ records spelled.
    let none : length c.loop-rest.rest.now ≡ 0 = let test = c.loop-rest-test.ensures in grind (arith, nat_tests) in
    Spell-unique c.loop-rest.records.items records c.args.bytes.now
    (ReadTo-end c.args.bytes.now c.loop-rest.records.items c.loop-rest.rest.now c.loop-rest.invariant none) spelled
