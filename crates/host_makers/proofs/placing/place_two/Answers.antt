use Rattle.std.proofs.Common.{subst}
use Rattle.host_makers.specs.Places.{IsPlaced}
use Rattle.host_makers.proofs.TwoPlaced.{second_new, two_placed, first_undone, one_placed}
use Rattle.host_makers.proofs.placing.place_two.Goals as goal

pub place-requires-2 : goal.place-requires-2
place-requires-2 c =
    let ends = c.args.ends in
    second_new c.args.book.now c.args.who ends c.requires c.place.new.book c.in-Some.fd.0
    (subst (IsPlaced c.args.book.now c.place.new.book c.args.who ends.ids.first ends.first ends.cloexec)
    c.in-Some.is c.in_ok-fd.ensures.ok)

pub returns-in-Ok-Some-clause-ok : goal.returns-in-Ok-Some-clause-ok
returns-in-Ok-Some-clause-ok c =
    let ends = c.args.ends in
    two_placed c.args.book.now c.args.who ends c.requires c.place.new.book c.in-Some.fd.0
    (subst (IsPlaced c.args.book.now c.place.new.book c.args.who ends.ids.first ends.first ends.cloexec)
    c.in-Some.is c.in_ok-fd.ensures.ok) c.place-2.new.book c.in-Ok-Some.other.0
    (subst (IsPlaced c.place.new.book c.place-2.new.book c.args.who ends.ids.second ends.second ends.cloexec)
    c.in-Ok-Some.field-0-is c.in-Ok-Some.ensures.ok)

pub returns-in-Ok-None-clause-ok : goal.returns-in-Ok-None-clause-ok
returns-in-Ok-None-clause-ok c =
    let ends = c.args.ends in
    let full = subst (IsPlaced c.place.new.book c.place-2.new.book c.args.who ends.ids.second ends.second
    ends.cloexec)
    c.in-Ok-None.field-0-is c.in-Ok-None.ensures.ok in
    one_placed c.args.book.now c.args.who ends c.requires c.place.new.book c.in-Some.fd.0
    (subst (IsPlaced c.args.book.now c.place.new.book c.args.who ends.ids.first ends.first ends.cloexec)
    c.in-Some.is c.in_ok-fd.ensures.ok) c.whole.ensures c.place-2.new.book full.same c.close.new.self
    c.close.ensures.closed full.lacks

pub returns-in-Err-clause-err : goal.returns-in-Err-clause-err
returns-in-Err-clause-err c =
    let ends = c.args.ends in
    first_undone c.args.book.now c.args.who ends c.requires c.place.new.book c.in-Some.fd.0
    (subst (IsPlaced c.args.book.now c.place.new.book c.args.who ends.ids.first ends.first ends.cloexec)
    c.in-Some.is c.in_ok-fd.ensures.ok) c.whole.ensures c.place-2.new.book c.in-Err.ensures.err
    c.close-in-Err.new.self c.close-in-Err.ensures.closed
