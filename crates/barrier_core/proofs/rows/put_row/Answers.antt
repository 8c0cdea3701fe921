use Rattle.std.proofs.Common.{ap, ◌∙◌}
use Rattle.barrier_core.specs.Rows.{place}
use Rattle.barrier_core.proofs.RowLaws.{put_new, put_over, full_of_rows}
use Rattle.barrier_core.proofs.rows.put_row.Goals as goal

pub returns-in-Some-clause-ok : goal.returns-in-Some-clause-ok
returns-in-Some-clause-ok c =
    (put_over c.args.rows.now.items c.deref.result.now c.in-Some.index c.args.p c.args.member c.deref.ensures.value c.requires c.in-Some.ensures.index c.in-Some.ensures.within).members

pub returns-in-Some-clause-rising : goal.returns-in-Some-clause-rising
returns-in-Some-clause-rising c =
    (put_over c.args.rows.now.items c.deref.result.now c.in-Some.index c.args.p c.args.member c.deref.ensures.value c.requires c.in-Some.ensures.index c.in-Some.ensures.within).rising

pub returns-in_ok-insert-in-None-clause-ok : goal.returns-in_ok-insert-in-None-clause-ok
returns-in_ok-insert-in-None-clause-ok c =
    (put_new c.args.rows.now.items c.deref.result.now c.insert.new.self.items c.place_of-place.result c.args.p c.args.member c.deref.ensures.value c.requires c.in-None.ensures.index
    (c.place_of-place.ensures.place ∙ ap (place c.args.p) c.deref-in-None.ensures.value) c.in_ok-insert-in-None.ensures.items).members

pub returns-in_ok-insert-in-None-clause-rising : goal.returns-in_ok-insert-in-None-clause-rising
returns-in_ok-insert-in-None-clause-rising c =
    (put_new c.args.rows.now.items c.deref.result.now c.insert.new.self.items c.place_of-place.result c.args.p c.args.member c.deref.ensures.value c.requires c.in-None.ensures.index
    (c.place_of-place.ensures.place ∙ ap (place c.args.p) c.deref-in-None.ensures.value) c.in_ok-insert-in-None.ensures.items).rising

pub returns-in_err-insert-in-None-clause-succeeds : goal.returns-in_err-insert-in-None-clause-succeeds
returns-in_err-insert-in-None-clause-succeeds c =
    λ room. absurd (full_of_rows c.args.rows.now.items c.deref.result.now _ _ c.deref.ensures.value c.deref.ensures.len c.requires c.in_err-insert-in-None.ensures.full room)
