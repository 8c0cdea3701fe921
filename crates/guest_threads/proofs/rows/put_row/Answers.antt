use Rattle.std.proofs.Common.{ap, ◌∙◌}
use Rattle.guest_threads.specs.Rows.{place}
use Rattle.guest_threads.proofs.RowLaws.{put_new_threads, put_new_rising, put_over_threads, put_over_rising}
use Rattle.guest_threads.proofs.rows.put_row.Goals as goal

pub returns-in-Some-clause-ok : goal.returns-in-Some-clause-ok
returns-in-Some-clause-ok c =
    put_over_threads c.args.rows.now.items c.deref.result.now c.in-Some.index c.args.row c.deref.ensures.value c.requires c.in-Some.ensures.index c.in-Some.ensures.within

pub returns-in-Some-clause-rising : goal.returns-in-Some-clause-rising
returns-in-Some-clause-rising c =
    put_over_rising c.args.rows.now.items c.deref.result.now c.in-Some.index c.args.row c.deref.ensures.value c.requires c.in-Some.ensures.index c.in-Some.ensures.within

pub returns-in_ok-insert-in-None-clause-ok : goal.returns-in_ok-insert-in-None-clause-ok
returns-in_ok-insert-in-None-clause-ok c =
    put_new_threads c.args.rows.now.items c.deref.result.now c.insert.new.self.items c.place_of-place.result c.args.row c.deref.ensures.value c.requires c.in-None.ensures.index
    (c.place_of-place.ensures.place ∙ ap (place c.args.row.number) c.deref-in-None.ensures.value) c.in_ok-insert-in-None.ensures.items

pub returns-in_ok-insert-in-None-clause-rising : goal.returns-in_ok-insert-in-None-clause-rising
returns-in_ok-insert-in-None-clause-rising c =
    put_new_rising c.args.rows.now.items c.deref.result.now c.insert.new.self.items c.place_of-place.result c.args.row c.deref.ensures.value c.requires c.in-None.ensures.index
    (c.place_of-place.ensures.place ∙ ap (place c.args.row.number) c.deref-in-None.ensures.value) c.in_ok-insert-in-None.ensures.items
