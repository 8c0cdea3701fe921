use Rattle.std.proofs.Common.{◌<◌, ◌∙◌, ap, subst, sym, suc}
use Rattle.disk_folder.proofs.Stretches.{joins, weakens}
use Rattle.image_store.specs.FoundSets.{last_set}
use Rattle.image_store.specs.StoreStates.{next_generation}
use Rattle.image_store.specs.StoreCrashes.{OldOrNew}
use Rattle.image_store.proofs.Passing.{told_before}
use Rattle.store_runs.proofs.RunSteps.{none_above, next_opened, ok_both, some_next}
use Rattle.store_runs.proofs.runs.put_or_open.Goals as goal

pub open_store-requires : goal.open_store-requires
open_store-requires g c = λ after is_after some.
    let start = told_before (g.F.Folder.seen c.args.disk.now).files (g.F.Folder.seen c.put_set.new.disk).files after c.in-Err.ensures.told is_after in
    none_above c.args.store start.0 after _ c.next-generation.result c.args.set.now.files (c.requires.fits start.0 start.1) c.next-generation.ensures (c.in-Err.ensures.err start.0 start.1 after is_after) some

pub returns-in-Err-clause-next : goal.returns-in-Err-clause-next
returns-in-Err-clause-next g c =
    let some = subst (λ n. 0 < n) (sym c.next-generation.ensures) (some_next c.args.store) in
    ok_both c.open_store.result c.open_store.ensures.floor (c.open_store.ensures.passed some) (λ after floor passed. next_opened after c.next-generation.result floor (λ _. passed) some ∙ ap suc c.next-generation.ensures)

pub returns-in-Err-clause-crash : goal.returns-in-Err-clause-crash
returns-in-Err-clause-crash g c = λ files is.
    let start = g.F.Folder.seen c.args.disk.now in
    let mid = g.F.Folder.seen c.put_set.new.disk in
    let end = g.F.Folder.seen c.open_store.new.disk in
    let P = OldOrNew (last_set files) (next_generation c.args.store) c.args.set.now.files in
    let put = c.put_set.ensures.crash files is in
    joins start mid end P put (weakens mid end mid.may_leave P c.open_store.ensures.crash (λ image left. put.each image (mid.counts_now start.moment image put.later left)))
