use Rattle.std.proofs.Common.{inl, refl, sym, ap, ◌∙◌, arith}
use Rattle.std.proofs.lemmas.Option.{same_Some, slice_get_read}
use Rattle.disk_folder.specs.Files.{FolderFiles}
use Rattle.disk_folder.specs.Crash.{Same}
use Rattle.disk_folder.proofs.Stretches.{joins, weakens}
use Rattle.image_store.specs.FoundSets.{last_set}
use Rattle.store_runs.specs.StoreRuns.{IsOneOf}
use Rattle.image_store.specs.StoreStates.{next_generation}
use Rattle.image_store.specs.StoreCrashes.{OldOrNew}
use Rattle.image_store.proofs.Causes.{counts, counts_none, counts_then}
use Rattle.image_store.proofs.Passing.{leaves_only, passes_none, told_still, told_then}
use Rattle.store_runs.proofs.RunSteps.{one_more}
use Rattle.store_runs.proofs.runs.put_all.Goals as goal

pub loop-set-init : goal.loop-set-init
loop-set-init g c = record {
  fits = c.requires.fits;
  next = omega arith;
  told = refl;
  reads = λ files is now is_now. inl (ap last_set (same_Some now files (sym is_now ∙ is)));
  count = counts_none _;
  crash = λ files is. leaves_only files (λ image. IsOneOf (last_set files) (next_generation c.args.store) c.args.sets.now (last_set image)) (passes_none Same (λ f. refl) (g.F.Folder.seen c.args.disk.now)) (c.requires.fits files is).settled (inl refl) (λ image same. inl (ap last_set same));
}

pub returns-in_err-store-clause-crash : goal.returns-in_err-store-clause-crash
returns-in_err-store-clause-crash g c = λ files is.
    let P = λ (image : FolderFiles). IsOneOf (last_set files) (next_generation c.args.store) c.args.sets.now (last_set image) in
    let still = told_still (g.F.Folder.seen c.args.disk.now).files (g.F.Folder.seen c.loop-set.disk).files files c.loop-set.invariant.told is in
    let was = c.loop-set.invariant.reads files is still.0 still.1 in
    let there = slice_get_read c.args.sets.now _ c.loop-set.set-index c.set-item.result refl c.loop-set-test.true c.set-item.is in
    joins (g.F.Folder.seen c.args.disk.now) (g.F.Folder.seen c.loop-set.disk) (g.F.Folder.seen c.put_or_open.new.disk) P (c.loop-set.invariant.crash files is)
    (weakens (g.F.Folder.seen c.loop-set.disk) (g.F.Folder.seen c.put_or_open.new.disk) (OldOrNew (last_set still.0) (next_generation c.loop-set.store) c.set-item.result.files) P (c.put_or_open.ensures.crash still.0 still.1)
    (λ image it. one_more (last_set files) (next_generation c.args.store) (next_generation c.loop-set.store) c.args.sets.now c.loop-set.set-index c.set-item.result (last_set still.0) (last_set image) there c.loop-set.invariant.next was it))

pub loop-set-preserved : goal.loop-set-preserved
loop-set-preserved g c =
    let there = slice_get_read c.args.sets.now _ c.loop-set.set-index c.set-item.result refl c.loop-set-test.true c.set-item.is in
    record {
      fits = c.in_ok-store.ensures.fits;
      next = c.in_ok-store.ensures.next ∙ (let n = c.loop-set.invariant.next in omega arith);
      told = told_then _ _ _ c.loop-set.invariant.told c.put_or_open.ensures.told;
      reads = λ files is after is_after.
          let still = told_still (g.F.Folder.seen c.args.disk.now).files (g.F.Folder.seen c.loop-set.disk).files files c.loop-set.invariant.told is in
          one_more (last_set files) (next_generation c.args.store) (next_generation c.loop-set.store) c.args.sets.now c.loop-set.set-index c.set-item.result (last_set still.0) (last_set after) there c.loop-set.invariant.next
          (c.loop-set.invariant.reads files is still.0 still.1) (c.put_or_open.ensures.reads still.0 still.1 after is_after);
      count = counts_then c.loop-set.invariant.count (counts c.put_or_open.ensures.cause);
      crash = λ files is.
          let P = λ (image : FolderFiles). IsOneOf (last_set files) (next_generation c.args.store) c.args.sets.now (last_set image) in
          let still = told_still (g.F.Folder.seen c.args.disk.now).files (g.F.Folder.seen c.loop-set.disk).files files c.loop-set.invariant.told is in
          let was = c.loop-set.invariant.reads files is still.0 still.1 in
          joins (g.F.Folder.seen c.args.disk.now) (g.F.Folder.seen c.loop-set.disk) (g.F.Folder.seen c.put_or_open.new.disk) P (c.loop-set.invariant.crash files is)
          (weakens (g.F.Folder.seen c.loop-set.disk) (g.F.Folder.seen c.put_or_open.new.disk) (OldOrNew (last_set still.0) (next_generation c.loop-set.store) c.set-item.result.files) P (c.put_or_open.ensures.crash still.0 still.1)
          (λ image it. one_more (last_set files) (next_generation c.args.store) (next_generation c.loop-set.store) c.args.sets.now c.loop-set.set-index c.set-item.result (last_set still.0) (last_set image) there c.loop-set.invariant.next was it));
    }
