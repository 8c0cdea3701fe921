use Rattle.std.proofs.Common.{◌+◌, ◌≤◌, ℕ, List, sym, ap, subst, ◌∙◌}
use Rattle.std.specs.Prelude.{length}
use Rattle.vfs_files.specs.FileTable.{bytes_of, after_restore}
use Rattle.rebuild_tables.proofs.RestoredFiles.{IsRestored, IsRestored-none, IsRestored-one, IsRestored-all, above, few, small, unused, number_below}
use Rattle.rebuild_tables.proofs.files.restore_files.Goals as goal

pub loop-number-init : goal.loop-number-init
loop-number-init c =
    let k = c.args.kernel.now in
    IsRestored-none k.names k.files k.next_file c.into_iter-number-iterator.result c.args.files.now
    (c.into_iter-number-iterator.ensures.into_iter_gives ∙ c.iter-number-items.ensures) c.requires.none

pub restore-requires-clause-above : goal.restore-requires-clause-above
restore-requires-clause-above c =
    let k = c.args.kernel.now in
    let entry : ℕ × List ℕ = (c.in-Some.number.now, c.in-Some.bytes.now) in
    above k.names k.files k.next_file entry c.next.new.self c.loop-number.files
    (subst (λ es. IsRestored k.names k.files k.next_file es c.loop-number.files) c.in-Some.ensures.steps
    c.loop-number.invariant)

pub restore-requires-clause-below : goal.restore-requires-clause-below
restore-requires-clause-below c =
    let k = c.args.kernel.now in
    let entry : ℕ × List ℕ = (c.in-Some.number.now, c.in-Some.bytes.now) in
    number_below k.names k.files k.next_file entry c.next.new.self c.loop-number.files
    (subst (λ es. IsRestored k.names k.files k.next_file es c.loop-number.files) c.in-Some.ensures.steps
    c.loop-number.invariant)
    (λ number bytes is. (c.requires.whole.files.numbers number bytes is).1)

pub restore-requires-clause-unused : goal.restore-requires-clause-unused
restore-requires-clause-unused c =
    let k = c.args.kernel.now in
    let entry : ℕ × List ℕ = (c.in-Some.number.now, c.in-Some.bytes.now) in
    unused k.names k.files k.next_file entry c.next.new.self c.loop-number.files
    (subst (λ es. IsRestored k.names k.files k.next_file es c.loop-number.files) c.in-Some.ensures.steps
    c.loop-number.invariant)
    c.name_of-name.result.now c.name_of-name.ensures
    (λ name number is. (c.requires.whole.files.named name number is).0.some)

pub restore-requires-clause-count : goal.restore-requires-clause-count
restore-requires-clause-count c =
    let k = c.args.kernel.now in
    let entry : ℕ × List ℕ = (c.in-Some.number.now, c.in-Some.bytes.now) in
    few k.names k.files k.next_file entry c.next.new.self c.loop-number.files
    (subst (λ es. IsRestored k.names k.files k.next_file es c.loop-number.files) c.in-Some.ensures.steps
    c.loop-number.invariant)
    1024 c.requires.whole.files.count

pub restore-requires-clause-size : goal.restore-requires-clause-size
restore-requires-clause-size c =
    let k = c.args.kernel.now in
    let entry : ℕ × List ℕ = (c.in-Some.number.now, c.in-Some.bytes.now) in
    subst (λ (bytes : List ℕ). bytes_of c.loop-number.files.files + length bytes ≤ 67108864)
    (sym c.as_slice.ensures)
    (small k.names k.files k.next_file entry c.next.new.self c.loop-number.files
    (subst (λ es. IsRestored k.names k.files k.next_file es c.loop-number.files) c.in-Some.ensures.steps
    c.loop-number.invariant)
    67108864 c.requires.whole.files.total)

pub loop-number-preserved : goal.loop-number-preserved
loop-number-preserved c =
    let k = c.args.kernel.now in
    let entry : ℕ × List ℕ = (c.in-Some.number.now, c.in-Some.bytes.now) in
    IsRestored-one k.names k.files k.next_file entry c.next.new.self c.loop-number.files
    (subst (λ es. IsRestored k.names k.files k.next_file es c.loop-number.files) c.in-Some.ensures.steps
    c.loop-number.invariant)
    c.name_of-name.result.now c.name_of-name.ensures
    (λ name number is. (c.requires.whole.files.named name number is).0.some)
    c.restore.new.self
    (c.in_ok-restore.ensures.ok
    ∙ ap (after_restore c.loop-number.files c.in-Some.number.now c.name_of-name.result.now)
    c.as_slice.ensures)

pub returns : goal.returns
returns c =
    let k = c.args.kernel.now in
    IsRestored-all k.names k.files k.next_file c.loop-number.files
    (subst (λ es. IsRestored k.names k.files k.next_file es c.loop-number.files) c.in-None.ensures.steps.0
    c.loop-number.invariant)
    (λ name number is. (c.requires.whole.files.named name number is).1)
