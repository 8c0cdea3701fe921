use Rattle.std.proofs.Common.{length, sym, ap, ◌∙◌, arith}
use Rattle.rebuild.proofs.Walk as walk
use Rattle.rebuild.proofs.decode.decode_set.Goals as goal

pub returns-in_default-clause-only : goal.returns-in_default-clause-only
returns-in_default-clause-only c = λ d h. walk.no_file d.shared d.procs c.args.set.now.files (walk.no_files c.args.set.now.files c.as_slice.result.now c.as_slice.ensures c.in_default.ensures.cases) h

pub returns-in_default-clause-exact : goal.returns-in_default-clause-exact
returns-in_default-clause-exact c = walk.missing c.args.set.now.files (walk.no_files c.args.set.now.files c.as_slice.result.now c.as_slice.ensures c.in_default.ensures.cases)

pub returns-in-Err-clause-only : goal.returns-in-Err-clause-only
returns-in-Err-clause-only c =
    walk.fault_of_shared c.args.set.now.files c.as_slice-2.result.now c.in-Some.images.now c.in-Err.fault
    (walk.split c.args.set.now.files c.as_slice.result.now c.in-Some.first.now c.as_slice-2.result.now c.in-Some.images.now c.as_slice.ensures c.in-Some.ensures.cases.0 c.as_slice-2.ensures) (λ s h. c.in-Err.ensures.only s h)

pub returns-in-Err-clause-exact : goal.returns-in-Err-clause-exact
returns-in-Err-clause-exact c =
    walk.damage_of_shared c.args.set.now.files c.as_slice-2.result.now c.in-Some.images.now c.in-Err.fault
    (walk.split c.args.set.now.files c.as_slice.result.now c.in-Some.first.now c.as_slice-2.result.now c.in-Some.images.now c.as_slice.ensures c.in-Some.ensures.cases.0 c.as_slice-2.ensures) c.in-Err.ensures.exact

pub returns-then-images-live_count-clause-only : goal.returns-then-images-live_count-clause-only
returns-then-images-live_count-clause-only c =
    walk.wrong_count c.args.set.now.files c.as_slice-2.result.now c.in-Some.images.now c.in-Ok.shared
    (walk.split c.args.set.now.files c.as_slice.result.now c.in-Some.first.now c.as_slice-2.result.now c.in-Some.images.now c.as_slice.ensures c.in-Some.ensures.cases.0 c.as_slice-2.ensures) (λ s h. c.in-Ok.ensures.only s h) (λ same. c.if-images-live_count.true (same ∙ sym c.live_count.ensures))

pub returns-then-images-live_count-clause-exact : goal.returns-then-images-live_count-clause-exact
returns-then-images-live_count-clause-exact c =
    walk.damage_of_count c.args.set.now.files c.as_slice-2.result.now c.in-Some.images.now c.in-Ok.shared c.len-offset.result
    (walk.split c.args.set.now.files c.as_slice.result.now c.in-Some.first.now c.as_slice-2.result.now c.in-Some.images.now c.as_slice.ensures c.in-Some.ensures.cases.0 c.as_slice-2.ensures) c.in-Ok.ensures.found (λ same. c.if-images-live_count.true (same ∙ sym c.live_count.ensures)) (c.len-offset.ensures ∙ ap length (sym c.as_slice-2.ensures))

pub images_at-requires : goal.images_at-requires
images_at-requires c = omega (arith, walk.live_count-le c.as_slice-2.result.now c.in-Ok.shared c.in-Ok.ensures.found, c.if-images-live_count.false, c.live_count.ensures)

pub returns-in-Ok-images_at-clause-found : goal.returns-in-Ok-images_at-clause-found
returns-in-Ok-images_at-clause-found c =
    walk.spells_files c.args.set.now.files c.as_slice-2.result.now c.in-Some.images.now c.in-Ok.shared c.in-Ok-images_at.procs
    (walk.split c.args.set.now.files c.as_slice.result.now c.in-Some.first.now c.as_slice-2.result.now c.in-Some.images.now c.as_slice.ensures c.in-Some.ensures.cases.0 c.as_slice-2.ensures) c.in-Ok.ensures.found (c.if-images-live_count.false ∙ c.live_count.ensures) c.in-Ok-images_at.ensures.found

pub returns-in-Ok-images_at-clause-only : goal.returns-in-Ok-images_at-clause-only
returns-in-Ok-images_at-clause-only c =
    walk.only_files c.args.set.now.files c.as_slice-2.result.now c.in-Some.images.now c.in-Ok.shared c.in-Ok-images_at.procs
    (walk.split c.args.set.now.files c.as_slice.result.now c.in-Some.first.now c.as_slice-2.result.now c.in-Some.images.now c.as_slice.ensures c.in-Some.ensures.cases.0 c.as_slice-2.ensures) (λ s h. c.in-Ok.ensures.only s h) (λ others h. c.in-Ok-images_at.ensures.only others h)

pub returns-in-Err-images_at-clause-only : goal.returns-in-Err-images_at-clause-only
returns-in-Err-images_at-clause-only c =
    walk.fault_of_images c.args.set.now.files c.as_slice-2.result.now c.in-Some.images.now c.in-Ok.shared c.in-Err-images_at.fault
    (walk.split c.args.set.now.files c.as_slice.result.now c.in-Some.first.now c.as_slice-2.result.now c.in-Some.images.now c.as_slice.ensures c.in-Some.ensures.cases.0 c.as_slice-2.ensures) (λ s h. c.in-Ok.ensures.only s h) (λ others h. c.in-Err-images_at.ensures.only others h)

pub returns-in-Err-images_at-clause-exact : goal.returns-in-Err-images_at-clause-exact
returns-in-Err-images_at-clause-exact c =
    walk.damage_of_images c.args.set.now.files c.as_slice-2.result.now c.in-Some.images.now c.in-Ok.shared c.in-Err-images_at.fault
    (walk.split c.args.set.now.files c.as_slice.result.now c.in-Some.first.now c.as_slice-2.result.now c.in-Some.images.now c.as_slice.ensures c.in-Some.ensures.cases.0 c.as_slice-2.ensures) c.in-Ok.ensures.found (c.if-images-live_count.false ∙ c.live_count.ensures) c.in-Err-images_at.ensures.exact
