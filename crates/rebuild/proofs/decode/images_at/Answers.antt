use Rattle.std.proofs.Common.{List, ◌+◌, drop, sym, subst, arith}
use Rattle.image_process.specs.declared.process_image.ProcImage.{ProcImage}
use Rattle.rebuild.proofs.Walk as walk
use Rattle.rebuild.proofs.decode.images_at.Goals as goal

pub returns-in-Err-clause-only : goal.returns-in-Err-clause-only
returns-in-Err-clause-only c =
    walk.fault_only c.args.shared.now c.args.files.now c.loop-bytes.images c.loop-bytes.file c.as_slice.result.now _ c.in-Err.fault (λ image. c.in-Err.ensures.only image)
    (walk.next_at c.args.shared.now c.args.files.now c.loop-bytes.images c.loop-bytes.file c.loop-bytes.bytes-index c.bytes-item.result c.as_slice.result.now c.loop-bytes-test.true c.bytes-item.is c.as_slice.ensures c.loop-bytes.invariant.walk)

pub returns-in-Err-clause-exact : goal.returns-in-Err-clause-exact
returns-in-Err-clause-exact c =
    walk.fault_exact c.args.shared.now c.args.files.now c.loop-bytes.images c.loop-bytes.file c.as_slice.result.now _ c.in-Err.fault c.in-Err.ensures.exact
    (walk.next_at c.args.shared.now c.args.files.now c.loop-bytes.images c.loop-bytes.file c.loop-bytes.bytes-index c.bytes-item.result c.as_slice.result.now c.loop-bytes-test.true c.bytes-item.is c.as_slice.ensures c.loop-bytes.invariant.walk)

pub loop-bytes-preserved : goal.loop-bytes-preserved
loop-bytes-preserved c = record {
  place = omega (arith, c.loop-bytes.invariant.place);
  walk =
      subst (λ (images : List ProcImage). walk.Continues c.args.shared.now c.args.files.now images (c.loop-bytes.file + 1) (drop (c.loop-bytes.bytes-index + 1) c.args.files.now))
      (sym c.in_ok-push-in-Ok.ensures.ok)
      (walk.goes_on c.args.shared.now c.args.files.now c.loop-bytes.images c.loop-bytes.file c.as_slice.result.now _ c.in-Ok.image c.in-Ok.ensures.found (λ other. c.in-Ok.ensures.only other)
      (walk.next_at c.args.shared.now c.args.files.now c.loop-bytes.images c.loop-bytes.file c.loop-bytes.bytes-index c.bytes-item.result c.as_slice.result.now c.loop-bytes-test.true c.bytes-item.is c.as_slice.ensures c.loop-bytes.invariant.walk));
}

pub returns-clause-found : goal.returns-clause-found
returns-clause-found c =
    walk.spells_all c.args.shared.now c.args.files.now c.loop-bytes.images c.loop-bytes.file
    (walk.at_end c.args.shared.now c.args.files.now c.loop-bytes.images c.loop-bytes.file c.loop-bytes.bytes-index c.loop-bytes-test.false c.loop-bytes.invariant.walk)

pub returns-clause-only : goal.returns-clause-only
returns-clause-only c =
    walk.only_all c.args.shared.now c.args.files.now c.loop-bytes.images c.loop-bytes.file
    (walk.at_end c.args.shared.now c.args.files.now c.loop-bytes.images c.loop-bytes.file c.loop-bytes.bytes-index c.loop-bytes-test.false c.loop-bytes.invariant.walk)
