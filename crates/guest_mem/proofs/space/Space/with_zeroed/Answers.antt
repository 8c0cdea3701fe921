use Rattle.std.proofs.Common.{◌+◌, ap, ◌∙◌, arith}
use Rattle.std.specs.Prelude.{replicate}
use Rattle.std.specs.FinMap as map
use Rattle.plain_process.specs.Memory.{Memory}
use Rattle.plain_process.specs.Start.{with_pages}
use Rattle.guest_mem.proofs.PageRuns.{insert_one_more}
use Rattle.guest_mem.proofs.space.Space.with_zeroed.Goals as goal
use Rattle.plain_process.proofs.PageByPage.{with_more}

pub loop-number-init : goal.loop-number-init
unfolding with_pages
loop-number-init c = record { pages = c.in_ok-copy.ensures; room = omega (arith, ap (λ (m : Memory). map.len m) c.in_ok-copy.ensures) }

pub loop-number-preserved : goal.loop-number-preserved
loop-number-preserved c = record {
  pages =
      c.in_ok-insert_zeroed.ensures.ok
      ∙ ap (λ (m : Memory). map.insert m (c.args.page + c.loop-number.number) (record { rights = c.args.rights; page = replicate 4096 0 })) c.loop-number.invariant.pages
      ∙ with_more c.args.self.now c.args.page c.loop-number.number c.args.rights;
  room = omega (
    arith,
    ap (λ (m : Memory). map.len m) c.in_ok-insert_zeroed.ensures.ok,
    insert_one_more c.loop-number.copy (c.args.page + c.loop-number.number) (record { rights = c.args.rights; page = replicate 4096 0 })
        (map.len c.args.self.now + c.loop-number.number) c.loop-number.invariant.room,
  );
}
