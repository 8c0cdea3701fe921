use Rattle.std.proofs.Common.{◌+◌, ◌-◌, sym, ap, ◌∙◌, arith}
use Rattle.std.specs.FinMap as map
use Rattle.plain_process.specs.Memory.{Memory}
use Rattle.guest_mem.proofs.PageRuns.{without_skip, without_next}
use Rattle.guest_mem.proofs.space.Space.unmap.Goals as goal
use Rattle.plain_process.proofs.PageByPage.{without_none}

pub loop-next-init : goal.loop-next-init
loop-next-init c = record { gone = sym (without_none c.args.self.now c.args.page); within = omega arith }

pub returns-then-next-page : goal.returns-then-next-page
returns-then-next-page c =
    c.loop-next.invariant.gone
    ∙ without_skip c.args.self.now c.args.page c.loop-next.done c.args.count c.loop-next.invariant.within
    (λ q from below. ap (λ (m : Memory). map.get m q) (sym c.loop-next.invariant.gone) ∙ c.in-Some.ensures.first q from (omega arith))

pub loop-next-preserved : goal.loop-next-preserved
loop-next-preserved c = record {
  gone =
      c.remove_page.ensures
      ∙ ap (λ (m : Memory). map.remove m c.in-Some.next) c.loop-next.invariant.gone
      ∙ without_next c.args.self.now c.args.page c.loop-next.done c.in-Some.next (c.in-Some.next + 1 - c.args.page) c.in-Some.ensures.from (omega (arith, c.in-Some.ensures.from))
      (λ q from below. ap (λ (m : Memory). map.get m q) (sym c.loop-next.invariant.gone) ∙ c.in-Some.ensures.first q from below);
  within = omega (arith, c.in-Some.ensures.from);
}

pub returns : goal.returns
returns c =
    c.loop-next.invariant.gone
    ∙ without_skip c.args.self.now c.args.page c.loop-next.done c.args.count c.loop-next.invariant.within
    (λ q from below. ap (λ (m : Memory). map.get m q) (sym c.loop-next.invariant.gone) ∙ c.in_default.ensures q from)
