use Rattle.std.proofs.Common.{◌≡◌, ap, ◌∙◌, arith}
use Rattle.std.proofs.lemmas.Bool.Decides.{nat_tests}
use Rattle.std.specs.Ordering.{nat_cmp}
use Rattle.std.specs.FinMap as map
use Rattle.plain_process.specs.declared.memory.Frame.{Frame}
use Rattle.plain_process.specs.Memory.{Memory}
use Rattle.guest_mem.proofs.space.Space.is_empty.Goals as goal

pub returns : goal.returns
returns c = (
  λ none. map.empty_of_len c.args.self.now (let size = c.len.ensures.count in grind (arith, nat_tests, size)),
  λ none. let zero : map.len c.args.self.now ≡ 0 = ap (λ (m : Memory). map.len m) none ∙ map.len-empty nat_cmp Frame in
      let size = c.len.ensures.count in
      grind (arith, nat_tests, zero, size),
)
