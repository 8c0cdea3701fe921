use Rattle.std.proofs.Common.{◌≡◌, ◌+◌, ◌≤◌, ℕ, [], ap, ◌∙◌, arith, refl}
use Rattle.std.specs.Prelude.{replicate}
use Rattle.std.specs.FinMap as map
use Rattle.plain_process.specs.Memory.{Memory}
use Rattle.plain_process.specs.Start.{with_pages}
use Rattle.guest_mem.specs.Runs.{IsFree, without_pages}
use Rattle.guest_mem.proofs.PageRuns.{len-with_pages, without-with}
use Rattle.guest_mem.proofs.space.Space.map.Goals as goal
use Rattle.plain_process.proofs.PageByPage.{with_more}

free_front : (m : Memory) (page n count : ℕ) → n ≤ count → IsFree m page count → IsFree m page n
free_front m page n count within free = λ number from below. free number from (omega arith)

pub loop-number-init : goal.loop-number-init
unfolding with_pages
loop-number-init c = refl

pub insert_zeroed-requires-clause-room : goal.insert_zeroed-requires-clause-room
insert_zeroed-requires-clause-room c =
    let free = free_front c.args.self.now c.args.page c.loop-number.number c.args.count c.loop-number.auto.number-end c.requires.free in
    let size : map.len c.loop-number.self ≡ map.len c.args.self.now + c.loop-number.number =
    ap (λ (m : Memory). map.len m) c.loop-number.invariant ∙ len-with_pages c.args.self.now c.args.page c.loop-number.number c.args.rights [] free in
    omega (arith, c.len.ensures.count, size)

pub loop-number-preserved : goal.loop-number-preserved
loop-number-preserved c =
    c.in-Ok.ensures.ok
    ∙ ap (λ (m : Memory). map.insert m (c.args.page + c.loop-number.number) (record { rights = c.args.rights; page = replicate 4096 0 })) c.loop-number.invariant
    ∙ with_more c.args.self.now c.args.page c.loop-number.number c.args.rights

pub returns-in_default-clause-err : goal.returns-in_default-clause-err
returns-in_default-clause-err c =
    let free = free_front c.args.self.now c.args.page c.loop-number.number c.args.count c.loop-number.auto.number-end c.requires.free in
    c.unmap.ensures
    ∙ ap (λ (m : Memory). without_pages m c.args.page c.loop-number.number) (c.in_default.ensures.err ∙ c.loop-number.invariant)
    ∙ without-with c.args.self.now c.args.page c.loop-number.number c.args.rights [] free
