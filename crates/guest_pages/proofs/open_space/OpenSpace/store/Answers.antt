use Rattle.std.proofs.Common.{◌+◌, ◌%◌, ◌/◌, ◌≤◌, ◌<◌, length, sym, ap, ◌∙◌, arith}
use Rattle.plain_process.specs.declared.memory.Frame.{Frame}
use Rattle.plain_process.specs.Memory.{Memory, low_bytes, store}
use Rattle.guest_pages.specs.Bytes.{with_piece}
use Rattle.guest_pages.proofs.OpenTables.{IsOpen-tried, opened-stored, opened-kept}
use Rattle.guest_pages.proofs.open_space.OpenSpace.store.Goals as goal

pub invariant_of-self : goal.invariant_of-self
invariant_of-self c =
    let rows = c.self.inside.blocks.items in
    let k = c.args.address / 4096 in
    let within : k / 1024 < length rows = let ok = c.self.inside.blocks.ok in omega (arith, c.len.ensures, c.if-number-len.false) in
    IsOpen-tried c.store.result rows c.self.inside.count c.self.inside.start k c.self.inside.code c.index_mut.result.now c.store.new.self
    (λ (frame : Frame). with_piece frame (c.args.address % 4096) (low_bytes c.args.size c.args.value)) c.self.invariant within c.index_mut.ensures.value c.store.ensures.made c.store.ensures.refused

pub returns-clause-made : goal.returns-clause-made
returns-clause-made c is =
    let rows = c.self.inside.blocks.items in
    let some : 0 < c.args.size = omega arith in
    let inside : c.args.address % 4096 + c.args.size ≤ 4096 = omega arith in
    let within : c.args.address / 4096 / 1024 < length rows = let ok = c.self.inside.blocks.ok in omega (arith, c.len.ensures, c.if-number-len.false) in
    ap (λ (m : Memory). store m c.args.address c.args.size c.args.value) (sym c.self.view_is)
    ∙ opened-stored rows c.self.inside.start c.args.address c.args.size c.args.value c.self.inside.code c.index_mut.result.now c.store.new.self c.self.invariant.absent some inside within c.index_mut.ensures.value (c.store.ensures.made is)

pub returns-clause-refused : goal.returns-clause-refused
returns-clause-refused c is =
    let rows = c.self.inside.blocks.items in
    let within : c.args.address / 4096 / 1024 < length rows = let ok = c.self.inside.blocks.ok in omega (arith, c.len.ensures, c.if-number-len.false) in
    opened-kept rows c.self.inside.start (c.args.address / 4096 / 1024) c.self.inside.code c.index_mut.result.now c.store.new.self within c.index_mut.ensures.value (c.store.ensures.refused is)
    ∙ c.self.view_is
