use Rattle.std.proofs.Common.{◌/◌, sym, ap, subst, ◌∙◌}
use Rattle.std.specs.FinMap as map
use Rattle.plain_process.specs.Memory.{Memory}
use Rattle.guest_pages.specs.Pages.{IsSpace}
use Rattle.guest_pages.proofs.FrameTables.{short-set}
use Rattle.guest_pages.proofs.OpenTables.{closed}
use Rattle.guest_pages.proofs.open_space.OpenSpace.close.Goals as goal

pub invariant_of-result : goal.invariant_of-result
invariant_of-result c =
    let rows = c.self.inside.blocks.items in
    let k = c.self.inside.start / 4096 in
    record {
      counted = c.self.invariant.counted ∙ sym (ap (λ (m : Memory). map.len m) (closed rows k c.index_mut.result.now c.put_back.new.self c.self.inside.code c.self.invariant.row c.index_mut.ensures.value c.self.invariant.place c.put_back.ensures));
      short = short-set rows (k / 1024) c.put_back.new.self c.self.invariant.short;
    }

pub returns-clause-table : goal.returns-clause-table
returns-clause-table c =
    closed c.self.inside.blocks.items (c.self.inside.start / 4096) c.index_mut.result.now c.put_back.new.self c.self.inside.code c.self.invariant.row c.index_mut.ensures.value c.self.invariant.place c.put_back.ensures
    ∙ c.self.view_is

pub returns-clause-space : goal.returns-clause-space
returns-clause-space c =
    subst IsSpace (sym (closed c.self.inside.blocks.items (c.self.inside.start / 4096) c.index_mut.result.now c.put_back.new.self c.self.inside.code c.self.invariant.row c.index_mut.ensures.value c.self.invariant.place c.put_back.ensures))
    c.self.invariant.space
