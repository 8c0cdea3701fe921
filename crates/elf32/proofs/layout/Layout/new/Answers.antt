use Rattle.std.proofs.Common.{◌^◌, sym}
use Rattle.elf32.proofs.PageCounts.{pages_below-empty}
use Rattle.elf32.proofs.layout.Layout.new.Goals as goal

pub invariant_of-result-clause-counted : goal.invariant_of-result-clause-counted
invariant_of-result-clause-counted c = rw c.new.ensures (sym (pages_below-empty (2 ^ 20)))
