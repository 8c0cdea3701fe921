use Rattle.std.proofs.Common.{◌≤◌, subst}
use Rattle.vfs_files.specs.declared.limits.TheConstants.{TOTAL_LIMIT}
use Rattle.vfs_files.specs.FileTable.{FileTable}
use Rattle.vfs_files.specs.Keeping.{IsWhole}
use Rattle.vfs_files.proofs.files.Files.whole.Goals as goal

pub returns : goal.returns
returns c = subst (λ (t : FileTable). IsWhole t) c.self.view_is (record {
  named = c.self.invariant.named;
  once = c.whole.ensures;
  below = c.self.invariant.below;
  count = c.self.invariant.count;
  size = subst (λ n. n ≤ TOTAL_LIMIT) c.self.invariant.sum c.self.invariant.limit;
})
