use Rattle.std.proofs.Common.{refl}
use Rattle.vfs_files.proofs.Changes.{sum-removed}
use Rattle.vfs_files.proofs.store.remove_file.Goals as goal

pub returns-in-Some-clause-sum : goal.returns-in-Some-clause-sum
returns-in-Some-clause-sum c = sum-removed c.args.files.now c.remove.new.self c.args.file c.len.result _ c.in-Some.ensures.before c.remove.ensures.removed c.len.ensures

pub returns-in-None-clause-sum : goal.returns-in-None-clause-sum
returns-in-None-clause-sum c = sum-removed c.args.files.now c.remove.new.self c.args.file 0 _ c.in-None.ensures.before c.remove.ensures.removed refl
