use Rattle.std.proofs.Common.{◌+◌, [], ap, ◌∙◌}
use Rattle.std.specs.FinMap as map
use Rattle.vfs_files.specs.FileTable.{bytes_of}
use Rattle.vfs_files.proofs.Changes.{truncated-found, sum-truncated}
use Rattle.vfs_files.proofs.store.empty_file.Goals as goal
use Rattle.views.proofs.Outcomes.{on_some}

pub returns-clause-files : goal.returns-clause-files
returns-clause-files c =
    on_some c.in-Some.is (c.get_mut.follows.holds c.new.result)
    ∙ ap (map.insert c.args.files.now c.args.file) c.new.ensures
    ∙ truncated-found c.args.files.now c.args.file c.in-Some.bytes.now c.in-Some.ensures.value

pub returns-clause-sum : goal.returns-clause-sum
returns-clause-sum c =
    ap (λ m. c.len-count.result + bytes_of m) (on_some c.in-Some.is (c.get_mut.follows.holds c.new.result) ∙ ap (map.insert c.args.files.now c.args.file) c.new.ensures)
    ∙ ap (λ n. n + bytes_of (map.insert c.args.files.now c.args.file [])) c.len-count.ensures
    ∙ sum-truncated c.args.files.now c.args.file c.in-Some.bytes.now c.in-Some.ensures.value
