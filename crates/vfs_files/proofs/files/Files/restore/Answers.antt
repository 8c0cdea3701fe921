use Rattle.std.proofs.Common.{◌+◌, ◌<◌, ◌≤◌, length, sym, ap, subst, ◌∙◌}
use Rattle.std.specs.FinMap as map
use Rattle.vfs_files.specs.declared.limits.TheConstants.{FILE_LIMIT, TOTAL_LIMIT}
use Rattle.vfs_files.specs.FileTable.{FileTable, bytes_of, AllBelow}
use Rattle.vfs_files.proofs.Kept.{nameless, kept-restore}
use Rattle.vfs_files.proofs.files.Files.restore.Goals as goal

pub put_back-requires-clause-unnamed : goal.put_back-requires-clause-unnamed
put_back-requires-clause-unnamed c =
    let all = c.self.inside in
    nameless all.names all.files all.next_file all.total c.args.file c.self.invariant (subst (λ (t : FileTable). AllBelow t.files c.args.file) (sym c.self.view_is) c.requires.above)

pub invariant_of-self-2 : goal.invariant_of-self-2
invariant_of-self-2 c =
    let all = c.self.inside in
    let done = c.in_ok-put_back.ensures in
    let above = subst (λ (t : FileTable). AllBelow t.files c.args.file) (sym c.self.view_is) c.requires.above in
    let below = subst (λ (t : FileTable). c.args.file < t.next_file) (sym c.self.view_is) c.requires.below in
    let size = subst (λ (t : FileTable). bytes_of t.files + length c.args.bytes.now ≤ TOTAL_LIMIT) (sym c.self.view_is) c.requires.size in
    let few = subst (λ (t : FileTable). map.len t.files < FILE_LIMIT) (sym c.self.view_is) c.requires.count in
    kept-restore all.names c.put_back.new.names all.files c.put_back.new.files all.next_file all.total c.args.file c.args.name.now c.args.bytes.now c.self.invariant above below size few done.names (done.files ∙ ap (map.insert all.files c.args.file) c.in_ok-copy.ensures)
