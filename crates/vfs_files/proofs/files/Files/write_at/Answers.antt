use Rattle.std.proofs.Common.{sym, subst}
use Rattle.std.specs.Prelude.{IsSome}
use Rattle.std.specs.FinMap as map
use Rattle.vfs_files.specs.FileTable.{FileTable}
use Rattle.vfs_files.proofs.Kept.{kept-write}
use Rattle.vfs_files.proofs.files.Files.write_at.Goals as goal

pub invariant_of-self-2 : goal.invariant_of-self-2
invariant_of-self-2 c =
    let all = c.self.inside in
    let there = subst (λ (t : FileTable). IsSome (map.get t.files c.args.file)) (sym c.self.view_is) c.requires in
    kept-write all.names all.files c.write_file.new.files all.next_file all.total c.in_ok-self-inside.field-0 c.args.file c.args.at c.args.piece.now c.self.invariant there c.in_ok-self-inside.ensures.ok c.in_ok-self-inside.ensures.sum c.in_ok-self-inside.ensures.limit
