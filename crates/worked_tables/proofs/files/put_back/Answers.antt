use Rattle.std.proofs.Common.{List, ℕ, ap, ◌∙◌, inr, arith}
use Rattle.std.specs.Ordering.{nat_cmp}
use Rattle.std.specs.FinMap as map
use Rattle.sys_abi.specs.Names.{name_cmp}
use Rattle.vfs_files.specs.FileTable.{FileTable, bytes_of}
use Rattle.vfs_files.proofs.Sums.{bytes_of-empty}
use Rattle.worked_tables.proofs.files.put_back.Goals as goal

pub restore-requires-clause-unused : goal.restore-requires-clause-unused
restore-requires-clause-unused c =
    inr (ap (λ (t : FileTable). map.get t.names c.args.name.now) (c.set_next.ensures ∙ ap (λ (t : FileTable). record t { next_file = 8 }) c.new-files.ensures) ∙ map.get-empty name_cmp c.args.name.now)

pub restore-requires-clause-count : goal.restore-requires-clause-count
restore-requires-clause-count c =
    let none = ap (λ (t : FileTable). map.len t.files) (c.set_next.ensures ∙ ap (λ (t : FileTable). record t { next_file = 8 }) c.new-files.ensures) ∙ map.len-empty nat_cmp (List ℕ) in
    omega (arith, none)

pub restore-requires-clause-size : goal.restore-requires-clause-size
restore-requires-clause-size c =
    let none = ap (λ (t : FileTable). bytes_of t.files) (c.set_next.ensures ∙ ap (λ (t : FileTable). record t { next_file = 8 }) c.new-files.ensures) ∙ bytes_of-empty in
    omega (arith, none)
