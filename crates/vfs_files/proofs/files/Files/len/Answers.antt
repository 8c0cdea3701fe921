use Rattle.std.proofs.Common.{arith}
use Rattle.vfs_files.proofs.Changes.{found_among}
use Rattle.vfs_files.proofs.files.Files.len.Goals as goal

pub overflow_cast-result : goal.overflow_cast-result
overflow_cast-result c =
    let count = c.len.ensures in
    let among = found_among c.self.inside.files c.args.file c.self.inside.total c.in-Some.bytes.now c.in-Some.ensures c.self.invariant.sum in
    let limit = c.self.invariant.limit in
    omega (arith, count, among, limit)
