use Rattle.std.proofs.Common.{◌≡◌, ap, ◌∙◌, arith}
use Rattle.fd_tables.specs.Tables.{free_places}
use Rattle.fd_tables.proofs.table.Table.free.Goals as goal

pub returns : goal.returns
returns c = let end : c.loop-fd.fd ≡ 256 = omega arith in c.loop-fd.invariant.0 ∙ ap (λ n. free_places c.args.self.now n) end
