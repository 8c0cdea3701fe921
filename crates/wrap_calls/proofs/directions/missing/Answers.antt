use Rattle.std.proofs.Common.{sym, ◌∙◌, arith}
use Rattle.host_tables.specs.Systems.{given_of}
use Rattle.wrap_calls.proofs.MissingBytes.{missing_told, missing_none}
use Rattle.wrap_calls.proofs.directions.missing.Goals as goal

pub returns-then-dir-gt1 : goal.returns-then-dir-gt1
returns-then-dir-gt1 c k next_id w =
    let s = c.args.system.now in
    sym (missing_none (given_of s) s.kernel k w.stands.tables c.args.dir (omega arith))

pub returns : goal.returns
returns c k next_id w =
    let s = c.args.system.now in
    c.on_the_way.ensures ∙ missing_told (given_of s) s.kernel k w.stands.tables c.args.dir (omega arith)
