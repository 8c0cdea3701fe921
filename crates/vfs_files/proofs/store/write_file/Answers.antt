use Rattle.std.proofs.Common.{sym, ap, subst, ◌∙◌}
use Rattle.std.specs.Prelude.{IsTrue}
use Rattle.std.specs.Cmp.{nat_cmp_total}
use Rattle.std.specs.FinMap as map
use Rattle.std.specs.FinMap.{nat_cmp-IsAntisymmetric}
use Rattle.views.proofs.MapLaws.{insert_same}
use Rattle.vfs_files.specs.Bytes.{written}
use Rattle.vfs_files.proofs.Changes.{if_ok_then, contents-found, found_among, sum-write, too_big-is_past, sum-equal}
use Rattle.vfs_files.proofs.store.write_file.Goals as goal
use Rattle.views.proofs.Outcomes.{on_some, on_ok_then, on_err_then}

pub write_within-requires-clause-among : goal.write_within-requires-clause-among
write_within-requires-clause-among c = found_among c.args.files.now c.args.file c.args.total c.in-Some.bytes.now c.in-Some.ensures.value c.requires.sum

pub returns-clause-refused : goal.returns-clause-refused
returns-clause-refused c big =
    c.write_within.ensures.refused (subst IsTrue (too_big-is_past c.args.files.now c.args.file c.args.at c.args.total c.args.piece.now c.in-Some.bytes.now c.in-Some.ensures.value c.requires.sum) big)

pub returns-clause-granted : goal.returns-clause-granted
returns-clause-granted c small =
    c.write_within.ensures.granted (sym (too_big-is_past c.args.files.now c.args.file c.args.at c.args.total c.args.piece.now c.in-Some.bytes.now c.in-Some.ensures.value c.requires.sum) ∙ small)

pub returns-clause-ok : goal.returns-clause-ok
returns-clause-ok c = on_ok_then c.write_within.result c.write_within.ensures.ok (λ is.
    on_some c.in-Some.is (c.get_mut.follows.holds c.write_within.new.self)
    ∙ ap (map.insert c.args.files.now c.args.file) (is ∙ ap (written c.args.at c.args.piece.now) (sym (contents-found c.args.files.now c.args.file c.in-Some.bytes.now c.in-Some.ensures.value))))

pub returns-clause-sum : goal.returns-clause-sum
returns-clause-sum c = if_ok_then c.write_within.result c.write_within.ensures.sum (λ sum is.
    sum-equal _ sum _ c.args.total _ (sum-write c.args.files.now c.args.file c.args.at c.args.total c.args.piece.now c.in-Some.bytes.now c.in-Some.ensures.value c.requires.sum) is)

pub returns-clause-err : goal.returns-clause-err
returns-clause-err c = on_err_then c.write_within.result c.write_within.ensures.err (λ same.
    on_some c.in-Some.is (c.get_mut.follows.holds c.write_within.new.self)
    ∙ ap (map.insert c.args.files.now c.args.file) same
    ∙ insert_same nat_cmp_total nat_cmp-IsAntisymmetric c.args.files.now c.args.file c.in-Some.bytes.now (sym c.in-Some.ensures.value))
