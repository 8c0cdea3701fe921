use Rattle.std.proofs.Common.{sym, subst, arith}
use Rattle.std.proofs.lemmas.Result.{IfOk-weaker}
use Rattle.host_tables.specs.Serves.{Serves, ByNumber, same}
use Rattle.host_descriptors.proofs.Dups.{dup_is}
use Rattle.host_descriptors.proofs.copies.dup.Goals as goal

pub returns-clause-ok : goal.returns-clause-ok
returns-clause-ok c =
    IfOk-weaker c.dup_from.result _ _ (λ a serves g k p whole st paired x.
    subst (λ m. Serves ByNumber same g c.args.kernel.now c.dup_from.new.kernel x x a m)
    (sym (dup_is k p c.args.fd)) (serves g k p whole st paired x (omega arith)))
    c.dup_from.ensures.ok
