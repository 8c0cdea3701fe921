use Rattle.std.proofs.Common.{sym, subst}
use Rattle.std.specs.FinMap as map
use Rattle.host_tables.specs.declared.system.System.{System}
use Rattle.cut_stages.specs.OfWrapNames.Wrapping.{IsWrapped}
use Rattle.ckpt_stages.specs.Suspensions.{Suspension}
use Rattle.cut_stages.proofs.GivenUp.{given_up}
use Rattle.ckpt_stages.proofs.suspended.Suspended.refuse.Goals as goal

pub returns-clause-system : goal.returns-clause-system
returns-clause-system c =
    let base = c.self.inside.base in
    subst (λ (v : Suspension). IsWrapped c.put_back.new.system v.next_id v.kernel) c.self.view_is
    (subst (λ (s : System). IsWrapped s base.next_id base.stood.kernel) (sym c.put_back.ensures)
    (given_up base.system base.next_id base.stood.kernel base.owners map.empty c.self.invariant.cut
    c.self.invariant.still))
