use Rattle.std.proofs.Common.{sym, subst}
use Rattle.host_tables.specs.declared.system.System.{System}
use Rattle.wrap_names.specs.Wrapping.{IsWrapped}
use Rattle.seen_kernel.specs.Seen.{all_in}
use Rattle.cut_stages.specs.Resumptions.{Filled}
use Rattle.cut_stages.proofs.Arriving.{resumed}
use Rattle.cut_stages.proofs.refilled.Refilled.resume.Goals as goal

pub returns-clause-system : goal.returns-clause-system
returns-clause-system c =
    let base = c.self.inside.base in
    subst (λ (v : Filled). IsWrapped c.put_back.new.system v.next_id (all_in v.kernel)) c.self.view_is
    (subst (λ (s : System). IsWrapped s base.next_id (all_in base.stood.kernel)) (sym c.put_back.ensures)
    (resumed base.system base.next_id base.stood.kernel base.owners c.self.invariant))
