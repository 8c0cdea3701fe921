use Rattle.std.proofs.Common.{None, map as each, sym, ap, subst, ◌∙◌}
use Rattle.std.proofs.lemmas.Result.{IfOk-weaker}
use Rattle.seen_kernel.specs.Seen.{IsToldBy}
use Rattle.seen_kernel.specs.Unheld.{arrived_in}
use Rattle.seen_kernel.proofs.Arrived.{whole_already, told_unheld}
use Rattle.seen_kernel.proofs.unheld.kernel_at.Goals as goal

pub returns : goal.returns
returns c =
    IfOk-weaker c.kernel_of.result _ _ (λ seen made k is next arrived plain.
    let s = c.args.system.now in
    let owners = c.in_ok-owners.owners in
    let dirs = c.in_ok-dirs.dirs.items in
    let lists = c.as_slice-2.ensures.value ∙ c.in_ok-lists.ensures
    ∙ ap (each (arrived_in s.kernel.net.channels)) c.as_slice.ensures.value in
    let told = told_unheld s k is arrived plain owners c.in_ok-owners.ensures dirs c.in_ok-dirs.ensures in
    made None k (subst (λ lists. IsToldBy s None owners lists k) (sym lists) told) next
    ∙ whole_already k arrived) c.kernel_of.ensures
