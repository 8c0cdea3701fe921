use Rattle.std.proofs.Common.{◌≤◌, refl, sym, subst}
use Rattle.std.specs.Prelude.{IfSome}
use Rattle.computation.proofs.AddedThreads.{adds_nothing}
use Rattle.computation.proofs.parts.reserve_for.Goals as goal

pub returns-in_default : goal.returns-in_default
returns-in_default c = record {
  same = refl;
  spare = λ reply. subst (λ added. IfSome added (λ _. 1 ≤ c.args.guest.now.spare)) (sym (adds_nothing c.args.request.now reply c.in_default.not-Clone)) tt;
  err = tt;
}
