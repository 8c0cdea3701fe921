use Rattle.std.proofs.Common.{◌==◌, ◌||◌, not, sym, ap, ◌∙◌, Some, None}
use Rattle.shared_items.specs.declared.shared.ProcessEntry.{ProcessEntry}
use Rattle.shared_items.specs.WholeShared.{is_of_parents_host}
use Rattle.shared_items.proofs.Searched.{all_here}
use Rattle.shared_items.proofs.Keys.{turned}
use Rattle.shared_reader.proofs.whole.is_near_parent.Goals as goal

pub returns-in-None : goal.returns-in-None
returns-in-None c =
    sym (all_here (λ (parent : ProcessEntry). parent.pid.0 == c.args.child.now.parent) (λ parent. c.args.child.now.host == parent.host) c.args.processes.now None c.in-None.ensures
    (is_of_parents_host c.args.child.now) (λ parent. ap (λ b. not b || (c.args.child.now.host == parent.host)) (turned c.args.child.now.parent parent.pid.0)))

pub returns-in-Some : goal.returns-in-Some
returns-in-Some c =
    sym (all_here (λ (parent : ProcessEntry). parent.pid.0 == c.args.child.now.parent) (λ parent. c.args.child.now.host == parent.host) c.args.processes.now (Some c.in-Some.parent.now) c.in-Some.ensures
    (is_of_parents_host c.args.child.now) (λ parent. ap (λ b. not b || (c.args.child.now.host == parent.host)) (turned c.args.child.now.parent parent.pid.0)))
