use Rattle.std.proofs.Common.{◌≡◌, ◌==◌, ◌&&◌, Some, None, sym, ap, ◌∙◌}
use Rattle.sys_abi.specs.Lives.{lives}
use Rattle.shared_items.specs.declared.shared.ProcessEntry.{ProcessEntry}
use Rattle.shared_items.specs.WholeShared.{is_owner_of}
use Rattle.shared_items.proofs.Searched.{any_here}
use Rattle.shared_reader.proofs.HolderLaws.{and_assoc}
use Rattle.shared_reader.proofs.whole.is_owner_of_some.Goals as goal

pub returns-in-None : goal.returns-in-None
returns-in-None c =
    sym (any_here (λ (process : ProcessEntry). process.pid.0 == c.args.owner) (λ process. lives process.life && (process.host == c.args.host)) c.args.processes.now None c.in-None.ensures
    (is_owner_of c.args.owner c.args.host) (λ process. and_assoc (process.pid.0 == c.args.owner) (lives process.life) (process.host == c.args.host)))

pub returns-then-is_live : goal.returns-then-is_live
returns-then-is_live c =
    sym (any_here (λ (process : ProcessEntry). process.pid.0 == c.args.owner) (λ process. lives process.life && (process.host == c.args.host)) c.args.processes.now (Some c.in-Some.process.now) c.in-Some.ensures
    (is_owner_of c.args.owner c.args.host) (λ process. and_assoc (process.pid.0 == c.args.owner) (lives process.life) (process.host == c.args.host))
    ∙ ap (λ b. b && (c.in-Some.process.now.host == c.args.host)) (sym c.is_live.ensures ∙ c.if-is_live.true))

pub returns-else-is_live : goal.returns-else-is_live
returns-else-is_live c =
    c.if-is_live.false
    ∙ sym (any_here (λ (process : ProcessEntry). process.pid.0 == c.args.owner) (λ process. lives process.life && (process.host == c.args.host)) c.args.processes.now (Some c.in-Some.process.now) c.in-Some.ensures
    (is_owner_of c.args.owner c.args.host) (λ process. and_assoc (process.pid.0 == c.args.owner) (lives process.life) (process.host == c.args.host))
    ∙ ap (λ b. b && (c.in-Some.process.now.host == c.args.host)) (sym c.is_live.ensures ∙ c.if-is_live.false))
