use Rattle.std.proofs.Common.{refl, sym, inl, ◌∙◌}
use Rattle.cut_stages.specs.Resumptions.{refill_task}
use Rattle.cut_stages.specs.Rounds.{under_way}
use Rattle.cut_stages.proofs.Rounds.{idle_among}
use Rattle.cut_stages.proofs.refilling.act_once.Goals as goal

pub returns-then-acts_among-clause-passed : goal.returns-then-acts_among-clause-passed
returns-then-acts_among-clause-passed c =
    inl (
      refl,
      idle_among refill_task (under_way c.args.net.now c.args.refill.now) c.args.before.now c.args.agent
          c.in-Some.p c.in-Some.is (sym c.acts_among.ensures ∙ c.if-acts_among.true),
    )
