use Rattle.std.proofs.Common.{refl, ap}
use Rattle.ckpt_stages.specs.Suspensions.{Suspension}
use Rattle.staged_cut.proofs.Votes.{left_begun, left_on, all_marked, stays_on}
use Rattle.staged_cut.proofs.draining.vote_all.Goals as goal

pub loop-p-init : goal.loop-p-init
loop-p-init c = record { left = left_begun c.args.live.now _ c.requires; stays = refl }

pub loop-p-preserved : goal.loop-p-preserved
loop-p-preserved c = record {
  left = left_on c.args.live.now c.loop-p.p-index _ _ c.loop-p.suspended.voters
      c.vote.new.self.voters c.loop-p-test.true refl
      (ap (λ (s : Suspension). s.voters) c.vote.ensures) c.loop-p.invariant.left;
  stays = stays_on c.args.suspended.now c.loop-p.suspended c.vote.new.self _
      c.loop-p.invariant.stays c.vote.ensures;
}

pub returns-clause-voted : goal.returns-clause-voted
returns-clause-voted c =
    all_marked c.args.live.now c.loop-p.p-index c.loop-p.suspended.voters
    c.loop-p-test.false c.loop-p.invariant.left

pub returns-clause-stays : goal.returns-clause-stays
returns-clause-stays c = c.loop-p.invariant.stays
