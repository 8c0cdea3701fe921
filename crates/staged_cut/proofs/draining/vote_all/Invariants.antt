use Rattle.std.proofs.Common.{◌≡◌}
use Rattle.staged_cut.proofs.Votes.{IsLeft}
use Rattle.staged_cut.proofs.draining.vote_all.Given as goal

abbrev pub invariant-loop-p : goal.invariant-loop-p
invariant-loop-p l = record {
  left : IsLeft l.live l.p-index l.suspended.voters;
  stays : l.suspended ≡ record l.initial.suspended { voters = l.suspended.voters };
}
