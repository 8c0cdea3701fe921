use Rattle.std.proofs.Common.{◌≡◌}
use Rattle.std.specs.Prelude.{All}
use Rattle.std.specs.FinMap as map
use Rattle.run_start.specs.Starts.{AreNumbered}
use Rattle.run_start.proofs.Listed.{on_top}
use Rattle.run_start.proofs.listing.listed.Given as goal

-- those that are listed, put in over those that are left
abbrev pub invariant-loop-p : goal.invariant-loop-p
invariant-loop-p l = record {
  same : on_top l.list l.rest ≡ l.fn.guests;
  left : AreNumbered l.rest;
  numbered : All (λ entry. entry.1.pid ≡ entry.0) l.list;
}

abbrev pub decreases-loop-p : goal.decreases-loop-p
decreases-loop-p l = map.len l.rest
