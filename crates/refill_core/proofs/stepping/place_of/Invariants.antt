use Rattle.std.proofs.Common.{◌≡◌, drop}
use Rattle.refill_core.specs.Refills.{notes_at}
use Rattle.refill_core.proofs.stepping.place_of.Given as goal

abbrev pub invariant-loop-place : goal.invariant-loop-place
invariant-loop-place l = notes_at l.d (drop l.place l.all) ≡ notes_at l.d l.all
