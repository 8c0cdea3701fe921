use Rattle.std.proofs.Common.{◌≡◌, ◌+◌, drop}
use Rattle.barrier_core.specs.Rows.{place}
use Rattle.barrier_core.proofs.rows.place_of.Given as goal

abbrev pub invariant-loop-place : goal.invariant-loop-place
invariant-loop-place l = l.place + place l.p (drop l.place l.rows) ≡ place l.p l.rows
