use Rattle.std.proofs.Common.{◌≡◌, ◌+◌, drop}
use Rattle.guest_threads.specs.Rows.{place}
use Rattle.guest_threads.proofs.rows.place_of.Given as goal

abbrev pub invariant-loop-place : goal.invariant-loop-place
invariant-loop-place l = l.place + place l.t (drop l.place l.rows) ≡ place l.t l.rows
