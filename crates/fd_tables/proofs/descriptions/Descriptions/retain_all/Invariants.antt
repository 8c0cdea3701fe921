use Rattle.std.proofs.Common.{◌≡◌, ◌≤◌, take}
use Rattle.std.specs.Prelude.{is_some, count_by}
use Rattle.fd_tables.specs.Counts.{after_retains}
use Rattle.fd_tables.proofs.descriptions.Descriptions.retain_all.Given as goal

abbrev pub invariant-loop-place : goal.invariant-loop-place
invariant-loop-place l = record {
  retained : l.self ≡ after_retains l.fn.self (take l.place-index l.places);
  counted : l.count ≡ count_by is_some (take l.place-index l.places);
  few : l.count ≤ l.place-index;
}
