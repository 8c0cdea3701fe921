use Rattle.std.proofs.Common.{◌≡◌, ◌+◌, ◌≤◌, ◌++◌, drop, vec_len}
use Rattle.std.specs.Prelude.{true}
use Rattle.plain_process.specs.Start.{string_places}
use Rattle.guest_start.proofs.stack.argument_places.Given as goal

abbrev pub invariant-loop-index : goal.invariant-loop-index
invariant-loop-index l = record {
  places : l.places.items ++ string_places (l.first + l.index) l.is_fresh (drop l.index l.arguments) ≡ string_places l.first true l.arguments;
  few : vec_len l.places ≤ l.index;
}
