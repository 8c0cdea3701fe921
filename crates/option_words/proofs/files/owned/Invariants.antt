use Rattle.std.proofs.Common.{◌≡◌, map, take}
use Rattle.option_words.proofs.files.owned.Given as goal

abbrev pub invariant-loop-name : goal.invariant-loop-name
invariant-loop-name l = l.list ≡ map (λ name. name.now) (take l.name-index l.names)
