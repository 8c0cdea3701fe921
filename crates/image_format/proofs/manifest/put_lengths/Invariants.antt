use Rattle.std.proofs.Common.{◌≡◌, ◌++◌, take}
use Rattle.std.specs.List.{flat_map}
use Rattle.image_format.specs.Format.{number_text, n64}
use Rattle.image_format.proofs.manifest.put_lengths.Given as goal

abbrev pub invariant-loop-length : goal.invariant-loop-length
invariant-loop-length l = l.bytes.items ≡ l.fn.bytes.items ++ flat_map (number_text n64) (take l.length-index l.lengths)
