use Rattle.std.proofs.Common.{◌≡◌, ◌+◌, drop}
use Rattle.rebuild.proofs.Walk.{Continues}
use Rattle.rebuild.proofs.decode.images_at.Given as goal

abbrev pub invariant-loop-bytes : goal.invariant-loop-bytes
invariant-loop-bytes l = record {
  place : l.file ≡ 2 + l.bytes-index;
  walk : Continues l.shared l.files l.images l.file (drop l.bytes-index l.files);
}
