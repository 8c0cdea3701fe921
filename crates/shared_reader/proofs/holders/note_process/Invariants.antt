use Rattle.std.proofs.Common.{◌≡◌, take}
use Rattle.std.specs.Prelude.{fold}
use Rattle.std.specs.FinMap as map
use Rattle.sys_abi.specs.declared.identity.DescId.{DescId}
use Rattle.shared_reader.specs.HoldersOf.{after_descriptor}
use Rattle.shared_reader.proofs.holders.note_process.Given as goal

abbrev pub invariant-loop-descriptor : goal.invariant-loop-descriptor
invariant-loop-descriptor l =
    (key : DescId) → map.get l.holders key ≡ fold (after_descriptor key l.host) (map.get l.initial.holders key) (take l.descriptor-index l.descriptors)
