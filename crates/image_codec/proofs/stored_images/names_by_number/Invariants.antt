use Rattle.std.proofs.Common.{◌≡◌}
use Rattle.std.proofs.Common.{map as each}
use Rattle.sys_abi.specs.Names.{by_name}
use Rattle.image_codec.specs.KernelParts.{inserted}
use Rattle.image_codec.specs.KernelImages.{name_under, names_by_number}
use Rattle.image_codec.proofs.stored_images.names_by_number.Given as goal

-- the names that are left are put in after those that were
abbrev pub invariant-loop-name : goal.invariant-loop-name
invariant-loop-name l = inserted (each name_under (by_name l.name-iterator.iter)) l.found ≡ names_by_number l.names
