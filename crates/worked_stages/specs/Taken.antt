-- What was drained of a direction.
--     taken d bytes      the bytes, which were taken off it
use Rattle.std.specs.Prelude.{ℕ, List, false}
use Rattle.sys_abi.specs.declared.identity.Dir.{Dir}
use Rattle.wire_net.specs.declared.cut_room.DirBytes.{DirBytes}

abbrev pub taken : Dir → List ℕ → DirBytes
taken d bytes = record { dir = d; bytes = bytes; in_place = false }
