-- The bytes of a system that no stage of a checkpoint holds, and all of whose bytes can be read.
-- Source: `man 7 pipe`, `man 7 tcp`: bytes that were sent wait for their reader.
--     AllArrived directions      all bytes that were sent can be read
--     received_in m d            what can be read of a direction
--     arrived_in m d             the same, as a list of a direction that is left in place
use Rattle.std.specs.Prelude.{◌≡◌, ℕ, true, List, length}
use Rattle.sys_abi.specs.declared.identity.Dir.{Dir}
use Rattle.plain_process.specs.Valid.{Each}
use Rattle.plain_tables.specs.Tables.{Directions}
use Rattle.wire_channels.specs.Answers.{received_on}
use Rattle.wire_channels.specs.Channels.{Channels, direction_at}
use Rattle.wire_net.specs.declared.cut_room.DirBytes.{DirBytes}

abbrev pub AllArrived : Directions → Type 0
AllArrived directions = Each directions (λ d direction. direction.arrived ≡ length direction.left)

abbrev pub received_in : Channels → Dir → List ℕ
received_in m d = received_on (direction_at m d)

abbrev pub arrived_in : Channels → Dir → DirBytes
arrived_in m d = record { dir = d; bytes = received_in m d; in_place = true }
