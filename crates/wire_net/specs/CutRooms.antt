-- The room that the agents of a checkpoint need.
-- Source: the DMTCP paper (IPDPS 2009), "drain kernel buffers" and "refill kernel buffers"; that all of it is
-- taken first is this project's own rule.
--     names_of notes          the directions with the length of the list that may come back
--     new_notes named         nothing is noted of the direction, and there is room for two lists of the length
--     new_parts lengths       all room for these directions
--     IsWholeIf whole parts   if so, nothing of the room is used
--     HasRoom notes           nothing has come back of the direction yet
use Rattle.std.specs.Prelude.{◌≡◌, ℕ, Bool, true, List, [], map, length, None}
use Rattle.sys_abi.specs.declared.identity.Dir.{Dir}
use Rattle.wire_net.specs.Reserves.{reserve}
use Rattle.wire_net.specs.declared.cut_room.DirNotes.{DirNotes}
use Rattle.wire_net.specs.declared.cut_room.RoomParts.{RoomParts}

abbrev pub Named : Type 0
Named = Dir × ℕ

pub record RoomView : Type 0 where
  pub lengths : List Named
  pub is_whole : Bool

abbrev pub name_of : DirNotes → Named
name_of notes = (notes.dir, notes.returned.room)

abbrev pub names_of : List DirNotes → List Named
names_of notes = map name_of notes

abbrev pub new_notes : Named → DirNotes
new_notes named = record {
  dir = named.0;
  drained = reserve [] named.1;
  returned = reserve [] named.1;
  sender = None;
  reader = None;
  count = 0;
  sent = 0;
  read = 0;
}

abbrev pub all_notes : List Named → List DirNotes
all_notes lengths = map new_notes lengths

abbrev pub new_parts : List Named → RoomParts
new_parts lengths = record { transfer = []; notes = all_notes lengths; lists = reserve [] (length lengths) }

abbrev pub IsWholeIf : Bool → RoomParts → Type 0
IsWholeIf whole parts = whole ≡ true → parts ≡ new_parts (names_of parts.notes)

-- the list of what comes back is empty, so that its room is there
abbrev pub HasRoom : DirNotes → Type 0
HasRoom notes = notes.returned.items ≡ []
