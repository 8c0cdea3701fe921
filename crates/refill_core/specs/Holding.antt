-- What the agents of a refill hold, as `wire_net` asks where the bytes of a direction are.
-- Source: the DMTCP paper (IPDPS 2009), "refill kernel buffers".
--     held_of x y          of the direction with the notes x, whose other direction has the notes y
--     agents_of notes      of each direction that they refill
--     own_bytes            the bytes of a direction, by its notes
--     whereabouts          the bytes of a direction, wherever they are, by what is held: it is `wire_net`'s
use Rattle.std.specs.Prelude.{ℕ, ◌-◌, min, max, List, [], ◌∷◌, drop, Option, Some, None, is_some, if◌then◌else◌}
use Rattle.std.specs.FinMap as map
use Rattle.wire_net.specs.declared.cut_room.DirNotes.{DirNotes}
use Rattle.wire_net.specs.Whereabouts.{Held, Agents, reverse}
pub use Rattle.wire_net.specs.Whereabouts.{whereabouts}
use Rattle.refill_core.specs.declared.limits.TheConstants.{HEADER_LENGTH}
use Rattle.refill_core.specs.Tasks.{frame_length}
use Rattle.refill_core.specs.Refills.{Notes, notes_at}

abbrev pub held_of : DirNotes → DirNotes → Held
held_of x y = record {
  drained = [];
  foreign = min x.sent (frame_length y) - y.read;
  plain = x.sent - frame_length y;
  returned = drop (x.sent - frame_length y) x.returned.items;
  header = min y.sent HEADER_LENGTH - x.read;
  framed = min y.sent (frame_length x) - max x.read HEADER_LENGTH;
  unframed = drop (y.sent - HEADER_LENGTH) x.drained.items;
}

abbrev pub with_held : Option DirNotes → DirNotes → Agents → Agents
with_held None x agents = agents
with_held (Some y) x agents = map.insert agents x.dir (held_of x y)

abbrev pub agents_among : Notes → Notes → Agents
agents_among whole [] = map.empty
agents_among whole (x ∷ notes) = if is_some x.sender then with_held (notes_at (reverse x.dir) whole) x (agents_among whole notes) else agents_among whole notes

abbrev pub agents_of : Notes → Agents
agents_of notes = agents_among notes notes

-- the bytes of a direction in a refill, wherever they are: what was drained of it, or what stands in the
-- network
abbrev pub own_bytes : Option DirNotes → List ℕ → List ℕ
own_bytes None bytes = bytes
own_bytes (Some x) bytes = if is_some x.sender then x.drained.items else bytes
