-- What the agents of a drain hold, as `wire_net` asks where the bytes of a direction are.
-- Source: the DMTCP paper (IPDPS 2009), "drain kernel buffers".
--     held_of x            what they hold of a direction: the bytes that were read, and how many in its queues stand before the cookie
--     agents_of notes      of each direction that they drain
--     whereabouts          the bytes of a direction, wherever they are, by what is held: it is `wire_net`'s
use Rattle.std.specs.Prelude.{◌-◌, [], ◌∷◌, is_some, if◌then◌else◌}
use Rattle.std.specs.FinMap as map
use Rattle.wire_net.specs.declared.cut_room.DirNotes.{DirNotes}
use Rattle.wire_net.specs.Whereabouts.{Held, Agents}
pub use Rattle.wire_net.specs.Whereabouts.{whereabouts}
use Rattle.drain_core.specs.Drains.{Notes}

abbrev pub held_of : DirNotes → Held
held_of x = record {
  drained = x.drained.items;
  foreign = 0;
  plain = x.count - x.read;
  returned = [];
  header = 0;
  framed = 0;
  unframed = [];
}

abbrev pub agents_of : Notes → Agents
agents_of [] = map.empty
agents_of (x ∷ notes) = if is_some x.sender then map.insert (agents_of notes) x.dir (held_of x) else agents_of notes
