-- A drained set tells its kernel part: its lists have the bytes of all directions, and the owners are kept.
--     set_told      the system stands for it so
use Rattle.std.proofs.Common.{ℕ, List, Some, refl}
use Rattle.plain_machine.specs.declared.kernel.PlainKernel.{PlainKernel}
use Rattle.wire_net.specs.declared.agents.AgentEnd.{AgentEnd}
use Rattle.wire_net.specs.declared.cut_room.DirBytes.{DirBytes}
use Rattle.wire_net.specs.CutRooms.{RoomView}
use Rattle.wire_net.specs.DrainedNets.{agents_of_lists}
use Rattle.host_tables.specs.declared.system.System.{System}
use Rattle.host_tables.specs.Descriptions.{Stage}
use Rattle.leader_vote.specs.Owners.{Owners}
use Rattle.seen_kernel.specs.Seen.{IsToldBy}
use Rattle.cut_stages.specs.Resumptions.{IsDrainedSet}
use Rattle.cut_stages.proofs.Holding.{stands_held}

abbrev pub kept_by : Owners → List DirBytes → Stage
kept_by owners lists = record { agents = agents_of_lists lists; owners = owners }

pub set_told : (s : System) (next_id : ℕ) (k : PlainKernel) (owners : Owners) (ends : List AgentEnd)
    (lists : List DirBytes) (room : RoomView) → IsDrainedSet s next_id k owners ends lists room
    → IsToldBy s (Some (kept_by owners lists)) owners lists k
set_told s next_id k owners ends lists room is = record {
  stands = stands_held s next_id k owners (agents_of_lists lists) is.cut;
  plain = is.cut.plain;
  owners_are = λ id d at. refl;
  bytes_are = record { whole = is.whole; bytes = is.bytes };
}
