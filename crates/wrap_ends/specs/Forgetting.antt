-- The pairs and the table of channels without what went with a description.
--     without_waiting conns queue         a side 1 of each connection of the queue is closed
--     ends_after, ids_after               by what the description was of
--     HasForgotten old new closed         a system after that
use Rattle.std.specs.Prelude.{◌≡◌, ℕ, ◌<◌, ◌^◌, nat_lt, List, [], ◌∷◌, length, Option, Some, None, if◌then◌else◌}
use Rattle.std.specs.FinMap as map
use Rattle.sys_abi.specs.declared.identity.ConnId.{ConnId}
use Rattle.sys_abi.specs.declared.identity.DescId.{DescId}
use Rattle.sys_abi.specs.declared.identity.VirtAddr.{VirtAddr}
use Rattle.conn_table.specs.Conns.{after_end}
use Rattle.fd_tables.specs.declared.description.Object.{Object}
use Rattle.fd_tables.specs.declared.description.Object.TheVariants.{Stream, Listener}
use Rattle.virt_ids.specs.Pairs.{Pairs, without_back}
use Rattle.wire_channels.specs.Listeners.{Listeners}
use Rattle.wire_net.specs.Networks.{waiting_at}
use Rattle.host_descriptors.specs.declared.closing.Closed.{Closed}
use Rattle.host_tables.specs.declared.system.System.{System}
use Rattle.host_tables.specs.Descriptions.{Names}
use Rattle.host_tables.specs.Network.{Conns}

unfoldable pub without_waiting : Conns → List ConnId → Conns
without_waiting conns [] = conns
without_waiting conns (id ∷ rest) = without_waiting (after_end 1 conns id) rest

abbrev pub without_side : Conns → ConnId → ℕ → Conns
without_side conns id side = if nat_lt side 2 then after_end side conns id else conns

-- the connections that wait where it listens
abbrev pub queue_of : Listeners → Object → List ConnId
queue_of listeners (Listener at) = waiting_at (map.get listeners at)
queue_of listeners _ = []

abbrev pub ends_after : Listeners → Conns → Object → Conns
ends_after listeners conns (Stream conn side) = without_side conns conn side
ends_after listeners conns (Listener at) = without_waiting conns (waiting_at (map.get listeners at))
ends_after listeners conns _ = conns

abbrev pub without_place : Pairs → Option VirtAddr → Pairs
without_place ids None = ids
without_place ids (Some a) = record ids {
  addresses = map.remove ids.addresses a;
  ports = without_back ids.ports (map.get ids.addresses a);
}

abbrev pub ids_after : Names → Pairs → DescId → Object → Pairs
ids_after names ids id (Listener at) = without_place ids (map.get names id)
ids_after names ids id _ = ids

pub record HasForgotten (old new : System) (closed : Closed) : Type 0 where
  pub ids : new.ids ≡ ids_after old.conns.names old.ids closed.desc closed.object
  pub conns : length (queue_of old.kernel.net.listeners closed.object) < 2 ^ 32
      → new.conns ≡ record old.conns {
        conns = ends_after old.kernel.net.listeners old.conns.conns closed.object;
        names = map.remove old.conns.names closed.desc;
      }
