-- Open descriptions through the pairs, also while a checkpoint keeps their owners.
-- Source: `man 2 open`, `man 2 fcntl` (F_SETOWN); DMTCP elects leaders by F_SETOWN.
--     Stage, agents_of, owner_of      what a stage of a checkpoint holds
--     seen_object, seen_desc          an object and a description as the real one tells them
--     SameDescriptions                each is as it is told, and what that rests on is there
use Rattle.std.specs.Prelude.{◌≡◌, Option, Some, None, IsSome, option_map, option_and_then, unwrap_or}
use Rattle.std.specs.FinMap as map
use Rattle.std.specs.FinMap.{FinMap}
use Rattle.sys_abi.specs.declared.identity.DescId.{DescId}
use Rattle.sys_abi.specs.declared.identity.RealPid.{RealPid}
use Rattle.sys_abi.specs.declared.identity.RealAddr.{RealAddr}
use Rattle.sys_abi.specs.declared.identity.VirtAddr.{VirtAddr}
use Rattle.sys_abi.specs.Orders.{desc_cmp, address_cmp}
use Rattle.fd_tables.specs.declared.description.Desc.{Desc}
use Rattle.fd_tables.specs.declared.description.Object.{Object}
use Rattle.fd_tables.specs.declared.description.Object.TheVariants as real_object
use Rattle.plain_machine.specs.OfPlainTables.declared.description.Description.{Description}
use Rattle.plain_machine.specs.OfPlainTables.declared.description.Object as plain
use Rattle.plain_machine.specs.OfPlainTables.declared.description.Object.TheVariants.{Console, File, Stream, Socket, Listener, Datagram, Counter}
use Rattle.plain_machine.specs.OfPlainTables.Tables.{Descriptions}
use Rattle.wire_net.specs.Whereabouts.{Agents}
use Rattle.conn_table.specs.Pairs.{Pairs}
use Rattle.host_tables.specs.Numbers.{Virts, number_of, IsKnown}
use Rattle.host_tables.specs.Datagrams.{RealDescriptions, peer_of, IsOpenEnd}

-- what agents hold of each direction, and the owners that descriptions had before the election
pub record Stage : Type 0 where
  pub agents : Agents
  pub owners : FinMap desc_cmp (Option RealPid)

abbrev pub agents_of : Option Stage → Agents
agents_of None = map.empty
agents_of (Some stage) = stage.agents

abbrev pub owner_of : Option Stage → DescId → Desc → Option RealPid
owner_of None id d = d.owner
owner_of (Some stage) id d = option_and_then (λ owner. owner) (map.get stage.owners id)

-- the address of each socket and listener; a socket that isn't bound has its host's with the port 0
abbrev pub Names : Type 0
Names = FinMap desc_cmp VirtAddr

-- the port of its node at which each virtual address is listened
abbrev pub Addresses : Type 0
Addresses = FinMap address_cmp RealAddr

abbrev pub nowhere : VirtAddr
nowhere = record { host = 0; port = 0 }

abbrev pub address_of : Names → DescId → VirtAddr
address_of names id = unwrap_or (map.get names id) nowhere

abbrev pub seen_object : Names → Pairs → DescId → Object → plain.Object
seen_object names pairs id real_object.Console = Console
seen_object names pairs id (real_object.File number offset) = File number offset
seen_object names pairs id (real_object.Stream conn side) = Stream conn side
seen_object names pairs id real_object.Socket = Socket (address_of names id)
seen_object names pairs id (real_object.Listener at) = Listener (address_of names id)
seen_object names pairs id (real_object.Datagram queue side) = Datagram (peer_of pairs id queue side)
seen_object names pairs id (real_object.Counter value) = Counter value

-- an owner is nobody (0), or its process's number
abbrev pub seen_desc : Virts → Names → Pairs → Option Stage → DescId → Desc → Description
seen_desc virts names pairs held id d = record {
  object = seen_object names pairs id d.object;
  flags = d.flags;
  owner = number_of virts 0 (owner_of held id d);
}

-- what an object is told by is there
abbrev pub IsTold : Names → Addresses → Pairs → DescId → Object → Type 0
IsTold names addresses pairs id real_object.Socket = IsSome (map.get names id)
IsTold names addresses pairs id (real_object.Listener at) =
    IsSome (map.get names id) × (map.get addresses (address_of names id) ≡ Some at)
IsTold names addresses pairs id (real_object.Datagram queue side) = IsOpenEnd pairs id queue side
IsTold names addresses pairs id _ = Unit {0}

pub record SameDescriptions (virts : Virts) (names : Names) (addresses : Addresses) (pairs : Pairs)
    (held : Option Stage) (virt : Descriptions) (real : RealDescriptions) : Type 0 where
  pub each : (id : DescId)
      → map.get virt id ≡ option_map (seen_desc virts names pairs held id) (map.get real id)
  pub owners : (id : DescId) (d : Desc) → map.get real id ≡ Some d → IsKnown virts (owner_of held id d)
  pub objects : (id : DescId) (d : Desc) → map.get real id ≡ Some d
      → IsTold names addresses pairs id d.object
