-- The kernel part for which a system stands, as an image has it.
-- Source: Ansel, Arya, Cooperman, "DMTCP: Transparent Checkpointing for Cluster Computations and the
-- Desktop", 2009: images have the bytes that were drained, and restarted processes find them.
--     all_in k                             the kernel part with all bytes of all directions arrived
--     IsToldBy s held owners lists k       the system stands for the kernel part, in a stage or in none; its
--                                          owners are those kept, and the bytes of its directions those
--                                          listed
--     holders_of, stored_of, connected_of      parts of it, with all bytes arrived
use Rattle.std.specs.Prelude.{◌≡◌, List, Option, Some}
use Rattle.std.specs.FinMap as map
use Rattle.views.specs.Maps.{map_values}
use Rattle.sys_abi.specs.declared.identity.DescId.{DescId}
use Rattle.fd_tables.specs.declared.description.Desc.{Desc}
use Rattle.plain_tables.specs.Tables.{Processes, Makers, Descriptors, Descriptions, Names, Files, Channels, Directions, Listeners}
use Rattle.plain_machine.specs.declared.kernel.PlainKernel.{PlainKernel}
use Rattle.plain_machine.specs.Tests.{all_arrived}
use Rattle.wire_net.specs.declared.cut_room.DirBytes.{DirBytes}
use Rattle.host_tables.specs.declared.system.System.{System}
use Rattle.host_tables.specs.Descriptions.{Stage, owner_of}
use Rattle.host_tables.specs.Systems as systems
use Rattle.seen_kernel.specs.Descriptions as descriptions
use Rattle.seen_kernel.specs.Directions.{HaveBytes}

abbrev pub Lists : Type 0
Lists = List DirBytes

abbrev pub Owners : Type 0
Owners = descriptions.Owners

abbrev pub StandsFor : System → Option Stage → PlainKernel → Type 0
StandsFor = systems.StandsFor

abbrev pub all_in : PlainKernel → PlainKernel
all_in k = record k { directions = map_values all_arrived k.directions }

pub record IsToldBy (s : System) (held : Option Stage) (owners : Owners) (lists : Lists)
    (k : PlainKernel) : Type 0 where
  pub stands : StandsFor s held k
  pub plain : descriptions.HasNoDatagrams k.descriptions
  pub owners_are : (id : DescId) (d : Desc) → map.get s.kernel.book.descriptions id ≡ Some d
      → owner_of held id d ≡ descriptions.kept_owner owners id
  pub bytes_are : HaveBytes s.kernel.net held lists

abbrev pub holders_of : PlainKernel → Processes × Makers × Descriptors × Descriptions
holders_of k = (k.processes, k.makers, k.descriptors, k.descriptions)

abbrev pub stored_of : PlainKernel → Names × Files
stored_of k = (k.names, k.files)

abbrev pub connected_of : PlainKernel → Channels × Directions × Listeners
connected_of k = (k.channels, map_values all_arrived k.directions, k.listeners)
