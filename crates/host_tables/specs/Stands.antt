-- What it is for a kernel over real numbers to stand for a plain kernel part.
--     Given                     the pairs, the number that each node hands out next, and the kinds and addresses
--                               of channels and sockets, by which it does
--     Stands g held real k      it does, while a stage of a checkpoint holds this of it
--     with_number, with_place, with_name, with_conn      one thing more is given
use Rattle.std.specs.Prelude.{◌≡◌, ℕ, ◌+◌, true, List, [], ◌∷◌, slice_set, Option}
use Rattle.std.specs.FinMap as map
use Rattle.sys_abi.specs.declared.identity.DescId.{DescId}
use Rattle.sys_abi.specs.declared.identity.ConnId.{ConnId}
use Rattle.sys_abi.specs.declared.identity.RealPid.{RealPid}
use Rattle.sys_abi.specs.declared.identity.RealAddr.{RealAddr}
use Rattle.sys_abi.specs.declared.identity.VirtAddr.{VirtAddr}
use Rattle.conn_table.specs.declared.conn.Conn.{Conn}
use Rattle.vfs_files.specs.FileTable.{FileTable}
use Rattle.plain_machine.specs.OfPlainTables.Tables as plain
use Rattle.plain_machine.specs.declared.kernel.PlainKernel.{PlainKernel}
use Rattle.host_tables.specs.declared.kernel.Kernel.{Kernel}
use Rattle.host_tables.specs.Numbers.{Pids, Virts, ArePaired, AreNumbered}
use Rattle.host_tables.specs.Processes.{SameProcesses, SameDescriptors}
use Rattle.host_tables.specs.Datagrams.{SameInboxes}
use Rattle.host_tables.specs.Descriptions.{Stage, Names, Addresses, SameDescriptions}
use Rattle.host_tables.specs.Network.{Conns, Ports, SameChannels, SameDirections, SameListeners}

pub record Given : Type 0 where
  pub pids : Pids
  pub virts : Virts
  pub next : List ℕ
  pub addresses : Addresses
  pub ports : Ports
  pub conns : Conns
  pub names : Names

pub record SameFiles (t : FileTable) (names : plain.Names) (files : plain.Files)
    (next_file : ℕ) : Type 0 where
  pub names_are : names ≡ t.names
  pub files_are : files ≡ t.files
  pub next_is : next_file ≡ t.next_file

-- each topic over the maps that it reads
pub record Stands (g : Given) (held : Option Stage) (real : Kernel) (k : PlainKernel) : Type 0 where
  pub paired : ArePaired g.pids g.virts g.next real.procs.next
  pub numbered : AreNumbered real.nodes g.pids k.processes k.makers
  pub processes : SameProcesses g.pids g.virts k.processes real.procs.processes
  pub descriptors : SameDescriptors g.pids g.virts k.descriptors real.book.descriptors
  pub descriptions : SameDescriptions g.virts g.names g.addresses real.datagrams held k.descriptions
      real.book.descriptions
  pub inboxes : SameInboxes real.datagrams k.inboxes real.book.descriptions
  pub files : SameFiles real.files k.names k.files k.next_file
  pub channels : SameChannels g.conns k.channels real.net.channels
  pub directions : SameDirections real.net held k.directions
  pub listeners : SameListeners real.nodes g.addresses g.ports k.listeners real.net.listeners

abbrev pub with_number : Given → ℕ → RealPid → Given
with_number g v r = record g {
  pids = map.insert g.pids v r;
  virts = map.insert g.virts r v;
  next = slice_set g.next r.node (r.pid + 1);
}

abbrev pub with_place : Given → VirtAddr → RealAddr → Given
with_place g a at = record g { addresses = map.insert g.addresses a at; ports = map.insert g.ports at a }

abbrev pub with_name : Given → DescId → VirtAddr → Given
with_name g id a = record g { names = map.insert g.names id a }

-- a channel with both its ends open
abbrev pub open_conn : ConnId → ℕ → Option VirtAddr → Option VirtAddr → Conn
open_conn id kind first second =
    record { id = id; kind = kind; addr = first ∷ second ∷ []; open_ends = true ∷ true ∷ [] }

abbrev pub with_conn : Given → Conn → Given
with_conn g conn = record g { conns = map.insert g.conns conn.id conn }
