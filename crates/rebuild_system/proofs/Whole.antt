-- The tables that were made, put together.
--     IsBuilt                 what each part of a system is
--     stands, handed_out      the system stands for the kernel part;  its numbers and ports were handed out
use Rattle.std.proofs.Common.{◌≡◌, ℕ, ◌+◌, ◌-◌, ◌^◌, ◌<◌, ◌≤◌, List, length, refl, sym, ap, subst, ◌∙◌}
use Rattle.std.specs.Prelude.{None, IsSome, is_some, slice_index}
use Rattle.std.specs.FinMap as map
use Rattle.sys_abi.specs.declared.identity.VirtAddr.{VirtAddr}
use Rattle.conn_table.specs.Pairs as datagrams
use Rattle.plain_machine.specs.declared.kernel.PlainKernel.{PlainKernel}
use Rattle.plain_machine.specs.Kernels.{IsKernel}
use Rattle.host_tables.specs.declared.kernel.Hosts.{Hosts}
use Rattle.host_tables.specs.declared.kernel.Kernel.{Kernel}
use Rattle.host_tables.specs.declared.system.System.{System}
use Rattle.host_tables.specs.Numbers.{HasRoom}
use Rattle.host_tables.specs.Stands.{SameFiles, Stands}
use Rattle.host_tables.specs.Systems.{given_of, AreExact, StandsFor}
use Rattle.rebuild_tables.specs.Hosts.{nodes_from}
use Rattle.rebuild_tables.specs.ConnTables.{IsTableOf, conn_of, own_address}
use Rattle.rebuild_processes.specs.declared.numbered.Numbered.{Numbered}
use Rattle.plain_machine.specs.Rows.Clone.{LAST_ID}
use Rattle.rebuild_processes.specs.Making.{IsMade, SPARE}
use Rattle.rebuild_tables.proofs.SeenChannels.{SameChannels-filled, open_ends-filled}
use Rattle.rebuild_tables.proofs.SeenDirections.{SameDirections-filled}
use Rattle.rebuild_system.specs.Nets.{IsNet}
use Rattle.rebuild_tables.specs.Rebuilt.{HasNoDatagrams, IsBook}
use Rattle.rebuild_tables.proofs.Standing.{rebuilt_descriptions, rebuilt_inboxes}
use Rattle.rebuild_system.specs.Restarts.{AllArrived, HandedOut}
use Rattle.rebuild_system.proofs.Listed.{only_named, are_entries, is_conn_of}
use Rattle.rebuild_system.proofs.Numbered.{AreLiving, living}

-- the processes m are as they were made; the pairs got addresses since
pub record IsBuilt (h : Hosts) (k : PlainKernel) (m : Numbered) (s : System) : Type 0 where
  pub made : IsMade h k m
  pub procs : s.kernel.procs ≡ m.procs
  pub pids : s.ids.pids ≡ m.ids.pids
  pub virts : s.ids.virts ≡ m.ids.virts
  pub net : IsNet h k s.ids s.kernel.net
  pub book : IsBook k s.ids s.kernel.book
  pub files : SameFiles s.kernel.files k.names k.files k.next_file
  pub conns : IsTableOf k s.conns
  pub datagrams : s.kernel.datagrams ≡ map.empty
  pub nodes : s.kernel.nodes ≡ nodes_from h

module _ (h : Hosts) (k : PlainKernel) (whole : IsKernel k) (arrived : AllArrived k.directions)
    (plain : HasNoDatagrams k.descriptions) (m : Numbered) (s : System) (is : IsBuilt h k m s) where
  live : AreLiving h k s.kernel.procs s.ids.pids s.ids.virts
  live = subst (λ procs. AreLiving h k procs s.ids.pids s.ids.virts) (sym is.procs)
      (living h k m is.made s.ids.pids s.ids.virts is.pids is.virts)

  places : (a : VirtAddr) → IsSome (map.get k.listeners a) → IsSome (map.get s.ids.addresses a)
  places a there = is.net.places a ∙ there

  -- with no datagram pairs, on these nodes
  abbrev plain_kernel : Kernel
  plain_kernel = record s.kernel { datagrams = map.empty; nodes = nodes_from h }

  tables_at : Stands (given_of s) None plain_kernel k
  tables_at = record {
    paired = live.paired;
    numbered = live.numbered;
    processes = live.processes;
    descriptors = is.book.descriptors;
    descriptions =
        rebuilt_descriptions k whole s.ids live.paired.inverse live.numbered.process plain places
        s.kernel.book is.book own_address (λ a. refl) (λ a. refl) s.conns.names is.conns.names;
    inboxes =
        rebuilt_inboxes k whole s.ids live.paired.inverse live.numbered.process plain places s.kernel.book
        is.book;
    files = is.files;
    channels =
        SameChannels-filled k.channels k.directions s.kernel.net.channels is.net.channels conn_of is_conn_of
        s.conns.conns is.conns.conns;
    directions =
        SameDirections-filled k.channels k.directions whole.channels s.kernel.net is.net.channels arrived;
    listeners = is.net.listeners;
  }

  tables : Stands (given_of s) None s.kernel k
  tables =
      subst (λ (nodes : List ℕ). Stands (given_of s) None (record s.kernel { nodes = nodes }) k)
      (sym is.nodes)
      (subst (λ (pairs : datagrams.Pairs). Stands (given_of s) None (record s.kernel {
        datagrams = pairs;
        nodes = nodes_from h;
      }) k) (sym is.datagrams) tables_at)

  exact : AreExact s k
  exact = record {
    makers = sym is.conns.makers;
    numbers = live.numbers;
    places = λ a at found. sym (is.net.places a) ∙ ap is_some found;
    names = only_named k s.conns is.conns;
    open_ends =
        open_ends-filled k.channels k.directions s.kernel.net.channels is.net.channels conn_of is_conn_of
        s.conns.conns is.conns.conns;
    entries = are_entries k s.conns is.conns;
  }

  pub stands : StandsFor s None k
  stands = record {
    kernel = whole;
    tables = tables;
    exact = exact;
    room = subst (λ procs. HasRoom k.next_id procs.next) (sym is.procs) is.made.room;
  }

  pub handed_out : HandedOut h k s
  handed_out =
      let same : s.kernel.procs.next ≡ m.procs.next = ap (λ procs. procs.next) is.procs in
      record {
        hosts = is.nodes;
        numbers = live.given;
        ports = is.net.ports;
        nodes = ap length same ∙ is.made.nodes;
        spare = λ node low.
            subst (λ next. slice_index next node + SPARE + (LAST_ID - k.next_id) ≤ 2 ^ 32) (sym same)
            (is.made.spare node (subst (λ n. node < n) (sym is.made.nodes) low));
      }
