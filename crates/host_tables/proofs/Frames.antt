-- What stands for a kernel part goes on doing so where a table changes, if the topics of that table do: one
-- lemma a table. The other topics are as they were.
--     book_kept, files_kept, procs_kept, makers_kept, net_kept, datagrams_kept
use Rattle.std.specs.Prelude.{ℕ, Option}
use Rattle.fd_book.specs.Books.{Books}
use Rattle.proc_book.specs.Procs.{ProcTable}
use Rattle.vfs_files.specs.FileTable.{FileTable}
use Rattle.wire_net.specs.Networks.{Network}
use Rattle.conn_table.specs.Pairs.{Pairs}
use Rattle.plain_machine.specs.OfPlainTables.Tables as plain
use Rattle.plain_machine.specs.declared.kernel.PlainKernel.{PlainKernel}
use Rattle.host_tables.specs.declared.kernel.Kernel.{Kernel}
use Rattle.host_tables.specs.Numbers.{ArePaired, AreNumbered}
use Rattle.host_tables.specs.Processes.{SameProcesses, SameDescriptors}
use Rattle.host_tables.specs.Datagrams.{SameInboxes}
use Rattle.host_tables.specs.Descriptions.{Stage, SameDescriptions}
use Rattle.host_tables.specs.Network.{SameChannels, SameDirections, SameListeners}
use Rattle.host_tables.specs.Stands.{Given, SameFiles, Stands}

module _ (g : Given) (held : Option Stage) (real : Kernel) (k : PlainKernel) (st : Stands g held real k) where
  pub book_kept : (b : Books) (slots : plain.Descriptors) (descs : plain.Descriptions)
      → SameDescriptors g.pids g.virts slots b.descriptors
      → SameDescriptions g.virts g.names g.addresses real.datagrams held descs b.descriptions
      → SameInboxes real.datagrams k.inboxes b.descriptions
      → Stands g held (record real { book = b }) (record k { descriptors = slots; descriptions = descs })
  book_kept b slots descs same_slots same_descs same_inboxes = record {
    paired = st.paired;
    numbered = st.numbered;
    processes = st.processes;
    descriptors = same_slots;
    descriptions = same_descs;
    inboxes = same_inboxes;
    files = st.files;
    channels = st.channels;
    directions = st.directions;
    listeners = st.listeners;
  }

  pub files_kept : (t : FileTable) (names : plain.Names) (files : plain.Files) (next_file : ℕ)
      → SameFiles t names files next_file
      → Stands g held (record real { files = t }) (record k { names = names; files = files; next_file = next_file })
  files_kept t names files next_file same = record {
    paired = st.paired;
    numbered = st.numbered;
    processes = st.processes;
    descriptors = st.descriptors;
    descriptions = st.descriptions;
    inboxes = st.inboxes;
    files = same;
    channels = st.channels;
    directions = st.directions;
    listeners = st.listeners;
  }

  pub procs_kept : (t : ProcTable) (processes : plain.Processes) (makers : plain.Makers)
      → ArePaired g.pids g.virts g.next t.next → AreNumbered real.nodes g.pids processes makers
      → SameProcesses g.pids g.virts processes t.processes
      → Stands g held (record real { procs = t }) (record k { processes = processes; makers = makers })
  procs_kept t processes makers paired numbered same = record {
    paired = paired;
    numbered = numbered;
    processes = same;
    descriptors = st.descriptors;
    descriptions = st.descriptions;
    inboxes = st.inboxes;
    files = st.files;
    channels = st.channels;
    directions = st.directions;
    listeners = st.listeners;
  }

  pub makers_kept : (makers : plain.Makers) → AreNumbered real.nodes g.pids k.processes makers
      → Stands g held real (record k { makers = makers })
  makers_kept makers numbered = procs_kept real.procs k.processes makers st.paired numbered st.processes

  pub net_kept : (t : Network) (channels : plain.Channels) (directions : plain.Directions)
      (listeners : plain.Listeners)
      → SameChannels g.conns channels t.channels → SameDirections t held directions
      → SameListeners real.nodes g.addresses g.ports listeners t.listeners
      → Stands g held (record real { net = t })
      (record k { channels = channels; directions = directions; listeners = listeners })
  net_kept t channels directions listeners same_channels same_directions same_listeners = record {
    paired = st.paired;
    numbered = st.numbered;
    processes = st.processes;
    descriptors = st.descriptors;
    descriptions = st.descriptions;
    inboxes = st.inboxes;
    files = st.files;
    channels = same_channels;
    directions = same_directions;
    listeners = same_listeners;
  }

  pub datagrams_kept : (pairs : Pairs) (descs : plain.Descriptions) (inboxes : plain.Inboxes)
      → SameDescriptions g.virts g.names g.addresses pairs held descs real.book.descriptions
      → SameInboxes pairs inboxes real.book.descriptions
      → Stands g held (record real { datagrams = pairs }) (record k { descriptions = descs; inboxes = inboxes })
  datagrams_kept pairs descs inboxes same_descs same_inboxes = record {
    paired = st.paired;
    numbered = st.numbered;
    processes = st.processes;
    descriptors = st.descriptors;
    descriptions = same_descs;
    inboxes = same_inboxes;
    files = st.files;
    channels = st.channels;
    directions = st.directions;
    listeners = st.listeners;
  }
