-- What holds of every kernel part that a run reaches: a topic a field, each over its own tables.
-- Source: the limits of docs/MACHINE.md.
--     IsKernel k      all of it      AreNamed files      what a job's named files need
use Rattle.std.specs.Prelude.{◌≢◌, ◌≤◌, List, length, sum_by, All, AllPairs}
use Rattle.plain_tables.specs.OfViews.Limits.{NAMED_FILE_LIMIT, ALL_FILES_LIMIT}
use Rattle.plain_tables.specs.OfPlainProcess.Valid.{IsByte}
use Rattle.plain_machine.specs.declared.kernel.PlainKernel.{PlainKernel}
use Rattle.plain_machine.specs.Start.{NamedFile}
use Rattle.plain_tables.specs.Valid.Processes.{AreNumbers, AreProcesses, AreMakers, AreParents}
use Rattle.plain_tables.specs.Valid.Files.{IsName, AreFiles, AreOpenFiles}
use Rattle.plain_tables.specs.Valid.Descriptions.{AreDescriptors, AreDescriptions, AreHolders, AreMade}
use Rattle.plain_tables.specs.Valid.Channels.{AreChannels, AreStreams}
use Rattle.plain_tables.specs.Valid.Sockets.{AreListeners, AreAddresses, AreHosts}
use Rattle.plain_tables.specs.Valid.Datagrams.{AreInboxes, AreCounters}

pub record IsKernel (k : PlainKernel) : Type 0 where
  pub numbers : AreNumbers k.next_id k.next_file
  pub processes : AreProcesses k.next_id k.processes
  pub makers : AreMakers k.processes k.makers
  pub parents : AreParents k.processes k.makers
  pub files : AreFiles k.next_file k.names k.files
  pub open_files : AreOpenFiles k.names k.files k.descriptions
  pub descriptors : AreDescriptors k.processes k.descriptions k.descriptors
  pub descriptions : AreDescriptions k.descriptors k.descriptions
  pub holders : AreHolders k.processes k.makers k.descriptors k.descriptions
  pub made : AreMade k.next_id k.processes k.makers k.descriptions k.channels
  pub channels : AreChannels k.channels k.directions
  pub streams : AreStreams k.descriptions k.listeners k.channels
  pub listeners : AreListeners k.descriptions k.listeners k.channels
  pub addresses : AreAddresses k.descriptions
  pub hosts : AreHosts k.makers k.descriptors k.descriptions k.listeners k.channels
  pub inboxes : AreInboxes k.descriptions k.inboxes
  pub counters : AreCounters k.descriptions

-- named files that a job may begin with: at most 64 under distinct names, of as many bytes as files may have
pub record AreNamed (files : List NamedFile) : Type 0 where
  pub count : length files ≤ NAMED_FILE_LIMIT
  pub names : All (λ file. IsName file.name) files
  pub bytes : All (λ file. All IsByte file.bytes) files
  pub total : sum_by (λ file. length file.bytes) files ≤ ALL_FILES_LIMIT
  pub apart : AllPairs (λ file later. file.name ≢ later.name) files
