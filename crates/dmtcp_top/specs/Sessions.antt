-- A call of the program, as far as its promise speaks of it: what it was given, what it left, and what is
-- seen of what is outside.
use Rattle.std.specs.Prelude.{◌⊎◌, List, Option}
use Rattle.views.specs.Numbers.{Byte}
use Rattle.sys_abi.specs.declared.record.Record.{Record}
use Rattle.views.specs.Faults.{Rose}
use Rattle.edge_io.specs.Inputs.{NamedFiles, SeenInputs}
use Rattle.edge_io.specs.Sink.{SeenSink}
use Rattle.edge_io.specs.Sunk.{Sunk, sunk}
use Rattle.disk_folder.specs.Files.{FolderFiles as Folder}
use Rattle.disk_folder.specs.SeenFolder.{SeenFolder}
use Rattle.plain_machine.specs.declared.plain.Plain.{Plain}
use Rattle.trace_log.specs.declared.requests.Schedule.{Schedule}

-- what a call was given: the words of the command line, and the files that the inputs hold and those that the
-- folder of sets had at the start, where they tell them
pub record Given : Type 0 where
  pub words : List (List Byte)
  pub files : Option NamedFiles
  pub folder : Option Folder

-- the state with which a run began, and when it asks for checkpoints
pub record Beginning : Type 0 where
  pub state : Plain
  pub schedule : Schedule

-- what a call left: how a run began, if one did, the trace, and the console
pub record Left : Type 0 where
  pub start : Option Beginning
  pub trace : List Record
  pub console : Sunk

pub record Session : Type 0 where
  pub given : Given
  pub left : Left

abbrev pub given : List (List Byte) → Option NamedFiles → Option Folder → Given
given words files folder = record { words = words; files = files; folder = folder }

abbrev pub session : Given → Option Beginning → List Record → Sunk → Session
session given start trace console =
    record { given = given; left = record { start = start; trace = trace; console = console } }

-- what is seen at a moment of what a call is lent
pub record Outside : Type 1 where
  pub inputs : SeenInputs
  pub console : SeenSink
  pub log : SeenSink
  -- the folder of sets
  pub folder : SeenFolder

abbrev pub outside : SeenInputs → SeenSink → SeenSink → SeenFolder → Outside
outside inputs console log folder = record { inputs = inputs; console = console; log = log; folder = folder }

-- a call with these words that begins at a moment
abbrev pub given_in : List (List Byte) → Outside → Given
given_in words before = given words before.inputs.files before.folder.files

-- the call from one moment to the other
abbrev pub session_in : List (List Byte) → Option Beginning → List Record → Outside → Outside → Session
session_in words start trace before after =
    session (given_in words before) start trace (sunk before.console.taken after.console.taken)

-- what its log took
abbrev pub log_in : Outside → Outside → Sunk
log_in before after = sunk before.log.taken after.log.taken

-- a read of the inputs failed between the two moments
abbrev pub InputsFailed : Outside → Outside → Type 0
InputsFailed before after = Rose before.inputs.faults after.inputs.faults

-- a put on the console or on the log failed
abbrev pub StreamsFailed : Outside → Outside → Type 0
StreamsFailed before after =
    Rose before.console.faults after.console.faults ⊎ Rose before.log.faults after.log.faults

-- a call of the folder of sets failed
abbrev pub FolderFailed : Outside → Outside → Type 0
FolderFailed before after = Rose before.folder.faults after.folder.faults
