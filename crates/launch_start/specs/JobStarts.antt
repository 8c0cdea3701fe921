-- How far the start of a job has come, when so many of its files and programs have been read.
--     Blames ending Why           the call ends so, and for a reason of which this holds, but for want of memory
--     room_after files            how many bytes the files to come may have
--     HasRead files start read    these inputs were read, nothing was wrong with them, and the start is theirs
use Rattle.std.specs.Prelude.{◌≡◌, ◌≢◌, ℕ, ◌-◌, ◌<◌, ◌≤◌, nat_lt, if◌then◌else◌, List, [], ◌∷◌, ◌++◌, length, map, sum_by, All, Option, Some, None}
use Rattle.views.specs.Limits.{HOST_LIMIT, PROCESS_LIMIT, NAMED_FILE_LIMIT, ALL_FILES_LIMIT, NAME_LIMIT}
use Rattle.elf32.specs.declared.fault.ElfFault.{ElfFault}
use Rattle.elf32.specs.declared.program.Program.{Program}
use Rattle.elf32.specs.Programs.{program_of}
use Rattle.elf32.specs.Rules.{first_fault}
use Rattle.plain_process.specs.Launches.{IsLaunched as CanLaunch}
use Rattle.plain_process.specs.Valid.{IsByte}
use Rattle.plain_machine.specs.Valid.{AreNamed}
use Rattle.run_start.specs.declared.start.Start.{Start}
use Rattle.run_start.specs.Starts.{state_of, CanBegin, IsStart}
use Rattle.edge_io.specs.Inputs.{NamedFiles}
use Rattle.option_words.specs.Options.{Text}
use Rattle.job_words.specs.declared.job.LaunchJob.{LaunchJob}
use Rattle.job_words.specs.declared.job.NamedProgram.{NamedProgram}
use Rattle.job_words.specs.Commands.{HasNoZero}
use Rattle.endings.specs.declared.ending.Ending.{Ending}
use Rattle.endings.specs.declared.ending.Ending.TheVariants.{InputFault, Missing, BadElf, TooBig, Memory}
use Rattle.launch_start.specs.declared.job_start.JobStart.{JobStart}
use Rattle.launch_start.specs.JobInputs.{Content, found, FileInput, ProgramInput, JobInputs, IsContent, Refusal, unread, missing, bad, too_big, file_refusal, program_refusal, bytes_in, AreLoaded, launched, named_file, loaded_job}

abbrev pub Blames : Ending → (Refusal → Type 0) → Type 0
Blames (InputFault who) Why = Why (unread who.now)
Blames (Missing who) Why = Why (missing who.now)
Blames (BadElf who fault) Why = Why (bad who.now fault)
Blames TooBig Why = Why too_big
Blames Memory Why = Unit {0}
Blames _ Why = ⊥

-- what the inputs gave under the name of a file, and under that of a program
abbrev pub file_input : Text → Content → FileInput
file_input name content = record { name = name; content = content }

abbrev pub program_input : NamedProgram → Content → ProgramInput
program_input program content = record { program = program; content = content }

pub record IsFileRefused (files : Option NamedFiles) (name : Text) (why : Refusal) : Type 0 where
  pub content : Content
  pub told : IsContent files name content
  pub refused : file_refusal (file_input name content) ≡ Some why

pub record IsProgramRefused (files : Option NamedFiles) (program : NamedProgram) (why : Refusal) : Type 0 where
  pub content : Content
  pub told : IsContent files program.name content
  pub refused : program_refusal (program_input program content) ≡ Some why

-- it can be launched on every host with every list of arguments
abbrev pub IsGoodProgram : Program → Type 0
IsGoodProgram program = (host : ℕ) (arguments : List ℕ) → host < HOST_LIMIT → All IsByte arguments
    → CanLaunch (record { host = host; program = program; arguments = arguments })

-- the file of a job under this name holds these bytes
pub record IsFileRead (files : Option NamedFiles) (name : Text) (bytes : List ℕ) : Type 0 where
  pub told : IsContent files name (found bytes)
  pub each : All IsByte bytes

-- the file describes this program; or none, first of all for this
pub record IsProgramOf (file : List ℕ) (program : Program) : Type 0 where
  pub fine : first_fault file ≡ None
  pub is : program ≡ program_of file
  pub good : IsGoodProgram program

pub record IsBadProgram (name : Text) (file : List ℕ) (why : Refusal) : Type 0 where
  pub fault : ElfFault
  pub first : first_fault file ≡ Some fault
  pub is : why ≡ bad name fault

-- the program in the input of this name was read
pub record IsProgramRead (files : Option NamedFiles) (name : Text) (program : Program) : Type 0 where
  pub file : List ℕ
  pub told : IsContent files name (found file)
  pub of : IsProgramOf file program

-- how many bytes files may have that come after so many, if any may come
abbrev pub room_after : ℕ → Option ℕ
room_after total = if nat_lt ALL_FILES_LIMIT total then None else Some (ALL_FILES_LIMIT - total)

abbrev pub size_of : List FileInput → ℕ
size_of files = sum_by (λ (input : FileInput). length (bytes_in input.content)) files

-- the start of these files and programs
pub record IsStartOf (s : Start) (read : JobInputs) : Type 0 where
  pub start : IsStart s (map launched read.programs) (map named_file read.files)
  pub files : AreNamed (map named_file read.files)
  pub programs : All CanLaunch (map launched read.programs)

-- these were read, nothing was wrong with any of them, and as long as the files have not too many bytes the
-- start is that of them
pub record HasRead (files : Option NamedFiles) (start : JobStart) (read : JobInputs) : Type 0 where
  pub files_told : All (λ (input : FileInput). IsContent files input.name input.content) read.files
  pub programs_told : All (λ (input : ProgramInput). IsContent files input.program.name input.content) read.programs
  pub files_fine : All (λ (input : FileInput). file_refusal input ≡ None) read.files
  pub programs_fine : All (λ (input : ProgramInput). program_refusal input ≡ None) read.programs
  pub room : start.room ≡ room_after (size_of read.files)
  pub can : CanBegin start.state
  pub built : start.room ≢ None → IsStartOf start.state read

abbrev pub files_alone : List FileInput → JobInputs
files_alone files = record { files = files; programs = [] }

abbrev pub with_program : JobInputs → NamedProgram → List ℕ → JobInputs
with_program read program bytes =
    record { files = read.files; programs = read.programs ++ program_input program (found bytes) ∷ [] }

-- a file of this name may come after these
pub record CanFollow (before : List FileInput) (name : Text) : Type 0 where
  pub few : length before < NAMED_FILE_LIMIT
  pub some : 1 ≤ length name
  pub short : length name ≤ NAME_LIMIT
  pub plain : HasNoZero name
  pub apart : All (λ (input : FileInput). input.name ≢ name) before

-- a program may come after so many
pub record CanRun (before : ℕ) (program : NamedProgram) : Type 0 where
  pub few : before < PROCESS_LIMIT
  pub placed : program.host < HOST_LIMIT
  pub some : 1 ≤ length program.arguments
  pub short : length program.arguments ≤ 4096

-- it is the start of the job
pub record IsLoaded (files : Option NamedFiles) (job : LaunchJob) (s : Start) : Type 0 where
  pub inputs : JobInputs
  pub loaded : AreLoaded files job inputs
  pub state : state_of s ≡ loaded_job inputs
  pub can : CanBegin s
