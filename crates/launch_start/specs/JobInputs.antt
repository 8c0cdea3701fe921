-- What a launch reads, and what it is refused for: the files that its words name, in their order, then the
-- programs, each tested when it is read, then the sum of the files.
--     AreInputs files job inputs             what the inputs gave under the names of the job
--     first_refusal inputs                   the first thing for which the launch is refused, if any
--     IsFirstRefusal, AreLoaded              it is refused for this; it is not refused
--     inputs_in held job                     what inputs that hold these files give
--     loaded_job inputs                      the plain state of the job that was loaded
use Rattle.std.specs.Prelude.{◌≡◌, nat_lt, if◌then◌else◌, List, [], ◌∷◌, ◌++◌, length, map, fold, sum_by, All, Option, Some, None}
use Rattle.std.specs.Option.{option_map, option_or}
use Rattle.std.specs.FinMap as map_of
use Rattle.views.specs.Numbers.{Byte}
use Rattle.views.specs.Limits.{ALL_FILES_LIMIT}
use Rattle.elf32.specs.declared.fault.ElfFault.{ElfFault}
use Rattle.elf32.specs.Programs.{program_of}
use Rattle.elf32.specs.Rules.{first_fault}
use Rattle.plain_process.specs.Start.{Launched}
use Rattle.plain_machine.specs.declared.plain.Plain.{Plain}
use Rattle.plain_machine.specs.Start.{NamedFile, start}
use Rattle.edge_io.specs.Inputs.{NamedFiles}
use Rattle.option_words.specs.Options.{Text}
use Rattle.job_words.specs.declared.job.LaunchJob.{LaunchJob}
use Rattle.job_words.specs.declared.job.NamedProgram.{NamedProgram}

-- the inputs hold this under the name, or they don't tell
abbrev pub IsInput : Option NamedFiles → Text → Option (List Byte) → Type 0
IsInput files name content = (held : NamedFiles) → files ≡ Some held → map_of.get held name ≡ content

-- what the inputs gave under a name: the bytes of a file; nothing, since they hold none; or they failed
pub data Content : Type 0 where
  found : List Byte → Content
  absent : Content
  failed : Content

pub record FileInput : Type 0 where
  pub name : Text
  pub content : Content

pub record ProgramInput : Type 0 where
  pub program : NamedProgram
  pub content : Content

-- in the order of the words
pub record JobInputs : Type 0 where
  pub files : List FileInput
  pub programs : List ProgramInput

-- the inputs hold this under the name, where they tell it
abbrev pub IsContent : Option NamedFiles → Text → Content → Type 0
IsContent files name (found bytes) = IsInput files name (Some bytes)
IsContent files name absent = IsInput files name None
IsContent files name failed = Unit {0}

pub record AreInputs (files : Option NamedFiles) (job : LaunchJob) (inputs : JobInputs) : Type 0 where
  pub names : map (λ (input : FileInput). input.name) inputs.files ≡ job.file
  pub programs : map (λ (input : ProgramInput). input.program) inputs.programs ≡ job.programs
  pub files_told : All (λ (input : FileInput). IsContent files input.name input.content) inputs.files
  pub programs_told :
      All (λ (input : ProgramInput). IsContent files input.program.name input.content) inputs.programs

-- why a launch is refused: an input that could not be read or is not held, a program that breaks a rule of
-- its format, files of too many bytes in all
pub data Refusal : Type 0 where
  unread : Text → Refusal
  missing : Text → Refusal
  bad : Text → ElfFault → Refusal
  too_big : Refusal

abbrev pub refusal_by : (List Byte → Option Refusal) → Text → Content → Option Refusal
refusal_by tested name (found bytes) = tested bytes
refusal_by tested name absent = Some (missing name)
refusal_by tested name failed = Some (unread name)

abbrev pub file_refusal : FileInput → Option Refusal
file_refusal input = refusal_by (λ bytes. None) input.name input.content

abbrev pub program_refusal : ProgramInput → Option Refusal
program_refusal input =
    let name = input.program.name in
    refusal_by (λ bytes. option_map (bad name) (first_fault bytes)) name input.content

-- the bytes of what is there
abbrev pub bytes_in : Content → List Byte
bytes_in (found bytes) = bytes
bytes_in absent = []
bytes_in failed = []

abbrev pub sum_refusal : List FileInput → Option Refusal
sum_refusal files =
    if nat_lt ALL_FILES_LIMIT (sum_by (λ (input : FileInput). length (bytes_in input.content)) files)
    then Some too_big else None

-- for a name that is not held; for a program; for the sum of the files
abbrev pub IsMissing : Option Refusal → Type 0
IsMissing refusal = (name : Text) × (refusal ≡ Some (missing name))

abbrev pub IsBad : Option Refusal → Type 0
IsBad refusal = (name : Text) × ((fault : ElfFault) × (refusal ≡ Some (bad name fault)))

abbrev pub IsTooBig : Option Refusal → Type 0
IsTooBig refusal = refusal ≡ Some too_big

-- in the order in which they are tried
abbrev pub refusals : JobInputs → List (Option Refusal)
refusals inputs =
    map file_refusal inputs.files ++ map program_refusal inputs.programs ++ sum_refusal inputs.files ∷ []

abbrev pub first_refusal : JobInputs → Option Refusal
first_refusal inputs = fold option_or None (refusals inputs)

pub record IsFirstRefusal (files : Option NamedFiles) (job : LaunchJob) (refusal : Refusal) : Type 0 where
  pub inputs : JobInputs
  pub are : AreInputs files job inputs
  pub first : first_refusal inputs ≡ Some refusal

pub record AreLoaded (files : Option NamedFiles) (job : LaunchJob) (inputs : JobInputs) : Type 0 where
  pub are : AreInputs files job inputs
  pub none : first_refusal inputs ≡ None

abbrev pub content_of : Option (List Byte) → Content
content_of (Some bytes) = found bytes
content_of None = absent

abbrev pub content_in : NamedFiles → Text → Content
content_in held name = content_of (map_of.get held name)

abbrev pub file_in : NamedFiles → Text → FileInput
file_in held name = record { name = name; content = content_in held name }

abbrev pub program_in : NamedFiles → NamedProgram → ProgramInput
program_in held program = record { program = program; content = content_in held program.name }

abbrev pub inputs_in : NamedFiles → LaunchJob → JobInputs
inputs_in held job =
    record { files = map (file_in held) job.file; programs = map (program_in held) job.programs }

abbrev pub launched : ProgramInput → Launched
launched input = record {
  host = input.program.host;
  program = program_of (bytes_in input.content);
  arguments = input.program.arguments;
}

abbrev pub named_file : FileInput → NamedFile
named_file input = record { name = input.name; bytes = bytes_in input.content }

abbrev pub loaded_job : JobInputs → Plain
loaded_job inputs = start (map launched inputs.programs) (map named_file inputs.files)
