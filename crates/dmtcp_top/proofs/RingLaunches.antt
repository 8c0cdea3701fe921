-- The launch of a ring is refused for nothing that it reads.
use Rattle.std.proofs.Common.{◌≡◌, ℕ, List, [], map, get_or, None, ap, ◌∙◌}
use Rattle.std.specs.Option.{option_map, option_or}
use Rattle.std.specs.List.{range_with_len}
use Rattle.std.proofs.lemmas.List.Elements.{All-map}
use Rattle.option_words.specs.Options.{Text}
use Rattle.rv_asm.specs.Ring.{ring_file}
use Rattle.rv_asm.proofs.Rings.{ring_accepted}
use Rattle.job_words.specs.declared.job.LaunchJob.{LaunchJob}
use Rattle.job_words.specs.declared.job.RingJob.{RingJob}
use Rattle.job_words.specs.declared.job.NamedProgram.{NamedProgram}
use Rattle.job_words.specs.Jobs.{IsLaunchOf, start_of}
use Rattle.launch_start.specs.JobInputs.{bad, Content, found, ProgramInput, JobInputs, program_refusal, first_refusal, content_of, content_in, file_in, program_in, inputs_in}
use Rattle.launch_start.proofs.Refusals.{first, first_refusal_is, none_refused}
use Rattle.launch_start.specs.RingJobs.{RING, member, members, launch_settings, ring_files}
use Rattle.launch_start.proofs.RingFiles.{files_hold}

-- the program of a member is held, and good
held : content_in ring_files RING ≡ found ring_file
held = ap content_of files_hold

program_given : NamedProgram → Content → ProgramInput
program_given named content = record { program = named; content = content }

good : (n i : ℕ) → program_refusal (program_in ring_files (start_of (member n i))) ≡ None
unfolding program_given
good n i = ap (λ content. program_refusal (program_given (start_of (member n i)) content)) held ∙ ap (option_map (bad RING)) ring_accepted

abbrev Fine : NamedProgram → Type 0
Fine named = program_refusal (program_in ring_files named) ≡ None

all_good : (n : ℕ) (hosts : List ℕ) → first (map program_refusal (map (program_in ring_files) (map start_of (map (member n) hosts)))) ≡ None
all_good n hosts =
    none_refused program_refusal (map (program_in ring_files) (map start_of (map (member n) hosts)))
    (All-map (λ (input : ProgramInput). program_refusal input ≡ None) (program_in ring_files) (map start_of (map (member n) hosts))
    (All-map Fine start_of (map (member n) hosts) (All-map (λ program. Fine (start_of program)) (member n) hosts (λ k d inside. good n (get_or hosts k d)))))

inputs_of : List Text → List NamedProgram → JobInputs
inputs_of names programs = record { files = map (file_in ring_files) names; programs = map (program_in ring_files) programs }

pub nothing_refused : (ring : RingJob) (job : LaunchJob) → IsLaunchOf (launch_settings ring) (members ring.processes) job → first_refusal (inputs_in ring_files job) ≡ None
unfolding inputs_of
nothing_refused ring job of =
    let n = ring.processes in
    ap (λ (names : List Text). first_refusal (inputs_of names job.programs)) of.file
    ∙ ap (λ programs. first_refusal (inputs_of [] programs)) of.programs
    ∙ first_refusal_is (inputs_of [] (map start_of (members n)))
    ∙ ap (λ o. option_or o None) (all_good n (range_with_len 0 n))
