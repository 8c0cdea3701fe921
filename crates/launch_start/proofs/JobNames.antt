-- The next file and the next program of a job, when all before it have been read.
--     file_follows, file_passes      the file may follow, and it has been read
--     program_runs, program_passes   the same of a program
--     file_refuses, program_refuses  it is refused, and so is the launch
use Rattle.std.proofs.Common.{◌≡◌, ◌≢◌, ℕ, suc, ◌+◌, ◌<◌, ◌≤◌, List, [], ◌∷◌, ◌++◌, map, length, take, drop, get_or, sym, ap, subst, ◌∙◌, arith}
use Rattle.std.specs.Prelude.{All, Option}
use Rattle.std.proofs.Math.Seq.{drop-cons}
use Rattle.std.proofs.lemmas.List.{get_or-map, get_or-take, length-map, length-take-le, map-append, take_more, take-append-drop}
use Rattle.edge_io.specs.Inputs.{NamedFiles}
use Rattle.option_words.specs.Options.{Text}
use Rattle.job_words.specs.declared.job.Job.TheVariants.{Launch}
use Rattle.job_words.specs.declared.job.LaunchJob.{LaunchJob}
use Rattle.job_words.specs.declared.job.NamedProgram.{NamedProgram}
use Rattle.job_words.specs.Jobs.{IsJob}
use Rattle.job_words.proofs.JobFacts.{AreNames, files_named, programs_few, programs_hosted, arguments_some, arguments_short}
use Rattle.launch_start.specs.declared.job_start.JobStart.{JobStart}
use Rattle.launch_start.specs.JobInputs.{found, FileInput, ProgramInput, JobInputs, Refusal, IsFirstRefusal}
use Rattle.launch_start.specs.JobStarts.{file_input, program_input, IsFileRefused, IsProgramRefused, HasRead, CanFollow, CanRun, files_alone}
use Rattle.launch_start.proofs.JobInputs.{file_first, program_first}

abbrev file_name : FileInput → Text
file_name input = input.name

abbrev program_name : ProgramInput → NamedProgram
program_name input = input.program

-- a list around one of its items
around : {A : Type 0} (xs : List A) (i : ℕ) (x : A) → i < length xs → x ≡ get_or xs i x → take i xs ++ x ∷ drop (suc i) xs ≡ xs
around xs i x inside is = ap (λ y. take i xs ++ y ∷ drop (suc i) xs) is ∙ ap (λ rest. take i xs ++ rest) (sym (drop-cons xs i x inside)) ∙ take-append-drop i xs

-- the item of a list that is another's
pub item_of : {A : Type 0} (xs ys : List A) (i : _) (x : A) → xs ≡ ys → x ≡ get_or xs i x → x ≡ get_or ys i x
item_of xs ys i x same is = is ∙ ap (λ list. get_or list i x) same

pub inside_of : {A : Type 0} (xs ys : List A) (i : _) → xs ≡ ys → i < length xs → i < length ys
inside_of xs ys i same inside = subst (λ list. i < length list) same inside

counted : {A B : Type 0} (f : A → B) (xs : List A) (ys : List B) (i : ℕ) → map f xs ≡ take i ys → i < length ys → length xs ≡ i
counted f xs ys i is inside = sym (length-map xs f) ∙ ap length is ∙ length-take-le i ys (omega (arith, inside))

module _ (words : List Text) (job : LaunchJob) (is : IsJob words (Launch job)) where
  names : AreNames job.file
  names = files_named words job is

  pub file_follows : (before : List FileInput) (i : ℕ) (name : Text) → i < length job.file → name ≡ get_or job.file i name → map file_name before ≡ take i job.file → CanFollow before name
  file_follows before i name inside here read =
      let count = counted file_name before job.file i read inside in
      let few = names.few in
      let long = names.long i name inside in
      record {
        few = omega (arith, count, few, inside);
        some = subst (λ (n : Text). 1 ≤ length n) (sym here) long.0;
        short = subst (λ (n : Text). length n ≤ 255) (sym here) long.1;
        plain = subst (λ (n : Text). All (λ byte. byte ≢ 0) n) (sym here) (names.plain i name inside);
        apart = λ k d below.
            let less : k < i = omega (arith, count, below) in
            let there : (get_or before k d).name ≡ get_or job.file k name =
            sym (get_or-map file_name before k d name below) ∙ ap (λ list. get_or list k name) read ∙ get_or-take i job.file k name less in
            λ same. names.apart k i name less inside (sym there ∙ same ∙ here);
      }

  pub program_runs : (before : List ProgramInput) (i : ℕ) (program : NamedProgram) → i < length job.programs → program ≡ get_or job.programs i program → map program_name before ≡ take i job.programs → CanRun (length before) program
  program_runs before i program inside here read =
      let count = counted program_name before job.programs i read inside in
      let few = programs_few words job is in
      record {
        few = omega (arith, count, few, inside);
        placed = subst (λ (p : NamedProgram). p.host < 16) (sym here) (programs_hosted words job is i program inside);
        some = subst (λ (p : NamedProgram). 1 ≤ length p.arguments) (sym here) (arguments_some words job is i program inside);
        short = subst (λ (p : NamedProgram). length p.arguments ≤ 4096) (sym here) (arguments_short words job is i program inside);
      }

  pub file_passes : (before : List FileInput) (i : ℕ) (name : Text) (bytes : List ℕ) → i < length job.file → name ≡ get_or job.file i name → map file_name before ≡ take i job.file
      → map file_name (before ++ file_input name (found bytes) ∷ []) ≡ take (i + 1) job.file
  file_passes before i name bytes inside here read =
      map-append file_name before (file_input name (found bytes) ∷ []) ∙ ap (λ list. list ++ name ∷ []) read ∙ ap (λ n. take i job.file ++ n ∷ []) here ∙ sym (take_more job.file i name inside)

  pub program_passes : (before : List ProgramInput) (i : ℕ) (program : NamedProgram) (bytes : List ℕ) → i < length job.programs → program ≡ get_or job.programs i program → map program_name before ≡ take i job.programs
      → map program_name (before ++ program_input program (found bytes) ∷ []) ≡ take (i + 1) job.programs
  program_passes before i program bytes inside here read =
      map-append program_name before (program_input program (found bytes) ∷ []) ∙ ap (λ list. list ++ program ∷ []) read ∙ ap (λ p. take i job.programs ++ p ∷ []) here
      ∙ sym (take_more job.programs i program inside)

module _ (files : Option NamedFiles) (job : LaunchJob) (start : JobStart) where
  pub file_refuses : (before : List FileInput) (i : ℕ) (name : Text) (why : Refusal) → HasRead files start (files_alone before) → i < length job.file → name ≡ get_or job.file i name → map file_name before ≡ take i job.file
      → IsFileRefused files name why → IsFirstRefusal files job why
  file_refuses before i name why has inside here read refused =
      file_first files job before name (drop (suc i) job.file) why has.files_told has.files_fine (ap (λ list. list ++ name ∷ drop (suc i) job.file) read ∙ around job.file i name inside here) refused

  pub program_refuses : (before : JobInputs) (i : ℕ) (program : NamedProgram) (why : Refusal) → HasRead files start before → map file_name before.files ≡ job.file
      → i < length job.programs → program ≡ get_or job.programs i program → map program_name before.programs ≡ take i job.programs → IsProgramRefused files program why → IsFirstRefusal files job why
  program_refuses before i program why has names inside here read refused =
      program_first files job before.files before.programs program (drop (suc i) job.programs) why has.files_told has.files_fine names has.programs_told has.programs_fine
      (ap (λ list. list ++ program ∷ drop (suc i) job.programs) read ∙ around job.programs i program inside here) refused
