-- What a launch reads, and what it is refused for.
--     file_first, program_first       the first thing that is refused, by how much was read before it
--     sum_first, all_loaded           nothing was, but the sum, or nothing at all
--     told_refusal                    what inputs are refused for that tell what they hold
use Rattle.std.proofs.Common.{◌≡◌, List, [], ◌∷◌, ◌++◌, map, Option, Some, None, refl, sym, ap, subst, ◌∙◌}
use Rattle.std.specs.Prelude.{All}
use Rattle.std.specs.Option.{option_or}
use Rattle.std.proofs.lemmas.List.{map-append}
use Rattle.std.proofs.lemmas.List.Elements.{All-append, All-cons, All-nil}
use Rattle.edge_io.specs.Inputs.{NamedFiles}
use Rattle.option_words.specs.Options.{Text}
use Rattle.job_words.specs.declared.job.LaunchJob.{LaunchJob}
use Rattle.job_words.specs.declared.job.NamedProgram.{NamedProgram}
use Rattle.launch_start.specs.JobInputs.{Content, found, absent, failed, FileInput, ProgramInput, JobInputs, IsContent, AreInputs, Refusal, unread, file_refusal, program_refusal, sum_refusal, first_refusal, IsFirstRefusal, content_of, content_in, file_in, program_in, inputs_in}
use Rattle.launch_start.specs.JobStarts.{file_input, program_input, IsFileRefused, IsProgramRefused}
use Rattle.launch_start.proofs.Refusals.{first, first_refusal_is, none_refused, one_refused, IsKnown, told_first, all_told}

-- names that weren't read
unread_file : Text → FileInput
unread_file name = file_input name failed

unread_program : NamedProgram → ProgramInput
unread_program program = program_input program failed

abbrev IsFileTold : Option NamedFiles → FileInput → Type 0
IsFileTold files input = IsContent files input.name input.content

abbrev IsProgramTold : Option NamedFiles → ProgramInput → Type 0
IsProgramTold files input = IsContent files input.program.name input.content

unread_names : (names : List Text) → map (λ (input : FileInput). input.name) (map unread_file names) ≡ names
unfolding unread_file
unread_names [] = refl
unread_names (name ∷ names) = ap (λ rest. name ∷ rest) (unread_names names)

unread_programs : (programs : List NamedProgram) → map (λ (input : ProgramInput). input.program) (map unread_program programs) ≡ programs
unfolding unread_program
unread_programs [] = refl
unread_programs (program ∷ programs) = ap (λ rest. program ∷ rest) (unread_programs programs)

unread_told : (files : Option NamedFiles) (names : List Text) → All (IsFileTold files) (map unread_file names)
unfolding unread_file
unread_told files [] = All-nil (IsFileTold files)
unread_told files (name ∷ names) = All-cons (IsFileTold files) (unread_file name) (map unread_file names) tt (unread_told files names)

unread_programs_told : (files : Option NamedFiles) (programs : List NamedProgram) → All (IsProgramTold files) (map unread_program programs)
unfolding unread_program
unread_programs_told files [] = All-nil (IsProgramTold files)
unread_programs_told files (program ∷ programs) = All-cons (IsProgramTold files) (unread_program program) (map unread_program programs) tt (unread_programs_told files programs)

module _ (files : Option NamedFiles) (job : LaunchJob) where
  -- a file is refused, and none before it
  pub file_first : (before : List FileInput) (name : Text) (after : List Text) (why : Refusal) → All (IsFileTold files) before → All (λ (input : FileInput). file_refusal input ≡ None) before
      → map (λ (input : FileInput). input.name) before ++ name ∷ after ≡ job.file → IsFileRefused files name why → IsFirstRefusal files job why
  file_first before name after why told fine names refused =
      let here = file_input name refused.content in
      let all = before ++ here ∷ map unread_file after in
      let inputs : JobInputs = record { files = all; programs = map unread_program job.programs } in
      record {
        inputs = inputs;
        are = record {
          names =
              map-append (λ (input : FileInput). input.name) before (here ∷ map unread_file after)
              ∙ ap (λ rest. map (λ (input : FileInput). input.name) before ++ name ∷ rest) (unread_names after) ∙ names;
          programs = unread_programs job.programs;
          files_told = All-append (IsFileTold files) before (here ∷ map unread_file after) told (All-cons (IsFileTold files) here (map unread_file after) refused.told (unread_told files after));
          programs_told = unread_programs_told files job.programs;
        };
        first =
            first_refusal_is inputs
            ∙ ap (λ o. option_or o (option_or (first (map program_refusal inputs.programs)) (sum_refusal all))) (one_refused file_refusal before here (map unread_file after) why fine refused.refused);
      }

  -- a program is refused, and no file, and no program before it
  pub program_first : (read : List FileInput) (before : List ProgramInput) (program : NamedProgram) (after : List NamedProgram) (why : Refusal)
      → All (IsFileTold files) read → All (λ (input : FileInput). file_refusal input ≡ None) read → map (λ (input : FileInput). input.name) read ≡ job.file
      → All (IsProgramTold files) before → All (λ (input : ProgramInput). program_refusal input ≡ None) before
      → map (λ (input : ProgramInput). input.program) before ++ program ∷ after ≡ job.programs → IsProgramRefused files program why → IsFirstRefusal files job why
  program_first read before program after why told fine names programs_told programs_fine programs refused =
      let here = program_input program refused.content in
      let all = before ++ here ∷ map unread_program after in
      let inputs : JobInputs = record { files = read; programs = all } in
      record {
        inputs = inputs;
        are = record {
          names = names;
          programs =
              map-append (λ (input : ProgramInput). input.program) before (here ∷ map unread_program after)
              ∙ ap (λ rest. map (λ (input : ProgramInput). input.program) before ++ program ∷ rest) (unread_programs after) ∙ programs;
          files_told = told;
          programs_told = All-append (IsProgramTold files) before (here ∷ map unread_program after) programs_told
              (All-cons (IsProgramTold files) here (map unread_program after) refused.told (unread_programs_told files after));
        };
        first =
            first_refusal_is inputs
            ∙ ap (λ o. option_or o (option_or (first (map program_refusal all)) (sum_refusal read))) (none_refused file_refusal read fine)
            ∙ ap (λ o. option_or o (sum_refusal read)) (one_refused program_refusal before here (map unread_program after) why programs_fine refused.refused);
      }

-- nothing is refused but the sum, if that is
pub sum_alone : (inputs : JobInputs) → All (λ (input : FileInput). file_refusal input ≡ None) inputs.files → All (λ (input : ProgramInput). program_refusal input ≡ None) inputs.programs → first_refusal inputs ≡ sum_refusal inputs.files
sum_alone inputs fine programs =
    first_refusal_is inputs
    ∙ ap (λ o. option_or o (option_or (first (map program_refusal inputs.programs)) (sum_refusal inputs.files))) (none_refused file_refusal inputs.files fine)
    ∙ ap (λ o. option_or o (sum_refusal inputs.files)) (none_refused program_refusal inputs.programs programs)

-- ---- what inputs tell

none_unknown : {P : Type 0} → IsKnown (Some (unread [])) → P
none_unknown known = absurd known

module _ (held : NamedFiles) (files : Option NamedFiles) (tells : files ≡ Some held) where
  held_file : FileInput → FileInput
  held_file input = file_in held input.name

  held_program : ProgramInput → ProgramInput
  held_program input = program_in held input.program

  same_content : (name : Text) (content : Content) → IsContent files name content → (content ≡ failed → ⊥) → content ≡ content_in held name
  same_content name (found bytes) told known = sym (ap content_of (told held tells))
  same_content name absent told known = sym (ap content_of (told held tells))
  same_content name failed told known = absurd (known refl)

  same_file : (input : FileInput) → IsFileTold files input → IsKnown (file_refusal input) → input ≡ held_file input
  unfolding held_file
  same_file input told known =
      ap (file_input input.name) (same_content input.name input.content told (λ is. subst (λ content. IsKnown (file_refusal (file_input input.name content))) is known))

  same_program : (input : ProgramInput) → IsProgramTold files input → IsKnown (program_refusal input) → input ≡ held_program input
  unfolding held_program
  same_program input told known =
      ap (program_input input.program) (same_content input.program.name input.content told (λ is. subst (λ content. IsKnown (program_refusal (program_input input.program content))) is known))

  held_files : (inputs : List FileInput) → map held_file inputs ≡ map (file_in held) (map (λ (input : FileInput). input.name) inputs)
  unfolding held_file
  held_files [] = refl
  held_files (input ∷ inputs) = ap (λ rest. file_in held input.name ∷ rest) (held_files inputs)

  held_programs : (inputs : List ProgramInput) → map held_program inputs ≡ map (program_in held) (map (λ (input : ProgramInput). input.program) inputs)
  unfolding held_program
  held_programs [] = refl
  held_programs (input ∷ inputs) = ap (λ rest. program_in held input.program ∷ rest) (held_programs inputs)

  module _ (job : LaunchJob) (inputs : JobInputs) (are : AreInputs files job inputs) where
    abbrev there : JobInputs
    there = inputs_in held job

    files_there : map held_file inputs.files ≡ there.files
    files_there = held_files inputs.files ∙ ap (map (file_in held)) are.names

    programs_there : map held_program inputs.programs ≡ there.programs
    programs_there = held_programs inputs.programs ∙ ap (map (program_in held)) are.programs

    file_told : (refusal : Option Refusal) → first (map file_refusal inputs.files) ≡ refusal → IsKnown refusal → first (map file_refusal there.files) ≡ refusal
    file_told refusal is known =
        ap (λ list. first (map file_refusal list)) (sym files_there) ∙ told_first file_refusal held_file (IsFileTold files) same_file inputs.files refusal are.files_told is known

    program_told : (refusal : Option Refusal) → first (map program_refusal inputs.programs) ≡ refusal → IsKnown refusal → first (map program_refusal there.programs) ≡ refusal
    program_told refusal is known =
        ap (λ list. first (map program_refusal list)) (sym programs_there) ∙ told_first program_refusal held_program (IsProgramTold files) same_program inputs.programs refusal are.programs_told is known

    files_same : first (map file_refusal inputs.files) ≡ None → inputs.files ≡ there.files
    files_same none = all_told file_refusal held_file (IsFileTold files) same_file inputs.files are.files_told none ∙ files_there

    -- inputs that tell what they hold are refused for what was found
    pub told_refusal : (refusal : Option Refusal) → first_refusal inputs ≡ refusal → IsKnown refusal → first_refusal there ≡ refusal
    told_refusal refusal is known = first_refusal_is there ∙ by (first (map file_refusal inputs.files)) refl (first (map program_refusal inputs.programs)) refl (sym (first_refusal_is inputs) ∙ is)
      where
        by : (f : Option Refusal) → first (map file_refusal inputs.files) ≡ f → (p : Option Refusal) → first (map program_refusal inputs.programs) ≡ p
            → option_or (first (map file_refusal inputs.files)) (option_or (first (map program_refusal inputs.programs)) (sum_refusal inputs.files)) ≡ refusal
            → option_or (first (map file_refusal there.files)) (option_or (first (map program_refusal there.programs)) (sum_refusal there.files)) ≡ refusal
        by (Some why) here p programs whole =
            let same : refusal ≡ Some why = sym whole ∙ ap (λ o. option_or o (option_or (first (map program_refusal inputs.programs)) (sum_refusal inputs.files))) here in
            ap (λ o. option_or o (option_or (first (map program_refusal there.programs)) (sum_refusal there.files))) (file_told (Some why) here (subst IsKnown same known)) ∙ sym same
        by None here (Some why) programs whole =
            let same : refusal ≡ Some why =
            sym whole ∙ ap (λ o. option_or o (option_or (first (map program_refusal inputs.programs)) (sum_refusal inputs.files))) here ∙ ap (λ o. option_or o (sum_refusal inputs.files)) programs in
            ap (λ o. option_or o (option_or (first (map program_refusal there.programs)) (sum_refusal there.files))) (file_told None here tt)
            ∙ ap (λ o. option_or o (sum_refusal there.files)) (program_told (Some why) programs (subst IsKnown same known)) ∙ sym same
        by None here None programs whole =
            ap (λ o. option_or o (option_or (first (map program_refusal there.programs)) (sum_refusal there.files))) (file_told None here tt)
            ∙ ap (λ o. option_or o (sum_refusal there.files)) (program_told None programs tt)
            ∙ ap sum_refusal (sym (files_same here))
            ∙ sym (ap (λ o. option_or o (option_or (first (map program_refusal inputs.programs)) (sum_refusal inputs.files))) here ∙ ap (λ o. option_or o (sum_refusal inputs.files)) programs)
            ∙ whole
