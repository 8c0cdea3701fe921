-- The start of a job, with what has been read of it.
--     nothing_read                     before the first file
--     room_some, room_none, room_gone, room_less      the room that is left
--     named_more, starts_more, file_added      one more file
--     runs_more, program_added         one more program
--     job_loaded, job_too_big          all has been read
--     blames_for, IfErr-blames         why a call ends, said in another way
--     program_refused                  for a file that describes no program
use Rattle.std.proofs.Common.{◌≡◌, ◌≢◌, Bool, true, false, ℕ, ◌+◌, ◌-◌, ◌<◌, ◌≤◌, List, [], ◌∷◌, ◌++◌, map, length, get_or, Option, Some, None, refl, sym, ap, subst, ◌∙◌, arith, length-append}
use Rattle.std.specs.Prelude.{All, is_some, nat_lt, sum_by, if◌then◌else◌, Result, Ok, Err, IfErr, IsErrAnd}
use Rattle.std.specs.Option.{SomeIff, option_map}
use Rattle.std.proofs.lemmas.Bool.{lt-ltb, le-ltb, ltb-true, ltb-false}
use Rattle.std.proofs.lemmas.List.{map-append, length-map}
use Rattle.std.proofs.lemmas.List.Folds.{fold-map}
use Rattle.std.proofs.lemmas.List.Sums.{sum_by-append}
use Rattle.std.proofs.lemmas.List.Quantifiers.{all_pairs_push}
use Rattle.std.proofs.lemmas.List.Elements.{All-nil, All-push, All-map}
use Rattle.elf32.specs.Programs.{program_of}
use Rattle.elf32.specs.Rules.{first_fault}
use Rattle.elf32.specs.declared.program.Program.{Program}
use Rattle.plain_process.specs.Launches.{IsLaunched}
use Rattle.plain_process.specs.Start.{Launched}
use Rattle.plain_process.specs.Valid.{IsByte}
use Rattle.plain_tables.specs.Valid.Files.{IsName}
use Rattle.plain_machine.specs.Start.{NamedFile}
use Rattle.plain_machine.specs.Valid.{AreNamed}
use Rattle.run_start.specs.declared.start.Start.{Start}
use Rattle.run_start.specs.Starts.{CanBegin, IsStart}
use Rattle.edge_io.specs.Inputs.{NamedFiles}
use Rattle.option_words.specs.Options.{Text}
use Rattle.job_words.specs.declared.job.LaunchJob.{LaunchJob}
use Rattle.job_words.specs.declared.job.NamedProgram.{NamedProgram}
use Rattle.endings.specs.declared.ending.Ending.{Ending}
use Rattle.endings.specs.declared.ending.Ending.TheVariants.{Done, Usage, InputFault, Missing, BadElf, TooBig, SinkFault, DiskFault, NoSet, Damaged, Budget, Stuck, Memory}
use Rattle.launch_start.specs.declared.job_start.JobStart.{JobStart}
use Rattle.launch_start.specs.JobInputs.{found, FileInput, ProgramInput, JobInputs, IsContent, AreInputs, Refusal, bad, too_big, file_refusal, program_refusal, sum_refusal, bytes_in, IsFirstRefusal, launched, named_file}
use Rattle.launch_start.specs.JobStarts.{Blames, file_input, program_input, IsFileRead, IsProgramRefused, IsBadProgram, IsStartOf, HasRead, CanFollow, files_alone, with_program, room_after, size_of, IsLoaded}
use Rattle.launch_start.proofs.JobInputs.{sum_alone}

nothing_named : AreNamed []
nothing_named = record { count = omega arith; names = All-nil _; bytes = All-nil _; total = omega arith; apart = λ i j d before inside. absurd (omega arith) }

pub nothing_read : (files : Option NamedFiles) (start : JobStart) → IsStart start.state [] [] → CanBegin start.state → start.room ≡ Some 67108864 → HasRead files start (files_alone [])
nothing_read files start is begins room = record {
  files_told = All-nil _;
  programs_told = All-nil _;
  files_fine = All-nil _;
  programs_fine = All-nil _;
  room = room;
  can = begins;
  built = λ some. record { start = is; files = nothing_named; programs = All-nil _ };
}

-- ---- the room that is left

within : (total : ℕ) → total ≤ 67108864 → room_after total ≡ Some (67108864 - total)
within total few = ap (λ c. if c then None else Some (67108864 - total)) (le-ltb 67108864 total few)

above : (total : ℕ) → 67108864 < total → room_after total ≡ None
above total many = ap (λ c. if c then None else Some (67108864 - total)) (lt-ltb 67108864 total many)

none_some : {A P : Type 0} (a : A) → None ≡ Some a → P
none_some a is = cc

inner : {A : Type 0} (a b : A) → Some a ≡ Some b → a ≡ b
inner a b is = cc

pub room_some : (total left : ℕ) → Some left ≡ room_after total → (total ≤ 67108864) × (left ≡ 67108864 - total)
room_some total left is = by (nat_lt 67108864 total) refl
  where
    by : (b : Bool) → nat_lt 67108864 total ≡ b → (total ≤ 67108864) × (left ≡ 67108864 - total)
    by true many = none_some left (sym (is ∙ above total (ltb-true 67108864 total many)))
    by false few = let most : total ≤ 67108864 = ltb-false 67108864 total few in (most, inner left (67108864 - total) (is ∙ within total most))

pub room_none : (total : ℕ) → None ≡ room_after total → 67108864 < total
room_none total is = by (nat_lt 67108864 total) refl
  where
    by : (b : Bool) → nat_lt 67108864 total ≡ b → 67108864 < total
    by true many = ltb-true 67108864 total many
    by false few = none_some (67108864 - total) (is ∙ within total (ltb-false 67108864 total few))

pub room_gone : (total bytes : ℕ) → None ≡ room_after total → None ≡ room_after (total + bytes)
room_gone total bytes none = let many = room_none total none in sym (above (total + bytes) (omega (arith, many)))

pub room_less : (total bytes left : ℕ) (less : Option ℕ) → Some left ≡ room_after total → SomeIff less (bytes ≤ left) (left - bytes) → less ≡ room_after (total + bytes)
room_less total bytes left (Some rest) is some =
    let there = room_some total left is in
    let first = there.0 in
    let second = there.1 in
    let fits = some.0 in
    let rest_is = some.1 in
    ap (λ n. Some n) (let same : rest ≡ 67108864 - (total + bytes) = omega (arith, first, second, fits, rest_is) in same) ∙ sym (within (total + bytes) (omega (arith, first, second, fits)))
room_less total bytes left None is none =
    let there = room_some total left is in
    let first = there.0 in
    let second = there.1 in
    sym (above (total + bytes) (le_or (67108864 < total + bytes) (total + bytes) 67108864 (λ few. none (omega (arith, first, second, few)))))
  where
    le_or : (P : Type 0) (a b : ℕ) → (a ≤ b → ⊥) → b < a
    le_or P a b not_le = by (nat_lt b a) refl
      where
        by : (c : Bool) → nat_lt b a ≡ c → b < a
        by true is = ltb-true b a is
        by false is = absurd (not_le (ltb-false b a is))

-- the sum of files
abbrev size_at : FileInput → ℕ
size_at input = length (bytes_in input.content)

pub size_more : (before : List FileInput) (name : Text) (bytes : List ℕ) → size_of (before ++ file_input name (found bytes) ∷ []) ≡ size_of before + length bytes
size_more before name bytes =
    let sum = sum_by-append size_at before (file_input name (found bytes) ∷ []) in omega (arith, sum)

named_size : (files : List FileInput) → sum_by (λ (file : NamedFile). length file.bytes) (map named_file files) ≡ size_of files
named_size files = fold-map (λ total (file : NamedFile). total + length file.bytes) named_file 0 files

-- ---- one more file

named_append : (before : List FileInput) (name : Text) (bytes : List ℕ)
    → map named_file (before ++ file_input name (found bytes) ∷ []) ≡ map named_file before ++ record { name = name; bytes = bytes } ∷ []
named_append before name bytes = map-append named_file before (file_input name (found bytes) ∷ [])

is_name : (before : List FileInput) (name : Text) → CanFollow before name → All IsByte name → IsName name
is_name before name can bytes = record {
  some = can.some;
  few = can.short;
  bytes = λ i d inside.
      let plain = can.plain i d inside in
      let byte = bytes i d inside in
      (omega (arith, plain), byte);
}

named_apart : (before : List FileInput) (name : Text) → All (λ (input : FileInput). input.name ≢ name) before → (k : ℕ) (d : NamedFile) → k < length (map named_file before) → (get_or (map named_file before) k d).name ≢ name
named_apart before name apart k d inside = All-map (λ (file : NamedFile). file.name ≢ name) named_file before apart k d inside

pub named_more : (before : List FileInput) (name : Text) (bytes : List ℕ) → AreNamed (map named_file before) → CanFollow before name → All IsByte name → All IsByte bytes → size_of before + length bytes ≤ 67108864
    → AreNamed (map named_file before ++ record { name = name; bytes = bytes } ∷ [])
named_more before name bytes are can name_bytes file_bytes fits =
    let more : NamedFile = record { name = name; bytes = bytes } in
    let count = length-append (map named_file before) (more ∷ []) in
    let old = length-map before named_file in
    let few = can.few in
    let sum = sum_by-append (λ (file : NamedFile). length file.bytes) (map named_file before) (more ∷ []) in
    let size = named_size before in
    record {
      count = omega (arith, count, old, few);
      names = All-push (λ (file : NamedFile). IsName file.name) (map named_file before) more are.names (is_name before name can name_bytes);
      bytes = All-push (λ (file : NamedFile). All IsByte file.bytes) (map named_file before) more are.bytes file_bytes;
      total = omega (arith, sum, size, fits);
      apart = all_pairs_push (λ (file later : NamedFile). file.name ≢ later.name) (map named_file before) more are.apart (named_apart before name can.apart);
    }

module _ (files : Option NamedFiles) (old new : JobStart) (before : List FileInput) (name : Text) (bytes : List ℕ) (has : HasRead files old (files_alone before)) (can : CanFollow before name) (read : IsFileRead files name bytes)
    (room : new.room ≡ room_after (size_of before + length bytes)) (begins : CanBegin new.state) where
  abbrev after : List FileInput
  after = before ++ file_input name (found bytes) ∷ []

  pub file_added : (new.room ≢ None → IsStartOf new.state (files_alone after)) → HasRead files new (files_alone after)
  file_added built = record {
    files_told = All-push (λ (input : FileInput). IsContent files input.name input.content) before (file_input name (found bytes)) has.files_told read.told;
    programs_told = has.programs_told;
    files_fine = All-push (λ (input : FileInput). file_refusal input ≡ None) before (file_input name (found bytes)) has.files_fine refl;
    programs_fine = has.programs_fine;
    room = room ∙ sym (ap room_after (size_more before name bytes));
    can = begins;
    built = built;
  }

-- where there is room after the file there was before it
pub roomy_before : (total bytes : ℕ) (room : Option ℕ) → total + bytes ≤ 67108864 → room ≡ room_after total → room ≢ None
roomy_before total bytes room fits is none = none_some (67108864 - total) (sym none ∙ is ∙ within total (omega (arith, fits)))

pub starts_more : (c d : Start) (before : List FileInput) (name : Text) (bytes : List ℕ) → IsStartOf c (files_alone before) → AreNamed (map named_file before ++ record { name = name; bytes = bytes } ∷ [])
    → ((files : List NamedFile) → IsStart c [] files → IsStart d [] (files ++ record { name = name; bytes = bytes } ∷ [])) → IsStartOf d (files_alone (before ++ file_input name (found bytes) ∷ []))
starts_more c d before name bytes of named adds = record {
  start = subst (IsStart d []) (sym (named_append before name bytes)) (adds (map named_file before) of.start);
  files = subst AreNamed (sym (named_append before name bytes)) named;
  programs = All-nil _;
}

-- ---- one more program

pub launched_append : (before : List ProgramInput) (program : NamedProgram) (file : List ℕ)
    → map launched (before ++ program_input program (found file) ∷ []) ≡ map launched before ++ record { host = program.host; program = program_of file; arguments = program.arguments } ∷ []
launched_append before program file = map-append launched before (program_input program (found file) ∷ [])

module _ (files : Option NamedFiles) (old new : JobStart) (before : JobInputs) (program : NamedProgram) (file : List ℕ) (has : HasRead files old before) (told : IsContent files program.name (found file)) (fine : first_fault file ≡ None)
    (room : new.room ≡ old.room) (begins : CanBegin new.state) where
  pub program_added : (new.room ≢ None → IsStartOf new.state (with_program before program file)) → HasRead files new (with_program before program file)
  program_added built = record {
    files_told = has.files_told;
    programs_told = All-push (λ (input : ProgramInput). IsContent files input.program.name input.content) before.programs (program_input program (found file)) has.programs_told told;
    files_fine = has.files_fine;
    programs_fine = All-push (λ (input : ProgramInput). program_refusal input ≡ None) before.programs (program_input program (found file)) has.programs_fine (ap (option_map (bad program.name)) fine);
    room = room ∙ has.room;
    can = begins;
    built = built;
  }

pub runs_more : (c d : Start) (before : JobInputs) (program : NamedProgram) (file : List ℕ) (elf : Program) (arguments : List ℕ) → elf ≡ program_of file → arguments ≡ program.arguments → IsStartOf c before
    → IsLaunched (record { host = program.host; program = elf; arguments = arguments })
    → ((programs : List Launched) (named : List NamedFile) → IsStart c programs named → IsStart d (programs ++ record { host = program.host; program = elf; arguments = arguments } ∷ []) named)
    → IsStartOf d (with_program before program file)
runs_more c d before program file elf arguments is same of launchable adds =
    let job : Launched = record { host = program.host; program = elf; arguments = arguments } in
    let whole : map launched before.programs ++ job ∷ [] ≡ map launched (before.programs ++ program_input program (found file) ∷ []) =
    ap (λ (p : Program). map launched before.programs ++ (let j : Launched = record { host = program.host; program = p; arguments = arguments } in j) ∷ []) is
    ∙ ap (λ (words : List ℕ). map launched before.programs ++ (let j : Launched = record { host = program.host; program = program_of file; arguments = words } in j) ∷ []) same
    ∙ sym (launched_append before.programs program file) in
    record {
      start = subst (λ programs. IsStart d programs (map named_file before.files)) whole (adds (map launched before.programs) (map named_file before.files) of.start);
      files = of.files;
      programs = subst (All IsLaunched) whole (All-push IsLaunched (map launched before.programs) job of.programs launchable);
    }

-- ---- all has been read

module _ (files : Option NamedFiles) (job : LaunchJob) (start : JobStart) (read : JobInputs) (has : HasRead files start read) (are : AreInputs files job read) where
  no_sum : size_of read.files ≤ 67108864 → sum_refusal read.files ≡ None
  no_sum fits = ap (λ c. if c then Some too_big else None) (le-ltb 67108864 (size_of read.files) fits)

  pub job_loaded : (left : ℕ) → start.room ≡ Some left → IsLoaded files job start.state
  job_loaded left some =
      let there = room_some (size_of read.files) left (sym some ∙ has.room) in
      let of = has.built (λ none. none_some left (sym none ∙ some)) in
      record {
        inputs = read;
        loaded = record { are = are; none = sum_alone read has.files_fine has.programs_fine ∙ no_sum there.0 };
        state = of.start;
        can = has.can;
      }

  pub job_too_big : start.room ≡ None → IsFirstRefusal files job too_big
  job_too_big none = record {
    inputs = read;
    are = are;
    first = sum_alone read has.files_fine has.programs_fine ∙ ap (λ c. if c then Some too_big else None) (lt-ltb 67108864 (size_of read.files) (room_none (size_of read.files) (sym none ∙ has.room)));
  }

-- ---- why a call ends

pub blames_for : (ending : Ending) (Why Other : Refusal → Type 0) → ((why : Refusal) → Why why → Other why) → Blames ending Why → Blames ending Other
blames_for (InputFault who) Why Other so is = so _ is
blames_for (Missing who) Why Other so is = so _ is
blames_for (BadElf who fault) Why Other so is = so _ is
blames_for TooBig Why Other so is = so _ is
blames_for Memory Why Other so is = tt
blames_for Done Why Other so is = absurd is
blames_for Usage Why Other so is = absurd is
blames_for SinkFault Why Other so is = absurd is
blames_for DiskFault Why Other so is = absurd is
blames_for NoSet Why Other so is = absurd is
blames_for (Damaged slot damage) Why Other so is = absurd is
blames_for (Budget records) Why Other so is = absurd is
blames_for Stuck Why Other so is = absurd is

pub IfErr-blames : {A : Type 0} (result : Result A Ending) (ending : Ending) (Why Other : Refusal → Type 0) → IsErrAnd result (λ e. e ≡ ending) → ((why : Refusal) → Why why → Other why) → Blames ending Why → IfErr result (λ e. Blames e Other)
IfErr-blames (Ok a) ending Why Other is so why = absurd is
IfErr-blames (Err e) ending Why Other is so why = subst (λ (x : Ending). Blames x Other) (sym is) (blames_for ending Why Other so why)

pub refused_so : {A : Type 0} (result : Result A Ending) (Why Other : Refusal → Type 0) → ((why : Refusal) → Why why → Other why) → IfErr result (λ e. Blames e Why) → IfErr result (λ e. Blames e Other)
refused_so (Ok a) Why Other so why = tt
refused_so (Err e) Why Other so why = blames_for e Why Other so why

pub program_refused : (files : Option NamedFiles) (program : NamedProgram) (name : Text) (file read : List ℕ) (why : Refusal) → name ≡ program.name → read ≡ file → IsContent files name (found file) → IsBadProgram name read why
    → IsProgramRefused files program why
program_refused files program name file read why named same told bad_one = record {
  content = found file;
  told = subst (λ n. IsContent files n (found file)) named told;
  refused = ap (λ bytes. option_map (bad program.name) (first_fault bytes)) (sym same) ∙ ap (option_map (bad program.name)) bad_one.first
      ∙ ap (λ n. Some (bad n bad_one.fault)) (sym named) ∙ ap (λ w. Some w) (sym bad_one.is);
}

pub some_room : (room : Option ℕ) (some : Bool) → some ≡ is_some room → some ≡ true → room ≢ None
some_room (Some left) some tells is none = absurd (cc)
some_room None some tells is none = absurd (let wrong : true ≡ false = sym is ∙ tells in cc)

pub no_room : (room : Option ℕ) (some : Bool) → some ≡ is_some room → some ≡ false → room ≢ None → ⊥
no_room None some tells is there = there refl
no_room (Some left) some tells is there = let wrong : false ≡ true = sym is ∙ tells in cc

pub fits_room : (total : ℕ) (room : Option ℕ) → room ≡ room_after total → room ≢ None → total ≤ 67108864
fits_room total None is some = absurd (some refl)
fits_room total (Some left) is some = (room_some total left is).0

-- what was read may follow, where there is room after it
module _ (files : Option NamedFiles) (old : JobStart) (before : List FileInput) (name spelled : Text) (bytes read : List ℕ) (room : Option ℕ) (has : HasRead files old (files_alone before)) (can : CanFollow before name)
    (named : spelled ≡ name) (same : read ≡ bytes) (looked : All IsByte spelled) (each : All IsByte bytes) (is : room ≡ room_after (size_of before + length bytes)) (some : room ≢ None) where
  fits : size_of before + length bytes ≤ 67108864
  fits = fits_room (size_of before + length bytes) room is some

  pub built_before : IsStartOf old.state (files_alone before)
  built_before = has.built (roomy_before (size_of before) (length bytes) old.room fits has.room)

  pub may_follow : AreNamed (map named_file before ++ record { name = name; bytes = bytes } ∷ [])
  may_follow = named_more before name bytes built_before.files can (subst (All IsByte) named looked) each fits

  whole : (let file : NamedFile = record { name = spelled; bytes = read } in file) ≡ record { name = name; bytes = bytes }
  whole = ap (λ (n : Text). let file : NamedFile = record { name = n; bytes = read } in file) named ∙ ap (λ (b : List ℕ). let file : NamedFile = record { name = name; bytes = b } in file) same

  pub file_requires : (x : List NamedFile) × (IsStart old.state [] x × AreNamed (x ++ record { name = spelled; bytes = read } ∷ []))
  file_requires = (map named_file before, (built_before.start, subst (λ (file : NamedFile). AreNamed (map named_file before ++ file ∷ [])) (sym whole) may_follow))

  pub file_builds : (d : Start) → ((named : List NamedFile) → IsStart old.state [] named → IsStart d [] (named ++ record { name = spelled; bytes = read } ∷ []))
      → IsStartOf d (files_alone (before ++ file_input name (found bytes) ∷ []))
  file_builds d adds =
      starts_more old.state d before name bytes built_before may_follow
      (λ named is. subst (λ (file : NamedFile). IsStart d [] (named ++ file ∷ [])) whole (adds named is))
