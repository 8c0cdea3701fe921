-- What a job keeps to that words ask for.
--     launch_every, restart_every      checkpoints are asked for after one record of work or more
--     arguments_short                  a program's argument strings have 4,096 bytes or fewer
--     arguments_some                   and one at least
--     programs_placed                  each host is below the number of nodes
--     programs_hosted, programs_few    and below 16; and there are at most 128 programs
--     files_named                      the names of files are 1 to 255 bytes, none of them zero, and no two are the same
use Rattle.std.proofs.Common.{◌≡◌, Bool, true, false, if◌then◌else◌, ℕ, ◌<◌, ◌≤◌, List, [], ◌∷◌, ◌++◌, map, get_or, length, length-append, Option, refl, sym, subst, arith}
use Rattle.std.specs.Prelude.{◌≢◌, All, AllPairs, IfSome, codes, slice_get}
use Rattle.std.specs.Fmt.{decimal}
use Rattle.std.specs.List.{flat_map}
use Rattle.std.specs.Str.{bytes_eq}
use Rattle.std.proofs.lemmas.Slice.Eq.{bytes_eq-Decides}
use Rattle.std.proofs.lemmas.List.{length-map}
use Rattle.std.proofs.lemmas.Map.Made.{AllPairs-from_IsDistinct}
use Rattle.std.proofs.lemmas.List.Elements.{All-nil, All-cons, All-head, All-tail, All-map}
use Rattle.option_words.specs.declared.option_key.OptionKey.{OptionKey}
use Rattle.option_words.specs.declared.option_key.OptionKey.TheVariants.{Every}
use Rattle.option_words.specs.declared.option_key.Form.{Form}
use Rattle.option_words.specs.declared.option_key.Form.TheVariants.{Launch, Restart}
use Rattle.option_words.specs.Options.{Text, Setting, number, file, FILE, name_of, least_of, IsSetting, numbers_of, given_for, files_of, words_of_all}
use Rattle.option_words.proofs.Keys.{same_key}
use Rattle.job_words.specs.declared.job.Job.TheVariants as job
use Rattle.job_words.specs.declared.job.LaunchJob.{LaunchJob}
use Rattle.job_words.specs.declared.job.RestartJob.{RestartJob}
use Rattle.job_words.specs.declared.job.NamedProgram.{NamedProgram}
use Rattle.job_words.specs.Programs.{program_word, with_zero}
use Rattle.job_words.specs.Commands.{Command, launch, restart, HasNoZero, IsCommand, nodes_of, words_of_command}
use Rattle.job_words.specs.Jobs.{IsJob, IsJobOf, start_of}

abbrev IsGreat : OptionKey → ℕ → Type 0
IsGreat key n = least_of key ≤ n

great_under : (k key : OptionKey) (n : ℕ) → bytes_eq (name_of k) (name_of key) ≡ true → least_of k ≤ n → IsGreat key n
great_under k key n is great = subst (λ (j : OptionKey). IsGreat j n) (same_key k key ((bytes_eq-Decides (name_of k) (name_of key)).0 is)) great

all_great : (form : Form) (key : OptionKey) (given : List Setting) → All (IsSetting form) given → All (IsGreat key) (numbers_of key given)
all_great form key [] each = All-nil (IsGreat key)
all_great form key (number k n ∷ rest) each = step (bytes_eq (name_of k) (name_of key)) refl (all_great form key rest (All-tail (IsSetting form) (number k n) rest each))
  where
    step : (b : Bool) → bytes_eq (name_of k) (name_of key) ≡ b → All (IsGreat key) (numbers_of key rest) → All (IsGreat key) (if b then n ∷ numbers_of key rest else numbers_of key rest)
    step true is all =
        let setting : IsSetting form (number k n) = All-head (IsSetting form) (number k n) rest each in
        All-cons (IsGreat key) n (numbers_of key rest) (great_under k key n is setting.1) all
    step false is all = all
all_great form key (file name ∷ rest) each = all_great form key rest (All-tail (IsSetting form) (file name) rest each)

first_great : (ns : List ℕ) → All (IsGreat Every) ns → IfSome (slice_get ns 0) (λ n. 0 < n)
first_great [] all = tt
first_great (n ∷ ns) all = let great = All-head (IsGreat Every) n ns all in omega (arith, great)

every_given : (form : Form) (given : List Setting) → All (IsSetting form) given → (every : Option ℕ) → every ≡ given_for Every given → IfSome every (λ n. 0 < n)
every_given form given each every is = subst (λ (o : Option ℕ). IfSome o (λ n. 0 < n)) (sym is) (first_great (numbers_of Every given) (all_great form Every given each))

launch_of : (command : Command) (asked : LaunchJob) → IsCommand command → IsJobOf command (job.Launch asked) → IfSome asked.every (λ n. 0 < n)
launch_of (launch given texts) asked is of = every_given Launch given is.settings.each asked.every of.every
launch_of _ asked is of = absurd of

pub launch_every : (words : List Text) (asked : LaunchJob) → IsJob words (job.Launch asked) → IfSome asked.every (λ n. 0 < n)
launch_every words asked is = launch_of is.command asked is.spell.is is.job

restart_of : (command : Command) (asked : RestartJob) → IsCommand command → IsJobOf command (job.Restart asked) → IfSome asked.every (λ n. 0 < n)
restart_of (restart given) asked is of = every_given Restart given is.each asked.every of.every
restart_of _ asked is of = absurd of

pub restart_every : (words : List Text) (asked : RestartJob) → IsJob words (job.Restart asked) → IfSome asked.every (λ n. 0 < n)
restart_every words asked is = restart_of is.command asked is.spell.is is.job

abbrev IsShort : NamedProgram → Type 0
IsShort named = length named.arguments ≤ 4096

short_of : (command : Command) (asked : LaunchJob) → IsCommand command → IsJobOf command (job.Launch asked) → All IsShort asked.programs
short_of (launch given texts) asked is of =
    subst (λ (programs : List NamedProgram). All IsShort programs) (sym of.programs) (All-map IsShort start_of texts (λ i d inside. (is.each i d inside).bytes))
short_of _ asked is of = absurd of

pub arguments_short : (words : List Text) (asked : LaunchJob) → IsJob words (job.Launch asked) → All IsShort asked.programs
arguments_short words asked is = short_of is.command asked is.spell.is is.job

abbrev IsSome : NamedProgram → Type 0
IsSome named = 1 ≤ length named.arguments

with_zero_some : (name : Text) (arguments : List Text) → 1 ≤ length (flat_map with_zero (name ∷ arguments))
with_zero_some name arguments =
    omega (arith, length-append (with_zero name) (flat_map with_zero arguments), length-append name (0 ∷ []))

some_of : (command : Command) (asked : LaunchJob) → IsCommand command → IsJobOf command (job.Launch asked) → All IsSome asked.programs
some_of (launch given texts) asked is of =
    subst (λ (programs : List NamedProgram). All IsSome programs) (sym of.programs) (All-map IsSome start_of texts (λ i d inside. with_zero_some (get_or texts i d).name (get_or texts i d).arguments))
some_of _ asked is of = absurd of

pub arguments_some : (words : List Text) (asked : LaunchJob) → IsJob words (job.Launch asked) → All IsSome asked.programs
arguments_some words asked is = some_of is.command asked is.spell.is is.job

abbrev IsBelow : ℕ → NamedProgram → Type 0
IsBelow nodes named = named.host < nodes

placed_of : (command : Command) (asked : LaunchJob) → IsCommand command → IsJobOf command (job.Launch asked) → All (IsBelow asked.nodes) asked.programs
placed_of (launch given texts) asked is of =
    subst (λ (nodes : ℕ). All (IsBelow nodes) asked.programs) (sym of.nodes)
    (subst (λ (programs : List NamedProgram). All (IsBelow (nodes_of given texts)) programs) (sym of.programs) (All-map (IsBelow (nodes_of given texts)) start_of texts is.placed))
placed_of _ asked is of = absurd of

pub programs_placed : (words : List Text) (asked : LaunchJob) → IsJob words (job.Launch asked) → All (IsBelow asked.nodes) asked.programs
programs_placed words asked is = placed_of is.command asked is.spell.is is.job

abbrev IsHosted : NamedProgram → Type 0
IsHosted named = named.host < 16

hosted_of : (command : Command) (asked : LaunchJob) → IsCommand command → IsJobOf command (job.Launch asked) → All IsHosted asked.programs
hosted_of (launch given texts) asked is of =
    subst (λ (programs : List NamedProgram). All IsHosted programs) (sym of.programs) (All-map IsHosted start_of texts (λ i d inside. (is.each i d inside).host))
hosted_of _ asked is of = absurd of

pub programs_hosted : (words : List Text) (asked : LaunchJob) → IsJob words (job.Launch asked) → All IsHosted asked.programs
programs_hosted words asked is = hosted_of is.command asked is.spell.is is.job

few_of : (command : Command) (asked : LaunchJob) → IsCommand command → IsJobOf command (job.Launch asked) → length asked.programs ≤ 128
few_of (launch given texts) asked is of = subst (λ (programs : List NamedProgram). length programs ≤ 128) (sym of.programs) (omega (arith, length-map texts start_of, is.few))
few_of _ asked is of = absurd of

pub programs_few : (words : List Text) (asked : LaunchJob) → IsJob words (job.Launch asked) → length asked.programs ≤ 128
programs_few words asked is = few_of is.command asked is.spell.is is.job

-- what the names of files keep to
pub record AreNames (names : List Text) : Type 0 where
  pub few : length names ≤ 64
  pub long : All (λ name. (1 ≤ length name) × (length name ≤ 255)) names
  pub plain : All HasNoZero names
  pub apart : AllPairs (λ name later. name ≢ later) names

abbrev IsLong : Text → Type 0
IsLong name = (1 ≤ length name) × (length name ≤ 255)

all_long : (form : Form) (given : List Setting) → All (IsSetting form) given → All IsLong (files_of given)
all_long form [] each = All-nil IsLong
all_long form (number k n ∷ rest) each = all_long form rest (All-tail (IsSetting form) (number k n) rest each)
all_long form (file name ∷ rest) each =
    let setting : IsSetting form (file name) = All-head (IsSetting form) (file name) rest each in
    All-cons IsLong name (files_of rest) (setting.1, setting.2) (all_long form rest (All-tail (IsSetting form) (file name) rest each))

-- each name is a word
all_plain : (given : List Setting) (behind : List Text) → All HasNoZero (words_of_all given ++ behind) → All HasNoZero (files_of given)
all_plain [] behind plain = All-nil HasNoZero
all_plain (number k n ∷ rest) behind plain =
    all_plain rest behind (All-tail HasNoZero (decimal n) (words_of_all rest ++ behind) (All-tail HasNoZero (name_of k) (decimal n ∷ words_of_all rest ++ behind) plain))
all_plain (file name ∷ rest) behind plain =
    let after = All-tail HasNoZero FILE (name ∷ words_of_all rest ++ behind) plain in
    All-cons HasNoZero name (files_of rest) (All-head HasNoZero name (words_of_all rest ++ behind) after) (all_plain rest behind (All-tail HasNoZero name (words_of_all rest ++ behind) after))

names_of : (command : Command) (asked : LaunchJob) → IsCommand command → All HasNoZero (words_of_command command) → IsJobOf command (job.Launch asked) → AreNames asked.file
names_of (launch given texts) asked is plain of = subst AreNames (sym of.file) (record {
  few = is.settings.few;
  long = all_long Launch given is.settings.each;
  plain = all_plain given (map program_word texts) (All-tail HasNoZero (codes "launch") (words_of_all given ++ map program_word texts) plain);
  apart = AllPairs-from_IsDistinct bytes_eq-Decides (files_of given) is.settings.distinct;
})
names_of _ asked is plain of = absurd of

pub files_named : (words : List Text) (asked : LaunchJob) → IsJob words (job.Launch asked) → AreNames asked.file
files_named words asked is = names_of is.command asked is.spell.is (subst (λ words. All HasNoZero words) is.spell.text is.spell.plain) is.job
