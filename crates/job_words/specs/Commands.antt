-- Command lines, with the words that spell each. No word holds a zero byte.
--
--     launch OPTIONS HOST:NAME[,ARGUMENT]..     starts 1 to 128 programs, each on a host below the number of nodes
--     restart OPTIONS                           goes on from the last complete set
--     ring N OPTIONS                            runs the worked ring of 2 to 16 processes
--     help
use Rattle.std.specs.Prelude.{◌≡◌, ◌≢◌, ℕ, ◌<◌, ◌≤◌, List, [], ◌∷◌, ◌++◌, length, map, codes, All}
use Rattle.std.specs.Fmt.{decimal}
use Rattle.views.specs.Limits.{HOST_LIMIT, PROCESS_LIMIT}
use Rattle.option_words.specs.declared.option_key.OptionKey.TheVariants.{Nodes}
use Rattle.option_words.specs.declared.option_key.Form.TheVariants.{Launch, Restart, Ring}
use Rattle.option_words.specs.Options.{Text, Setting, AreSettings, words_of_all, given_or}
use Rattle.job_words.specs.Programs.{ProgramText, IsProgram, program_word, hosts_of}

pub data Command : Type 0 where
  launch : List Setting → List ProgramText → Command
  restart : List Setting → Command
  ring : ℕ → List Setting → Command
  help : Command

abbrev pub words_of_command : Command → List Text
words_of_command (launch given programs) = codes "launch" ∷ (words_of_all given ++ map program_word programs)
words_of_command (restart given) = codes "restart" ∷ words_of_all given
words_of_command (ring n given) = codes "ring" ∷ decimal n ∷ words_of_all given
words_of_command help = codes "help" ∷ []

-- as many nodes as are asked for, or just enough for the hosts
abbrev pub nodes_of : List Setting → List ProgramText → ℕ
nodes_of given programs = given_or Nodes given (hosts_of programs)

pub record IsLaunch (given : List Setting) (programs : List ProgramText) : Type 0 where
  pub settings : AreSettings Launch given
  pub some : 1 ≤ length programs
  pub few : length programs ≤ PROCESS_LIMIT
  pub each : All IsProgram programs
  pub placed : All (λ program. program.host < nodes_of given programs) programs

abbrev pub IsCommand : Command → Type 0
IsCommand (launch given programs) = IsLaunch given programs
IsCommand (restart given) = AreSettings Restart given
IsCommand (ring n given) = (2 ≤ n) × (n ≤ HOST_LIMIT) × AreSettings Ring given
IsCommand help = Unit {0}

abbrev pub HasNoZero : Text → Type 0
HasNoZero word = All (λ byte. byte ≢ 0) word

-- the words are those of the command
pub record Spell (words : List Text) (command : Command) : Type 0 where
  pub is : IsCommand command
  pub text : words ≡ words_of_command command
  pub plain : All HasNoZero words

abbrev pub SpellNothing : List Text → Type 0
SpellNothing words = (command : Command) → Spell words command → ⊥

-- words are of one command at most
abbrev pub OneCommand : Type 0
OneCommand = (words : List Text) (a b : Command) → Spell words a → Spell words b → a ≡ b
