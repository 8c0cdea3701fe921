-- The parts into which the reader takes a program's word.
use Rattle.std.specs.Prelude.{◌≡◌, ◌⊎◌, ℕ, ◌<◌, ◌≤◌, ◌==◌, if◌then◌else◌, List, [], ◌∷◌, ◌++◌, length, map, All, Option, unwrap_or}
use Rattle.views.specs.Limits.{PROCESS_LIMIT}
use Rattle.job_words.specs.declared.programs.Parts.{Parts}
use Rattle.option_words.specs.Options.{Text}
use Rattle.job_words.specs.Programs.{ProgramText, IsProgram, HasNoComma, COMMA, listed, program_word, hosts_of}

pub record ArePartsOf (program : ProgramText) (parts : Parts) : Type 0 where
  pub host : parts.host ≡ program.host
  pub name : parts.name.now ≡ program.name
  pub listed : parts.listed.now ≡ listed program.name program.arguments

pub record ArePrograms (words : List Text) (programs : List ProgramText) : Type 0 where
  pub each : All IsProgram programs
  pub text : words ≡ map program_word programs

-- the words are those of programs, and this is one more than their greatest host
pub record AreCounted (words : List Text) (hosts : ℕ) : Type 0 where
  pub programs : List ProgramText
  pub are : ArePrograms words programs
  pub count : hosts ≡ hosts_of programs

abbrev pub IsProgramWord : Text → Type 0
IsProgramWord word = (program : ProgramText) × IsProgram program × (word ≡ program_word program)

-- the end of each text but the last is where its comma stood
abbrev pub zero_at_comma : ℕ → ℕ
zero_at_comma byte = if byte == COMMA then 0 else byte

abbrev pub with_zeros : Text → List ℕ
with_zeros text = map zero_at_comma text ++ 0 ∷ []

-- the name is what stands before the first comma
pub record StandsFirst (listed name : Text) : Type 0 where
  pub plain : HasNoComma name
  pub rest : (listed ≡ name) ⊎ ((tail : Text) × (listed ≡ name ++ COMMA ∷ tail))

-- a launch may have these programs, where so many nodes are asked for, if any number is
pub record IsNodesOf (asked : Option ℕ) (words : List Text) (programs : List ProgramText) : Type 0 where
  pub are : ArePrograms words programs
  pub some : 1 ≤ length programs
  pub few : length programs ≤ PROCESS_LIMIT
  pub placed : All (λ program. program.host < unwrap_or asked (hosts_of programs)) programs
