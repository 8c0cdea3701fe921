-- The words of programs: a host's number, a colon, the name of the program's file, and each argument after a
-- comma. A name may hold a colon, since the first one ends the host. Neither a name nor an argument holds a
-- comma; an argument may be empty. The started program finds its name and its arguments as C does: each with
-- a zero byte at its end.
use Rattle.std.specs.Prelude.{◌≢◌, ℕ, ◌+◌, ◌<◌, ◌≤◌, max, List, [], ◌∷◌, ◌++◌, length, fold, All}
use Rattle.std.specs.List.{flat_map}
use Rattle.std.specs.Fmt.{decimal}
use Rattle.views.specs.Limits.{HOST_LIMIT, NAME_LIMIT}
use Rattle.option_words.specs.Options.{Text}

abbrev pub COMMA : ℕ
COMMA = 44

abbrev pub COLON : ℕ
COLON = 58

-- a program with its arguments, on a host
pub record ProgramText : Type 0 where
  pub host : ℕ
  pub name : Text
  pub arguments : List Text

abbrev pub after_comma : Text → Text
after_comma argument = COMMA ∷ argument

-- what stands behind the colon
abbrev pub listed : Text → List Text → Text
listed name arguments = name ++ flat_map after_comma arguments

abbrev pub program_word : ProgramText → Text
program_word program = decimal program.host ++ COLON ∷ listed program.name program.arguments

abbrev pub with_zero : Text → Text
with_zero text = text ++ 0 ∷ []

-- the name and the arguments, each with its zero byte
abbrev pub argument_bytes : ProgramText → List ℕ
argument_bytes program = flat_map with_zero (program.name ∷ program.arguments)

abbrev pub HasNoComma : Text → Type 0
HasNoComma text = All (λ byte. byte ≢ COMMA) text

pub record IsProgram (program : ProgramText) : Type 0 where
  pub host : program.host < HOST_LIMIT
  pub some : 1 ≤ length program.name
  pub short : length program.name ≤ NAME_LIMIT
  pub name : HasNoComma program.name
  pub arguments : All HasNoComma program.arguments
  pub bytes : length (argument_bytes program) ≤ 4096

-- the number above the greatest host
abbrev pub hosts_of : List ProgramText → ℕ
hosts_of programs = fold (λ count program. max count (program.host + 1)) 0 programs
