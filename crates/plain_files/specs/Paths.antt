-- What code tells of a path.
--     path_told given end      the bytes before its end
use Rattle.std.specs.Prelude.{ℕ, List, take, Option, Some, None}
use Rattle.sys_abi.specs.declared.errors.TheConstants.{ENAMETOOLONG}
use Rattle.plain_process.specs.Attempts.{Try, Fails, Gives}

abbrev pub path_told : List ℕ → Option ℕ → Try (List ℕ)
path_told given None = Fails ENAMETOOLONG
path_told given (Some end) = Gives (take end given)
