-- A parent over real numbers.
--     parent_value parent      the number that tells a parent, 0 for nobody
use Rattle.std.specs.Prelude.{ℕ, Option, Some, None}
use Rattle.sys_abi.specs.declared.identity.RealPid.{RealPid}

abbrev pub parent_value : Option RealPid → ℕ
parent_value None = 0
parent_value (Some parent) = parent.pid
