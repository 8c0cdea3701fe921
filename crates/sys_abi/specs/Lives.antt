-- Whether a process lives.
-- Source: `man 2 wait4`.
use Rattle.std.specs.Prelude.{Bool, true, false}
use Rattle.sys_abi.specs.declared.life.Life.{Life}
use Rattle.sys_abi.specs.declared.life.Life.TheVariants.{Live, Zombie}

abbrev pub lives : Life → Bool
lives Live = true
lives (Zombie status) = false
