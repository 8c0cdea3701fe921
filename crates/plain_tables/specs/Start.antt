-- A process as a job begins with it: it lives, with one thread of its own number.
-- No signal is pending, and nobody is its parent.
use Rattle.std.specs.Prelude.{ℕ}
use Rattle.std.specs.FinMap as map
use Rattle.id_maps.specs.OfSysAbi.declared.life.Life.TheVariants.{Live}
use Rattle.plain_tables.specs.declared.process.Process.{Process}
use Rattle.plain_tables.specs.Tables.{NOBODY}

abbrev pub start_process : ℕ → Process
start_process p = record { parent = NOBODY; life = Live; pending = 0; threads = map.insert map.empty p 0 }
