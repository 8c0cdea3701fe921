-- What the functions return, in the words of the definitions.
--     stored told memory      the memory after a store, if it was made
use Rattle.std.specs.Prelude.{Option, Some, None, Result, Ok, Err}
use Rattle.plain_process.specs.Memory.{Memory}

abbrev pub stored : {X E : Type 0} → Result X E → Memory → Option Memory
stored (Ok done) memory = Some memory
stored (Err e) memory = None
