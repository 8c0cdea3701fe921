-- The calls that end a thread or a process.
use Rattle.std.specs.Prelude.{Bool, true, false}
use Rattle.call_table.specs.declared.request.Request.{Request}
use Rattle.call_table.specs.declared.request.Request.TheVariants.{Exit, ExitGroup}

unfoldable pub is_exit : Request → Bool
is_exit (Exit code) = true
is_exit (ExitGroup code) = true
is_exit _ = false
