-- What a call on a copy of a kernel part returns, in the words of the rows.
--     served_told served      what the call leaves and gives; none where it waits
use Rattle.std.specs.Prelude.{Option, Some, None}
use Rattle.plain_replay.specs.declared.served.Served.{Served as ServedSlowly}
use Rattle.plain_replay.specs.declared.served.Served.TheVariants.{Done, NotReady as Waits}
use Rattle.plain_machine.specs.Attempts.{Served}

abbrev pub served_told : ServedSlowly → Option Served
served_told (Done kernel reply bytes console) = Some (record { kernel = kernel; reply = reply; bytes = bytes; console = console })
served_told Waits = None
