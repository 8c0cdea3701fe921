-- A kernel that has changed, in a system whose pairs and table of channels are as they were.
--     Passed s s' k'          it stands for this kernel part by the same pairs
use Rattle.std.specs.Prelude.{◌≡◌, None}
use Rattle.plain_machine.specs.declared.kernel.PlainKernel.{PlainKernel}
use Rattle.host_streams.specs.OfHostTables.declared.system.System.{System}
use Rattle.host_streams.specs.OfHostTables.Stands.{Stands}
use Rattle.host_streams.specs.OfHostTables.Systems.{given_of}

pub record Passed (s s' : System) (k' : PlainKernel) : Type 0 where
  pub ids : s'.ids ≡ s.ids
  pub conns : s'.conns.conns ≡ s.conns.conns
  pub names : s'.conns.names ≡ s.conns.names
  pub stands : Stands (given_of s) None s'.kernel k'
