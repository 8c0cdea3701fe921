-- The forms of the command line, and a call that asks for them.
--     help_text                             the forms, a line each
--     IsHelp status trace before after      the contract of a call for help
use Rattle.std.specs.Prelude.{◌≡◌, ◌⊎◌, ℕ, List, [], ◌++◌, codes}
use Rattle.sys_abi.specs.declared.record.Record.{Record}
use Rattle.endings.specs.declared.status.Status.{Status}
use Rattle.endings.specs.declared.status.Status.TheVariants.{Done, SinkFault}
use Rattle.endings.specs.Log.{line, done_line}
use Rattle.edge_io.specs.Sunk.{Sunk, sunk, Took, TookFront}
use Rattle.dmtcp_top.specs.Sessions.{Outside, StreamsFailed, log_in}

abbrev pub help_text : List ℕ
help_text =
    line (codes "dmtcp launch [options] host:name[,argument]...")
    ++ line (codes "dmtcp restart [options]")
    ++ line (codes "dmtcp ring N [options]")
    ++ line (codes "dmtcp help")

-- the console took the forms and nothing else, and the log that the call is done; or one of them failed, the
-- console first, and took a first part of its own
abbrev pub HelpEnds : Status → Sunk → Sunk → Type 0
HelpEnds Done console log = Took console help_text × Took log done_line
HelpEnds SinkFault console log =
    (TookFront console help_text × Took log []) ⊎ (Took console help_text × TookFront log done_line)
HelpEnds _ console log = ⊥

-- The contract of a call for help. It is done wherever no stream failed, also where there is no memory.
pub record IsHelp (status : Status) (trace : List Record) (before after : Outside) : Type 0 where
  pub ends : HelpEnds status (sunk before.console.taken after.console.taken) (log_in before after)
  pub nothing : trace ≡ []
  pub same : after.inputs ≡ before.inputs
  pub sink_failed : status ≡ SinkFault → StreamsFailed before after
