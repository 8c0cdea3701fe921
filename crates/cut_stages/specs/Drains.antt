-- A system whose leaders take the bytes off its channels, as far as its tables are concerned.
-- Source: DMTCP's stage "drain kernel buffers".
--     pumped d n t          bytes of the direction pass on
--     drain_task            what the agents do
--     IsDraining s ..       it is a cut whose agents hold what they have drained, with an agent for each open end,
--                           and each direction is noted, with agents of listed ends, who live
use Rattle.std.specs.Prelude.{◌≡◌, ◌<◌, ℕ, true, List, IsSome, All}
use Rattle.sys_abi.specs.declared.identity.Dir.{Dir}
use Rattle.drain_core.specs.Drains.{Notes, Fits, has_notes, step_answer}
use Rattle.drain_core.specs.Holding.{agents_of}
use Rattle.drain_core.specs.Work.{work_left}
use Rattle.plain_machine.specs.declared.kernel.PlainKernel.{PlainKernel}
use Rattle.wire_channels.specs.declared.place.Place.TheVariants.{Send, Wire}
use Rattle.wire_channels.specs.Channels.{direction_at, at_direction}
use Rattle.wire_channels.specs.Directions.{after_move}
use Rattle.wire_net.specs.declared.agents.AgentEnd.{AgentEnd}
use Rattle.wire_net.specs.Ends.{IsFor}
use Rattle.wire_net.specs.Networks.{Network}
use Rattle.host_tables.specs.declared.system.System.{System}
use Rattle.leader_vote.specs.Owners.{Owners}
use Rattle.cut_stages.specs.Cuts.{IsCut}
use Rattle.cut_stages.specs.Rounds.{Task, AreLed, IsAlive}

abbrev pub pumped : Dir → ℕ → Network → Network
pumped d n t = record t {
  channels = at_direction (at_direction t.channels d (after_move Send n)) d (after_move Wire n);
}

abbrev pub drain_task : Task
drain_task = record { fitting = Fits; held = agents_of; work = work_left; answer = step_answer }

pub record IsDraining (s : System) (next_id : ℕ) (k : PlainKernel) (owners : Owners) (ends : List AgentEnd)
    (notes : Notes) : Type 0 where
  pub cut : IsCut s next_id k owners (agents_of notes)
  pub fits : Fits s.kernel.net.channels notes
  pub agents : IsFor s.kernel.net.channels ends
  pub noted : (d : Dir) → d.side < 2 → IsSome (direction_at s.kernel.net.channels d) → has_notes d notes ≡
      true
  pub led : AreLed ends notes
  pub alive : All (IsAlive k s.ids.pids) ends
