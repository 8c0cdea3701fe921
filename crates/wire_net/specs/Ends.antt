-- Lists of the ends of channels with the processes that act for them in a checkpoint.
-- Source: the DMTCP paper (IPDPS 2009), "elect shared file descriptor leaders": a leader drains and refills
-- what it leads.
--     is_end_at id side e        it is the end of that side of the channel
--     agent_of ends id side      who acts for an end, if it is listed and somebody does
--     IsFor m ends               the list fits the network: it names both ends of each channel, and an end for which nobody acts sends no more and is
--                                not read
use Rattle.std.specs.Prelude.{◌≡◌, ◌==◌, ◌<◌, ◌-◌, ℕ, Bool, true, ◌&&◌, List, find, Option, None, Some, IsSome, option_and_then}
use Rattle.std.specs.FinMap as map
use Rattle.sys_abi.specs.declared.identity.ConnId.{ConnId}
use Rattle.sys_abi.specs.declared.identity.RealPid.{RealPid}
use Rattle.wire_net.specs.declared.agents.AgentEnd.{AgentEnd}
use Rattle.wire_channels.specs.declared.channel.Channel.{Channel}
use Rattle.wire_channels.specs.Channels.{Channels, direction_of}

abbrev pub is_end_at : ConnId → ℕ → AgentEnd → Bool
is_end_at id side e = (e.conn.pid.0 == id.pid.0) && (e.conn.num == id.num) && (e.side == side)

abbrev pub end_of : List AgentEnd → ConnId → ℕ → Option AgentEnd
end_of ends id side = find (is_end_at id side) ends

abbrev pub agent_of : List AgentEnd → ConnId → ℕ → Option RealPid
agent_of ends id side = option_and_then (λ e. e.agent) (end_of ends id side)

pub record IsFor (m : Channels) (ends : List AgentEnd) : Type 0 where
  pub named : (id : ConnId) (side : ℕ) → side < 2 → IsSome (map.get m id) → IsSome (end_of ends id side)
  pub silent : (id : ConnId) (channel : Channel) (side : ℕ) → side < 2 → map.get m id ≡ Some channel → agent_of ends id side ≡ None → (direction_of side channel).is_ended ≡ true
  pub deaf : (id : ConnId) (channel : Channel) (side : ℕ) → side < 2 → map.get m id ≡ Some channel → agent_of ends id side ≡ None → (direction_of (1 - side) channel).is_unread ≡ true
