-- Where the bytes of a direction are while agents hold a part of them.
-- Source: the DMTCP paper (IPDPS 2009), stages "drain" and "refill"; cookies and frames are this project's
-- own profile.
--     stream direction            the bytes in its three queues, oldest first
--     Held                        what agents hold of a direction, and which bytes of the queues are its own
--     Agents                      what they hold of each direction; of one that is not there they hold nothing
--     whereabouts t agents d      the bytes of the direction, oldest first
-- While a checkpoint drains or refills, the queues also carry what is no part of the direction: a cookie
-- behind its last byte, and the frame by which bytes of the other direction go back, behind its length.
use Rattle.std.specs.Prelude.{ℕ, ◌-◌, List, [], ◌++◌, take, drop, Option, Some, None}
use Rattle.std.specs.FinMap as map
use Rattle.sys_abi.specs.declared.identity.Dir.{Dir}
use Rattle.sys_abi.specs.Orders.{dir_cmp}
use Rattle.wire_channels.specs.Directions.{Direction}
use Rattle.wire_channels.specs.Channels.{direction_at}
use Rattle.wire_net.specs.Networks.{Network}

abbrev pub stream : Direction → List ℕ
stream direction = direction.received ++ direction.wire ++ direction.sent

abbrev pub stream_on : Option Direction → List ℕ
stream_on None = []
stream_on (Some direction) = stream direction

-- the other direction of the channel
abbrev pub reverse : Dir → Dir
reverse d = record { conn = d.conn; side = 1 - d.side }

pub record Held : Type 0 where
  -- taken off the direction and not yet on the way back
  pub drained : List ℕ
  -- so many bytes at the front of its queues belong to the frame of the other direction
  pub foreign : ℕ
  -- so many behind these are its own, before a cookie
  pub plain : ℕ
  -- back at its sender, and not yet sent again
  pub returned : List ℕ
  -- so many bytes at the front of the other direction's queues belong to the length of its own frame
  pub header : ℕ
  -- so many behind these are its own
  pub framed : ℕ
  -- to be put into the frame
  pub unframed : List ℕ

abbrev pub Agents : Type 0
Agents = map.FinMap dir_cmp Held

abbrev pub placed : List ℕ → List ℕ → Option Held → List ℕ
placed own other None = own
placed own other (Some held) =
    held.drained ++ take held.plain (drop held.foreign own) ++ held.returned ++ take held.framed (drop held.header other) ++ held.unframed

abbrev pub whereabouts : Network → Agents → Dir → List ℕ
whereabouts t agents d =
    placed (stream_on (direction_at t.channels d)) (stream_on (direction_at t.channels (reverse d))) (map.get agents d)
