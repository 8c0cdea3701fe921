-- Words on the channels of a kernel part: look-ups, and changes, each of which a call's row names.
-- Source: `man 2 socketpair`, `man 7 pipe`, `man 2 close`.
use Rattle.std.specs.Prelude.{ℕ, ◌+◌, true, false, List, [], Option, Some, None}
use Rattle.std.specs.FinMap as map
use Rattle.plain_tables.specs.OfSysAbi.declared.identity.ConnId.{ConnId}
use Rattle.plain_tables.specs.OfSysAbi.declared.identity.Dir.{Dir}
use Rattle.plain_tables.specs.OfSysAbi.declared.identity.VirtAddr.{VirtAddr}
use Rattle.plain_machine.specs.declared.kernel.PlainKernel.{PlainKernel}
use Rattle.plain_tables.specs.declared.channel.Channel.{Channel}
use Rattle.plain_tables.specs.declared.channel.ChannelEnd.{ChannelEnd}
use Rattle.plain_tables.specs.declared.channel.ChannelKind.{ChannelKind}
use Rattle.plain_tables.specs.declared.channel.Direction.{Direction}
use Rattle.plain_tables.specs.declared.channel.Listening.{Listening}
use Rattle.plain_tables.specs.Objects.{dir}
use Rattle.plain_tables.specs.Closing.{closed_channels, closed_directions, pending_channels, pending_directions}

abbrev pub direction_at : PlainKernel → Dir → Option Direction
direction_at k at = map.get k.directions at

abbrev pub with_direction : PlainKernel → Dir → Direction → PlainKernel
with_direction k at direction = record k { directions = map.insert k.directions at direction }

-- more of its bytes can be read
abbrev pub arrived_more : ℕ → Direction → Direction
arrived_more n direction =
    record direction { arrived = direction.arrived + n }

abbrev pub open_end : Option VirtAddr → ChannelEnd
open_end address = record { address = address; is_open = true }

abbrev pub open_channel : ChannelKind → Option VirtAddr → Option VirtAddr → Channel
open_channel kind first second = record { kind = kind; first = open_end first; second = open_end second }

abbrev pub empty_direction : Direction
empty_direction = record { left = []; arrived = 0; ended = false; unread = false }

-- a new channel, open at both sides, with nothing sent
abbrev pub with_channel : PlainKernel → ConnId → Channel → PlainKernel
with_channel k conn channel = record k {
  channels = map.insert k.channels conn channel;
  directions = map.insert (map.insert k.directions (dir conn 0) empty_direction) (dir conn 1) empty_direction;
}

-- a side of a channel closes
abbrev pub close_side : PlainKernel → ConnId → ℕ → PlainKernel
close_side k conn side = record k {
  channels = closed_channels k.channels conn side;
  directions = closed_directions k.channels k.directions conn side;
}

-- connections that nobody will accept
abbrev pub close_pending : PlainKernel → List ConnId → PlainKernel
close_pending k queue = record k {
  channels = pending_channels k.channels queue;
  directions = pending_directions k.channels k.directions queue;
}

abbrev pub close_queue : PlainKernel → Option Listening → PlainKernel
close_queue k None = k
close_queue k (Some listening) = close_pending k listening.queue

abbrev pub without_listener : PlainKernel → VirtAddr → PlainKernel
without_listener k address = record k { listeners = map.remove k.listeners address }

-- a listener closes, and with it the connections that wait at it
unfoldable pub close_listener : PlainKernel → VirtAddr → PlainKernel
close_listener k address = close_queue (without_listener k address) (map.get k.listeners address)
