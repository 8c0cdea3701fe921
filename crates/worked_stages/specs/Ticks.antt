-- The wire between two processes.
--     moved d place n t          what a move of bytes from queue to queue leaves of a network
--     ticked first second t      what it leaves that both directions of a channel move on, at most nine bytes from each queue
use Rattle.std.specs.Prelude.{ℕ}
use Rattle.sys_abi.specs.declared.identity.Dir.{Dir}
use Rattle.wire_channels.specs.declared.place.Place.{Place}
use Rattle.wire_channels.specs.declared.place.Place.TheVariants.{Send, Wire}
use Rattle.wire_channels.specs.Channels.{at_direction}
use Rattle.wire_channels.specs.Directions.{after_move}
use Rattle.wire_net.specs.Networks.{Network}

abbrev pub moved : Dir → Place → ℕ → Network → Network
moved d place n t = record t { channels = at_direction t.channels d (after_move place n) }

abbrev pub ticked : Dir → Dir → Network → Network
ticked first second t = moved second Wire 9 (moved second Send 9 (moved first Wire 9 (moved first Send 9 t)))
