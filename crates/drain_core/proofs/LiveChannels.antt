-- Which channels are live stays as it is in a drain.
--     live_after                 after a step of an agent the same channels are live
use Rattle.std.proofs.Common.{◌≡◌, ◌==◌, Bool, true, false, [], ◌∷◌, take, refl, ◌∙◌}
use Rattle.std.specs.Prelude.{if◌then◌else◌}
use Rattle.sys_abi.specs.declared.identity.ConnId.{ConnId}
use Rattle.sys_abi.specs.declared.identity.RealPid.{RealPid}
use Rattle.wire_net.specs.declared.cut_room.DirNotes.{DirNotes}
use Rattle.wire_channels.specs.Directions.{is_flowing, after_receive, after_send}
use Rattle.wire_channels.specs.Channels.{Channels, at_direction, is_live_at}
use Rattle.drain_core.specs.Tasks.{unsent, reads, sends, direction_after}
use Rattle.drain_core.specs.Drains.{Notes, channels_after}
use Rattle.wire_net.proofs.LiveChannels.{KeepsFlow, live_kept}

step_flows : (p : RealPid) (x : DirNotes) → KeepsFlow (direction_after p x)
step_flows p x direction = choice (sends p x (after_receive (reads p x direction) direction) == 0)
  where
    choice : (none : Bool)
        → is_flowing (if none then after_receive (reads p x direction) direction else after_send (take (sends p x (after_receive (reads p x direction) direction)) (unsent x)) (after_receive (reads p x direction) direction))
        ≡ is_flowing direction
    choice true = refl
    choice false = refl

pub live_after : (p : RealPid) (notes : Notes) (m : Channels) (id : ConnId) → is_live_at (channels_after p notes m) id ≡ is_live_at m id
live_after p [] m id = refl
live_after p (x ∷ notes) m id = live_after p notes (at_direction m x.dir (direction_after p x)) id ∙ live_kept m x.dir (direction_after p x) id (step_flows p x)
