-- Live channels, and who acts for their ends.
--     There, live_there      a channel that is live is there
--     direction_there        so is each of its directions, and bytes may pass on it
--     not_there              a direction that is not there is of no live channel
--     agent_there            somebody acts for each of its ends
use Rattle.std.proofs.Common.{◌≡◌, ℕ, ◌==◌, ◌<◌, Bool, true, false, refl, sym, ap, ◌∙◌}
use Rattle.std.specs.Prelude.{Option, Some, None, List, IsSome, is_some, not, if◌then◌else◌}
use Rattle.std.specs.Option.{option_map, option_map_or}
use Rattle.std.specs.FinMap as map
use Rattle.std.proofs.lemmas.Bool.{and_parts, not-true}
use Rattle.views.proofs.MapLaws.{true_false}
use Rattle.sys_abi.specs.declared.identity.ConnId.{ConnId}
use Rattle.sys_abi.specs.declared.identity.Dir.{Dir}
use Rattle.sys_abi.specs.declared.identity.RealPid.{RealPid}
use Rattle.wire_net.specs.declared.agents.AgentEnd.{AgentEnd}
use Rattle.wire_channels.specs.declared.channel.Channel.{Channel}
use Rattle.wire_channels.specs.Directions.{Direction, is_flowing}
use Rattle.wire_channels.specs.Channels.{Channels, direction_of, direction_at, is_live, is_live_at}
use Rattle.wire_net.specs.Ends.{agent_of, IsFor}
use Rattle.wire_net.specs.Noted.{IsFlowing}

flowing : (direction : Direction) → is_flowing direction ≡ true → IsFlowing direction
flowing direction is =
    let parts = and_parts (not direction.is_ended) (not direction.is_unread) is in
    record { goes_on = not-true direction.is_ended parts.0; is_read = not-true direction.is_unread parts.1 }

side_flows : (channel : Channel) (side : ℕ) → is_live channel ≡ true → is_flowing (direction_of side channel) ≡ true
side_flows channel side is = choice (side == 0)
  where
    choice : (b : Bool) → is_flowing (if b then channel.first else channel.second) ≡ true
    choice true = (and_parts (is_flowing channel.first) (is_flowing channel.second) is).0
    choice false = (and_parts (is_flowing channel.first) (is_flowing channel.second) is).1

pub record There (m : Channels) (id : ConnId) : Type 0 where
  pub channel : Channel
  pub found : map.get m id ≡ Some channel
  pub live : is_live channel ≡ true

pub live_there : (m : Channels) (id : ConnId) → is_live_at m id ≡ true → There m id
live_there m id is = choice (map.get m id) refl is
  where
    choice : (o : Option Channel) → map.get m id ≡ o → option_map_or is_live o false ≡ true → There m id
    choice None at is = true_false (sym is)
    choice (Some channel) at is = record { channel = channel; found = at; live = is }

pub record OneThere (m : Channels) (d : Dir) : Type 0 where
  pub direction : Direction
  pub found : direction_at m d ≡ Some direction
  pub flows : IsFlowing direction

pub direction_there : (m : Channels) (d : Dir) → There m d.conn → OneThere m d
direction_there m d there = record {
  direction = direction_of d.side there.channel;
  found = ap (option_map (direction_of d.side)) there.found;
  flows = flowing (direction_of d.side there.channel) (side_flows there.channel d.side there.live);
}

pub not_there : (m : Channels) (d : Dir) → direction_at m d ≡ None → is_live_at m d.conn ≡ false
not_there m d is = choice (map.get m d.conn) is
  where
    choice : (o : Option Channel) → option_map (direction_of d.side) o ≡ None → option_map_or is_live o false ≡ false
    choice None is = refl
    choice (Some channel) is = absurd (apart is)
      where
        apart : Some (direction_of d.side channel) ≡ None → ⊥
        apart e = cc

pub agent_there : (m : Channels) (ends : List AgentEnd) (id : ConnId) (side : ℕ) → IsFor m ends → side < 2 → There m id → is_some (agent_of ends id side) ≡ true
agent_there m ends id side for few there = choice (agent_of ends id side) refl
  where
    choice : (o : Option RealPid) → agent_of ends id side ≡ o → is_some o ≡ true
    choice (Some agent) at = refl
    choice None at = true_false (sym (for.silent id there.channel side few there.found at) ∙ (flowing (direction_of side there.channel) (side_flows there.channel side there.live)).goes_on)

pub some_is : (o : Option RealPid) → is_some o ≡ true → IsSome o
some_is None is = true_false (sym is)
some_is (Some agent) is = refl
