-- Which channels are live stays as it is where agents drain and refill.
--     KeepsFlow                  a change that leaves it as it is whether bytes may pass
--     live_kept                  so the same channels are live
use Rattle.std.proofs.Common.{◌≡◌, ℕ, ◌==◌, Bool, true, false, refl, sym, ap, ◌∙◌, inl, inr}
use Rattle.std.specs.Prelude.{Option, Some, None, ◌&&◌, if◌then◌else◌}
use Rattle.std.specs.Option.{option_map_or}
use Rattle.std.specs.FinMap as map
use Rattle.views.proofs.MapLaws.{same_or_other, get_insert_same, get_insert_other}
use Rattle.sys_abi.specs.declared.identity.ConnId.{ConnId}
use Rattle.sys_abi.specs.declared.identity.Dir.{Dir}
use Rattle.sys_abi.proofs.OrderLaws.{conn_total, conn_exact}
use Rattle.wire_channels.specs.declared.channel.Channel.{Channel}
use Rattle.wire_channels.specs.declared.place.Place.{Place}
use Rattle.wire_channels.specs.declared.place.Place.TheVariants.{Send, Wire}
use Rattle.wire_channels.specs.Directions.{Direction, is_flowing, after_move}
use Rattle.wire_channels.specs.Channels.{Channels, at_direction, is_live, is_live_at}

abbrev pub KeepsFlow : (Direction → Direction) → Type 0
KeepsFlow f = (direction : Direction) → is_flowing (f direction) ≡ is_flowing direction

abbrev changed : Bool → (Direction → Direction) → Channel → Channel
changed b f channel = if b then record channel { first = f channel.first } else record channel { second = f channel.second }

live_side : (b : Bool) (f : Direction → Direction) (channel : Channel) → KeepsFlow f → is_live (changed b f channel) ≡ is_live channel
live_side true f channel keeps = ap (λ t. t && is_flowing channel.second) (keeps channel.first)
live_side false f channel keeps = ap (λ t. is_flowing channel.first && t) (keeps channel.second)

live_found : (m : Channels) (id other : ConnId) (b : Bool) (f : Direction → Direction) (found : Option Channel) → KeepsFlow f → map.get m id ≡ found
    → option_map_or is_live (map.get (option_map_or (λ channel. map.insert m id (changed b f channel)) found m) other) false ≡ option_map_or is_live (map.get m other) false
live_found m id other b f None keeps is = refl
live_found m id other b f (Some channel) keeps is = elim (same_or_other conn_total conn_exact other id) [
  | inl same ↦
      ap (λ (o : Option Channel). option_map_or is_live o false) (ap (map.get (map.insert m id (changed b f channel))) same ∙ get_insert_same conn_total conn_exact m id (changed b f channel))
      ∙ live_side b f channel keeps
      ∙ ap (λ (o : Option Channel). option_map_or is_live o false) (sym (ap (map.get m) same ∙ is))
  | inr differ ↦ ap (λ (o : Option Channel). option_map_or is_live o false) (get_insert_other conn_total conn_exact m id (changed b f channel) other differ)
]

pub live_kept : (m : Channels) (d : Dir) (f : Direction → Direction) (id : ConnId) → KeepsFlow f → is_live_at (at_direction m d f) id ≡ is_live_at m id
live_kept m d f id keeps = live_found m d.conn id (d.side == 0) f (map.get m d.conn) keeps refl

pub move_flows : (place : Place) (n : ℕ) → KeepsFlow (after_move place n)
move_flows Send n direction = refl
move_flows Wire n direction = refl
