-- The sides of channels that descriptions name, as a set: a channel is told from it as from the descriptions.
--     named_sides descriptions      the sides, by channel and number
use Rattle.std.specs.Prelude.{ℕ, Bool, List, [], ◌∷◌, map as each, is_some}
use Rattle.std.specs.List.{flat_map}
use Rattle.std.specs.FinMap as map
use Rattle.sys_abi.specs.declared.identity.ConnId.{ConnId}
use Rattle.sys_abi.specs.declared.identity.Dir.{Dir}
use Rattle.sys_abi.specs.Orders.{dir_cmp}
use Rattle.plain_tables.specs.Objects.{dir}
use Rattle.plain_tables.specs.declared.channel.Channel.{Channel}
use Rattle.shared_items.specs.declared.shared.ChannelImage.{ChannelImage}
use Rattle.shared_items.specs.declared.shared.ObjectImage.{ObjectImage}
use Rattle.shared_items.specs.declared.shared.ObjectImage.TheVariants.{Stream, Listener}
use Rattle.shared_items.specs.declared.shared.DescriptionImage.{DescriptionImage}

abbrev pub Sides : Type 0
Sides = map.FinMap dir_cmp (Unit {0})

abbrev pub pending_side : ConnId → Dir × Unit {0}
pending_side conn = (dir conn 1, tt)

abbrev pub sides_of : ObjectImage → List (Dir × Unit {0})
sides_of (Stream conn side) = (dir conn side, tt) ∷ []
sides_of (Listener address backlog pending) = each pending_side pending
sides_of _ = []

abbrev pub named_sides : List DescriptionImage → Sides
named_sides descriptions = map.from_entries (flat_map (λ it. sides_of it.object) descriptions)

abbrev pub has_side : Sides → ConnId → ℕ → Bool
has_side named conn side = is_some (map.get named (dir conn side))

-- a channel, where a side is open as this tells
abbrev pub channel_by : (ConnId → ℕ → Bool) → ChannelImage → Channel
channel_by is_open image = record {
  kind = image.kind;
  first = record { address = image.first.address; is_open = is_open image.id 0 };
  second = record { address = image.second.address; is_open = is_open image.id 1 };
}
