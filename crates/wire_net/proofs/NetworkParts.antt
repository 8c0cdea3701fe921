-- A network by its parts.
use Rattle.std.proofs.Common.{◌≡◌, ℕ, ap, ◌∙◌}
use Rattle.wire_channels.specs.Listeners.{Listeners}
use Rattle.wire_channels.specs.Channels.{Channels}
use Rattle.wire_net.specs.Networks.{Network}

abbrev pub network : ℕ → ℕ → Listeners → Channels → Network
network nodes port_base listeners channels = record { nodes = nodes; port_base = port_base; listeners = listeners; channels = channels }

pub same_network : (nodes port_base : ℕ) (listeners listeners' : Listeners) (channels channels' : Channels) → listeners ≡ listeners' → channels ≡ channels'
    → network nodes port_base listeners channels ≡ network nodes port_base listeners' channels'
same_network nodes port_base listeners listeners' channels channels' first second =
    ap (λ (m : Listeners). network nodes port_base m channels) first ∙ ap (network nodes port_base listeners') second
