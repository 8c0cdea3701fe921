-- A network of one channel, as the tests make it.
--     IsAlone id m       no other channel is there
use Rattle.std.specs.Prelude.{◌≡◌, IsSome}
use Rattle.std.specs.FinMap as map
use Rattle.sys_abi.specs.declared.identity.ConnId.{ConnId}
use Rattle.wire_channels.specs.Channels.{Channels}

abbrev pub IsAlone : ConnId → Channels → Type 0
IsAlone id m = (other : ConnId) → IsSome (map.get m other) → other ≡ id
