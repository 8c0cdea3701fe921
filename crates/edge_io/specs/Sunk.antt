-- What a sink took in a call.
use Rattle.std.specs.Prelude.{◌≡◌, ℕ, List, take, Option}
use Rattle.views.specs.Numbers.{Byte}
use Rattle.edge_io.specs.Sink.{appended}

-- the bytes that a sink had taken before the call and has taken after it, where it tells them
pub record Sunk : Type 0 where
  pub before : Option (List Byte)
  pub after : Option (List Byte)

abbrev pub sunk : Option (List Byte) → Option (List Byte) → Sunk
sunk before after = record { before = before; after = after }

-- in the call the sink took these bytes
abbrev pub Took : Sunk → List Byte → Type 0
Took sink bytes = sink.after ≡ appended sink.before bytes

-- in the call the sink took some first part of these bytes
abbrev pub TookFront : Sunk → List Byte → Type 0
TookFront sink bytes = (n : ℕ) × Took sink (take n bytes)
