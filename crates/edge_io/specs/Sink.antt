-- What a sink has taken.
use Rattle.std.specs.Prelude.{ℕ, List, ◌++◌, Option}
use Rattle.std.specs.Option.{option_map}
use Rattle.views.specs.Numbers.{Byte}

-- what is seen of a sink at a moment
pub record SeenSink : Type 0 where
  -- the bytes taken so far, where the sink tells them
  pub taken : Option (List Byte)
  -- how many pieces were not taken whole
  pub faults : ℕ

-- what was taken after the bytes came too. A sink that doesn't tell goes on not telling
abbrev pub appended : Option (List Byte) → List Byte → Option (List Byte)
appended taken bytes = option_map (λ front. front ++ bytes) taken
