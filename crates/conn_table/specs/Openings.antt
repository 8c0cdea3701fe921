-- A new datagram pair, and the number that it gets.
-- Source: `man 2 socketpair`; that a pair takes the lowest number that none has is this project's own rule.
--     new_pair first second       both ends open, with nothing to read at them
--     IsLowestNumber m number     no pair has the number, and some pair each one below it
use Rattle.std.specs.Prelude.{◌≡◌, ℕ, ◌<◌, true, [], None, IsSome}
use Rattle.std.specs.FinMap as map
use Rattle.id_maps.specs.OfSysAbi.declared.identity.DescId.{DescId}
use Rattle.conn_table.specs.declared.pairs.DatagramEnd.{DatagramEnd}
use Rattle.conn_table.specs.declared.pairs.DatagramPair.{DatagramPair}
use Rattle.conn_table.specs.Pairs.{Pairs}

abbrev pub new_end : DescId → DatagramEnd
new_end desc = record { desc = desc; is_open = true; inbox = [] }

abbrev pub new_pair : DescId → DescId → DatagramPair
new_pair first second = record { first = new_end first; second = new_end second }

abbrev pub AreTaken : Pairs → ℕ → Type 0
AreTaken m end = (number : ℕ) → number < end → IsSome (map.get m number)

pub record IsLowestNumber (m : Pairs) (number : ℕ) : Type 0 where
  pub free : map.get m number ≡ None
  pub lowest : AreTaken m number
