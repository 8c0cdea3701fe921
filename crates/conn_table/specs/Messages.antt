-- Messages at the ends of datagram pairs.
-- Source: `man 2 send`, `man 2 recv`: a message is received whole, or cut, and in the order of sending.
--     first_message side pair          the oldest one that waits at an end
--     with_sent side message pair      the pair with a message more at that end
--     without_first side pair          the pair without that end's oldest message
--     at_pair f m number               the pairs with that one changed, if it is there
use Rattle.std.specs.Prelude.{◌==◌, ℕ, List, [], ◌∷◌, ◌++◌, drop, slice_get, Option, if◌then◌else◌}
use Rattle.std.specs.Option.{option_map_or}
use Rattle.std.specs.FinMap as map
use Rattle.id_maps.specs.OfViews.Numbers.{Byte}
use Rattle.conn_table.specs.declared.pairs.DatagramPair.{DatagramPair}
use Rattle.conn_table.specs.Pairs.{Pairs, end_of}

abbrev pub first_message : ℕ → DatagramPair → Option (List Byte)
first_message side pair = slice_get (end_of side pair).inbox 0

-- another inbox at an end
abbrev pub with_inbox : ℕ → List (List Byte) → DatagramPair → DatagramPair
with_inbox side messages pair =
    if side == 0 then record pair { first = record pair.first { inbox = messages } } else
    record pair { second = record pair.second { inbox = messages } }

abbrev pub with_sent : ℕ → List Byte → DatagramPair → DatagramPair
with_sent side message pair = with_inbox side ((end_of side pair).inbox ++ message ∷ []) pair

abbrev pub without_first : ℕ → DatagramPair → DatagramPair
without_first side pair = with_inbox side (drop 1 (end_of side pair).inbox) pair

abbrev pub at_pair : (DatagramPair → DatagramPair) → Pairs → ℕ → Pairs
at_pair f m number = option_map_or (λ pair. map.insert m number (f pair)) (map.get m number) m
