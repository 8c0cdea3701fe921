-- Datagram pairs under their numbers.
-- Source: `man 2 socketpair`, `man 2 close`; that a pair is gone when its last open end is closed is this
-- project's own rule.
--     Pairs                          what a contract sees of them
--     end_of side pair               an end
--     is_open pair                   an end is open
--     without_end side pair          the pair with that end closed, at which nothing waits then
--     after_close side m number      the pairs after that end was closed
use Rattle.std.specs.Prelude.{◌==◌, ◌||◌, ℕ, Bool, true, false, [], Option, Some, None, if◌then◌else◌}
use Rattle.std.specs.Option.{option_map, option_map_or}
use Rattle.std.specs.Ordering.{nat_cmp}
use Rattle.std.specs.FinMap as map
use Rattle.conn_table.specs.declared.pairs.DatagramEnd.{DatagramEnd}
use Rattle.conn_table.specs.declared.pairs.DatagramPair.{DatagramPair}

abbrev pub Pairs : Type 0
Pairs = map.FinMap nat_cmp DatagramPair

abbrev pub end_of : ℕ → DatagramPair → DatagramEnd
end_of side pair = if side == 0 then pair.first else pair.second

abbrev pub is_open : DatagramPair → Bool
is_open pair = pair.first.is_open || pair.second.is_open

-- the other end still knows its description
abbrev pub closed_end : DatagramEnd → DatagramEnd
closed_end end = record { desc = end.desc; is_open = false; inbox = [] }

abbrev pub without_end : ℕ → DatagramPair → DatagramPair
without_end side pair =
    if side == 0 then record pair { first = closed_end pair.first } else
    record pair { second = closed_end pair.second }

abbrev pub put_back : Pairs → ℕ → Option DatagramPair → Pairs
put_back m number None = m
put_back m number (Some pair) = if is_open pair then map.insert m number pair else map.remove m number

abbrev pub after_close : ℕ → Pairs → ℕ → Pairs
after_close side m number = put_back m number (option_map (without_end side) (map.get m number))

-- the end closed, and whether the pair is not there or has an open end then
abbrev pub with_closed : ℕ → Pairs → ℕ → Pairs
with_closed side m number =
    option_map_or (λ pair. map.insert m number (without_end side pair)) (map.get m number) m

abbrev pub stays_open : ℕ → Option DatagramPair → Bool
stays_open side found = option_map_or (λ pair. is_open (without_end side pair)) found true
