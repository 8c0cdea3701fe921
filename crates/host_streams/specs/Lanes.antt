-- What can be told of a direction of a channel: of one that is not there nothing stands in it, and nothing
-- waits for it.
-- Source: `man 7 pipe`, `man 2 socketpair`.
--     received_at, standing_at      how many bytes can be read, and how many stand in it
--     is_broken_at                  nothing more is sent, or nobody reads
--     can_receive, can_send         a read or a write of so many bytes has an answer yet
--     IsRefused                     the network takes none of so many bytes
use Rattle.std.specs.Prelude.{ℕ, ◌==◌, ◌||◌, ◌&&◌, Bool, false, not, nat_lt, length, is_some, IsErr}
use Rattle.std.specs.Option.{option_map_or}
use Rattle.std.specs.FinMap as map
use Rattle.views.specs.Limits.{DIRECTION_LIMIT}
use Rattle.sys_abi.specs.declared.identity.Dir.{Dir}
use Rattle.wire_channels.specs.Answers.{received_on, send_answer_on}
use Rattle.wire_channels.specs.Channels.{direction_at}
use Rattle.wire_channels.specs.Directions.{standing}
use Rattle.wire_net.specs.Networks.{Network}

abbrev pub received_at : Network → Dir → ℕ
received_at t d = length (received_on (direction_at t.channels d))

abbrev pub standing_at : Network → Dir → ℕ
standing_at t d = option_map_or standing (direction_at t.channels d) 0

abbrev pub is_broken_at : Network → Dir → Bool
is_broken_at t d =
    option_map_or (λ direction. direction.is_ended) (direction_at t.channels d) false
    || option_map_or (λ direction. direction.is_unread) (direction_at t.channels d) false

abbrev pub is_there : Network → Dir → Bool
is_there t d = is_some (map.get t.channels d.conn)

abbrev pub can_receive : Network → Dir → ℕ → Bool
can_receive t d count =
    not (is_there t d) || (count == 0) || nat_lt 0 (received_at t d)
    || (is_broken_at t d && (standing_at t d == 0))

abbrev pub can_send : Network → Dir → ℕ → Bool
can_send t d count =
    not (is_there t d) || (count == 0) || is_broken_at t d || nat_lt (standing_at t d) DIRECTION_LIMIT

abbrev pub IsRefused : Network → Dir → ℕ → Type 0
IsRefused t d n = IsErr (send_answer_on (direction_at t.channels d) n)
