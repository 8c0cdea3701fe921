-- A direction of a channel: the bytes that its sender sent and its receiver has not read, in three queues
-- that they pass in turn, and what calls do to it.
-- Source: `man 2 send`, `man 2 recv`, `man 2 shutdown`; that bytes wait in three queues is this project's own
-- rule.
--     standing direction               how many bytes stand in the three queues
--     room direction                   how many more they hold
--     send_answer direction n          what sending n bytes answers: how many are taken, or why none is
--     after_send piece direction       the piece stands behind all that was sent
--     is_flowing direction             bytes may still pass: it is neither ended nor unread
--     is_over direction                it is ended, and nothing stands in it
--     receive_answer direction n       what reading at most n bytes answers: how many are read, or that none can be read yet
--     after_receive n direction        so many bytes have been read
--     after_end, after_stop_reading    its sender sends no more;  its receiver reads no more, and what stood in it is gone
--     bytes_at place direction         the bytes in the sender's queue, or on the wire
--     after_move place n direction     the first n of these stand behind those of the next queue
use Rattle.std.specs.Prelude.{◌==◌, ℕ, ◌+◌, ◌-◌, ◌^◌, min, Bool, true, false, not, ◌&&◌, ◌||◌, List, [], ◌++◌, length, take, drop, Result, Ok, Err, if◌then◌else◌}
use Rattle.wire_channels.specs.declared.limits.TheConstants.{QUEUE_LIMIT}
use Rattle.wire_channels.specs.declared.net_fault.NetFault.{NetFault}
use Rattle.wire_channels.specs.declared.net_fault.NetFault.TheVariants as fault
use Rattle.wire_channels.specs.declared.place.Place.{Place}
use Rattle.wire_channels.specs.declared.place.Place.TheVariants.{Send, Wire}

pub record Direction : Type 0 where
  pub sent : List ℕ
  pub wire : List ℕ
  pub received : List ℕ
  pub is_ended : Bool
  pub is_unread : Bool
  pub carried : ℕ

abbrev pub unused : Direction
unused = record { sent = []; wire = []; received = []; is_ended = false; is_unread = false; carried = 0 }

abbrev pub standing : Direction → ℕ
standing direction = length direction.sent + length direction.wire + length direction.received

abbrev pub room : Direction → ℕ
room direction = QUEUE_LIMIT - standing direction

abbrev pub send_answer : Direction → ℕ → Result ℕ NetFault
send_answer direction n =
    if direction.is_ended || direction.is_unread then Err fault.Ended else
    if (room direction == 0) && not (n == 0) then Err fault.NotReady else
    Ok (min n (room direction))

-- the count of all bytes stays at its greatest value
abbrev pub after_send : List ℕ → Direction → Direction
after_send piece direction = record direction {
  sent = direction.sent ++ piece;
  carried = min (direction.carried + length piece) (2 ^ 64 - 1);
}

abbrev pub is_flowing : Direction → Bool
is_flowing direction = not direction.is_ended && not direction.is_unread

abbrev pub is_over : Direction → Bool
is_over direction = direction.is_ended && (standing direction == 0)

abbrev pub receive_answer : Direction → ℕ → Result ℕ NetFault
receive_answer direction n =
    if (n == 0) || is_over direction then Ok 0 else
    if length direction.received == 0 then Err fault.NotReady else
    Ok (min n (length direction.received))

abbrev pub after_receive : ℕ → Direction → Direction
after_receive n direction = record direction { received = drop n direction.received }

abbrev pub after_end : Direction → Direction
after_end direction = record direction { is_ended = true }

abbrev pub after_stop_reading : Direction → Direction
after_stop_reading direction = record direction { sent = []; wire = []; received = []; is_unread = true }

abbrev pub bytes_at : Place → Direction → List ℕ
bytes_at Send direction = direction.sent
bytes_at Wire direction = direction.wire

abbrev pub after_move : Place → ℕ → Direction → Direction
after_move Send n direction = record direction { sent = drop n direction.sent; wire = direction.wire ++ take n direction.sent }
after_move Wire n direction = record direction { wire = drop n direction.wire; received = direction.received ++ take n direction.wire }
