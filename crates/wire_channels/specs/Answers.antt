-- What calls on a direction answer, and what stands in it, also where its channel is not there.
-- Source: `man 2 send`, `man 2 recv`.
--     send_answer_on, receive_answer_on      what a call on a direction answers, where its channel may not be there
--     received_on, bytes_on          what stands in a queue of a direction, nothing where its channel is not there
--     counts_of direction            the lengths of its three queues
use Rattle.std.specs.Prelude.{ℕ, length, List, [], ◌∷◌, Option, Some, None, Result, Err}
use Rattle.wire_channels.specs.declared.net_fault.NetFault.{NetFault}
use Rattle.wire_channels.specs.declared.net_fault.NetFault.TheVariants as fault
use Rattle.wire_channels.specs.declared.place.Place.{Place}
use Rattle.wire_channels.specs.Directions.{Direction, send_answer, receive_answer, bytes_at}

abbrev pub send_answer_on : Option Direction → ℕ → Result ℕ NetFault
send_answer_on None n = Err fault.NotConnected
send_answer_on (Some direction) n = send_answer direction n

abbrev pub receive_answer_on : Option Direction → ℕ → Result ℕ NetFault
receive_answer_on None n = Err fault.NotConnected
receive_answer_on (Some direction) n = receive_answer direction n

abbrev pub counts_of : Direction → List ℕ
counts_of direction = length direction.sent ∷ length direction.wire ∷ length direction.received ∷ []

abbrev pub received_on : Option Direction → List ℕ
received_on None = []
received_on (Some direction) = direction.received

abbrev pub bytes_on : Place → Option Direction → List ℕ
bytes_on place None = []
bytes_on place (Some direction) = bytes_at place direction
