-- The bytes of a direction on both sides, after some were read and after some were sent.
--     taken_is, received_kept      what is read, and the direction after it
--     sent_kept                    the direction after bytes were sent
--     standing_is                  how many stand in it
use Rattle.std.proofs.Common.{◌≡◌, ℕ, ◌-◌, ◌≤◌, List, ◌++◌, take, drop, length, sym, ap, ◌∙◌, arith}
use Rattle.std.proofs.lemmas.List.{take-append-le, drop-append-le, length-append, length-drop}
use Rattle.plain_tables.specs.declared.channel.Direction as plain_direction
use Rattle.plain_machine.specs.Transfers.Streams.{without_front, with_sent}
use Rattle.wire_channels.specs.Directions.{Direction, standing, after_receive, after_send}
use Rattle.wire_net.specs.Whereabouts.{stream}
use Rattle.wire_net.proofs.Streams.{stream-send}
use Rattle.host_processes.proofs.OfHostTables.DirectionChanges.{IsSeen, KeepsSilence}

pub receives_silently : (n : ℕ) → KeepsSilence (after_receive n)
receives_silently n = record { ended = λ y is. is; unread = λ y is. is }

pub sends_silently : (bytes : List ℕ) → KeepsSilence (after_send bytes)
sends_silently bytes = record { ended = λ y is. is; unread = λ y is. is }

fewer : (n : ℕ) (a b : List ℕ) → n ≤ length a → n ≤ length (a ++ b)
fewer n a b few = omega (arith, few, length-append a b)

length-stream : (y : Direction) → length (stream y) ≡ standing y
length-stream y = omega (arith, length-append (y.received ++ y.wire) y.sent, length-append y.received y.wire)

module _ (x : plain_direction.Direction) (y : Direction) (seen : IsSeen x y) where
  pub standing_is : length x.left ≡ standing y
  standing_is = ap length seen.left ∙ length-stream y

  module _ (n : ℕ) (few : n ≤ length y.received) where
    pub taken_is : take n x.left ≡ take n y.received
    taken_is =
        ap (take n) seen.left ∙ take-append-le n (y.received ++ y.wire) y.sent (fewer n y.received y.wire few)
        ∙ take-append-le n y.received y.wire few

    rest_is : drop n x.left ≡ stream (after_receive n y)
    rest_is =
        ap (drop n) seen.left ∙ drop-append-le n (y.received ++ y.wire) y.sent (fewer n y.received y.wire few)
        ∙ ap (λ bytes. bytes ++ y.sent) (drop-append-le n y.received y.wire few)

    pub received_kept : IsSeen (without_front n x) (after_receive n y)
    received_kept = record {
      left = rest_is;
      arrived = ap (λ m. m - n) seen.arrived ∙ sym (length-drop n y.received);
      ended = seen.ended;
      unread = seen.unread;
    }

  pub sent_kept : (bytes : List ℕ) → IsSeen (with_sent bytes x) (after_send bytes y)
  sent_kept bytes = record {
    left = ap (λ left. left ++ bytes) seen.left ∙ sym (stream-send bytes y);
    arrived = seen.arrived;
    ended = seen.ended;
    unread = seen.unread;
  }
