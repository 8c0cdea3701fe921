-- A write to a channel through the pairs.
--     write_refused                  the direction is not there
--     write_nothing, write_broken    no byte is asked for; nothing more is sent, or nobody reads
--     write_full, write_sent         there is no room; so many bytes are sent
--     taking                         a direction that takes bytes is there, and is not broken
--     full_answer, sent_answer       what the network answers then
use Rattle.std.proofs.Common.{◌≡◌, ℕ, ◌-◌, ◌<◌, min, Bool, true, false, ◌&&◌, ◌||◌, List, take, length, Option, Some, None, Result, Ok, Err, refl, sym, ap, ◌∙◌, subst, arith}
use Rattle.std.specs.Prelude.{◌==◌, not, IsErr, if◌then◌else◌}
use Rattle.std.specs.FinMap as map
use Rattle.std.proofs.lemmas.Bool.{eqb-true, eq-eqb}
use Rattle.std.proofs.lemmas.List.{append-nil, length-take, take_min}
use Rattle.views.specs.Limits.{DIRECTION_LIMIT}
use Rattle.views.specs.Numbers.{ThreadNumber, Byte}
use Rattle.views.proofs.MapLaws.{true_false, insert_same}
use Rattle.sys_abi.specs.declared.errors.TheConstants.{EPIPE}
use Rattle.sys_abi.specs.declared.identity.Dir.{Dir}
use Rattle.sys_abi.specs.declared.identity.VPid.{VPid}
use Rattle.sys_abi.proofs.OrderLaws.{dir_total, dir_exact}
use Rattle.plain_process.specs.Attempts.{Try, and_then, found}
use Rattle.plain_tables.specs.declared.channel.Direction as plain_direction
use Rattle.plain_tables.specs.Tables.{Directions}
use Rattle.plain_machine.specs.declared.kernel.PlainKernel.{PlainKernel}
use Rattle.plain_machine.specs.Attempts.{Served, replied}
use Rattle.plain_machine.specs.Transfers.Answers.{broken_pipe}
use Rattle.plain_machine.specs.Transfers.Streams.{is_broken, write_stream, write_direction, sent, fitting_bytes, with_sent}
use Rattle.wire_channels.specs.declared.net_fault.NetFault.{NetFault}
use Rattle.wire_channels.specs.declared.net_fault.NetFault.TheVariants as fault
use Rattle.wire_channels.specs.Answers.{send_answer_on}
use Rattle.wire_channels.specs.Channels as channels
use Rattle.wire_channels.specs.Directions.{Direction, room, send_answer, after_send}
use Rattle.host_processes.proofs.HandedOn.{plain_of}
use Rattle.host_processes.specs.OfHostTables.declared.attempt.Attempt.{Attempt}
use Rattle.host_processes.specs.OfHostTables.declared.attempt.Attempt.TheVariants as answer
use Rattle.host_processes.specs.OfHostTables.declared.kernel.Kernel.{Kernel}
use Rattle.host_processes.specs.OfHostTables.Serves.{Serves, ByNumber, same}
use Rattle.host_processes.specs.OfHostTables.Stands.{Given, Stands}
use Rattle.host_processes.proofs.OfHostTables.DirectionChanges.{IsSeen, seen_direction, direction_put}
use Rattle.host_streams.proofs.DirectionBytes.{sends_silently, sent_kept, standing_is}
use Rattle.host_streams.proofs.ReadRows.{not_equal}

-- the network's answer, where the direction is not broken

abbrev by_tests : Bool → Bool → ℕ → Result ℕ NetFault
by_tests b full m = if b then Err fault.Ended else if full then Err fault.NotReady else Ok m

full_by : (b full : Bool) (m : ℕ) → b ≡ false → IsErr (by_tests b full m) → full ≡ true
full_by true full m no_b is = true_false no_b
full_by false true m no_b is = refl
full_by false false m no_b is = is

flows_by : (b full : Bool) (m n : ℕ) → by_tests b full m ≡ Ok n → b ≡ false
flows_by true full m n is = cc
flows_by false full m n is = refl

sent_by : (b full : Bool) (m n : ℕ) → b ≡ false → by_tests b full m ≡ Ok n → n ≡ m
sent_by true full m n no_b is = true_false no_b
sent_by false true m n no_b is = cc
sent_by false false m n no_b is = cc

and_left : (a b : Bool) → (a && b) ≡ true → a ≡ true
and_left true b e = refl
and_left false b e = e

abbrev pub is_broken_in : Direction → Bool
is_broken_in y = y.is_ended || y.is_unread

-- a direction that takes bytes is there, and is not broken
pub taking : (o : Option Direction) (n m : ℕ) → send_answer_on o n ≡ Ok m
    → (y : Direction) × ((o ≡ Some y) × (is_broken_in y ≡ false))
taking None n m is = cc
taking (Some y) n m is =
    (y, (refl, flows_by (is_broken_in y) ((room y == 0) && not (n == 0)) (min n (room y)) m is))

module _ (y : Direction) (n : ℕ) (flows : is_broken_in y ≡ false) where
  abbrev is_full : Bool
  is_full = (room y == 0) && not (n == 0)

  pub full_answer : IsErr (send_answer y n) → room y ≡ 0
  full_answer is =
      eqb-true (room y) 0
      (and_left (room y == 0) (not (n == 0)) (full_by (is_broken_in y) is_full (min n (room y)) flows is))

  pub sent_answer : (m : ℕ) → send_answer y n ≡ Ok m → m ≡ min n (room y)
  sent_answer m is = sent_by (is_broken_in y) is_full (min n (room y)) m flows is

module _ (g : Given) (real : Kernel) (k : PlainKernel) (st : Stands g None real k) (p : VPid)
    (t : ThreadNumber)
    (d : Dir) (count : ℕ) (given : List Byte) where
  abbrev pub Says : Kernel → Attempt → Type 0
  Says new a = Serves ByNumber same g real new given given a (write_stream k p t d count given)

  pub write_refused : map.get k.directions d ≡ None → Says real (answer.Fails (record { 0 = EPIPE }))
  unfolding write_stream and_then found
  write_refused none =
      subst (Serves ByNumber same g real real given given (answer.Fails (record { 0 = EPIPE })))
      (sym (ap (λ o. and_then (found o EPIPE) (write_direction k p t d count given)) none))
      (record { answer = refl; kernel = refl; bytes = refl })

  module _ (less : d.side < 2) (y : Direction)
      (there : channels.direction_at real.net.channels d ≡ Some y) where
    abbrev x : plain_direction.Direction
    x = (plain_of g real k st d less y there).0

    at : map.get k.directions d ≡ Some x
    at = (plain_of g real k st d less y there).1.0

    seen : IsSeen x y
    seen = seen_direction real.net d x y there (plain_of g real k st d less y there).1.1

    abbrev fitting : List Byte
    fitting = fitting_bytes given x

    abbrev by_count : Bool → Bool → Try Served
    by_count none broken =
        if none then replied k 0 else if broken then broken_pipe k p t else sent k d x fitting

    row_is : (none broken : Bool) → (count == 0) ≡ none → is_broken x ≡ broken
        → write_stream k p t d count given ≡ by_count none broken
    unfolding write_stream and_then found
    row_is none broken e f =
        ap (λ o. and_then (found o EPIPE) (write_direction k p t d count given)) at
        ∙ (λ i. by_count (e i) (f i))

    pub write_nothing : count ≡ 0 → Says real (answer.Gives 0)
    write_nothing none =
        subst (Serves ByNumber same g real real given given (answer.Gives 0))
        (sym (row_is true (is_broken x) (eq-eqb count 0 none) refl))
        (record { reply = refl; bytes = refl; stands = st })

    module _ (some : count ≡ 0 → ⊥) where
      broken_is : is_broken x ≡ is_broken_in y
      broken_is = λ i. (seen.ended i) || (seen.unread i)

      pub write_broken : is_broken_in y ≡ true → (new : Kernel) (a : Attempt)
          → Serves ByNumber same g real new given given a (broken_pipe k p t) → Says new a
      write_broken broken new a serves =
          subst (Serves ByNumber same g real new given given a)
          (sym (row_is false true (not_equal count 0 some) (broken_is ∙ broken))) serves

      module _ (flows : is_broken_in y ≡ false) where
        flowing_row : write_stream k p t d count given ≡ sent k d x fitting
        flowing_row = row_is false false (not_equal count 0 some) (broken_is ∙ flows)

        room_is : DIRECTION_LIMIT - length x.left ≡ room y
        room_is = ap (λ n. DIRECTION_LIMIT - n) (standing_is x y seen)

        pub write_full : room y ≡ 0 → Says real (answer.Gives 0)
        write_full full =
            subst (Serves ByNumber same g real real given given (answer.Gives 0))
            (sym (flowing_row ∙ ap (sent k d x) (ap (λ n. take n given) (room_is ∙ full))))
            (record {
              reply = refl;
              bytes = refl;
              stands = subst (λ (m : Directions). Stands g None real (record k { directions = m }))
                  (sym (ap (λ (left : List Byte). map.insert k.directions d (record x { left = left }))
                  (append-nil x.left) ∙ insert_same dir_total dir_exact k.directions d x at)) st;
            })

        pub write_sent : (m : ℕ) → m ≡ min (length given) (room y)
            → Says (record real {
              net = record real.net {
                channels = channels.at_direction real.net.channels d (after_send (take m given));
              };
            }) (answer.Gives m)
        write_sent m is =
            subst (Serves ByNumber same g real _ given given (answer.Gives m))
            (sym (flowing_row ∙ ap (sent k d x) fitting_is))
            (record {
              reply = length_is m (length given) (room y) is ∙ sym (length-take m given);
              bytes = refl;
              stands = direction_put g real k st d less (after_send (take m given)) (sends_silently
                  (take m given))
                  (with_sent (take m given) x) y there
                  (sent_kept x y seen (take m given));
            })
          where
            swapped : (a b : ℕ) → min a b ≡ min b a
            swapped a b = grind arith

            length_is : (n a b : ℕ) → n ≡ min a b → n ≡ min n a
            length_is n a b e = grind (arith, e)

            fitting_is : fitting ≡ take m given
            fitting_is =
                ap (λ n. take n given) room_is ∙ sym (take_min (room y) given)
                ∙ ap (λ n. take n given) (swapped (room y) (length given) ∙ sym is)
