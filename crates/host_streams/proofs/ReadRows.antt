-- A read of a channel through the pairs.
--     no_direction               a channel that is not there has no directions
--     read_refused               then a read is refused
--     read_nothing, read_some    no byte has arrived, or none is asked for; so many are read
--     received_there             bytes that are read stand in a direction that is there
--     taken_told, never_fails    what the network answers then
use Rattle.std.proofs.Common.{◌≡◌, ℕ, ◌-◌, ◌<◌, ◌≤◌, min, Bool, true, false, ◌&&◌, ◌||◌, List, [], ◌∷◌, take, length, Option, Some, None, Result, Ok, Err, refl, sym, ap, ◌∙◌, subst, arith}
use Rattle.std.specs.Prelude.{◌==◌, if◌then◌else◌}
use Rattle.std.specs.FinMap as map
use Rattle.std.proofs.lemmas.Bool.{eqb-true}
use Rattle.std.proofs.lemmas.List.{length-take-le}
use Rattle.views.specs.Numbers.{Byte}
use Rattle.views.proofs.MapLaws.{true_false, insert_same}
use Rattle.views.proofs.Seen.{agree_none}
use Rattle.sys_abi.specs.declared.errors.TheConstants.{ENOTCONN}
use Rattle.sys_abi.specs.declared.identity.Dir.{Dir}
use Rattle.sys_abi.proofs.OrderLaws.{dir_total, dir_exact}
use Rattle.plain_process.specs.Attempts.{Try, and_then, found}
use Rattle.plain_tables.specs.declared.channel.Direction as plain_direction
use Rattle.plain_tables.specs.Tables.{Directions}
use Rattle.plain_machine.specs.declared.kernel.PlainKernel.{PlainKernel}
use Rattle.plain_machine.specs.Attempts.{Served}
use Rattle.plain_machine.specs.Channels.{with_direction}
use Rattle.plain_machine.specs.Transfers.Answers.{gave}
use Rattle.plain_machine.specs.Transfers.Streams.{read_stream, without_front, taken_bytes}
use Rattle.wire_channels.specs.declared.net_fault.NetFault.{NetFault}
use Rattle.wire_channels.specs.declared.net_fault.NetFault.TheVariants as fault
use Rattle.wire_channels.specs.Answers.{received_on}
use Rattle.wire_channels.specs.Channels as channels
use Rattle.wire_channels.specs.Directions.{Direction, standing, receive_answer, after_receive}
use Rattle.host_processes.proofs.HandedOn.{plain_of}
use Rattle.host_processes.specs.OfHostTables.declared.attempt.Attempt.{Attempt}
use Rattle.host_processes.specs.OfHostTables.declared.attempt.Attempt.TheVariants as answer
use Rattle.host_processes.specs.OfHostTables.declared.kernel.Kernel.{Kernel}
use Rattle.host_processes.specs.OfHostTables.Network.{SameDirection}
use Rattle.host_processes.specs.OfHostTables.Serves.{Serves, ByNumber, same, bytes_or}
use Rattle.host_processes.specs.OfHostTables.Stands.{Given, Stands}
use Rattle.host_processes.proofs.OfHostTables.DirectionChanges.{IsSeen, seen_direction, direction_put}
use Rattle.host_streams.proofs.DirectionBytes.{receives_silently, taken_is, received_kept, standing_is}

pub not_equal : (a b : ℕ) → (a ≡ b → ⊥) → (a == b) ≡ false
not_equal a b differ = by_test (a == b) refl
  where
    by_test : (c : Bool) → (a == b) ≡ c → (a == b) ≡ false
    by_test true e = absurd (differ (eqb-true a b e))
    by_test false e = e

-- the network's answer

answer_by : (a e s r : Bool) (m : ℕ) → a ≡ false → s ≡ false → r ≡ false
    → ◌≡◌ {A = Result ℕ NetFault}
    (if a || (e && s) then Ok 0 else if r then Err fault.NotReady else Ok m) (Ok m)
answer_by true e s r m no_a no_s no_r = true_false no_a
answer_by false e true r m no_a no_s no_r = true_false no_s
answer_by false e false true m no_a no_s no_r = true_false no_r
answer_by false true false false m no_a no_s no_r = refl
answer_by false false false false m no_a no_s no_r = refl

received_answer : (y : Direction) (n : ℕ) → (n ≡ 0 → ⊥) → n ≤ length y.received
    → receive_answer y n ≡ Ok n
received_answer y n some few =
    answer_by (n == 0) y.is_ended (standing y == 0) (length y.received == 0) (min n (length y.received))
    (not_equal n 0 some) (not_equal (standing y) 0 (λ none. some (omega (arith, few, none))))
    (not_equal (length y.received) 0 (λ none. some (omega (arith, few, none))))
    ∙ ap Ok (least n (length y.received) few)
  where
    least : (a b : ℕ) → a ≤ b → min a b ≡ a
    least a b less = grind (arith, less)

-- so many are read, and the read doesn't fail
module _ (y : Direction) (count n : ℕ) (is : min count (length y.received) ≡ n) (some : n ≡ 0 → ⊥) where
  told : receive_answer y n ≡ Ok n
  told = received_answer y n some (within count (length y.received) n is)
    where
      within : (a b m : ℕ) → min a b ≡ m → m ≤ b
      within a b m e = grind (arith, e)

  pub taken_told : (m : ℕ) → Ok m ≡ receive_answer y n → (min count (length y.received) ≡ m) × (m ≡ 0 → ⊥)
  taken_told m e =
      let same : m ≡ n = ok_same (e ∙ told) in
      (is ∙ sym same, λ none. some (sym same ∙ none))
    where
      ok_same : ◌≡◌ {A = Result ℕ NetFault} (Ok m) (Ok n) → m ≡ n
      ok_same h = cc

  pub never_fails : (e : NetFault) → Err e ≡ receive_answer y n → ⊥
  never_fails e h = err_ok (h ∙ told)
    where
      err_ok : ◌≡◌ {A = Result ℕ NetFault} (Err e) (Ok n) → ⊥
      err_ok h = cc

-- bytes that are read stand in a direction that is there
pub received_there : (o : Option Direction) (count : ℕ) → (min count (length (received_on o)) ≡ 0 → ⊥)
    → (y : Direction) × (o ≡ Some y)
received_there None count some = absurd (some (none count))
  where
    none : (n : ℕ) → min n 0 ≡ 0
    none n = grind arith
received_there (Some y) count some = (y, refl)

-- where nothing is taken nothing changes
none_taken : (x : plain_direction.Direction) → without_front 0 x ≡ x
none_taken x = ap (λ n. record x { arrived = n }) (all_left x.arrived)
  where
    all_left : (n : ℕ) → n - 0 ≡ n
    all_left n = omega arith

-- the bytes that stand in the transfer then
bytes_are : (before bytes : List Byte) → (length bytes ≡ 0 → ⊥) → bytes ≡ bytes_or before bytes
bytes_are before [] some = absurd (some refl)
bytes_are before (byte ∷ bytes) some = refl

pub no_direction : (g : Given) (real : Kernel) (k : PlainKernel) → Stands g None real k → (d : Dir)
    → d.side < 2
    → channels.direction_at real.net.channels d ≡ None → map.get k.directions d ≡ None
no_direction g real k st d less none =
    agree_none (SameDirection real.net None d) (map.get k.directions d)
    (channels.direction_at real.net.channels d) (st.directions.at d less) none

module _ (g : Given) (real : Kernel) (k : PlainKernel) (st : Stands g None real k) (d : Dir)
    (less : d.side < 2)
    (count : ℕ) (before : List Byte) where
  abbrev pub Says : Kernel → List Byte → Attempt → Type 0
  Says new now a = Serves ByNumber same g real new before now a (read_stream k d count)

  abbrev given_by : plain_direction.Direction → Try Served
  given_by x = gave (with_direction k d (without_front (min count x.arrived) x)) (taken_bytes count x)

  pub read_refused : channels.direction_at real.net.channels d ≡ None
      → Says real before (answer.Fails (record { 0 = ENOTCONN }))
  unfolding read_stream and_then found
  read_refused none =
      subst (Serves ByNumber same g real real before before (answer.Fails (record { 0 = ENOTCONN })))
      (sym (ap (λ o. and_then (found o ENOTCONN) given_by) (no_direction g real k st d less none)))
      (record { answer = refl; kernel = refl; bytes = refl })

  module _ (y : Direction) (there : channels.direction_at real.net.channels d ≡ Some y) where
    abbrev x : plain_direction.Direction
    x = (plain_of g real k st d less y there).0

    at : map.get k.directions d ≡ Some x
    at = (plain_of g real k st d less y there).1.0

    seen : IsSeen x y
    seen = seen_direction real.net d x y there (plain_of g real k st d less y there).1.1

    row_is : (n : ℕ) → min count (length y.received) ≡ n
        → read_stream k d count ≡ gave (with_direction k d (without_front n x)) (take n x.left)
    unfolding read_stream and_then found
    row_is n is =
        ap (λ o. and_then (found o ENOTCONN) given_by) at
        ∙ ap (λ m. gave (with_direction k d (without_front m x)) (take m x.left))
        (ap (min count) seen.arrived ∙ is)

    pub read_nothing : min count (length y.received) ≡ 0 → Says real before (answer.Gives 0)
    read_nothing none =
        subst (Serves ByNumber same g real real before before (answer.Gives 0)) (sym (row_is 0 none))
        (record {
          reply = refl;
          bytes = refl;
          stands = subst (λ (m : Directions). Stands g None real (record k { directions = m }))
              (sym (ap (map.insert k.directions d) (none_taken x)
              ∙ insert_same dir_total dir_exact k.directions d x at)) st;
        })

    pub read_some : (n : ℕ) → min count (length y.received) ≡ n → (n ≡ 0 → ⊥) → (now : List Byte)
        → now ≡ take n y.received
        → Says (record real {
          net = record real.net {
            channels = channels.at_direction real.net.channels d (after_receive n);
          };
        }) now (answer.Gives n)
    read_some n is some now taken =
        subst (Serves ByNumber same g real _ before now (answer.Gives n)) (sym (row_is n is))
        (record {
          reply = sym count_is;
          bytes = taken ∙ sym (taken_is x y seen n few)
              ∙ bytes_are before (take n x.left) (λ none. some (sym count_is ∙ none));
          stands = direction_put g real k st d less (after_receive n) (receives_silently n)
              (without_front n x) y there
              (received_kept x y seen n few);
        })
      where
        within : (a b m : ℕ) → min a b ≡ m → m ≤ b
        within a b m e = grind (arith, e)

        few : n ≤ length y.received
        few = within count (length y.received) n is

        count_is : length (take n x.left) ≡ n
        count_is = length-take-le n x.left (omega (arith, few, standing_is x y seen))
