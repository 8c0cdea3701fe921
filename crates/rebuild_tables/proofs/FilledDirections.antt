-- A direction on which nothing was sent, and what each step of filling it leaves.
--     put_told            all bytes are sent, and after two moves they can be read
--     kept_if             a change that is not asked for
--     filled_told         with the flags it is as the kernel part's
--     none_told           where the kernel part has no such direction it stays
use Rattle.std.proofs.Common.{◌≡◌, ℕ, ◌+◌, ◌-◌, ◌^◌, ◌≤◌, min, Bool, true, false, List, [], take, drop, length, Option, Some, None, refl, sym, ap, ◌∙◌, arith}
use Rattle.std.specs.Prelude.{Result, Ok}
use Rattle.std.proofs.lemmas.List.{take_all, drop_all}
use Rattle.std.proofs.lemmas.Option.{same_Some}
use Rattle.views.specs.Limits.{DIRECTION_LIMIT}
use Rattle.sys_abi.specs.declared.identity.Dir.{Dir}
use Rattle.plain_tables.specs.declared.channel.Direction as plain_direction
use Rattle.plain_tables.specs.Valid.Channels.{IsDirection}
use Rattle.wire_channels.specs.declared.net_fault.NetFault.{NetFault}
use Rattle.wire_channels.specs.declared.place.Place.TheVariants.{Send, Wire}
use Rattle.wire_channels.specs.Answers.{send_answer_on}
use Rattle.wire_channels.specs.Channels.{Channels, direction_at, at_direction}
use Rattle.wire_channels.specs.Directions.{Direction, unused, send_answer, after_send, after_move}
use Rattle.wire_channels.proofs.OneDirection.{changed_twice, agreeing_changes, unchanged_direction}
use Rattle.wire_net.specs.Networks.{Network}
use Rattle.rebuild_tables.specs.Steps.{with_bytes, filled_as, filled, with_direction, ended_if, unread_if}

-- the network with a change of one direction
abbrev after : Dir → (Direction → Direction) → Network → Network
after d f w = record w { channels = at_direction w.channels d f }

abbrev with_channels : Network → Channels → Network
with_channels t m = record t { channels = m }

takes_all : (n : ℕ) → n ≤ DIRECTION_LIMIT → send_answer unused n ≡ Ok n
takes_all n fits = let same : min n 65536 ≡ n = omega arith in ap (λ k. Ok k) same

module _ (m : Channels) (d : Dir) (new : direction_at m d ≡ Some unused) where
  sends_all : (n : ℕ) → n ≤ DIRECTION_LIMIT → send_answer_on (direction_at m d) n ≡ Ok n
  sends_all n fits = ap (λ found. send_answer_on found n) new ∙ takes_all n fits

  -- a change of what was empty
  as_empty : (f : Direction → Direction) (y : Direction) → f unused ≡ y
      → at_direction m d f ≡ with_direction m d y
  as_empty f y is =
      agreeing_changes m d f (λ _. y) (λ x at. ap f (same_Some x unused (sym at ∙ new)) ∙ is)

  kept_empty : with_direction m d unused ≡ m
  kept_empty = sym (as_empty (λ y. y) unused refl) ∙ unchanged_direction m d (λ y. y) (λ y. refl)

  module _ (bytes : List ℕ) (fits : length bytes ≤ DIRECTION_LIMIT) (n : ℕ) (all : n ≡ length bytes) where
    moved : Direction → Direction
    moved y = after_move Wire n (after_move Send n (after_send (take n bytes) y))

    abbrev parts : List ℕ → List ℕ → List ℕ → ℕ → Direction
    parts sent wire received carried = record unused {
      sent = sent;
      wire = wire;
      received = received;
      carried = carried;
    }

    abbrev count : ℕ
    count = min (0 + length bytes) (2 ^ 64 - 1)

    whole : take n bytes ≡ bytes
    whole = take_all n bytes (omega (arith, all))

    rest : drop n bytes ≡ []
    rest = drop_all n bytes (omega (arith, all))

    all_moved : moved unused ≡ with_bytes bytes
    unfolding moved
    all_moved =
        let counted : count ≡ length bytes = omega arith in
        ap (λ piece. after_move Wire n (after_move Send n (after_send piece unused))) whole
        ∙ ap (λ sent. parts sent (drop n (take n bytes)) (take n (take n bytes)) count) rest
        ∙ ap (λ wire. parts [] (drop n wire) (take n wire) count) whole
        ∙ ap (λ wire. parts [] wire (take n bytes) count) rest
        ∙ ap (λ received. parts [] [] received count) whole
        ∙ ap (λ carried. parts [] [] bytes carried) counted

    abbrev sent_all : Channels
    sent_all = at_direction m d (after_send (take n bytes))

    put_all : at_direction (at_direction sent_all d (after_move Send n)) d (after_move Wire n)
        ≡ with_direction m d (with_bytes bytes)
    unfolding moved
    put_all =
        ap (λ w. at_direction w d (after_move Wire n))
        (changed_twice m d (after_send (take n bytes)) (after_move Send n))
        ∙ changed_twice m d (λ y. after_move Send n (after_send (take n bytes) y)) (after_move Wire n)
        ∙ as_empty moved (with_bytes bytes) all_moved

pub put_told : (t a b n : Network) (d : Dir) (bytes : List ℕ) (count : ℕ)
    → direction_at t.channels d ≡ Some unused → length bytes ≤ DIRECTION_LIMIT
    → Ok count ≡ send_answer_on (direction_at t.channels d) (length bytes)
    → a ≡ record t { channels = at_direction t.channels d (after_send (take count bytes)) }
    → b ≡ record a { channels = at_direction a.channels d (after_move Send count) }
    → n ≡ record b { channels = at_direction b.channels d (after_move Wire count) }
    → n ≡ record t { channels = with_direction t.channels d (with_bytes bytes) }
put_told t a b n d bytes count new fits answer first second third =
    let taken = same count (length bytes) _ answer (sends_all t.channels d new (length bytes) fits) in
    third ∙ ap (after d (after_move Wire count)) second
    ∙ ap (λ w. after d (after_move Wire count) (after d (after_move Send count) w)) first
    ∙ ap (with_channels t) (put_all t.channels d new bytes fits count taken)
  where
    same : (k j : ℕ) (o : Result ℕ NetFault) → Ok k ≡ o → o ≡ Ok j → k ≡ j
    same k j o p q = cc

pub none_told : (t : Network) (d : Dir) → direction_at t.channels d ≡ Some unused
    → (found : Option plain_direction.Direction) → None ≡ found
    → t ≡ record t { channels = with_direction t.channels d (filled found) }
none_told t d new found is =
    ap (with_channels t) (sym (kept_empty t.channels d new)
    ∙ ap (λ (o : Option plain_direction.Direction). with_direction t.channels d (filled o)) is)

pub kept_if : (t : Network) (d : Dir) (change : Bool → Direction → Direction)
    → ((y : Direction) → change false y ≡ y) → (b : Bool) → b ≡ false
    → t ≡ record t { channels = at_direction t.channels d (change b) }
kept_if t d change still b is =
    ap (with_channels t) (sym (unchanged_direction t.channels d (change false) still))
    ∙ ap (λ (flag : Bool). after d (change flag) t) (sym is)

-- the flags

abbrev flags : List ℕ → Bool → Bool → Direction
flags bytes ended unread = record (with_bytes bytes) { is_ended = ended; is_unread = unread }

-- what is unread has no bytes
flagged : (ended unread : Bool) (bytes : List ℕ) → (unread ≡ true → bytes ≡ [])
    → unread_if unread (ended_if ended (with_bytes bytes)) ≡ flags bytes ended unread
flagged true true bytes none =
    ap (λ (left : List ℕ). record (flags bytes true true) { received = left }) (sym (none refl))
flagged false true bytes none =
    ap (λ (left : List ℕ). record (flags bytes false true) { received = left }) (sym (none refl))
flagged true false bytes none = refl
flagged false false bytes none = refl

module _ (d : Dir) (x : plain_direction.Direction) (is : IsDirection x) where
  abbrev end_d : Channels → Channels
  end_d m = at_direction m d (ended_if x.ended)

  abbrev stop_d : Channels → Channels
  stop_d m = at_direction m d (unread_if x.unread)

  flags_put : (m : Channels) → stop_d (end_d (with_direction m d (with_bytes x.left)))
      ≡ with_direction m d (filled_as x)
  flags_put m =
      ap stop_d (changed_twice m d (λ _. with_bytes x.left) (ended_if x.ended))
      ∙ changed_twice m d (λ _. ended_if x.ended (with_bytes x.left)) (unread_if x.unread)
      ∙ ap (with_direction m d) (flagged x.ended x.unread x.left is.unread)

  pub filled_told : (t a b n : Network)
      → a ≡ record t { channels = with_direction t.channels d (with_bytes x.left) }
      → b ≡ record a { channels = at_direction a.channels d (ended_if x.ended) }
      → n ≡ record b { channels = at_direction b.channels d (unread_if x.unread) }
      → n ≡ record t { channels = with_direction t.channels d (filled_as x) }
  filled_told t a b n first second third =
      third ∙ ap (after d (unread_if x.unread)) second
      ∙ ap (λ w. after d (unread_if x.unread) (after d (ended_if x.ended) w)) first
      ∙ ap (with_channels t) (flags_put t.channels)
