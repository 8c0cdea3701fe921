-- Reads and writes of messages through the pairs.
--     waiting_told              how many messages wait
--     first_none, first_taken   the oldest one goes, on both sides
--     read_none, read_first_of  a read of it
--     write_long, write_gone, write_sent      a write of one
use Rattle.std.proofs.Common.{◌≡◌, ℕ, Bool, true, false, cond, List, [], ◌∷◌, ◌++◌, Option, Some, None, refl, sym, ap, ◌∙◌, subst, length, take, drop}
use Rattle.std.specs.Prelude.{option_map, option_and_then, unwrap_or, is_some, nat_le, slice_get, ◌==◌}
use Rattle.std.specs.Option.{option_map_or}
use Rattle.std.specs.Cmp.{nat_cmp_total}
use Rattle.std.specs.FinMap as map
use Rattle.std.specs.FinMap.{nat_cmp-IsAntisymmetric}
use Rattle.std.proofs.lemmas.Option.{same_Some, none-some}
use Rattle.views.specs.Limits.{MESSAGE_LIMIT}
use Rattle.views.specs.Numbers.{Byte}
use Rattle.views.proofs.MapLaws.{insert_same}
use Rattle.sys_abi.specs.declared.identity.DescId.{DescId}
use Rattle.sys_abi.specs.declared.errors.TheConstants.{EMSGSIZE, ECONNREFUSED}
use Rattle.conn_table.specs.declared.pairs.DatagramPair.{DatagramPair}
use Rattle.conn_table.specs.Messages as pairs
use Rattle.conn_table.specs.Pairs.{Pairs, end_of}
use Rattle.fd_tables.specs.declared.description.Desc.{Desc}
use Rattle.fd_tables.specs.declared.description.Object as real_object
use Rattle.fd_tables.specs.declared.description.Object.TheVariants as object
use Rattle.plain_process.specs.Attempts.{Try, Fails, and_then, need, found}
use Rattle.plain_machine.specs.declared.kernel.PlainKernel.{PlainKernel}
use Rattle.plain_machine.specs.Attempts.{Served, replied}
use Rattle.plain_machine.specs.Making.{with_inbox}
use Rattle.plain_machine.specs.Transfers.Datagrams.{messages_at, read_first, read_message, write_message}
use Rattle.host_tables.specs.declared.attempt.Attempt.{Attempt}
use Rattle.host_tables.specs.declared.attempt.Attempt.TheVariants as answer
use Rattle.host_tables.specs.declared.kernel.Kernel.{Kernel}
use Rattle.host_tables.specs.Datagrams.{inbox_of}
use Rattle.host_tables.specs.Serves.{Serves, ByNumber, same, bytes_or}
use Rattle.host_tables.specs.Stands.{Given, Stands}
use Rattle.host_kernel.specs.declared.messages.MessageEnd.{MessageEnd}
use Rattle.host_kernel.specs.Messages.{end_of_object, end_at, count_at, waiting_at, TakesFirst}
use Rattle.host_kernel.proofs.InboxChanges.{pair_there, inbox_is, inbox_put}

-- an end, and what is known of it

pub record IsEnd (real : Kernel) (id : DescId) (end : MessageEnd) : Type 0 where
  pub desc : Desc
  pub there : map.get real.book.descriptions id ≡ Some desc
  pub stands_for : desc.object ≡ object.Datagram end.queue end.side

end_by_object : (o : real_object.Object) (end : MessageEnd) → end_of_object o ≡ Some end
    → o ≡ object.Datagram end.queue end.side
end_by_object object.Console end e = absurd (none-some end e)
end_by_object (object.File number offset) end e = absurd (none-some end e)
end_by_object (object.Stream conn side) end e = absurd (none-some end e)
end_by_object object.Socket end e = absurd (none-some end e)
end_by_object (object.Listener at) end e = absurd (none-some end e)
end_by_object (object.Datagram queue side) end e =
    ap (λ (x : MessageEnd). object.Datagram x.queue x.side)
    (same_Some (record { queue = queue; side = side }) end e)
end_by_object (object.Counter value) end e = absurd (none-some end e)

end_by : (real : Kernel) (id : DescId) (end : MessageEnd) (o : Option Desc)
    → map.get real.book.descriptions id ≡ o → option_and_then (λ (d : Desc). end_of_object d.object) o
    ≡ Some end
    → IsEnd real id end
end_by real id end None is e = absurd (none-some end e)
end_by real id end (Some d) is e =
    record { desc = d; there = is; stands_for = end_by_object d.object end e }

pub end_there : (real : Kernel) (id : DescId) (end : MessageEnd)
    → end_at real.book.descriptions id ≡ Some end → IsEnd real id end
end_there real id end e = end_by real id end (map.get real.book.descriptions id) refl e

-- the inbox of what is no end

no_inbox : (m : Pairs) (o : real_object.Object) → end_of_object o ≡ None → inbox_of m o ≡ None
no_inbox m object.Console e = refl
no_inbox m (object.File number offset) e = refl
no_inbox m (object.Stream conn side) e = refl
no_inbox m object.Socket e = refl
no_inbox m (object.Listener at) e = refl
no_inbox m (object.Datagram queue side) e = absurd (none-some _ (sym e))
no_inbox m (object.Counter value) e = refl

-- an inbox that is as it was

as_before : (side : ℕ) (pair : DatagramPair) → pairs.with_inbox side (end_of side pair).inbox pair ≡ pair
as_before side pair = by_side (side == 0)
  where
    by_side : (b : Bool)
        → cond b (record pair { first = record pair.first { inbox = (cond b pair.first pair.second).inbox } })
        (record pair { second = record pair.second { inbox = (cond b pair.first pair.second).inbox } }) ≡ pair
    by_side true = refl
    by_side false = refl

module _ (g : Given) (real : Kernel) (k : PlainKernel) (st : Stands g None real k) (id : DescId) where
  pub no_end : end_at real.book.descriptions id ≡ None → map.get k.inboxes id ≡ None
  no_end e = st.inboxes.each id ∙ by_found (map.get real.book.descriptions id) e
    where
      by_found : (o : Option Desc) → option_and_then (λ (d : Desc). end_of_object d.object) o ≡ None
          → option_and_then (λ (d : Desc). inbox_of real.datagrams d.object) o ≡ None
      by_found None e = refl
      by_found (Some d) e = no_inbox real.datagrams d.object e

  -- how many wait

  counted : (o : real_object.Object) → option_map (λ (m : List (List Byte)). length m)
      (inbox_of real.datagrams o)
      ≡ option_and_then (count_at real.datagrams) (end_of_object o)
  counted object.Console = refl
  counted (object.File number offset) = refl
  counted (object.Stream conn side) = refl
  counted object.Socket = refl
  counted (object.Listener at) = refl
  counted (object.Datagram queue side) = by_pair (map.get real.datagrams queue)
    where
      by_pair : (o : Option DatagramPair)
          → option_map (λ (m : List (List Byte)). length m)
          (option_map (λ (x : DatagramPair). (end_of side x).inbox) o)
          ≡ option_map (λ (x : DatagramPair). length (end_of side x).inbox) o
      by_pair None = refl
      by_pair (Some pair) = refl
  counted (object.Counter value) = refl

  counted_at : (o : Option Desc)
      → option_map (λ (m : List (List Byte)). length m)
      (option_and_then (λ (d : Desc). inbox_of real.datagrams d.object) o)
      ≡ option_and_then (count_at real.datagrams) (option_and_then (λ (d : Desc). end_of_object d.object) o)
  counted_at None = refl
  counted_at (Some d) = counted d.object

  waiting_is : waiting_at real id ≡ option_map (λ (m : List (List Byte)). length m) (map.get k.inboxes id)
  waiting_is =
      sym (ap (option_map (λ (m : List (List Byte)). length m)) (st.inboxes.each id)
      ∙ counted_at (map.get real.book.descriptions id))

  pub count_told : unwrap_or (waiting_at real id) 0 ≡ length (messages_at k id)
  count_told = ap (λ o. unwrap_or o 0) waiting_is ∙ by_inbox (map.get k.inboxes id)
    where
      by_inbox : (o : Option (List (List Byte)))
          → unwrap_or (option_map (λ (m : List (List Byte)). length m) o) 0 ≡ length (unwrap_or o [])
      by_inbox None = refl
      by_inbox (Some m) = refl

  pub open_told : is_some (waiting_at real id) ≡ is_some (map.get k.inboxes id)
  open_told = ap is_some waiting_is ∙ by_inbox (map.get k.inboxes id)
    where
      by_inbox : (o : Option (List (List Byte)))
          → is_some (option_map (λ (m : List (List Byte)). length m) o) ≡ is_some o
      by_inbox None = refl
      by_inbox (Some m) = refl

  -- the oldest one goes

  pub first_none : end_at real.book.descriptions id ≡ None → TakesFirst g k id real real None
      (messages_at k id)
  first_none e = subst (TakesFirst g k id real real None) (sym (ap (λ o. unwrap_or o []) (no_end e)))
      (refl, refl)

  module _ (end : MessageEnd) (is : IsEnd real id end) where
    pub pair_of_end : (pair : DatagramPair) × (map.get real.datagrams end.queue ≡ Some pair)
    pair_of_end = pair_there g real k st id is.desc is.there end.queue end.side is.stands_for

    abbrev pair : DatagramPair
    pair = pair_of_end.0

    abbrev inbox : List (List Byte)
    inbox = (end_of end.side pair).inbox

    pub inbox_told : map.get k.inboxes id ≡ Some inbox
    inbox_told = inbox_is g real k st id is.desc is.there end.queue end.side is.stands_for pair pair_of_end.1

    pub put_told : (messages : List (List Byte)) → Stands g None
        (record real {
          datagrams = map.insert real.datagrams end.queue
              (pairs.with_inbox end.side messages pair);
        })
        (with_inbox k id messages)
    put_told messages =
        inbox_put g real k st id is.desc is.there end.queue end.side is.stands_for pair pair_of_end.1 messages

    abbrev with_pairs : Pairs → Kernel
    with_pairs m = record real { datagrams = m }

    changed : (f : DatagramPair → DatagramPair)
        → pairs.at_pair f real.datagrams end.queue ≡ map.insert real.datagrams end.queue (f pair)
    changed f =
        ap (λ o. option_map_or (λ (x : DatagramPair). map.insert real.datagrams end.queue
        (f x)) o real.datagrams)
        pair_of_end.1

    by_inbox : (m : List (List Byte)) → inbox ≡ m
        → TakesFirst g k id real (with_pairs (map.insert real.datagrams end.queue
        (pairs.without_first end.side pair)))
        (slice_get m 0) m
    by_inbox [] e = (
      refl,
      ap with_pairs (ap (map.insert real.datagrams end.queue)
          (ap (λ (m : List (List Byte)). pairs.with_inbox end.side (drop 1 m) pair) e
          ∙ ap (λ (m : List (List Byte)). pairs.with_inbox end.side m pair) (sym e) ∙ as_before end.side pair)
          ∙ insert_same nat_cmp_total nat_cmp-IsAntisymmetric real.datagrams end.queue pair pair_of_end.1),
    )
    by_inbox (first ∷ rest) e = (
      refl,
      subst (λ (m : List (List Byte)). Stands g None
          (with_pairs (map.insert real.datagrams end.queue (pairs.with_inbox end.side (drop 1 m) pair)))
          (with_inbox k id rest)) (sym e) (put_told rest),
    )

    pub first_taken : (message : Option (List Byte))
        → message ≡ option_and_then (pairs.first_message end.side) (map.get real.datagrams end.queue)
        → (m : Pairs)
        → m ≡ pairs.at_pair (pairs.without_first end.side) real.datagrams end.queue
        → TakesFirst g k id real (with_pairs m) message (messages_at k id)
    first_taken message found m left =
        subst (λ (x : Option (List Byte)). TakesFirst g k id real (with_pairs m) x (messages_at k id))
        (sym (found ∙ ap (option_and_then (pairs.first_message end.side)) pair_of_end.1))
        (subst (λ (x : Pairs). TakesFirst g k id real (with_pairs x) (slice_get inbox 0) (messages_at k id))
        (sym (left ∙ changed (pairs.without_first end.side)))
        (subst (λ (x : List (List Byte)). TakesFirst g k id real
        (with_pairs (map.insert real.datagrams end.queue (pairs.without_first end.side pair)))
        (slice_get inbox 0) x)
        (sym (ap (λ o. unwrap_or o []) inbox_told)) (by_inbox inbox refl)))

  -- a read

  module _ (count : ℕ) (x : List Byte) (new : Kernel) where
    none_by : (m : List (List Byte)) → TakesFirst g k id real new None m
        → Serves ByNumber same g real new x x (answer.Gives 0) (read_first k id count m)
    none_by [] h = record {
      reply = refl;
      bytes = refl;
      stands = subst (λ (r : Kernel). Stands g None r k)
          (sym h.1) st;
    }
    none_by (first ∷ rest) h = absurd (none-some first h.0)

    pub read_none : TakesFirst g k id real new None (messages_at k id)
        → Serves ByNumber same g real new x x (answer.Gives 0) (read_message k id count)
    unfolding read_message
    read_none h = none_by (messages_at k id) h

    module _ (message now : List Byte) (a : Attempt) (gives : a ≡ answer.Gives (length (take count message)))
        (holds : now ≡ bytes_or x (take count message)) where
      first_by : (m : List (List Byte)) → TakesFirst g k id real new (Some message) m
          → Serves ByNumber same g real new x now a (read_first k id count m)
      first_by [] h = absurd (none-some message (sym h.0))
      first_by (first ∷ rest) h =
          subst (λ (w : List Byte). Serves ByNumber same g real new x now a
          (read_first k id count (w ∷ rest))) (same_Some message first h.0)
          (subst (λ (w : Attempt). Serves ByNumber same g real new x now w
          (read_first k id count (message ∷ rest)))
          (sym gives) (record { reply = refl; bytes = holds; stands = h.1 }))

      pub read_first_of : TakesFirst g k id real new (Some message) (messages_at k id)
          → Serves ByNumber same g real new x now a (read_message k id count)
      unfolding read_message
      read_first_of h = first_by (messages_at k id) h

  -- a write

  module _ (count : ℕ) (given : List Byte) where
    abbrev appended : List (List Byte) → Try Served
    appended messages = replied (with_inbox k id (messages ++ take count given ∷ []))
        (length (take count given))

    abbrev written : Bool → Option (List (List Byte)) → Try Served
    written fits inbox = and_then (need fits EMSGSIZE) (λ _. and_then (found inbox ECONNREFUSED) appended)

    pub write_long : nat_le count MESSAGE_LIMIT ≡ false → write_message k id count given ≡ Fails EMSGSIZE
    unfolding write_message and_then need
    write_long e = ap (λ b. written b (map.get k.inboxes id)) e

    by_tests : (fits : Bool) (o : Option (List (List Byte))) → nat_le count MESSAGE_LIMIT ≡ fits
        → map.get k.inboxes id ≡ o → write_message k id count given ≡ written fits o
    unfolding write_message
    by_tests fits o e is = ap (λ b. written b (map.get k.inboxes id)) e ∙ ap (written fits) is

    pub write_gone : nat_le count MESSAGE_LIMIT ≡ true → end_at real.book.descriptions id ≡ None
        → write_message k id count given ≡ Fails ECONNREFUSED
    unfolding and_then need found
    write_gone e none = by_tests true None e (no_end none)

    pub write_sent : nat_le count MESSAGE_LIMIT ≡ true → (end : MessageEnd)
        → end_at real.book.descriptions id ≡ Some end → (m : Pairs)
        → m ≡ pairs.at_pair (pairs.with_sent end.side (take count given)) real.datagrams end.queue
        → (a : Attempt)
        → a ≡ answer.Gives (length (take count given))
        → Serves ByNumber same g real (record real { datagrams = m }) given given a
        (write_message k id count given)
    unfolding and_then need found
    write_sent e end there m sent a gives =
        let is = end_there real id end there in
        subst (Serves ByNumber same g real (record real { datagrams = m }) given given a)
        (sym (by_tests true (Some (inbox end is)) e (inbox_told end is)))
        (subst (λ (w : Attempt). Serves ByNumber same g real (record real { datagrams = m }) given given w
        (appended (inbox end is))) (sym gives) (record {
          reply = refl;
          bytes = refl;
          stands = subst (λ (w : Pairs). Stands g None (record real { datagrams = w })
              (with_inbox k id (inbox end is ++ take count given ∷ [])))
              (sym (sent ∙ changed end is (pairs.with_sent end.side (take count given))))
              (put_told end is (inbox end is ++ take count given ∷ []));
        }))
