-- A listener more, with nobody waiting; a queue of a listener without its first connection, and with one more at its end.
--     empty_..      a listener more      popped_..      without the first      pushed_..      with one more
use Rattle.std.proofs.Common.{◌≡◌, ◌≢◌, ℕ, ◌<◌, ◌^◌, Bool, true, false, List, [], ◌∷◌, ◌++◌, length, length-append, refl, sym, ap, subst, ◌∙◌, arith, ⊎_elim}
use Rattle.std.specs.Prelude.{◌==◌, ◌&&◌, ◌||◌, Some, None, is_some, slice_index_or, All}
use Rattle.std.specs.List.{list_any}
use Rattle.std.specs.Ordering.{eq_by_cmp}
use Rattle.std.specs.FinMap as map
use Rattle.std.proofs.lemmas.List.Elements.{All-nil, All-cons, All-tail, All-push, All-get_or}
use Rattle.std.proofs.lemmas.List.Folds.{list_any-append}
use Rattle.std.proofs.lemmas.List.Quantifiers.{all_pairs_push}
use Rattle.std.proofs.lemmas.Bool.Decides.{nat_tests}
use Rattle.plain_process.proofs.OfViews.MapLaws.{get_insert_same, get_insert_other, key_tied, same_key, other_key, same_or_other, true_false}
use Rattle.plain_process.proofs.OfViews.MapValues.{none_among-values, some_among-values}
use Rattle.id_maps.specs.OfSysAbi.declared.identity.DescId.{DescId}
use Rattle.id_maps.specs.OfSysAbi.declared.identity.ConnId.{ConnId}
use Rattle.id_maps.specs.OfSysAbi.declared.identity.VirtAddr.{VirtAddr}
use Rattle.id_maps.specs.OfSysAbi.Orders.{conn_cmp}
use Rattle.id_maps.proofs.OfSysAbi.OrderLaws.{conn_total, conn_exact, desc_total, desc_exact, address_total, address_exact}
use Rattle.plain_tables.specs.declared.description.Description.{Description}
use Rattle.plain_tables.specs.declared.description.Object.TheVariants.{Stream, Listener}
use Rattle.plain_tables.specs.declared.channel.Channel.{Channel}
use Rattle.plain_tables.specs.declared.channel.ChannelKind.TheVariants.{Internet}
use Rattle.plain_tables.specs.declared.channel.Listening.{Listening}
use Rattle.plain_tables.specs.Tables.{Makers, Descriptors, Descriptions, Channels, Listeners}
use Rattle.plain_tables.specs.Objects.{is_end, is_listener_at, is_queued, has_stream, is_pending, is_named, host_of_end}
use Rattle.plain_tables.specs.Valid.Channels.{AreStreams}
use Rattle.plain_tables.specs.Valid.Sockets.{AreListeners, IsListening, IsConnection, AreHosts}
use Rattle.plain_tables.proofs.Entries.{each_with, there_same, same_any}
use Rattle.plain_tables.proofs.AddedDescriptions.{any_with}
use Rattle.plain_tables.proofs.ClosedListeners.{distinct_head, distinct_tail, none_queued}
use Rattle.plain_tables.proofs.ClosedStreams.{is_pending_at, or_left, or_right}
use Rattle.plain_tables.proofs.OpenedStreams.{AreStreamsBut, and_first}

abbrev pub waiting_at : ℕ → List ConnId → Listening
waiting_at backlog queue = record { backlog = backlog; queue = queue }

or_none : (a : Bool) → (a || false) ≡ a
or_none true = refl
or_none false = refl

or_true : (a : Bool) → (a || true) ≡ true
or_true true = refl
or_true false = refl

-- streams, where the same connections wait
pub pending_streams : (descriptions : Descriptions) (before after : Listeners) (channels : Channels) → ((c : ConnId) → is_pending after c ≡ is_pending before c) → AreStreams descriptions before channels → AreStreams descriptions after channels
pending_streams descriptions before after channels same is = record {
  each = is.each;
  once = is.once;
  apart = λ c has. same c ∙ is.apart c has;
  opened = λ c ch s found low. is.opened c ch s found low ∙ ap (λ b. has_stream descriptions c s || ((s == 1) && b)) (sym (same c));
}

-- a listener more, at which nobody waits yet
module _ (listeners : Listeners) (address : VirtAddr) (backlog : ℕ) (new : map.get listeners address ≡ None) where
  other_address : (a : VirtAddr) (one : Listening) → map.get listeners a ≡ Some one → a ≢ address
  other_address a one found here = let there : map.get listeners address ≡ Some one = subst (λ x. map.get listeners x ≡ Some one) here found in cc

  pub empty_pending : (c : ConnId) → is_pending (map.insert listeners address (waiting_at backlog [])) c ≡ is_pending listeners c
  empty_pending c = same_any address_total address_exact (is_queued c) listeners (map.insert listeners address (waiting_at backlog []))
      (λ a one found passes. (one, get_insert_other address_total address_exact listeners address (waiting_at backlog []) a (other_address a one found) ∙ found, passes))
      (λ a one found passes. each_with address_total address_exact (λ r v. is_queued c v ≡ true → (w : Listening) × (map.get listeners r ≡ Some w) × (is_queued c w ≡ true)) listeners address (waiting_at backlog [])
      (λ some. true_false (sym some)) (λ r v other stood some. (v, stood, some)) a one found passes)

  pub empty_hosts : (makers : Makers) (descriptors : Descriptors) (descriptions : Descriptions) (channels : Channels) → AreHosts makers descriptors descriptions listeners channels
      → AreHosts makers descriptors descriptions (map.insert listeners address (waiting_at backlog [])) channels
  empty_hosts makers descriptors descriptions channels is = record {
    held = is.held;
    pending = λ a one c host found queued on.
        each_with address_total address_exact (λ r v. is_queued c v ≡ true → host ≡ r.host) listeners address (waiting_at backlog [])
        (λ some. true_false (sym some)) (λ r v other stood some. is.pending r v c host stood some on) a one found queued;
  }

  -- and its description
  pub empty_listeners : (descriptions : Descriptions) (channels : Channels) (d : DescId) (y : Description) → map.get descriptions d ≡ None → y.object ≡ Listener address → backlog < 2 ^ 32
      → AreListeners descriptions listeners channels → AreListeners (map.insert descriptions d y) (map.insert listeners address (waiting_at backlog [])) channels
  empty_listeners descriptions channels d y none listens small is = record {
    each = each_with address_total address_exact (λ a one. IsListening channels one) listeners address (waiting_at backlog [])
        (record { room = omega arith; backlog = small; connections = All-nil (IsConnection channels); once = λ i j e before below. absurd (omega arith) })
        (λ a one other found. is.each a one found);
    described = λ a. ⊎_elim
        (λ here. subst (λ r. is_some (map.get (map.insert listeners address (waiting_at backlog [])) r) ≡ list_any (λ (z : Description). is_listener_at r z.object) (map.values (map.insert descriptions d y))) (sym here)
        (ap is_some (get_insert_same address_total address_exact listeners address (waiting_at backlog []))
        ∙ sym (some_among-values desc_total desc_exact (λ (z : Description). is_listener_at address z.object) (map.insert descriptions d y) d y (get_insert_same desc_total desc_exact descriptions d y)
        (ap (is_listener_at address) listens ∙ key_tied address_total address_exact address))))
        (λ other. ap is_some (get_insert_other address_total address_exact listeners address (waiting_at backlog []) a other) ∙ is.described a
        ∙ sym (any_with descriptions d y none (is_listener_at a) (ap (is_listener_at a) listens ∙ other_key address_total address_exact a address other)))
        (same_or_other address_total address_exact a address);
    apart = λ a b z w c found too queued also.
        each_with address_total address_exact (λ r v. is_queued c v ≡ true → r ≡ b) listeners address (waiting_at backlog [])
        (λ some. true_false (sym some))
        (λ r v other stood some. each_with address_total address_exact (λ q u. is_queued c u ≡ true → r ≡ q) listeners address (waiting_at backlog [])
        (λ two. true_false (sym two)) (λ q u another stands two. is.apart r q v u c stood stands some two) b w too also)
        a z found queued;
  }

-- the first connection of a queue is taken out
module _ (descriptions : Descriptions) (listeners : Listeners) (channels : Channels) (address : VirtAddr) (backlog : ℕ) (conn : ConnId) (rest : List ConnId)
    (there : map.get listeners address ≡ Some (waiting_at backlog (conn ∷ rest))) (are : AreListeners descriptions listeners channels) where
  abbrev popped : Listeners
  popped = map.insert listeners address (waiting_at backlog rest)

  full : IsListening channels (waiting_at backlog (conn ∷ rest))
  full = are.each address (waiting_at backlog (conn ∷ rest)) there

  itself : is_queued conn (waiting_at backlog (conn ∷ rest)) ≡ true
  itself = or_left (eq_by_cmp conn_cmp conn conn) (list_any (eq_by_cmp conn_cmp conn) rest) (key_tied conn_total conn_exact conn)

  -- what waits there now waited there
  was_queued : (c : ConnId) → is_queued c (waiting_at backlog rest) ≡ true → is_queued c (waiting_at backlog (conn ∷ rest)) ≡ true
  was_queued c queued = or_right (eq_by_cmp conn_cmp c conn) (list_any (eq_by_cmp conn_cmp c) rest) queued

  pub popped_was : (P : VirtAddr → Listening → Type 0) (c : ConnId) → ((a : VirtAddr) (one : Listening) → map.get listeners a ≡ Some one → is_queued c one ≡ true → P a one)
      → (P address (waiting_at backlog (conn ∷ rest)) → P address (waiting_at backlog rest))
      → (a : VirtAddr) (one : Listening) → map.get (map.insert listeners address (waiting_at backlog rest)) a ≡ Some one → is_queued c one ≡ true → P a one
  popped_was P c old shorter a one found queued =
      each_with address_total address_exact (λ r v. is_queued c v ≡ true → P r v) listeners address (waiting_at backlog rest)
      (λ some. shorter (old address (waiting_at backlog (conn ∷ rest)) there (was_queued c some)))
      (λ r v other stood some. old r v stood some) a one found queued

  pub first_gone : is_pending (map.insert listeners address (waiting_at backlog rest)) conn ≡ false
  first_gone = none_among-values address_total address_exact (is_queued conn) (map.insert listeners address (waiting_at backlog rest)) (λ a one found. chosen a one found (is_queued conn one) refl)
    where
      chosen : (a : VirtAddr) (one : Listening) → map.get (map.insert listeners address (waiting_at backlog rest)) a ≡ Some one → (b : Bool) → is_queued conn one ≡ b → b ≡ false
      chosen a one found false other = refl
      chosen a one found true queued = absurd (each_with address_total address_exact (λ r v. is_queued conn v ≡ true → ⊥) listeners address (waiting_at backlog rest)
          (λ some. true_false (sym some ∙ none_queued conn rest (distinct_head conn rest full.once)))
          (λ r v other stood some. other (are.apart r address v (waiting_at backlog (conn ∷ rest)) conn stood there some itself))
          a one found queued)

  pub was_pending : (c : ConnId) → is_pending listeners c ≡ (is_pending (map.insert listeners address (waiting_at backlog rest)) c || eq_by_cmp conn_cmp c conn)
  was_pending c = chosen (eq_by_cmp conn_cmp c conn) refl
    where
      same_others : eq_by_cmp conn_cmp c conn ≡ false → is_pending (map.insert listeners address (waiting_at backlog rest)) c ≡ is_pending listeners c
      same_others other = same_any address_total address_exact (is_queued c) listeners (map.insert listeners address (waiting_at backlog rest))
          (λ a one found passes. ⊎_elim
          (λ here.
          let same : one ≡ waiting_at backlog (conn ∷ rest) = let at_it = subst (λ x. map.get listeners x ≡ Some one) here found in cc in (
            waiting_at backlog rest,
            subst (λ x. map.get (map.insert listeners address (waiting_at backlog rest)) x ≡ Some (waiting_at backlog rest)) (sym here) (get_insert_same address_total address_exact listeners address (waiting_at backlog rest)),
            sym (ap (λ b. b || list_any (eq_by_cmp conn_cmp c) rest) other) ∙ sym (ap (is_queued c) same) ∙ passes,
          ))
          (λ apart. (one, get_insert_other address_total address_exact listeners address (waiting_at backlog rest) a apart ∙ found, passes))
          (same_or_other address_total address_exact a address))
          (λ a one found passes. each_with address_total address_exact (λ r v. is_queued c v ≡ true → (w : Listening) × (map.get listeners r ≡ Some w) × (is_queued c w ≡ true)) listeners address (waiting_at backlog rest)
          (λ some. (waiting_at backlog (conn ∷ rest), there, was_queued c some)) (λ r v apart stood some. (v, stood, some)) a one found passes)

      chosen : (b : Bool) → eq_by_cmp conn_cmp c conn ≡ b → is_pending listeners c ≡ (is_pending (map.insert listeners address (waiting_at backlog rest)) c || b)
      chosen true tied =
          is_pending_at listeners address (waiting_at backlog (conn ∷ rest)) c there (or_left (eq_by_cmp conn_cmp c conn) (list_any (eq_by_cmp conn_cmp c) rest) tied)
          ∙ sym (or_true (is_pending (map.insert listeners address (waiting_at backlog rest)) c))
      chosen false other = sym (same_others other) ∙ sym (or_none (is_pending (map.insert listeners address (waiting_at backlog rest)) c))

  still_none : (c : ConnId) → is_pending listeners c ≡ false → is_pending (map.insert listeners address (waiting_at backlog rest)) c ≡ false
  still_none c none = left_none (is_pending (map.insert listeners address (waiting_at backlog rest)) c) (eq_by_cmp conn_cmp c conn) (sym (was_pending c) ∙ none)
    where
      left_none : (a b : Bool) → (a || b) ≡ false → a ≡ false
      left_none true b is = is
      left_none false b is = refl

  -- side 1 of the connection waits for its stream
  pub popped_streams : AreStreams descriptions listeners channels → AreStreamsBut (λ c s. is_end c s (Stream conn 1)) descriptions (map.insert listeners address (waiting_at backlog rest)) channels
  popped_streams is = record {
    each = is.each;
    once = is.once;
    apart = λ c has. still_none c (is.apart c has);
    opened = λ c ch s found low. is.opened c ch s found low ∙ ap (λ b. has_stream descriptions c s || ((s == 1) && b)) (was_pending c)
        ∙ parts (has_stream descriptions c s) (s == 1) (is_pending (map.insert listeners address (waiting_at backlog rest)) c) (eq_by_cmp conn_cmp c conn);
    free = λ c s waits.
        let here : c ≡ conn = same_key conn_total conn_exact c conn (and_first (eq_by_cmp conn_cmp c conn) (s == 1) waits) in
        let one : s ≡ 1 = let test = second (eq_by_cmp conn_cmp c conn) (s == 1) waits in grind (arith, nat_tests, test) in
        subst (λ q. is_named descriptions (map.insert listeners address (waiting_at backlog rest)) q s ≡ false) (sym here)
        (subst (λ n. is_named descriptions (map.insert listeners address (waiting_at backlog rest)) conn n ≡ false) (sym one)
        (ap (λ b. b || ((1 == 1) && is_pending (map.insert listeners address (waiting_at backlog rest)) conn)) no_stream ∙ first_gone));
  }
    where
      parts : (h o p e : Bool) → (h || (o && (p || e))) ≡ ((h || (o && p)) || (e && o))
      parts true o p e = refl
      parts false true true e = refl
      parts false true false true = refl
      parts false true false false = refl
      parts false false p true = refl
      parts false false p false = refl

      second : (a b : Bool) → (a && b) ≡ true → b ≡ true
      second true b is = is
      second false b is = true_false (sym is)

      no_stream_by : (b : Bool) → has_stream descriptions conn 1 ≡ b → b ≡ false
      no_stream_by true has = true_false (sym (is_pending_at listeners address (waiting_at backlog (conn ∷ rest)) conn there itself) ∙ is.apart conn has)
      no_stream_by false none = refl

      no_stream : has_stream descriptions conn 1 ≡ false
      no_stream = no_stream_by (has_stream descriptions conn 1) refl

  pub popped_listeners : AreListeners descriptions (map.insert listeners address (waiting_at backlog rest)) channels
  popped_listeners = record {
    each = each_with address_total address_exact (λ a one. IsListening channels one) listeners address (waiting_at backlog rest)
        (record {
          room = let room = full.room in omega arith;
          backlog = full.backlog;
          connections = All-tail (IsConnection channels) conn rest full.connections;
          once = distinct_tail conn rest full.once;
        })
        (λ a one other found. are.each a one found);
    described = λ a. there_same address_total address_exact listeners address (waiting_at backlog rest) a (ap is_some there) ∙ are.described a;
    apart = λ a b x y c found too queued also.
        popped_was (λ r v. r ≡ b) c
        (λ r v stood some. popped_was (λ q u. r ≡ q) c (λ q u stands two. are.apart r q v u c stood stands some two) (λ same. same) b y too also)
        (λ same. same) a x found queued;
  }

  pub popped_hosts : (makers : Makers) (descriptors : Descriptors) → AreHosts makers descriptors descriptions listeners channels
      → AreHosts makers descriptors descriptions (map.insert listeners address (waiting_at backlog rest)) channels
  popped_hosts makers descriptors is = record {
    held = is.held;
    pending = λ a one c host found queued on. popped_was (λ r v. host ≡ r.host) c (λ r v stood some. is.pending r v c host stood some on) (λ same. same) a one found queued;
  }

neither_of : (a b : Bool) → (a || b) ≡ false → (a ≡ false) × (b ≡ false)
neither_of true b is = true_false is
neither_of false b is = (refl, is)

differ : (conn : ConnId) (queue : List ConnId) → list_any (eq_by_cmp conn_cmp conn) queue ≡ false → All (λ c. c ≢ conn) queue
differ conn [] none = All-nil (λ c. c ≢ conn)
differ conn (c ∷ later) none =
    let both = neither_of (eq_by_cmp conn_cmp conn c) (list_any (eq_by_cmp conn_cmp conn) later) none in
    All-cons (λ e. e ≢ conn) c later (λ same. true_false (sym (key_tied conn_total conn_exact conn) ∙ ap (eq_by_cmp conn_cmp conn) (sym same) ∙ both.0)) (differ conn later both.1)

-- a new connection waits behind the others
module _ (descriptions : Descriptions) (listeners : Listeners) (channels : Channels) (address : VirtAddr) (backlog : ℕ) (queue : List ConnId) (conn : ConnId)
    (there : map.get listeners address ≡ Some (waiting_at backlog queue)) (are : AreListeners descriptions listeners channels) (unqueued : is_pending listeners conn ≡ false) where
  abbrev longer : Listening
  longer = waiting_at backlog (queue ++ conn ∷ [])

  queued_now : (c : ConnId) → is_queued c (waiting_at backlog (queue ++ conn ∷ [])) ≡ (is_queued c (waiting_at backlog queue) || eq_by_cmp conn_cmp c conn)
  queued_now c = list_any-append (eq_by_cmp conn_cmp c) queue (conn ∷ []) ∙ ap (λ b. list_any (eq_by_cmp conn_cmp c) queue || b) (or_none (eq_by_cmp conn_cmp c conn))

  no_queue : (a : VirtAddr) (one : Listening) → map.get listeners a ≡ Some one → is_queued conn one ≡ true → ⊥
  no_queue a one found queued = true_false (sym (is_pending_at listeners a one conn found queued) ∙ unqueued)

  none_here : list_any (eq_by_cmp conn_cmp conn) queue ≡ false
  none_here = chosen (list_any (eq_by_cmp conn_cmp conn) queue) refl
    where
      chosen : (b : Bool) → list_any (eq_by_cmp conn_cmp conn) queue ≡ b → b ≡ false
      chosen true queued = absurd (no_queue address (waiting_at backlog queue) there queued)
      chosen false none = refl

  -- it is the new one, or waited before
  pub pushed_was : (P : VirtAddr → Type 0) (c : ConnId) → (c ≡ conn → P address) → ((a : VirtAddr) (one : Listening) → map.get listeners a ≡ Some one → is_queued c one ≡ true → P a)
      → (a : VirtAddr) (one : Listening) → map.get (map.insert listeners address (waiting_at backlog (queue ++ conn ∷ []))) a ≡ Some one → is_queued c one ≡ true → P a
  pushed_was P c new old a one found queued =
      each_with address_total address_exact (λ r v. is_queued c v ≡ true → P r) listeners address (waiting_at backlog (queue ++ conn ∷ []))
      (λ some. here (is_queued c (waiting_at backlog queue)) (eq_by_cmp conn_cmp c conn) refl refl (sym (queued_now c) ∙ some))
      (λ r v other stood some. old r v stood some) a one found queued
    where
      here : (a b : Bool) → is_queued c (waiting_at backlog queue) ≡ a → eq_by_cmp conn_cmp c conn ≡ b → (a || b) ≡ true → P address
      here true b before tied either = old address (waiting_at backlog queue) there before
      here false b before tied either = new (same_key conn_total conn_exact c conn (tied ∙ either))

  pub now_pending : (c : ConnId) → is_pending (map.insert listeners address (waiting_at backlog (queue ++ conn ∷ []))) c ≡ (is_pending listeners c || eq_by_cmp conn_cmp c conn)
  now_pending c = chosen (eq_by_cmp conn_cmp c conn) refl
    where
      put : map.get (map.insert listeners address (waiting_at backlog (queue ++ conn ∷ []))) address ≡ Some (waiting_at backlog (queue ++ conn ∷ []))
      put = get_insert_same address_total address_exact listeners address (waiting_at backlog (queue ++ conn ∷ []))

      same_others : eq_by_cmp conn_cmp c conn ≡ false → is_pending (map.insert listeners address (waiting_at backlog (queue ++ conn ∷ []))) c ≡ is_pending listeners c
      same_others other = same_any address_total address_exact (is_queued c) listeners (map.insert listeners address (waiting_at backlog (queue ++ conn ∷ [])))
          (λ a one found passes. ⊎_elim
          (λ here.
          let same : one ≡ waiting_at backlog queue = let at_it = subst (λ x. map.get listeners x ≡ Some one) here found in cc in (
            waiting_at backlog (queue ++ conn ∷ []),
            subst (λ x. map.get (map.insert listeners address (waiting_at backlog (queue ++ conn ∷ []))) x ≡ Some (waiting_at backlog (queue ++ conn ∷ []))) (sym here) put,
            queued_now c ∙ or_left (is_queued c (waiting_at backlog queue)) (eq_by_cmp conn_cmp c conn) (sym (ap (is_queued c) same) ∙ passes),
          ))
          (λ apart. (one, get_insert_other address_total address_exact listeners address (waiting_at backlog (queue ++ conn ∷ [])) a apart ∙ found, passes))
          (same_or_other address_total address_exact a address))
          (λ a one found passes. each_with address_total address_exact (λ r v. is_queued c v ≡ true → (w : Listening) × (map.get listeners r ≡ Some w) × (is_queued c w ≡ true)) listeners address (waiting_at backlog (queue ++ conn ∷ []))
          (λ some. (waiting_at backlog queue, there, sym (or_none (is_queued c (waiting_at backlog queue))) ∙ sym (ap (λ b. is_queued c (waiting_at backlog queue) || b) other) ∙ sym (queued_now c) ∙ some))
          (λ r v apart stood some. (v, stood, some)) a one found passes)

      chosen : (b : Bool) → eq_by_cmp conn_cmp c conn ≡ b → is_pending (map.insert listeners address (waiting_at backlog (queue ++ conn ∷ []))) c ≡ (is_pending listeners c || b)
      chosen true tied =
          is_pending_at (map.insert listeners address (waiting_at backlog (queue ++ conn ∷ []))) address (waiting_at backlog (queue ++ conn ∷ [])) c put
          (queued_now c ∙ or_right (is_queued c (waiting_at backlog queue)) (eq_by_cmp conn_cmp c conn) tied)
          ∙ sym (or_true (is_pending listeners c))
      chosen false other = same_others other ∙ sym (or_none (is_pending listeners c))

  -- its side 1 waited for its name
  pub pushed_streams : (loose : ConnId → ℕ → Bool) → ((c : ConnId) (s : ℕ) → loose c s ≡ (eq_by_cmp conn_cmp c conn && (s == 1)))
      → AreStreamsBut loose descriptions listeners channels → AreStreams descriptions (map.insert listeners address (waiting_at backlog (queue ++ conn ∷ []))) channels
  pushed_streams loose that is = record {
    each = is.each;
    once = is.once;
    apart = λ c has. now_pending c ∙ neither c (has_stream descriptions c 1) (is_pending listeners c) (eq_by_cmp conn_cmp c conn) refl has (is.apart c has) (λ tied. is.free c 1 (that c 1 ∙ ap (λ b. b && (1 == 1)) tied));
    opened = λ c ch s found low. is.opened c ch s found low ∙ ap (λ b. is_named descriptions listeners c s || b) (that c s)
        ∙ parts (has_stream descriptions c s) (s == 1) (is_pending listeners c) (eq_by_cmp conn_cmp c conn) ∙ ap (λ b. has_stream descriptions c s || ((s == 1) && b)) (sym (now_pending c));
  }
    where
      parts : (h o p e : Bool) → ((h || (o && p)) || (e && o)) ≡ (h || (o && (p || e)))
      parts true o p e = refl
      parts false true true e = refl
      parts false true false true = refl
      parts false true false false = refl
      parts false false p true = refl
      parts false false p false = refl

      neither : (c : ConnId) (h p e : Bool) → eq_by_cmp conn_cmp c conn ≡ e → h ≡ true → p ≡ false → (eq_by_cmp conn_cmp c conn ≡ true → (h || ((1 == 1) && p)) ≡ false) → (p || e) ≡ false
      neither c h p true tied has none free = true_false (sym (or_left h ((1 == 1) && p) has) ∙ free tied)
      neither c h p false tied has none free = or_none p ∙ none

  pub pushed_listeners : (channel : Channel) → map.get channels conn ≡ Some channel → channel.kind ≡ Internet → length queue < backlog
      → AreListeners descriptions (map.insert listeners address (waiting_at backlog (queue ++ conn ∷ []))) channels
  pushed_listeners channel known kind room = record {
    each = each_with address_total address_exact (λ a one. IsListening channels one) listeners address (waiting_at backlog (queue ++ conn ∷ []))
        (record {
          room = let count = length-append queue (conn ∷ []) in omega arith;
          backlog = (are.each address (waiting_at backlog queue) there).backlog;
          connections = All-push (IsConnection channels) queue conn (are.each address (waiting_at backlog queue) there).connections (channel, known, kind);
          once = all_pairs_push (λ c later. c ≢ later) queue conn (are.each address (waiting_at backlog queue) there).once (λ i e below same. no_place i e below same);
        })
        (λ a one other found. are.each a one found);
    described = λ a. there_same address_total address_exact listeners address (waiting_at backlog (queue ++ conn ∷ [])) a (ap is_some there) ∙ are.described a;
    apart = λ a b x y c found too queued also.
        pushed_was (λ r. r ≡ b) c
        (λ new. pushed_was (λ q. address ≡ q) c (λ again. refl) (λ q u stands two. absurd (no_queue q u stands (subst (λ z. is_queued z u ≡ true) new two))) b y too also)
        (λ r v stood some. pushed_was (λ q. r ≡ q) c (λ new. absurd (no_queue r v stood (subst (λ z. is_queued z v ≡ true) new some))) (λ q u stands two. are.apart r q v u c stood stands some two) b y too also)
        a x found queued;
  }
    where
      no_place : (i : ℕ) (e : ConnId) → i < length queue → slice_index_or queue i e ≡ conn → ⊥
      no_place i e below same = All-get_or (λ c. c ≢ conn) queue i e below (differ conn queue none_here) same

  pub pushed_hosts : (makers : Makers) (descriptors : Descriptors) → ((host : ℕ) → host_of_end channels conn 1 ≡ Some host → host ≡ address.host) → AreHosts makers descriptors descriptions listeners channels
      → AreHosts makers descriptors descriptions (map.insert listeners address (waiting_at backlog (queue ++ conn ∷ []))) channels
  pushed_hosts makers descriptors its is = record {
    held = is.held;
    pending = λ a one c host found queued on. pushed_was (λ r. host ≡ r.host) c
        (λ new. its host (ap (λ z. host_of_end channels z 1) (sym new) ∙ on)) (λ r v stood some. is.pending r v c host stood some on) a one found queued;
  }
