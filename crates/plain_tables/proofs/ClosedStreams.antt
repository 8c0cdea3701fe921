-- A stream's last descriptor closes: its side is closed, and what is said of the other streams, of listeners and of hosts stays.
--     all_queued      what holds of each connection of a queue
--     hosts_were, connections_stay, streams_stay      after a side closed, whichever names are left
--     closed_stream_streams, closed_stream_listeners      where a stream named it
use Rattle.std.proofs.Common.{◌≡◌, ◌≢◌, ℕ, ◌<◌, Bool, true, false, cond, List, [], ◌∷◌, refl, sym, ap, ◌∙◌, arith}
use Rattle.std.specs.Prelude.{◌==◌, ◌&&◌, ◌||◌, Option, Some, None, is_some, option_map, option_and_then, All}
use Rattle.std.specs.List.{list_any}
use Rattle.std.specs.Ordering.{eq_by_cmp}
use Rattle.std.specs.FinMap as map
use Rattle.std.proofs.lemmas.List.Elements.{All-nil, All-cons, All-head, All-tail}
use Rattle.std.proofs.lemmas.Bool.Decides.{nat_tests}
use Rattle.plain_process.proofs.OfViews.MapLaws.{key_tied, same_key, true_false}
use Rattle.plain_process.proofs.OfViews.MapValues.{none_among-values, some_among-values}
use Rattle.id_maps.specs.OfSysAbi.declared.identity.DescId.{DescId}
use Rattle.id_maps.specs.OfSysAbi.declared.identity.ConnId.{ConnId}
use Rattle.id_maps.specs.OfSysAbi.declared.identity.VirtAddr.{VirtAddr}
use Rattle.id_maps.specs.OfSysAbi.Orders.{conn_cmp}
use Rattle.id_maps.proofs.OfSysAbi.OrderLaws.{conn_total, conn_exact, desc_total, desc_exact, address_total, address_exact}
use Rattle.plain_tables.specs.declared.description.Description.{Description}
use Rattle.plain_tables.specs.declared.description.Object.{Object}
use Rattle.plain_tables.specs.declared.description.Object.TheVariants.{Socket, Listener, Stream}
use Rattle.plain_tables.specs.declared.channel.Channel.{Channel}
use Rattle.plain_tables.specs.declared.channel.Listening.{Listening}
use Rattle.plain_tables.specs.Tables.{Descriptions, Channels, Listeners}
use Rattle.plain_tables.specs.Objects.{end_of, is_end, is_listener_at, is_queued, has_stream, is_pending, is_named, host_of_end, host_of_object}
use Rattle.plain_tables.specs.Closing.{closed_channels}
use Rattle.plain_tables.specs.Valid.Channels.{AreStreams, IsStream}
use Rattle.plain_tables.specs.Valid.Sockets.{AreListeners, IsListening, IsConnection}
use Rattle.plain_tables.proofs.Entries.{still_there, not_removed, any_kept}
use Rattle.plain_tables.proofs.FewerDescriptions.{any_without}
use Rattle.plain_tables.proofs.ClosedSides.{AreOpened, closed_was, opened_after, kept_channel}

pub same_number : (n : ℕ) → (n == n) ≡ true
same_number n = grind (arith, nat_tests)

pub other_number : (m n : ℕ) → m ≢ n → (m == n) ≡ false
other_number m n other = grind (arith, nat_tests, other)

pub or_left : (a b : Bool) → a ≡ true → (a || b) ≡ true
or_left true b is = refl
or_left false b is = true_false (sym is)

pub or_right : (a b : Bool) → b ≡ true → (a || b) ≡ true
or_right true b is = refl
or_right false b is = is

-- what holds of each connection of a queue that another fact holds of
pub all_queued : (P Q : ConnId → Type 0) (queue : List ConnId) → ((conn : ConnId) → list_any (eq_by_cmp conn_cmp conn) queue ≡ true → P conn → Q conn) → All P queue → All Q queue
all_queued P Q [] each all = All-nil Q
all_queued P Q (conn ∷ rest) each all =
    All-cons Q conn rest (each conn (or_left (eq_by_cmp conn_cmp conn conn) (list_any (eq_by_cmp conn_cmp conn) rest) (key_tied conn_total conn_exact conn)) (All-head P conn rest all))
    (all_queued P Q rest (λ c is holds. each c (or_right (eq_by_cmp conn_cmp c conn) (list_any (eq_by_cmp conn_cmp c) rest) is) holds) (All-tail P conn rest all))

pub is_pending_at : (listeners : Listeners) (address : VirtAddr) (listening : Listening) (conn : ConnId) → map.get listeners address ≡ Some listening → is_queued conn listening ≡ true → is_pending listeners conn ≡ true
is_pending_at listeners address listening conn found queued = some_among-values address_total address_exact (is_queued conn) listeners address listening found queued

-- a stream is the end that it names
pub end_itself : (conn : ConnId) (side : ℕ) → is_end conn side (Stream conn side) ≡ true
end_itself conn side = ap (λ b. b && (side == side)) (key_tied conn_total conn_exact conn) ∙ same_number side

and_parts : (a b : Bool) → (a && b) ≡ true → (a ≡ true) × (b ≡ true)
and_parts true true is = (refl, refl)
and_parts true false is = true_false (sym is)
and_parts false b is = true_false (sym is)

pub end_other : (c conn : ConnId) (s side : ℕ) → (c ≡ conn → s ≡ side → ⊥) → is_end c s (Stream conn side) ≡ false
end_other c conn s side other = chosen (is_end c s (Stream conn side)) refl
  where
    chosen : (b : Bool) → is_end c s (Stream conn side) ≡ b → b ≡ false
    chosen true is =
        let parts = and_parts (eq_by_cmp conn_cmp c conn) (s == side) is in
        let number = parts.1 in
        absurd (other (same_key conn_total conn_exact c conn parts.0) (grind (arith, nat_tests, number)))
    chosen false is = refl

-- a side closes
module _ (channels : Channels) (conn : ConnId) (side : ℕ) (channel : Channel) (known : map.get channels conn ≡ Some channel) (low : side < 2) where
  end_by : (c : ConnId) (s : ℕ) (found : Option Channel) → map.get (closed_channels channels conn side) c ≡ found → (host : ℕ)
      → option_map (λ address. address.host) (option_and_then (λ ch. (end_of ch s).address) found) ≡ Some host → host_of_end channels c s ≡ Some host
  end_by c s None none host is = cc
  end_by c s (Some ch) found host is =
      let was = closed_was channels conn side channel known low c ch found in
      ap (λ o. option_map (λ address. address.host) (option_and_then (λ w. (end_of w s).address) o)) was.1 ∙ ap (option_map (λ address. address.host)) (sym (address_of ch was.0 (s == 0) was.2 was.3)) ∙ is
    where
      address_of : (new old : Channel) (b : Bool) → new.first.address ≡ old.first.address → new.second.address ≡ old.second.address → (cond b new.first new.second).address ≡ (cond b old.first old.second).address
      address_of new old true one other = one
      address_of new old false one other = other

  pub hosts_were : (object : Object) (host : ℕ) → host_of_object (closed_channels channels conn side) object ≡ Some host → host_of_object channels object ≡ Some host
  hosts_were (Socket address) host is = is
  hosts_were (Listener address) host is = is
  hosts_were (Stream c s) host is = end_by c s (map.get (closed_channels channels conn side) c) refl host is
  hosts_were _ host is = is

  pub end_was : (c : ConnId) (host : ℕ) → host_of_end (closed_channels channels conn side) c 1 ≡ Some host → host_of_end channels c 1 ≡ Some host
  end_was c host is = end_by c 1 (map.get (closed_channels channels conn side) c) refl host is

  pub channels_were : (c : ConnId) → is_some (map.get (closed_channels channels conn side) c) ≡ true → is_some (map.get channels c) ≡ true
  channels_were c there = by_found (map.get (closed_channels channels conn side) c) refl there
    where
      by_found : (found : Option Channel) → map.get (closed_channels channels conn side) c ≡ found → is_some found ≡ true → is_some (map.get channels c) ≡ true
      by_found None none there = true_false (sym there)
      by_found (Some ch) found there = ap is_some (closed_was channels conn side channel known low c ch found).1

  -- where what named it is gone
  module _ (before after : ConnId → ℕ → Bool) (opened : AreOpened channels before) (gone : after conn side ≡ false) (others : (c : ConnId) (s : ℕ) → (c ≡ conn → s ≡ side → ⊥) → before c s ≡ after c s) where
    pub stream_stays : (object : Object) (flags : ℕ) → ((c : ConnId) (s : ℕ) → is_end c s object ≡ true → after c s ≡ true) → IsStream channels flags object → IsStream (closed_channels channels conn side) flags object
    stream_stays (Stream c s) flags named is =
        let kept = kept_channel channels conn side channel known low before after opened gone others c s is.2.is_side (named c s (end_itself c s)) is.0 is.1 in
        (kept.channel, kept.there, record { is_side = is.2.is_side; mode = λ pipe. is.2.mode (sym kept.kind ∙ pipe) })
    stream_stays _ flags named is = tt

    pub listening_stays : (listening : Listening) → ((c : ConnId) → is_queued c listening ≡ true → after c 1 ≡ true) → IsListening channels listening → IsListening (closed_channels channels conn side) listening
    listening_stays listening named is = record {
      room = is.room;
      backlog = is.backlog;
      connections = all_queued (IsConnection channels) (IsConnection (closed_channels channels conn side)) listening.queue
          (λ c queued has.
          let kept = kept_channel channels conn side channel known low before after opened gone others c 1 (omega arith) (named c queued) has.0 has.1 in
          (kept.channel, kept.there, kept.kind ∙ has.2))
          is.connections;
      once = is.once;
    }

-- a description of something else is gone
module _ (descriptions : Descriptions) (listeners : Listeners) (channels : Channels) (d : DescId) (x : Description) (known : map.get descriptions d ≡ Some x) where
  pub streams_without : ((conn : ConnId) (side : ℕ) → is_end conn side x.object ≡ false) → AreStreams descriptions listeners channels → AreStreams (map.remove descriptions d) listeners channels
  streams_without no_end is = record {
    each = λ e y found. is.each e y (still_there desc_total desc_exact descriptions d e y found);
    once = λ e f y z c s found too ends also. is.once e f y z c s (still_there desc_total desc_exact descriptions d e y found) (still_there desc_total desc_exact descriptions d f z too) ends also;
    apart = λ c has. is.apart c (sym (any_without descriptions d x known (is_end c 1) (no_end c 1)) ∙ has);
    opened = λ c ch s found low. is.opened c ch s found low ∙ ap (λ b. b || ((s == 1) && is_pending listeners c)) (sym (any_without descriptions d x known (is_end c s) (no_end c s)));
  }

  pub listeners_without : ((address : VirtAddr) → is_listener_at address x.object ≡ false) → AreListeners descriptions listeners channels → AreListeners (map.remove descriptions d) listeners channels
  listeners_without no_listener is = record {
    each = is.each;
    described = λ address. is.described address ∙ sym (any_without descriptions d x known (is_listener_at address) (no_listener address));
    apart = is.apart;
  }

-- the stream that named it is gone
module _ (descriptions : Descriptions) (listeners : Listeners) (channels : Channels) (d : DescId) (x : Description) (conn : ConnId) (side : ℕ) (channel : Channel)
    (known : map.get descriptions d ≡ Some x) (ends : x.object ≡ Stream conn side) (there : map.get channels conn ≡ Some channel) (low : side < 2) (is : AreStreams descriptions listeners channels) where
  itself : is_end conn side x.object ≡ true
  itself = ap (is_end conn side) ends ∙ end_itself conn side

  named_before : ConnId → ℕ → Bool
  named_before c s = is_named descriptions listeners c s

  named_after : ConnId → ℕ → Bool
  named_after c s = is_named (map.remove descriptions d) listeners c s

  was_opened : AreOpened channels named_before
  unfolding named_before
  was_opened = is.opened

  named_others : (c : ConnId) (s : ℕ) → (c ≡ conn → s ≡ side → ⊥) → named_before c s ≡ named_after c s
  unfolding named_before named_after
  named_others c s other =
      ap (λ b. b || ((s == 1) && is_pending listeners c)) (sym (any_without descriptions d x known (is_end c s) (ap (is_end c s) ends ∙ end_other c conn s side other)))

  no_stream : has_stream (map.remove descriptions d) conn side ≡ false
  no_stream = none_among-values desc_total desc_exact (λ (y : Description). is_end conn side y.object) (map.remove descriptions d) (λ e y found. chosen e y found (is_end conn side y.object) refl)
    where
      chosen : (e : DescId) (y : Description) → map.get (map.remove descriptions d) e ≡ Some y → (b : Bool) → is_end conn side y.object ≡ b → b ≡ false
      chosen e y found true too =
          absurd (not_removed desc_total desc_exact descriptions d e y found
          (is.once e d y x conn side (still_there desc_total desc_exact descriptions d e y found) known too itself))
      chosen e y found false other = refl

  not_pending : ((side == 1) && is_pending listeners conn) ≡ false
  not_pending = chosen (side == 1) refl
    where
      chosen : (b : Bool) → (side == 1) ≡ b → (b && is_pending listeners conn) ≡ false
      chosen true one =
          let number : side ≡ 1 = grind (arith, nat_tests, one) in
          is.apart conn (some_among-values desc_total desc_exact (λ (y : Description). is_end conn 1 y.object) descriptions d x known (ap (λ s. is_end conn s x.object) (sym number) ∙ itself))
      chosen false other = refl

  named_gone : named_after conn side ≡ false
  unfolding named_after
  named_gone = ap (λ b. b || ((side == 1) && is_pending listeners conn)) no_stream ∙ not_pending

  pub closed_stream_streams : AreStreams (map.remove descriptions d) listeners (closed_channels channels conn side)
  unfolding named_before named_after
  closed_stream_streams = record {
    each = λ e y found.
        stream_stays channels conn side channel there low named_before named_after was_opened named_gone named_others y.object y.flags
        (λ c s ends_it. or_left (has_stream (map.remove descriptions d) c s) ((s == 1) && is_pending listeners c)
        (some_among-values desc_total desc_exact (λ (z : Description). is_end c s z.object) (map.remove descriptions d) e y found ends_it))
        (is.each e y (still_there desc_total desc_exact descriptions d e y found));
    once = λ e f y z c s found too ends_it also. is.once e f y z c s (still_there desc_total desc_exact descriptions d e y found) (still_there desc_total desc_exact descriptions d f z too) ends_it also;
    apart = λ c has. is.apart c (any_kept desc_total desc_exact (λ (y : Description). is_end c 1 y.object) (map.remove descriptions d) descriptions
        (λ e y found passes. (y, still_there desc_total desc_exact descriptions d e y found, passes)) has);
    opened = opened_after channels conn side channel there low named_before named_after was_opened named_gone named_others;
  }

  pub closed_stream_listeners : AreListeners descriptions listeners channels → AreListeners (map.remove descriptions d) listeners (closed_channels channels conn side)
  unfolding named_before named_after
  closed_stream_listeners are = record {
    each = λ address listening found.
        listening_stays channels conn side channel there low named_before named_after was_opened named_gone named_others listening
        (λ c queued. or_right (has_stream (map.remove descriptions d) c 1) (is_pending listeners c) (is_pending_at listeners address listening c found queued))
        (are.each address listening found);
    described = λ address. are.described address ∙ sym (any_without descriptions d x known (is_listener_at address) (ap (is_listener_at address) ends));
    apart = are.apart;
  }
