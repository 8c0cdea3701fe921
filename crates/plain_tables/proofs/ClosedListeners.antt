-- A listener's last descriptor closes, and with it the accepting sides of the connections that wait at it.
--     closed_pending      the channels that are left, and what is said of the streams and listeners that are left
use Rattle.std.proofs.Common.{◌≡◌, ◌≢◌, ℕ, Bool, true, false, List, [], ◌∷◌, refl, sym, ap, subst, ◌∙◌, arith, ⊎_elim}
use Rattle.std.specs.Prelude.{◌==◌, ◌&&◌, ◌||◌, suc, zero, Some, is_some, All, AllPairs}
use Rattle.std.specs.List.{list_any}
use Rattle.std.specs.Ordering.{eq_by_cmp}
use Rattle.std.specs.FinMap as map
use Rattle.std.proofs.lemmas.List.Elements.{All-head, All-tail}
use Rattle.std.proofs.lemmas.Bool.Decides.{nat_tests}
use Rattle.plain_process.proofs.OfViews.MapLaws.{same_key, other_key, get_remove_same, get_remove_other, same_or_other, true_false}
use Rattle.plain_process.proofs.OfViews.MapValues.{none_among-values, some_among-values}
use Rattle.id_maps.specs.OfSysAbi.declared.identity.DescId.{DescId}
use Rattle.id_maps.specs.OfSysAbi.declared.identity.ConnId.{ConnId}
use Rattle.id_maps.specs.OfSysAbi.declared.identity.VirtAddr.{VirtAddr}
use Rattle.id_maps.specs.OfSysAbi.Orders.{conn_cmp}
use Rattle.id_maps.proofs.OfSysAbi.OrderLaws.{conn_total, conn_exact, desc_total, desc_exact, address_total, address_exact}
use Rattle.plain_process.specs.Valid.{Each}
use Rattle.plain_tables.specs.declared.description.Description.{Description}
use Rattle.plain_tables.specs.declared.description.Object.{Object}
use Rattle.plain_tables.specs.declared.description.Object.TheVariants.{Listener}
use Rattle.plain_tables.specs.declared.channel.Listening.{Listening}
use Rattle.plain_tables.specs.Tables.{Descriptions, Channels, Directions, Listeners}
use Rattle.plain_tables.specs.Objects.{is_end, is_listener_at, is_queued, has_stream, is_pending, is_named, bound_at, host_of_end, host_of_object}
use Rattle.plain_tables.specs.Closing.{closed_channels, closed_directions, pending_channels, pending_directions}
use Rattle.plain_tables.specs.Valid.Channels.{AreChannels, AreStreams, IsStream}
use Rattle.plain_tables.specs.Valid.Sockets.{AreListeners, AreAddresses, IsListening, IsConnection}
use Rattle.plain_tables.proofs.Entries.{still_there, not_removed, any_kept, same_any}
use Rattle.plain_tables.proofs.FewerDescriptions.{any_without}
use Rattle.plain_tables.proofs.ClosedSides.{AreOpened, closed_keeps, opened_after, kept_channel}
use Rattle.plain_tables.proofs.ClosedStreams.{all_queued, or_left, or_right, hosts_were, end_was, channels_were, stream_stays, listening_stays, is_pending_at}

-- channels of which some may be gone
pub record Shrinks (before after : Channels) : Type 0 where
  pub there : (c : ConnId) → is_some (map.get after c) ≡ true → is_some (map.get before c) ≡ true
  pub hosts : (object : Object) (host : ℕ) → host_of_object after object ≡ Some host → host_of_object before object ≡ Some host
  pub ends : (c : ConnId) (host : ℕ) → host_of_end after c 1 ≡ Some host → host_of_end before c 1 ≡ Some host

shrinks_then : (a b c : Channels) → Shrinks a b → Shrinks b c → Shrinks a c
shrinks_then a b c first later = record {
  there = λ conn is. first.there conn (later.there conn is);
  hosts = λ object host is. first.hosts object host (later.hosts object host is);
  ends = λ conn host is. first.ends conn host (later.ends conn host is);
}

pub distinct_tail : (conn : ConnId) (rest : List ConnId) → AllPairs (λ c later. c ≢ later) (conn ∷ rest) → AllPairs (λ c later. c ≢ later) rest
distinct_tail conn rest pairs = λ i j d before below. pairs (suc i) (suc j) d (omega arith) (omega arith)

pub distinct_head : (conn : ConnId) (rest : List ConnId) → AllPairs (λ c later. c ≢ later) (conn ∷ rest) → All (λ later. conn ≢ later) rest
distinct_head conn rest pairs = λ i d below. pairs zero (suc i) d (omega arith) (omega arith)

pub none_queued : (conn : ConnId) (queue : List ConnId) → All (λ later. conn ≢ later) queue → list_any (eq_by_cmp conn_cmp conn) queue ≡ false
none_queued conn [] all = refl
none_queued conn (c ∷ rest) all =
    ap (λ b. b || list_any (eq_by_cmp conn_cmp conn) rest) (other_key conn_total conn_exact conn c (All-head (λ later. conn ≢ later) c rest all))
    ∙ none_queued conn rest (All-tail (λ later. conn ≢ later) c rest all)

or_false : (n b : Bool) → (n || (b && false)) ≡ n
or_false true b = refl
or_false false true = refl
or_false false false = refl

module _ (descriptions : Descriptions) (listeners : Listeners) where
  abbrev named_with : List ConnId → ConnId → ℕ → Bool
  named_with queue c s = is_named descriptions listeners c s || ((s == 1) && list_any (eq_by_cmp conn_cmp c) queue)

  -- connections that wait in no queue any more, and are to be closed
  pub record AreClosing (channels : Channels) (directions : Directions) (queue : List ConnId) : Type 0 where
    pub are : AreChannels channels directions
    pub opened : AreOpened channels (named_with queue)
    pub streams : Each descriptions (λ d x. IsStream channels x.flags x.object)
    pub listening : Each listeners (λ address one. IsListening channels one)
    pub joined : All (IsConnection channels) queue
    pub free : All (λ c. is_named descriptions listeners c 1 ≡ false) queue
    pub apart : AllPairs (λ c later. c ≢ later) queue

  module _ (channels : Channels) (directions : Directions) (conn : ConnId) (rest : List ConnId) (is : AreClosing channels directions (conn ∷ rest)) where
    here : IsConnection channels conn
    here = All-head (IsConnection channels) conn rest is.joined

    gone : named_with rest conn 1 ≡ false
    gone = ap (λ b. b || ((1 == 1) && list_any (eq_by_cmp conn_cmp conn) rest)) (All-head (λ c. is_named descriptions listeners c 1 ≡ false) conn rest is.free)
        ∙ none_queued conn rest (distinct_head conn rest is.apart)

    others : (c : ConnId) (s : ℕ) → (c ≡ conn → s ≡ 1 → ⊥) → named_with (conn ∷ rest) c s ≡ named_with rest c s
    others c s other = ap (λ b. is_named descriptions listeners c s || b) (chosen (s == 1) refl)
      where
        chosen : (b : Bool) → (s == 1) ≡ b → (b && (eq_by_cmp conn_cmp c conn || list_any (eq_by_cmp conn_cmp c) rest)) ≡ (b && list_any (eq_by_cmp conn_cmp c) rest)
        chosen true one =
            let number : s ≡ 1 = grind (arith, nat_tests, one) in
            ap (λ b. b || list_any (eq_by_cmp conn_cmp c) rest) (other_key conn_total conn_exact c conn (λ same. other same number))
        chosen false other_side = refl

    one_closed : AreClosing (closed_channels channels conn 1) (closed_directions channels directions conn 1) rest
    one_closed = record {
      are = closed_keeps channels directions conn 1 here.0 is.are here.1 (omega arith);
      opened = opened_after channels conn 1 here.0 here.1 (omega arith) (named_with (conn ∷ rest)) (named_with rest) is.opened gone others;
      streams = λ d x found.
          stream_stays channels conn 1 here.0 here.1 (omega arith) (named_with (conn ∷ rest)) (named_with rest) is.opened gone others x.object x.flags
          (λ c s ends. or_left (is_named descriptions listeners c s) ((s == 1) && list_any (eq_by_cmp conn_cmp c) rest)
          (or_left (has_stream descriptions c s) ((s == 1) && is_pending listeners c)
          (some_among-values desc_total desc_exact (λ (y : Description). is_end c s y.object) descriptions d x found ends)))
          (is.streams d x found);
      listening = λ address one found.
          listening_stays channels conn 1 here.0 here.1 (omega arith) (named_with (conn ∷ rest)) (named_with rest) is.opened gone others one
          (λ c queued. or_left (is_named descriptions listeners c 1) ((1 == 1) && list_any (eq_by_cmp conn_cmp c) rest)
          (or_right (has_stream descriptions c 1) (is_pending listeners c) (is_pending_at listeners address one c found queued)))
          (is.listening address one found);
      joined = all_queued (IsConnection channels) (IsConnection (closed_channels channels conn 1)) rest
          (λ c queued has.
          let kept = kept_channel channels conn 1 here.0 here.1 (omega arith) (named_with (conn ∷ rest)) (named_with rest) is.opened gone others c 1 (omega arith)
          (or_right (is_named descriptions listeners c 1) (list_any (eq_by_cmp conn_cmp c) rest) queued) has.0 has.1 in
          (kept.channel, kept.there, kept.kind ∙ has.2))
          (All-tail (IsConnection channels) conn rest is.joined);
      free = All-tail (λ c. is_named descriptions listeners c 1 ≡ false) conn rest is.free;
      apart = distinct_tail conn rest is.apart;
    }

    one_shrinks : Shrinks channels (closed_channels channels conn 1)
    one_shrinks = record {
      there = channels_were channels conn 1 here.0 here.1 (omega arith);
      hosts = hosts_were channels conn 1 here.0 here.1 (omega arith);
      ends = end_was channels conn 1 here.0 here.1 (omega arith);
    }

  pub closed_pending : (queue : List ConnId) (channels : Channels) (directions : Directions) → AreClosing channels directions queue
      → AreClosing (pending_channels channels queue) (pending_directions channels directions queue) []
  unfolding pending_channels pending_directions
  closed_pending [] channels directions is = is
  closed_pending (conn ∷ rest) channels directions is =
      closed_pending rest (closed_channels channels conn 1) (closed_directions channels directions conn 1) (one_closed channels directions conn rest is)

  pub pending_shrink : (queue : List ConnId) (channels : Channels) (directions : Directions) → AreClosing channels directions queue → Shrinks channels (pending_channels channels queue)
  unfolding pending_channels
  pending_shrink [] channels directions is = record { there = λ c there. there; hosts = λ object host there. there; ends = λ c host there. there }
  pending_shrink (conn ∷ rest) channels directions is =
      shrinks_then channels (closed_channels channels conn 1) (pending_channels (closed_channels channels conn 1) rest) (one_shrinks channels directions conn rest is)
      (pending_shrink rest (closed_channels channels conn 1) (closed_directions channels directions conn 1) (one_closed channels directions conn rest is))

-- a listener is gone
module _ (descriptions : Descriptions) (listeners : Listeners) (channels : Channels) (directions : Directions) (d : DescId) (x : Description) (address : VirtAddr) (listening : Listening)
    (known : map.get descriptions d ≡ Some x) (listens : x.object ≡ Listener address) (there : map.get listeners address ≡ Some listening)
    (streams : AreStreams descriptions listeners channels) (are : AreListeners descriptions listeners channels) (joined : AreChannels channels directions) where
  rest : Descriptions
  rest = map.remove descriptions d

  left : Listeners
  left = map.remove listeners address

  in_left : (c : ConnId) → is_queued c listening ≡ true → is_pending (map.remove listeners address) c ≡ false
  in_left c queued = none_among-values address_total address_exact (is_queued c) (map.remove listeners address) (λ a one found. chosen a one found (is_queued c one) refl)
    where
      chosen : (a : VirtAddr) (one : Listening) → map.get (map.remove listeners address) a ≡ Some one → (b : Bool) → is_queued c one ≡ b → b ≡ false
      chosen a one found true too =
          absurd (not_removed address_total address_exact listeners address a one found
          (are.apart a address one listening c (still_there address_total address_exact listeners address a one found) there too queued))
      chosen a one found false other = refl

  no_stream : (c : ConnId) → is_queued c listening ≡ true → has_stream (map.remove descriptions d) c 1 ≡ false
  no_stream c queued = chosen (has_stream (map.remove descriptions d) c 1) refl
    where
      chosen : (b : Bool) → has_stream (map.remove descriptions d) c 1 ≡ b → b ≡ false
      chosen true has =
          let was : has_stream descriptions c 1 ≡ true = any_kept desc_total desc_exact (λ (y : Description). is_end c 1 y.object) (map.remove descriptions d) descriptions
          (λ e y found passes. (y, still_there desc_total desc_exact descriptions d e y found, passes)) has in
          true_false (sym (is_pending_at listeners address listening c there queued) ∙ streams.apart c was)
      chosen false none = refl

  free_queue : (c : ConnId) → is_queued c listening ≡ true → is_named (map.remove descriptions d) (map.remove listeners address) c 1 ≡ false
  free_queue c queued = ap (λ b. b || ((1 == 1) && is_pending (map.remove listeners address) c)) (no_stream c queued) ∙ in_left c queued

  -- who waited waits in the queue that is gone, or still does
  pending_was : (c : ConnId) → is_pending listeners c ≡ (is_pending (map.remove listeners address) c || is_queued c listening)
  pending_was c = chosen (is_queued c listening) refl
    where
      elsewhere : is_queued c listening ≡ false → is_pending (map.remove listeners address) c ≡ is_pending listeners c
      elsewhere other = same_any address_total address_exact (is_queued c) listeners (map.remove listeners address)
          (λ a one found passes. (
            one,
            get_remove_other address_total address_exact listeners address a (λ at.
                let same : one ≡ listening = let same_at = subst (λ r. map.get listeners r ≡ Some one) at found in cc in
                true_false (sym passes ∙ ap (is_queued c) same ∙ other)) ∙ found,
            passes,
          ))
          (λ a one found passes. (one, still_there address_total address_exact listeners address a one found, passes))

      or_none : (b : Bool) → (b || false) ≡ b
      or_none true = refl
      or_none false = refl

      chosen : (b : Bool) → is_queued c listening ≡ b → is_pending listeners c ≡ (is_pending (map.remove listeners address) c || b)
      chosen true queued = is_pending_at listeners address listening c there queued ∙ sym (or_right (is_pending (map.remove listeners address) c) true refl)
      chosen false other = sym (elsewhere other) ∙ sym (or_none (is_pending (map.remove listeners address) c))

  named_was : (c : ConnId) (s : ℕ) → is_named descriptions listeners c s ≡ named_with (map.remove descriptions d) (map.remove listeners address) listening.queue c s
  named_was c s =
      ap (λ b. b || ((s == 1) && is_pending listeners c)) (sym (any_without descriptions d x known (is_end c s) (ap (is_end c s) listens)))
      ∙ ap (λ b. has_stream (map.remove descriptions d) c s || ((s == 1) && b)) (pending_was c)
      ∙ parts (has_stream (map.remove descriptions d) c s) (s == 1) (is_pending (map.remove listeners address) c) (is_queued c listening)
    where
      parts : (a b p q : Bool) → (a || (b && (p || q))) ≡ ((a || (b && p)) || (b && q))
      parts true b p q = refl
      parts false true p q = refl
      parts false false p q = refl

  pub closing : AreClosing (map.remove descriptions d) (map.remove listeners address) channels directions listening.queue
  closing = record {
    are = joined;
    opened = λ c ch s found low. streams.opened c ch s found low ∙ named_was c s;
    streams = λ e y found. streams.each e y (still_there desc_total desc_exact descriptions d e y found);
    listening = λ a one found. are.each a one (still_there address_total address_exact listeners address a one found);
    joined = (are.each address listening there).connections;
    free = all_queued (IsConnection channels) (λ c. is_named (map.remove descriptions d) (map.remove listeners address) c 1 ≡ false) listening.queue (λ c queued has. free_queue c queued)
        (are.each address listening there).connections;
    apart = (are.each address listening there).once;
  }

  closed : AreClosing (map.remove descriptions d) (map.remove listeners address) (pending_channels channels listening.queue) (pending_directions channels directions listening.queue) []
  closed = closed_pending (map.remove descriptions d) (map.remove listeners address) listening.queue channels directions closing

  pub closed_listener_channels : AreChannels (pending_channels channels listening.queue) (pending_directions channels directions listening.queue)
  closed_listener_channels = closed.are

  pub closed_listener_shrinks : Shrinks channels (pending_channels channels listening.queue)
  closed_listener_shrinks = pending_shrink (map.remove descriptions d) (map.remove listeners address) listening.queue channels directions closing

  pub closed_listener_streams : AreStreams (map.remove descriptions d) (map.remove listeners address) (pending_channels channels listening.queue)
  closed_listener_streams = record {
    each = closed.streams;
    once = λ e f y z c s found too ends also. streams.once e f y z c s (still_there desc_total desc_exact descriptions d e y found) (still_there desc_total desc_exact descriptions d f z too) ends also;
    apart = λ c has.
        let was : has_stream descriptions c 1 ≡ true = any_kept desc_total desc_exact (λ (y : Description). is_end c 1 y.object) (map.remove descriptions d) descriptions
        (λ e y found passes. (y, still_there desc_total desc_exact descriptions d e y found, passes)) has in
        no_pending c (streams.apart c was) (is_pending (map.remove listeners address) c) refl;
    opened = λ c ch s found low. closed.opened c ch s found low ∙ or_false (is_named (map.remove descriptions d) (map.remove listeners address) c s) (s == 1);
  }
    where
      no_pending : (c : ConnId) → is_pending listeners c ≡ false → (b : Bool) → is_pending (map.remove listeners address) c ≡ b → b ≡ false
      no_pending c none true some = true_false (sym (any_kept address_total address_exact (is_queued c) (map.remove listeners address) listeners
          (λ a one found passes. (one, still_there address_total address_exact listeners address a one found, passes)) some) ∙ none)
      no_pending c none false some = refl

  pub closed_listener_listeners : AreAddresses descriptions → AreListeners (map.remove descriptions d) (map.remove listeners address) (pending_channels channels listening.queue)
  closed_listener_listeners addressed = record {
    each = closed.listening;
    described = λ a. ⊎_elim
        (λ at. subst (λ r. is_some (map.get (map.remove listeners address) r) ≡ list_any (λ (y : Description). is_listener_at r y.object) (map.values (map.remove descriptions d))) (sym at)
        (ap is_some (get_remove_same address_total address_exact listeners address) ∙ sym no_other))
        (λ other. ap is_some (get_remove_other address_total address_exact listeners address a other) ∙ are.described a
        ∙ sym (any_without descriptions d x known (is_listener_at a) (ap (is_listener_at a) listens ∙ other_key address_total address_exact a address other)))
        (same_or_other address_total address_exact a address);
    apart = λ a b y z c found too queued also. are.apart a b y z c (still_there address_total address_exact listeners address a y found) (still_there address_total address_exact listeners address b z too) queued also;
  }
    where
      listens_there : (e : DescId) (y : Description) (object : Object) → y.object ≡ object → map.get (map.remove descriptions d) e ≡ Some y → is_listener_at address object ≡ true → ⊥
      listens_there e y (Listener other) same found at =
          let address_is : address ≡ other = same_key address_total address_exact address other at in
          not_removed desc_total desc_exact descriptions d e y found
          (addressed.apart e d y x address (still_there desc_total desc_exact descriptions d e y found) known (ap bound_at same ∙ ap Some (sym address_is)) (ap bound_at listens))
      listens_there e y object same found at = true_false (sym at)

      refuses : (e : DescId) (y : Description) → map.get (map.remove descriptions d) e ≡ Some y → (b : Bool) → is_listener_at address y.object ≡ b → b ≡ false
      refuses e y found true at = absurd (listens_there e y y.object refl found at)
      refuses e y found false other = refl

      no_other : list_any (λ (y : Description). is_listener_at address y.object) (map.values (map.remove descriptions d)) ≡ false
      no_other = none_among-values desc_total desc_exact (λ (y : Description). is_listener_at address y.object) (map.remove descriptions d) (λ e y found. refuses e y found (is_listener_at address y.object) refl)
