-- The descriptions where one has another object of the same shape, or other flags or another owner, and the topics that they keep.
--     like_open_files, like_described, like_descriptions, like_holders, like_made, like_streams, like_listeners,
--     like_addresses, like_hosts, like_inboxes, like_counters
use Rattle.std.proofs.Common.{◌≡◌, ◌≢◌, ℕ, ◌%◌, Bool, refl, sym, ap, subst, ◌∙◌, ⊎_elim}
use Rattle.std.specs.Prelude.{◌==◌, ◌&&◌, ◌||◌, Some, is_some}
use Rattle.std.specs.List.{list_any}
use Rattle.std.specs.FinMap as map
use Rattle.plain_tables.proofs.OfViews.MapLaws.{get_insert_same, get_insert_other, same_or_other}
use Rattle.plain_tables.specs.OfSysAbi.declared.identity.Slot.{Slot}
use Rattle.plain_tables.specs.OfSysAbi.declared.identity.ConnId.{ConnId}
use Rattle.plain_tables.specs.OfSysAbi.declared.identity.DescId.{DescId}
use Rattle.plain_tables.specs.OfSysAbi.declared.identity.VirtAddr.{VirtAddr}
use Rattle.plain_tables.proofs.OfSysAbi.OrderLaws.{desc_total, desc_exact}
use Rattle.plain_tables.specs.OfPlainProcess.Valid.{Each}
use Rattle.plain_tables.specs.OfSysAbi.declared.descriptor.Descriptor.{Descriptor}
use Rattle.plain_tables.specs.declared.description.Description.{Description}
use Rattle.plain_tables.specs.declared.description.Object.{Object}
use Rattle.plain_tables.specs.declared.description.Object.TheVariants.{File, Stream, Socket, Listener, Datagram}
use Rattle.plain_tables.specs.Tables.{Names, Files, Processes, Makers, Descriptors, Descriptions, Channels, Listeners, Inboxes}
use Rattle.plain_tables.specs.Objects.{is_file, is_end, is_listener_at, is_pending, is_named, has_name, bound_at, host_of_object, is_datagram, knows}
use Rattle.plain_tables.specs.Valid.Files.{AreOpenFiles, IsOpenFile}
use Rattle.plain_tables.specs.Valid.Descriptions.{AreDescriptors, AreDescriptions, AreFlags, AreHolders, AreMade, HasMadePeer, IsOwner}
use Rattle.plain_tables.specs.Valid.Channels.{AreStreams, IsStream}
use Rattle.plain_tables.specs.Valid.Sockets.{AreListeners, AreAddresses, IsAddressed, AreHosts}
use Rattle.plain_tables.specs.Valid.Datagrams.{AreInboxes, AreCounters, IsCounter, is_datagram_in}
use Rattle.plain_machine.specs.FileLaws.{shape}
use Rattle.plain_tables.proofs.Entries.{each_with, there_same, same_any}

file_shape : (number : ℕ) (object : Object) → is_file number (shape object) ≡ is_file number object
file_shape number (File n offset) = refl
file_shape number _ = refl

end_shape : (conn : ConnId) (side : ℕ) (object : Object) → is_end conn side (shape object) ≡ is_end conn side object
end_shape conn side (Stream c s) = refl
end_shape conn side _ = refl

listener_shape : (address : VirtAddr) (object : Object) → is_listener_at address (shape object) ≡ is_listener_at address object
listener_shape address (Listener other) = refl
listener_shape address _ = refl

datagram_shape : (object : Object) → is_datagram (shape object) ≡ is_datagram object
datagram_shape (Datagram peer) = refl
datagram_shape _ = refl

knows_shape : (d : DescId) (object : Object) → knows d (shape object) ≡ knows d object
knows_shape d (Datagram peer) = refl
knows_shape d _ = refl

bound_shape : (object : Object) → bound_at (shape object) ≡ bound_at object
bound_shape (Socket address) = refl
bound_shape (Listener address) = refl
bound_shape _ = refl

host_shape : (channels : Channels) (object : Object) → host_of_object channels (shape object) ≡ host_of_object channels object
host_shape channels (Socket address) = refl
host_shape channels (Listener address) = refl
host_shape channels (Stream conn side) = refl
host_shape channels _ = refl

-- what holds of one object holds of another of its shape
module _ (x y : Object) (like : shape y ≡ shape x) where
  test_like : {A : Type 0} (test : Object → A) → ((object : Object) → test (shape object) ≡ test object) → test y ≡ test x
  test_like test shaped = sym (shaped y) ∙ ap test like ∙ shaped x

  fact_like : (P : Object → Type 0) → ((object : Object) → P object → P (shape object)) → ((object : Object) → P (shape object) → P object) → P x → P y
  fact_like P into back holds = back y (subst P (sym like) (into x holds))

peer_like : (next_id : ℕ) (processes : Processes) (makers : Makers) (x y : Object) → shape y ≡ shape x → HasMadePeer next_id processes makers x → HasMadePeer next_id processes makers y
peer_like next_id processes makers x y like = fact_like x y like (HasMadePeer next_id processes makers) into back
  where
    into : (object : Object) → HasMadePeer next_id processes makers object → HasMadePeer next_id processes makers (shape object)
    into (Datagram peer) made = made
    into _ made = tt

    back : (object : Object) → HasMadePeer next_id processes makers (shape object) → HasMadePeer next_id processes makers object
    back (Datagram peer) made = made
    back _ made = tt

addressed_like : (x y : Object) → shape y ≡ shape x → IsAddressed x → IsAddressed y
addressed_like x y like = fact_like x y like IsAddressed into back
  where
    into : (object : Object) → IsAddressed object → IsAddressed (shape object)
    into (Socket address) is = is
    into (Listener address) is = is
    into _ is = tt

    back : (object : Object) → IsAddressed (shape object) → IsAddressed object
    back (Socket address) is = is
    back (Listener address) is = is
    back _ is = tt

stream_like : (channels : Channels) (flags other : ℕ) (x y : Object) → shape y ≡ shape x → other % 4 ≡ flags % 4 → IsStream channels flags x → IsStream channels other y
stream_like channels flags other x y like mode is = fact_like x y like (IsStream channels other) into back (moded x is)
  where
    moded : (object : Object) → IsStream channels flags object → IsStream channels other object
    moded (Stream conn side) ends = (ends.0, ends.1, record { is_side = ends.2.is_side; mode = λ pipe. mode ∙ ends.2.mode pipe })
    moded _ ends = tt

    into : (object : Object) → IsStream channels other object → IsStream channels other (shape object)
    into (Stream conn side) ends = ends
    into _ ends = tt

    back : (object : Object) → IsStream channels other (shape object) → IsStream channels other object
    back (Stream conn side) ends = ends
    back _ ends = tt

-- a description that stood there, of the same shape and access mode
record Stood (descriptions : Descriptions) (d : DescId) (now : Description) : Type 0 where
  v : Description
  there : map.get descriptions d ≡ Some v
  object : shape now.object ≡ shape v.object
  mode : now.flags % 4 ≡ v.flags % 4

module _ (descriptions : Descriptions) (d : DescId) (x y : Description) (known : map.get descriptions d ≡ Some x) (like : shape y.object ≡ shape x.object) (mode : y.flags % 4 ≡ x.flags % 4) where
  after : Descriptions
  after = map.insert descriptions d y

  back : Each (map.insert descriptions d y) (Stood descriptions)
  back = each_with desc_total desc_exact (Stood descriptions) descriptions d y (record { v = x; there = known; object = like; mode = mode })
      (λ e w other found. record { v = w; there = found; object = refl; mode = refl })

  there_again : (e : DescId) → is_some (map.get (map.insert descriptions d y) e) ≡ is_some (map.get descriptions e)
  there_again e = there_same desc_total desc_exact descriptions d y e (ap is_some known)

  -- what a test of objects tells
  any_like : (test : Object → Bool) → ((object : Object) → test (shape object) ≡ test object)
      → list_any (λ (w : Description). test w.object) (map.values (map.insert descriptions d y)) ≡ list_any (λ (w : Description). test w.object) (map.values descriptions)
  any_like test shaped = same_any desc_total desc_exact (λ (w : Description). test w.object) descriptions (map.insert descriptions d y)
      (λ e w found passes. ⊎_elim
      (λ (here : e ≡ d).
      let there : map.get descriptions d ≡ Some w = subst (λ r. map.get descriptions r ≡ Some w) here found in
      let same : x ≡ w = cc in (
        y,
        subst (λ r. map.get (map.insert descriptions d y) r ≡ Some y) (sym here) (get_insert_same desc_total desc_exact descriptions d y),
        test_like x.object y.object like test shaped ∙ ap (λ (v : Description). test v.object) same ∙ passes,
      ))
      (λ (other : e ≢ d). (w, get_insert_other desc_total desc_exact descriptions d y e other ∙ found, passes))
      (same_or_other desc_total desc_exact e d))
      (λ e w found passes. let was = back e w found in (was.v, was.there, sym (test_like was.v.object w.object was.object test shaped) ∙ passes))

  pub like_open_files : (names : Names) (files : Files) → IsOpenFile files y.object → AreOpenFiles names files descriptions → AreOpenFiles names files (map.insert descriptions d y)
  like_open_files names files opened is = record {
    there = each_with desc_total desc_exact (λ e (w : Description). IsOpenFile files w.object) descriptions d y opened (λ e w other found. is.there e w found);
    kept = λ number bytes found. ap (λ b. has_name names number || b) (any_like (is_file number) (file_shape number)) ∙ is.kept number bytes found;
  }

  pub like_described : (processes : Processes) (descriptors : Descriptors) → AreDescriptors processes descriptions descriptors → AreDescriptors processes (map.insert descriptions d y) descriptors
  like_described processes descriptors is = record {
    number = is.number;
    alive = is.alive;
    described = λ at descriptor found. there_again descriptor.desc ∙ is.described at descriptor found;
  }

  pub like_descriptions : (descriptors : Descriptors) → AreFlags y.flags → AreDescriptions descriptors descriptions → AreDescriptions descriptors (map.insert descriptions d y)
  like_descriptions descriptors sound is = record {
    held = λ e w found. let was = back e w found in is.held e was.v was.there;
    flags = each_with desc_total desc_exact (λ e (w : Description). AreFlags w.flags) descriptions d y sound (λ e w other found. is.flags e w found);
  }

  pub like_holders : (processes : Processes) (makers : Makers) (descriptors : Descriptors)
      → ((a : Slot) (z : Descriptor) → map.get descriptors a ≡ Some z → z.desc ≡ d → IsOwner processes makers a.pid y.owner)
      → AreHolders processes makers descriptors descriptions → AreHolders processes makers descriptors (map.insert descriptions d y)
  like_holders processes makers descriptors owned is = record {
    host = is.host;
    owner = λ a z description found described.
        each_with desc_total desc_exact (λ e (w : Description). z.desc ≡ e → IsOwner processes makers a.pid w.owner) descriptions d y (owned a z found)
        (λ e w other was here. is.owner a z w found (ap (map.get descriptions) here ∙ was)) z.desc description described refl;
  }

  pub like_made : (next_id : ℕ) (processes : Processes) (makers : Makers) (channels : Channels) → AreMade next_id processes makers descriptions channels
      → AreMade next_id processes makers (map.insert descriptions d y) channels
  like_made next_id processes makers channels is = record {
    opened = λ e w found. let was = back e w found in is.opened e was.v was.there;
    peers = λ e w found. let was = back e w found in peer_like next_id processes makers was.v.object w.object was.object (is.peers e was.v was.there);
    joined = is.joined;
  }

  named_like : (listeners : Listeners) (conn : ConnId) (side : ℕ) → is_named (map.insert descriptions d y) listeners conn side ≡ is_named descriptions listeners conn side
  named_like listeners conn side = ap (λ b. b || ((side == 1) && is_pending listeners conn)) (any_like (is_end conn side) (end_shape conn side))

  pub like_streams : (listeners : Listeners) (channels : Channels) → AreStreams descriptions listeners channels → AreStreams (map.insert descriptions d y) listeners channels
  like_streams listeners channels is = record {
    each = λ e w found. let was = back e w found in stream_like channels was.v.flags w.flags was.v.object w.object was.object was.mode (is.each e was.v was.there);
    once = λ e f w z conn side found there ends too.
        let a = back e w found in
        let b = back f z there in
        is.once e f a.v b.v conn side a.there b.there (sym (test_like a.v.object w.object a.object (is_end conn side) (end_shape conn side)) ∙ ends)
        (sym (test_like b.v.object z.object b.object (is_end conn side) (end_shape conn side)) ∙ too);
    apart = λ conn has. is.apart conn (sym (any_like (is_end conn 1) (end_shape conn 1)) ∙ has);
    opened = λ conn channel side joined low. is.opened conn channel side joined low ∙ sym (named_like listeners conn side);
  }

  pub like_listeners : (listeners : Listeners) (channels : Channels) → AreListeners descriptions listeners channels → AreListeners (map.insert descriptions d y) listeners channels
  like_listeners listeners channels is = record {
    each = is.each;
    described = λ address. is.described address ∙ sym (any_like (is_listener_at address) (listener_shape address));
    apart = is.apart;
  }

  pub like_addresses : AreAddresses descriptions → AreAddresses (map.insert descriptions d y)
  like_addresses is = record {
    each = λ e w found. let was = back e w found in addressed_like was.v.object w.object was.object (is.each e was.v was.there);
    apart = λ e f w z address found there at too.
        let a = back e w found in
        let b = back f z there in
        is.apart e f a.v b.v address a.there b.there (sym (test_like a.v.object w.object a.object bound_at bound_shape) ∙ at)
        (sym (test_like b.v.object z.object b.object bound_at bound_shape) ∙ too);
  }

  pub like_hosts : (makers : Makers) (descriptors : Descriptors) (listeners : Listeners) (channels : Channels) → AreHosts makers descriptors descriptions listeners channels
      → AreHosts makers descriptors (map.insert descriptions d y) listeners channels
  like_hosts makers descriptors listeners channels is = record {
    held = λ a z description host held found at.
        let was = back z.desc description found in
        is.held a z was.v host held was.there (sym (test_like was.v.object description.object was.object (host_of_object channels) (host_shape channels)) ∙ at);
    pending = is.pending;
  }

  datagram_again : (e : DescId) → is_datagram_in (map.get descriptions e) ≡ is_datagram_in (map.get (map.insert descriptions d y) e)
  datagram_again e = ⊎_elim
      (λ (here : e ≡ d). subst (λ r. is_datagram_in (map.get descriptions r) ≡ is_datagram_in (map.get (map.insert descriptions d y) r)) (sym here)
      (ap is_datagram_in known ∙ sym (test_like x.object y.object like is_datagram datagram_shape) ∙ ap is_datagram_in (sym (get_insert_same desc_total desc_exact descriptions d y))))
      (λ (other : e ≢ d). ap is_datagram_in (sym (get_insert_other desc_total desc_exact descriptions d y e other)))
      (same_or_other desc_total desc_exact e d)

  pub like_inboxes : (inboxes : Inboxes) → AreInboxes descriptions inboxes → AreInboxes (map.insert descriptions d y) inboxes
  like_inboxes inboxes is = record {
    same = λ e. is.same e ∙ datagram_again e;
    other = λ e w found. let was = back e w found in test_like was.v.object w.object was.object (knows e) (knows_shape e) ∙ is.other e was.v was.there;
    paired = λ e f w z found there knows_it.
        let a = back e w found in
        let b = back f z there in
        test_like b.v.object z.object b.object (knows e) (knows_shape e)
        ∙ is.paired e f a.v b.v a.there b.there (sym (test_like a.v.object w.object a.object (knows f) (knows_shape f)) ∙ knows_it);
    once = λ e f peer w z found there knows_it too.
        let a = back e w found in
        let b = back f z there in
        is.once e f peer a.v b.v a.there b.there (sym (test_like a.v.object w.object a.object (knows peer) (knows_shape peer)) ∙ knows_it)
        (sym (test_like b.v.object z.object b.object (knows peer) (knows_shape peer)) ∙ too);
    messages = is.messages;
  }

  pub like_counters : IsCounter y.object → AreCounters descriptions → AreCounters (map.insert descriptions d y)
  like_counters counts is = record { each = each_with desc_total desc_exact (λ e (w : Description). IsCounter w.object) descriptions d y counts (λ e w other found. is.each e w found) }
