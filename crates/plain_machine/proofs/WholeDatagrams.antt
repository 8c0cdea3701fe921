-- The kernel part stays whole where a process makes a pair of datagram ends, and where the messages at an end change.
--     whole_datagrams      whole_inbox
use Rattle.std.proofs.Common.{◌≡◌, ◌≢◌, ℕ, ◌+◌, ◌<◌, Bool, true, false, List, [], refl, sym, ap, subst, ◌∙◌, arith, ⊎_elim}
use Rattle.std.specs.Prelude.{Option, Some, None, is_some}
use Rattle.std.specs.Ordering.{eq_by_cmp}
use Rattle.std.specs.FinMap as map
use Rattle.std.proofs.lemmas.List.Elements.{All-nil}
use Rattle.plain_tables.proofs.OfViews.MapLaws.{get_insert_same, get_insert_other, same_or_other, key_tied, same_key, true_false}
use Rattle.plain_tables.specs.OfSysAbi.declared.identity.VPid.{VPid}
use Rattle.plain_tables.specs.OfSysAbi.declared.identity.DescId.{DescId}
use Rattle.plain_tables.specs.OfSysAbi.declared.identity.Slot.{Slot}
use Rattle.plain_tables.specs.OfSysAbi.Orders.{desc_cmp}
use Rattle.plain_tables.proofs.OfSysAbi.OrderLaws.{desc_total, desc_exact, slot_total, slot_exact}
use Rattle.plain_machine.specs.declared.kernel.PlainKernel.{PlainKernel}
use Rattle.plain_tables.specs.OfSysAbi.declared.maker.Maker.{Maker}
use Rattle.plain_tables.specs.OfSysAbi.declared.descriptor.Descriptor.{Descriptor}
use Rattle.plain_tables.specs.declared.description.Description.{Description}
use Rattle.plain_tables.specs.declared.description.Object.{Object}
use Rattle.plain_tables.specs.declared.description.Object.TheVariants.{Datagram}
use Rattle.plain_tables.specs.Tables.{Descriptions, Inboxes, slot}
use Rattle.plain_tables.specs.Objects.{knows}
use Rattle.plain_tables.specs.Valid.Descriptions.{AreFlags, IsMade}
use Rattle.plain_tables.specs.Valid.Datagrams.{AreInboxes, IsInbox, is_datagram_in}
use Rattle.plain_machine.specs.Kernel.{is_live, made_of, has_numbers, numbered}
use Rattle.plain_machine.specs.Kernels.{IsKernel}
use Rattle.plain_machine.specs.Making.{desc_id, with_inbox, with_datagram, with_datagrams}
use Rattle.plain_tables.proofs.AddedDescriptions.{new_open_files, new_made, new_counters, new_streams, new_listeners, new_addresses, new_descriptors, new_descriptions, new_holders, new_hosts}
use Rattle.plain_tables.proofs.Entries.{each_with, there_same}
use Rattle.plain_machine.proofs.HeldDescriptors.{IsFreeFrom}
use Rattle.plain_machine.proofs.MadeNumbers.{number_made, whole_making}
use Rattle.plain_machine.proofs.WholePlaced.{host_itself, number_of}

-- other messages at an end

inboxes_with : (descriptions : Descriptions) (inboxes : Inboxes) (d : DescId) (messages : List (List ℕ)) → is_some (map.get inboxes d) ≡ true → IsInbox messages → AreInboxes descriptions inboxes
    → AreInboxes descriptions (map.insert inboxes d messages)
inboxes_with descriptions inboxes d messages there fits is = record {
  same = λ e. there_same desc_total desc_exact inboxes d messages e there ∙ is.same e;
  other = is.other;
  paired = is.paired;
  once = is.once;
  messages = each_with desc_total desc_exact (λ e some. IsInbox some) inboxes d messages fits (λ e some apart found. is.messages e some found);
}

pub whole_inbox : (k : PlainKernel) (d : DescId) (messages : List (List ℕ)) → IsKernel k → is_some (map.get k.inboxes d) ≡ true → IsInbox messages → IsKernel (with_inbox k d messages)
whole_inbox k d messages is there fits = record {
  numbers = is.numbers;
  processes = is.processes;
  makers = is.makers;
  parents = is.parents;
  files = is.files;
  open_files = is.open_files;
  descriptors = is.descriptors;
  descriptions = is.descriptions;
  holders = is.holders;
  made = is.made;
  channels = is.channels;
  streams = is.streams;
  listeners = is.listeners;
  addresses = is.addresses;
  hosts = is.hosts;
  inboxes = inboxes_with k.descriptions k.inboxes d messages there fits is.inboxes;
  counters = is.counters;
}

-- an end more

empty_inbox : IsInbox []
empty_inbox = record { count = omega arith; sizes = All-nil _; bytes = All-nil _ }

pub not_tied : (d e : DescId) → d ≢ e → eq_by_cmp desc_cmp d e ≡ false
not_tied d e apart = by_test (eq_by_cmp desc_cmp d e) refl
  where
    by_test : (b : Bool) → eq_by_cmp desc_cmp d e ≡ b → b ≡ false
    by_test true tied = absurd (apart (same_key desc_total desc_exact d e tied))
    by_test false other = refl

-- nobody knows its peer, and none but its peer, which does so if it is there, knows it
pub record MayJoin (descriptions : Descriptions) (d peer : DescId) : Type 0 where
  pub new : map.get descriptions d ≡ None
  pub apart : d ≢ peer
  pub peer_unknown : (e : DescId) (y : Description) → map.get descriptions e ≡ Some y → knows peer y.object ≡ false
  pub known_by : (e : DescId) (y : Description) → map.get descriptions e ≡ Some y → knows d y.object ≡ true → e ≡ peer
  pub known_back : (y : Description) → map.get descriptions peer ≡ Some y → knows d y.object ≡ true

module _ (descriptions : Descriptions) (d peer : DescId) (x : Description) (object : x.object ≡ Datagram peer) (may : MayJoin descriptions d peer) where
  its_peer : (e : DescId) → knows e x.object ≡ true → e ≡ peer
  its_peer e knows_it = same_key desc_total desc_exact e peer (ap (knows e) (sym object) ∙ knows_it)

  knows_peer : knows peer x.object ≡ true
  knows_peer = ap (knows peer) object ∙ key_tied desc_total desc_exact peer

  -- who knows whom afterwards
  pairs_new : (f : DescId) (z : Description) → map.get (map.insert descriptions d x) f ≡ Some z → f ≡ peer → knows d z.object ≡ true
  pairs_new f z found is_peer = may.known_back z
      (sym (get_insert_other desc_total desc_exact descriptions d x peer (λ same. may.apart (sym same))) ∙ subst (λ q. map.get (map.insert descriptions d x) q ≡ Some z) is_peer found)

  pub joined_inboxes : (inboxes : Inboxes) → AreInboxes descriptions inboxes → AreInboxes (map.insert descriptions d x) (map.insert inboxes d [])
  joined_inboxes inboxes is = record {
    same = λ e. ⊎_elim
        (λ here. subst (λ r. is_some (map.get (map.insert inboxes d []) r) ≡ is_datagram_in (map.get (map.insert descriptions d x) r)) (sym here)
        (ap is_some (get_insert_same desc_total desc_exact inboxes d []) ∙ sym (ap is_datagram_in (get_insert_same desc_total desc_exact descriptions d x) ∙ datagram x.object object)))
        (λ other. ap is_some (get_insert_other desc_total desc_exact inboxes d [] e other) ∙ is.same e ∙ sym (ap is_datagram_in (get_insert_other desc_total desc_exact descriptions d x e other)))
        (same_or_other desc_total desc_exact e d);
    other = each_with desc_total desc_exact (λ e y. knows e y.object ≡ false) descriptions d x (ap (knows d) object ∙ not_tied d peer may.apart) (λ e y other found. is.other e y found);
    paired = λ e f y z found too knows_it.
        each_with desc_total desc_exact (λ q w. knows f w.object ≡ true → knows q z.object ≡ true) descriptions d x
        (λ it. pairs_new f z too (its_peer f it))
        (λ q w other was it. each_with desc_total desc_exact (λ r v. knows r w.object ≡ true → knows q v.object ≡ true) descriptions d x
        (λ knows_new. subst (λ s. knows s x.object ≡ true) (sym (may.known_by q w was knows_new)) knows_peer)
        (λ r v apart_it was_it knows_old. is.paired q r w v was was_it knows_old)
        f z too it)
        e y found knows_it;
    once = λ e f known y z found too knows_it also.
        each_with desc_total desc_exact (λ q w. knows known w.object ≡ true → q ≡ f) descriptions d x
        (λ it. each_with desc_total desc_exact (λ r v. knows known v.object ≡ true → d ≡ r) descriptions d x (λ it_too. refl)
        (λ r v other was it_too. true_false (sym it_too ∙ ap (λ q. knows q v.object) (its_peer known it) ∙ may.peer_unknown r v was)) f z too also)
        (λ q w other was it. each_with desc_total desc_exact (λ r v. knows known v.object ≡ true → q ≡ r) descriptions d x
        (λ it_too. true_false (sym it ∙ ap (λ s. knows s w.object) (its_peer known it_too) ∙ may.peer_unknown q w was))
        (λ r v apart_it was_it it_too. is.once q r known w v was was_it it it_too) f z too also)
        e y found knows_it;
    messages = each_with desc_total desc_exact (λ e some. IsInbox some) inboxes d [] empty_inbox (λ e some other found. is.messages e some found);
  }
    where
      datagram : (o : Object) → o ≡ Datagram peer → is_datagram_in (Some (record x { object = o })) ≡ true
      datagram o same = ap (λ q. is_datagram_in (Some (record x { object = q }))) same

whole_joined : (k : PlainKernel) (p : VPid) (fd num peer : ℕ) (cloexec : Bool) (flags : ℕ) (maker : Maker) → IsKernel k → is_live k p ≡ true → fd < 256 → map.get k.descriptors (slot p fd) ≡ None
    → map.get k.makers p ≡ Some maker → num < maker.made → peer < maker.made → AreFlags flags → MayJoin k.descriptions (desc_id p num) (desc_id p peer) → IsKernel (with_datagram k p fd num peer cloexec flags)
unfolding is_live
whole_joined k p fd num peer cloexec flags maker is alive low free known below peer_below sound may =
    let d : DescId = desc_id p num in
    let descriptor : Descriptor = record { desc = d; cloexec = cloexec } in
    let x : Description = record { object = Datagram (desc_id p peer); flags = flags; owner = 0 } in
    let bound = is.makers.counts p maker known in
    let made : (n : ℕ) → n < maker.made → IsMade k.next_id k.processes k.makers p n = λ n less. record {
      known = number_of k is p alive;
      word = omega arith;
      below = λ m found lives. let same : maker ≡ m = cc in subst (λ (w : Maker). n < w.made) same less;
    } in
    record {
      numbers = is.numbers;
      processes = is.processes;
      makers = is.makers;
      parents = is.parents;
      files = is.files;
      open_files = new_open_files k.descriptions d x may.new k.names k.files tt is.open_files;
      descriptors = new_descriptors k.descriptors (slot p fd) descriptor free k.descriptions x may.new k.processes low alive is.descriptors;
      descriptions = new_descriptions k.descriptors (slot p fd) descriptor free k.descriptions x may.new sound is.descriptions;
      holders = new_holders k.descriptors (slot p fd) descriptor free k.descriptions x may.new k.processes k.makers (host_itself (map.get k.makers p) (ap is_some known)) refl is.descriptors is.holders;
      made = new_made k.descriptions d x may.new k.next_id k.processes k.makers k.channels (made num below) (made peer peer_below) is.made;
      channels = is.channels;
      streams = new_streams k.descriptions d x may.new (λ conn side. refl) (λ address. refl) k.listeners k.channels tt is.streams;
      listeners = new_listeners k.descriptions d x may.new (λ conn side. refl) (λ address. refl) k.listeners k.channels is.listeners;
      addresses = new_addresses k.descriptions d x may.new tt refl is.addresses;
      hosts = new_hosts k.descriptors (slot p fd) descriptor free k.descriptions x may.new k.processes k.makers k.listeners k.channels (λ host none. cc) is.descriptors is.hosts;
      inboxes = joined_inboxes k.descriptions d (desc_id p peer) x refl may k.inboxes is.inboxes;
      counters = new_counters k.descriptions d x may.new tt is.counters;
    }

pub whole_datagrams : (k : PlainKernel) (p : VPid) (cloexec : Bool) (flags fd other : ℕ) → IsKernel k → is_live k p ≡ true → has_numbers k p ≡ true → IsFreeFrom k.descriptors p 0 fd → IsFreeFrom k.descriptors p (fd + 1) other → AreFlags flags
    → IsKernel (with_datagrams k p cloexec flags fd other)
unfolding is_live
whole_datagrams k p cloexec flags fd other is alive has place place_other sound =
    let made = made_of k p in
    let d : DescId = desc_id p made in
    let e : DescId = desc_id p (made + 1) in
    let x : Description = record { object = Datagram e; flags = flags; owner = 0 } in
    let descriptor : Descriptor = record { desc = d; cloexec = cloexec } in
    let one = number_made k is p alive 2 made (omega arith) (omega arith) in
    let two = number_made k is p alive 2 (made + 1) (omega arith) (omega arith) in
    let below = one.below in
    let apart : d ≢ e = λ same. let number : made ≡ made + 1 = ap (λ (q : DescId). q.num) same in omega arith in
    let above = place_other.above in
    let slots : slot p other ≢ slot p fd = λ same. let number : other ≡ fd = ap (λ (q : Slot). q.fd) same in omega arith in
    let same_maker : two.maker ≡ one.maker = let first = one.known in let second = two.known in cc in
    let peer_below : made + 1 < one.maker.made = subst (λ (w : Maker). made + 1 < w.made) same_maker two.below in
    let first = whole_joined (numbered k p 2) p fd made (made + 1) cloexec flags one.maker (whole_making k is p alive 2 (omega arith) has) alive place.low place.free one.known below peer_below sound
    (record {
      new = one.new;
      apart = apart;
      peer_unknown = two.unknown;
      known_by = λ q y found it. true_false (sym it ∙ one.unknown q y found);
      known_back = λ y found. absurd (not_there (map.get k.descriptions e) y two.new found);
    }) in
    whole_joined (with_datagram (numbered k p 2) p fd made (made + 1) cloexec flags) p other (made + 1) made cloexec flags one.maker first alive place_other.low
    (get_insert_other slot_total slot_exact k.descriptors (slot p fd) descriptor (slot p other) slots ∙ place_other.free) one.known peer_below below sound
    (record {
      new = get_insert_other desc_total desc_exact k.descriptions d x e (λ same. apart (sym same)) ∙ two.new;
      apart = λ same. apart (sym same);
      peer_unknown = each_with desc_total desc_exact (λ q y. knows d y.object ≡ false) k.descriptions d x (not_tied d e apart) (λ q y away found. one.unknown q y found);
      known_by = each_with desc_total desc_exact (λ q y. knows e y.object ≡ true → q ≡ d) k.descriptions d x (λ it. refl) (λ q y away found it. true_false (sym it ∙ two.unknown q y found));
      known_back = λ y found. let same : x ≡ y = let put = get_insert_same desc_total desc_exact k.descriptions d x in cc in subst (λ (z : Description). knows e z.object ≡ true) same (key_tied desc_total desc_exact e);
    })
  where
    not_there : (found : Option Description) (y : Description) → found ≡ None → found ≡ Some y → ⊥
    not_there found y none some = cc
