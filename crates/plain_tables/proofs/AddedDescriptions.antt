-- A descriptor more: to a description that its process holds already, or to a new one of an object that no other table knows.
--     again_..      to one that it holds      new_..      to a new one
use Rattle.std.proofs.Common.{◌≡◌, ◌≢◌, ℕ, ◌<◌, Bool, true, false, refl, sym, ap, subst, ◌∙◌, inl, ⊎_elim}
use Rattle.std.specs.Prelude.{◌==◌, ◌&&◌, ◌||◌, Some, None, is_some}
use Rattle.std.specs.List.{list_any}
use Rattle.std.specs.FinMap as map
use Rattle.plain_process.proofs.OfViews.MapLaws.{get_insert_same, get_insert_other, same_or_other, key_tied, true_false}
use Rattle.plain_process.proofs.OfViews.MapValues.{some_among-values}
use Rattle.id_maps.specs.OfSysAbi.declared.identity.Slot.{Slot}
use Rattle.id_maps.specs.OfSysAbi.declared.identity.DescId.{DescId}
use Rattle.id_maps.specs.OfSysAbi.declared.identity.ConnId.{ConnId}
use Rattle.id_maps.specs.OfSysAbi.declared.identity.VirtAddr.{VirtAddr}
use Rattle.id_maps.proofs.OfSysAbi.OrderLaws.{slot_total, slot_exact, desc_total, desc_exact}
use Rattle.id_maps.specs.OfSysAbi.declared.descriptor.Descriptor.{Descriptor}
use Rattle.plain_tables.specs.declared.description.Description.{Description}
use Rattle.plain_tables.specs.declared.description.Object.{Object}
use Rattle.plain_tables.specs.Tables.{Names, Files, Processes, Makers, Descriptors, Descriptions, Channels, Listeners, Inboxes, lives_in, refers_to, is_held, same_host}
use Rattle.plain_tables.specs.Objects.{is_file, is_end, is_listener_at, is_datagram, knows, bound_at, has_name, has_open, is_pending, host_of_object}
use Rattle.plain_tables.specs.Valid.Files.{AreOpenFiles, IsOpenFile}
use Rattle.plain_tables.specs.Valid.Descriptions.{AreDescriptors, AreDescriptions, AreFlags, AreHolders, AreMade, IsMade, HasMadePeer, IsOwner}
use Rattle.plain_tables.specs.Valid.Channels.{AreStreams, IsStream}
use Rattle.plain_tables.specs.Valid.Sockets.{AreListeners, AreAddresses, IsAddressed, AreHosts, has_host}
use Rattle.plain_tables.specs.Valid.Datagrams.{AreInboxes, AreCounters, IsCounter, is_datagram_in}
use Rattle.plain_tables.proofs.Entries.{each_with, there_with, any_kept, same_any}

or_kept : (a b c : Bool) → (b ≡ true → c ≡ true) → (a || b) ≡ true → (a || c) ≡ true
or_kept true b c more is = refl
or_kept false b c more is = more is

none_some : {A : Type 0} (a : A) → None ≡ Some a → ⊥
none_some a same = cc

module _ (descriptors : Descriptors) (at : Slot) (descriptor : Descriptor) (free : map.get descriptors at ≡ None) where
  not_here : (q : Slot) (x : Descriptor) → map.get descriptors q ≡ Some x → q ≢ at
  not_here q x found here = let there : map.get descriptors at ≡ Some x = subst (λ r. map.get descriptors r ≡ Some x) here found in cc

  kept : (q : Slot) (x : Descriptor) → map.get descriptors q ≡ Some x → map.get (map.insert descriptors at descriptor) q ≡ Some x
  kept q x found = get_insert_other slot_total slot_exact descriptors at descriptor q (not_here q x found) ∙ found

  pub held_still : (d : DescId) → is_held descriptors d ≡ true → is_held (map.insert descriptors at descriptor) d ≡ true
  unfolding is_held
  held_still d held = any_kept slot_total slot_exact (refers_to d) descriptors (map.insert descriptors at descriptor) (λ q x found refers. (x, kept q x found, refers)) held

  pub held_now : is_held (map.insert descriptors at descriptor) descriptor.desc ≡ true
  unfolding is_held
  held_now = some_among-values slot_total slot_exact (refers_to descriptor.desc) (map.insert descriptors at descriptor) at descriptor (get_insert_same slot_total slot_exact descriptors at descriptor)
      (key_tied desc_total desc_exact descriptor.desc)

  -- to a description that another descriptor of the process refers to
  module _ (other : Slot) (y : Descriptor) (stands : map.get descriptors other ≡ Some y) (same : y.desc ≡ descriptor.desc) (own : other.pid ≡ at.pid) where
    pub again_descriptors : (processes : Processes) (descriptions : Descriptions) → at.fd < 256 → AreDescriptors processes descriptions descriptors → AreDescriptors processes descriptions (map.insert descriptors at descriptor)
    again_descriptors processes descriptions low is = record {
      number = each_with slot_total slot_exact (λ q x. q.fd < 256) descriptors at descriptor low (λ q x apart found. is.number q x found);
      alive = each_with slot_total slot_exact (λ q x. lives_in processes q.pid ≡ true) descriptors at descriptor (subst (λ p. lives_in processes p ≡ true) own (is.alive other y stands)) (λ q x apart found. is.alive q x found);
      described = each_with slot_total slot_exact (λ q x. is_some (map.get descriptions x.desc) ≡ true) descriptors at descriptor
          (subst (λ d. is_some (map.get descriptions d) ≡ true) same (is.described other y stands)) (λ q x apart found. is.described q x found);
    }

    pub again_descriptions : (descriptions : Descriptions) → AreDescriptions descriptors descriptions → AreDescriptions (map.insert descriptors at descriptor) descriptions
    again_descriptions descriptions is = record { held = λ d x found. held_still d (is.held d x found); flags = is.flags }

    pub again_holders : (processes : Processes) (makers : Makers) (descriptions : Descriptions) → AreHolders processes makers descriptors descriptions → AreHolders processes makers (map.insert descriptors at descriptor) descriptions
    again_holders processes makers descriptions is = record {
      host = λ a b x z found too alike.
          each_with slot_total slot_exact (λ q w. w.desc ≡ z.desc → same_host (map.get makers q.pid) (map.get makers b.pid) ≡ true) descriptors at descriptor
          (λ ties. each_with slot_total slot_exact (λ q w. descriptor.desc ≡ w.desc → same_host (map.get makers at.pid) (map.get makers q.pid) ≡ true) descriptors at descriptor
          (λ is_it. subst (λ p. same_host (map.get makers p) (map.get makers p) ≡ true) own (is.host other other y y stands stands refl))
          (λ q w apart was ties_it. subst (λ p. same_host (map.get makers p) (map.get makers q.pid) ≡ true) own (is.host other q y w stands was (same ∙ ties_it)))
          b z too ties)
          (λ q w apart was ties. each_with slot_total slot_exact (λ r v. w.desc ≡ v.desc → same_host (map.get makers q.pid) (map.get makers r.pid) ≡ true) descriptors at descriptor
          (λ ties_it. subst (λ p. same_host (map.get makers q.pid) (map.get makers p) ≡ true) own (is.host q other w y was stands (ties_it ∙ sym same)))
          (λ r v apart_it was_it ties_it. is.host q r w v was was_it ties_it)
          b z too ties)
          a x found alike;
      owner = λ a x description found known.
          each_with slot_total slot_exact (λ q w. map.get descriptions w.desc ≡ Some description → IsOwner processes makers q.pid description.owner) descriptors at descriptor
          (λ is_it. subst (λ p. IsOwner processes makers p description.owner) own (is.owner other y description stands (ap (map.get descriptions) same ∙ is_it)))
          (λ q w apart was is_it. is.owner q w description was is_it)
          a x found known;
    }

    pub again_hosts : (makers : Makers) (descriptions : Descriptions) (listeners : Listeners) (channels : Channels) → AreHosts makers descriptors descriptions listeners channels
        → AreHosts makers (map.insert descriptors at descriptor) descriptions listeners channels
    again_hosts makers descriptions listeners channels is = record {
      held = λ a x description host found known on.
          each_with slot_total slot_exact (λ q w. map.get descriptions w.desc ≡ Some description → has_host (map.get makers q.pid) host ≡ true) descriptors at descriptor
          (λ is_it. subst (λ p. has_host (map.get makers p) host ≡ true) own (is.held other y description host stands (ap (map.get descriptions) same ∙ is_it) on))
          (λ q w apart was is_it. is.held q w description host was is_it on)
          a x found known;
      pending = is.pending;
    }

-- a new description
module _ (descriptions : Descriptions) (d : DescId) (x : Description) (new : map.get descriptions d ≡ None) where
  not_new : (e : DescId) (y : Description) → map.get descriptions e ≡ Some y → e ≢ d
  not_new e y found here = let there : map.get descriptions d ≡ Some y = subst (λ r. map.get descriptions r ≡ Some y) here found in cc

  stays : (e : DescId) (y : Description) → map.get descriptions e ≡ Some y → map.get (map.insert descriptions d x) e ≡ Some y
  stays e y found = get_insert_other desc_total desc_exact descriptions d x e (not_new e y found) ∙ found

  -- a test that its object does not pass tells the same
  pub any_with : (test : Object → Bool) → test x.object ≡ false → list_any (λ (y : Description). test y.object) (map.values (map.insert descriptions d x)) ≡ list_any (λ (y : Description). test y.object) (map.values descriptions)
  any_with test refuses = same_any desc_total desc_exact (λ (y : Description). test y.object) descriptions (map.insert descriptions d x)
      (λ e y found passes. (y, stays e y found, passes))
      (λ e y found passes. each_with desc_total desc_exact (λ r v. test v.object ≡ true → (w : Description) × (map.get descriptions r ≡ Some w) × (test w.object ≡ true)) descriptions d x
      (λ some. true_false (sym some ∙ refuses)) (λ r v apart was some. (v, was, some)) e y found passes)

  pub new_open_files : (names : Names) (files : Files) → IsOpenFile files x.object → AreOpenFiles names files descriptions → AreOpenFiles names files (map.insert descriptions d x)
  new_open_files names files opened is = record {
    there = each_with desc_total desc_exact (λ e y. IsOpenFile files y.object) descriptions d x opened (λ e y apart found. is.there e y found);
    kept = λ number bytes found. or_kept (has_name names number) (has_open descriptions number) (has_open (map.insert descriptions d x) number)
        (any_kept desc_total desc_exact (λ (y : Description). is_file number y.object) descriptions (map.insert descriptions d x) (λ e y was passes. (y, stays e y was, passes)))
        (is.kept number bytes found);
  }

  pub new_made : (next_id : ℕ) (processes : Processes) (makers : Makers) (channels : Channels) → IsMade next_id processes makers d.pid d.num → HasMadePeer next_id processes makers x.object
      → AreMade next_id processes makers descriptions channels → AreMade next_id processes makers (map.insert descriptions d x) channels
  new_made next_id processes makers channels own peer is = record {
    opened = each_with desc_total desc_exact (λ e y. IsMade next_id processes makers e.pid e.num) descriptions d x own (λ e y apart found. is.opened e y found);
    peers = each_with desc_total desc_exact (λ e y. HasMadePeer next_id processes makers y.object) descriptions d x peer (λ e y apart found. is.peers e y found);
    joined = is.joined;
  }

  pub new_counters : IsCounter x.object → AreCounters descriptions → AreCounters (map.insert descriptions d x)
  new_counters counts is = record { each = each_with desc_total desc_exact (λ e y. IsCounter y.object) descriptions d x counts (λ e y apart found. is.each e y found) }

  -- of an object that no other table knows
  module _ (no_end : (conn : ConnId) (side : ℕ) → is_end conn side x.object ≡ false) (no_listener : (address : VirtAddr) → is_listener_at address x.object ≡ false) where
    pub new_streams : (listeners : Listeners) (channels : Channels) → IsStream channels x.flags x.object → AreStreams descriptions listeners channels → AreStreams (map.insert descriptions d x) listeners channels
    new_streams listeners channels streams is = record {
      each = each_with desc_total desc_exact (λ e y. IsStream channels y.flags y.object) descriptions d x streams (λ e y apart found. is.each e y found);
      once = λ e f y z c s found too ends also. old_end e y c s found ends (λ was. old_end f z c s too also (λ was_too. is.once e f y z c s was was_too ends also));
      apart = λ c has. is.apart c (sym (any_with (is_end c 1) (no_end c 1)) ∙ has);
      opened = λ c ch s found low. is.opened c ch s found low ∙ ap (λ b. b || ((s == 1) && is_pending listeners c)) (sym (any_with (is_end c s) (no_end c s)));
    }
      where
        old_end : {A : Type 0} (e : DescId) (y : Description) (c : ConnId) (s : ℕ) → map.get (map.insert descriptions d x) e ≡ Some y → is_end c s y.object ≡ true → (map.get descriptions e ≡ Some y → A) → A
        old_end {A} e y c s found ends go = each_with desc_total desc_exact (λ r v. is_end c s v.object ≡ true → (map.get descriptions r ≡ Some v → A) → A) descriptions d x
            (λ some then. true_false (sym some ∙ no_end c s)) (λ r v apart was some then. then was) e y found ends go

    pub new_listeners : (listeners : Listeners) (channels : Channels) → AreListeners descriptions listeners channels → AreListeners (map.insert descriptions d x) listeners channels
    new_listeners listeners channels is = record {
      each = is.each;
      described = λ address. is.described address ∙ sym (any_with (is_listener_at address) (no_listener address));
      apart = is.apart;
    }

  pub new_addresses : IsAddressed x.object → bound_at x.object ≡ None → AreAddresses descriptions → AreAddresses (map.insert descriptions d x)
  new_addresses addressed unbound is = record {
    each = each_with desc_total desc_exact (λ e y. IsAddressed y.object) descriptions d x addressed (λ e y apart found. is.each e y found);
    apart = λ e f y z address found too bound also. old_bound e y address found bound (λ was. old_bound f z address too also (λ was_too. is.apart e f y z address was was_too bound also));
  }
    where
      old_bound : {A : Type 0} (e : DescId) (y : Description) (address : VirtAddr) → map.get (map.insert descriptions d x) e ≡ Some y → bound_at y.object ≡ Some address → (map.get descriptions e ≡ Some y → A) → A
      old_bound {A} e y address found bound go = each_with desc_total desc_exact (λ r v. bound_at v.object ≡ Some address → (map.get descriptions r ≡ Some v → A) → A) descriptions d x
          (λ some then. absurd (none_some address (sym unbound ∙ some))) (λ r v apart was some then. then was) e y found bound go

  -- no datagram end
  pub new_inboxes : (inboxes : Inboxes) → is_datagram x.object ≡ false → ((e : DescId) → knows e x.object ≡ false) → ((e : DescId) (y : Description) → map.get descriptions e ≡ Some y → knows d y.object ≡ false)
      → AreInboxes descriptions inboxes → AreInboxes (map.insert descriptions d x) inboxes
  new_inboxes inboxes other knows_none unknown is = record {
    same = λ e. ⊎_elim
        (λ here. subst (λ r. is_some (map.get inboxes r) ≡ is_datagram_in (map.get (map.insert descriptions d x) r)) (sym here)
        (is.same d ∙ ap is_datagram_in new ∙ sym (ap is_datagram_in (get_insert_same desc_total desc_exact descriptions d x) ∙ other)))
        (λ apart. is.same e ∙ sym (ap is_datagram_in (get_insert_other desc_total desc_exact descriptions d x e apart)))
        (same_or_other desc_total desc_exact e d);
    other = each_with desc_total desc_exact (λ e y. knows e y.object ≡ false) descriptions d x (knows_none d) (λ e y apart found. is.other e y found);
    paired = λ e f y z found too pairs. old_peer e y f found pairs (λ was. each_with desc_total desc_exact (λ r v. r ≡ f → knows e v.object ≡ true) descriptions d x
        (λ here. absurd (not_peer e y f was pairs here))
        (λ r v apart was_too here. is.paired e r y v was was_too (ap (λ q. knows q y.object) here ∙ pairs)) f z too refl);
    once = λ e f peer y z found too pairs also. old_peer e y peer found pairs (λ was. old_peer f z peer too also (λ was_too. is.once e f peer y z was was_too pairs also));
    messages = is.messages;
  }
    where
      old_peer : {A : Type 0} (e : DescId) (y : Description) (peer : DescId) → map.get (map.insert descriptions d x) e ≡ Some y → knows peer y.object ≡ true → (map.get descriptions e ≡ Some y → A) → A
      old_peer {A} e y peer found pairs go = each_with desc_total desc_exact (λ r v. knows peer v.object ≡ true → (map.get descriptions r ≡ Some v → A) → A) descriptions d x
          (λ some then. true_false (sym some ∙ knows_none peer)) (λ r v apart was some then. then was) e y found pairs go

      not_peer : (e : DescId) (y : Description) (f : DescId) → map.get descriptions e ≡ Some y → knows f y.object ≡ true → d ≡ f → ⊥
      not_peer e y f was pairs here = true_false (sym (ap (λ q. knows q y.object) here ∙ pairs) ∙ unknown e y was)

-- and its first descriptor
module _ (descriptors : Descriptors) (at : Slot) (descriptor : Descriptor) (free : map.get descriptors at ≡ None) (descriptions : Descriptions) (x : Description) (new : map.get descriptions descriptor.desc ≡ None) where
  refers_not : (processes : Processes) → AreDescriptors processes descriptions descriptors → (q : Slot) (y : Descriptor) → map.get descriptors q ≡ Some y → y.desc ≢ descriptor.desc
  refers_not processes is q y found same = true_false (sym (is.described q y found) ∙ ap is_some (ap (map.get descriptions) same ∙ new))

  pub new_descriptors : (processes : Processes) → at.fd < 256 → lives_in processes at.pid ≡ true → AreDescriptors processes descriptions descriptors
      → AreDescriptors processes (map.insert descriptions descriptor.desc x) (map.insert descriptors at descriptor)
  new_descriptors processes low alive is = record {
    number = each_with slot_total slot_exact (λ q y. q.fd < 256) descriptors at descriptor low (λ q y apart found. is.number q y found);
    alive = each_with slot_total slot_exact (λ q y. lives_in processes q.pid ≡ true) descriptors at descriptor alive (λ q y apart found. is.alive q y found);
    described = each_with slot_total slot_exact (λ q y. is_some (map.get (map.insert descriptions descriptor.desc x) y.desc) ≡ true) descriptors at descriptor
        (ap is_some (get_insert_same desc_total desc_exact descriptions descriptor.desc x))
        (λ q y apart found. there_with desc_total desc_exact descriptions descriptor.desc x y.desc (is.described q y found));
  }

  pub new_descriptions : AreFlags x.flags → AreDescriptions descriptors descriptions → AreDescriptions (map.insert descriptors at descriptor) (map.insert descriptions descriptor.desc x)
  new_descriptions flags is = record {
    held = each_with desc_total desc_exact (λ d y. is_held (map.insert descriptors at descriptor) d ≡ true) descriptions descriptor.desc x (held_now descriptors at descriptor free)
        (λ d y apart found. held_still descriptors at descriptor free d (is.held d y found));
    flags = each_with desc_total desc_exact (λ d y. AreFlags y.flags) descriptions descriptor.desc x flags (λ d y apart found. is.flags d y found);
  }

  same_description : (d : DescId) (y : Description) → d ≢ descriptor.desc → map.get (map.insert descriptions descriptor.desc x) d ≡ Some y → map.get descriptions d ≡ Some y
  same_description d y apart found = sym (get_insert_other desc_total desc_exact descriptions descriptor.desc x d apart) ∙ found

  new_here : (y : Description) → map.get (map.insert descriptions descriptor.desc x) descriptor.desc ≡ Some y → x ≡ y
  new_here y found = let put = get_insert_same desc_total desc_exact descriptions descriptor.desc x in cc

  pub new_holders : (processes : Processes) (makers : Makers) → same_host (map.get makers at.pid) (map.get makers at.pid) ≡ true → x.owner ≡ 0 → AreDescriptors processes descriptions descriptors
      → AreHolders processes makers descriptors descriptions → AreHolders processes makers (map.insert descriptors at descriptor) (map.insert descriptions descriptor.desc x)
  new_holders processes makers itself nobody held is = record {
    host = λ a b y z found too alike.
        each_with slot_total slot_exact (λ q w. w.desc ≡ z.desc → same_host (map.get makers q.pid) (map.get makers b.pid) ≡ true) descriptors at descriptor
        (λ ties. each_with slot_total slot_exact (λ q w. descriptor.desc ≡ w.desc → same_host (map.get makers at.pid) (map.get makers q.pid) ≡ true) descriptors at descriptor
        (λ is_it. itself) (λ q w apart was ties_it. absurd (refers_not processes held q w was (sym ties_it))) b z too ties)
        (λ q w apart was ties. each_with slot_total slot_exact (λ r v. w.desc ≡ v.desc → same_host (map.get makers q.pid) (map.get makers r.pid) ≡ true) descriptors at descriptor
        (λ ties_it. absurd (refers_not processes held q w was ties_it)) (λ r v apart_it was_it ties_it. is.host q r w v was was_it ties_it) b z too ties)
        a y found alike;
    owner = λ a y description found known.
        each_with slot_total slot_exact (λ q w. map.get (map.insert descriptions descriptor.desc x) w.desc ≡ Some description → IsOwner processes makers q.pid description.owner) descriptors at descriptor
        (λ is_it. inl (ap (λ (z : Description). z.owner) (sym (new_here description is_it)) ∙ nobody))
        (λ q w apart was is_it. is.owner q w description was (same_description w.desc description (refers_not processes held q w was) is_it))
        a y found known;
  }

  pub new_hosts : (processes : Processes) (makers : Makers) (listeners : Listeners) (channels : Channels) → ((host : ℕ) → host_of_object channels x.object ≡ Some host → has_host (map.get makers at.pid) host ≡ true)
      → AreDescriptors processes descriptions descriptors → AreHosts makers descriptors descriptions listeners channels
      → AreHosts makers (map.insert descriptors at descriptor) (map.insert descriptions descriptor.desc x) listeners channels
  new_hosts processes makers listeners channels on_host held is = record {
    held = λ a y description host found known on.
        each_with slot_total slot_exact (λ q w. map.get (map.insert descriptions descriptor.desc x) w.desc ≡ Some description → has_host (map.get makers q.pid) host ≡ true) descriptors at descriptor
        (λ is_it. on_host host (ap (λ (z : Description). host_of_object channels z.object) (new_here description is_it) ∙ on))
        (λ q w apart was is_it. is.held q w description host was (same_description w.desc description (refers_not processes held q w was) is_it) on)
        a y found known;
    pending = is.pending;
  }
