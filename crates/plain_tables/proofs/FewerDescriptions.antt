-- A descriptor closes, and with the last one its description is gone: what is said of the others stays.
--     held_keeps_..      while another descriptor refers to the description      last_keeps_..      where none does
use Rattle.std.proofs.Common.{◌≡◌, ◌≢◌, ℕ, Bool, true, false, refl, sym, ap, subst, ◌∙◌, ⊎_elim}
use Rattle.std.specs.Prelude.{◌||◌, Option, Some, None, is_some}
use Rattle.std.specs.List.{list_any}
use Rattle.std.specs.FinMap as map
use Rattle.plain_process.proofs.OfViews.MapLaws.{get_remove_same, get_remove_other, same_or_other, key_tied, same_key, true_false}
use Rattle.plain_process.proofs.OfViews.MapValues.{some_among-values}
use Rattle.id_maps.specs.OfSysAbi.declared.identity.Slot.{Slot}
use Rattle.id_maps.specs.OfSysAbi.declared.identity.DescId.{DescId}
use Rattle.id_maps.specs.OfSysAbi.declared.identity.ConnId.{ConnId}
use Rattle.id_maps.proofs.OfSysAbi.OrderLaws.{slot_total, slot_exact, desc_total, desc_exact}
use Rattle.id_maps.specs.OfSysAbi.declared.descriptor.Descriptor.{Descriptor}
use Rattle.plain_tables.specs.declared.description.Description.{Description}
use Rattle.plain_tables.specs.declared.description.Object.{Object}
use Rattle.plain_tables.specs.declared.channel.Channel.{Channel}
use Rattle.plain_tables.specs.Tables.{Names, Files, Processes, Makers, Descriptors, Descriptions, Channels, Listeners, Inboxes, refers_to, is_held}
use Rattle.plain_tables.specs.Objects.{is_file, is_datagram, has_name, host_of_object}
use Rattle.plain_tables.specs.Valid.Files.{AreOpenFiles}
use Rattle.plain_tables.specs.Valid.Descriptions.{AreDescriptors, AreDescriptions, AreHolders, AreMade, IsMade}
use Rattle.plain_tables.specs.Valid.Sockets.{AreAddresses, AreHosts, has_host}
use Rattle.plain_tables.specs.Valid.Datagrams.{AreInboxes, AreCounters, is_datagram_in}
use Rattle.plain_tables.proofs.Entries.{any_kept, same_any, still_there, not_removed}

module _ (descriptors : Descriptors) (at : Slot) (descriptor : Descriptor) (there : map.get descriptors at ≡ Some descriptor) where
  left : Descriptors
  left = map.remove descriptors at

  was : (q : Slot) (d : Descriptor) → map.get (map.remove descriptors at) q ≡ Some d → map.get descriptors q ≡ Some d
  was q d found = still_there slot_total slot_exact descriptors at q d found

  -- a description that another descriptor refers to is still held
  pub held_after : (d : DescId) → d ≢ descriptor.desc → is_held descriptors d ≡ true → is_held (map.remove descriptors at) d ≡ true
  unfolding is_held
  held_after d other held = any_kept slot_total slot_exact (refers_to d) descriptors (map.remove descriptors at)
      (λ q x found refers. (
        x,
        get_remove_other slot_total slot_exact descriptors at q (λ here.
            let same : x ≡ descriptor = let one = subst (λ r. map.get descriptors r ≡ Some x) here found in cc in
            other (same_key desc_total desc_exact d x.desc refers ∙ ap (λ (y : Descriptor). y.desc) same)) ∙ found,
        refers,
      ))
      held

  refers_held : (q : Slot) (d : Descriptor) → map.get (map.remove descriptors at) q ≡ Some d → is_held (map.remove descriptors at) d.desc ≡ true
  unfolding is_held
  refers_held q d found = some_among-values slot_total slot_exact (refers_to d.desc) (map.remove descriptors at) q d found (key_tied desc_total desc_exact d.desc)

  -- another descriptor refers to it
  pub held_keeps_descriptors : (processes : Processes) (descriptions : Descriptions) → AreDescriptors processes descriptions descriptors → AreDescriptors processes descriptions (map.remove descriptors at)
  held_keeps_descriptors processes descriptions is = record {
    number = λ q d found. is.number q d (was q d found);
    alive = λ q d found. is.alive q d (was q d found);
    described = λ q d found. is.described q d (was q d found);
  }

  pub held_keeps_descriptions : (descriptions : Descriptions) → is_held (map.remove descriptors at) descriptor.desc ≡ true → AreDescriptions descriptors descriptions → AreDescriptions (map.remove descriptors at) descriptions
  held_keeps_descriptions descriptions held is = record {
    held = λ d x found. ⊎_elim
        (λ here. subst (λ e. is_held (map.remove descriptors at) e ≡ true) (sym here) held)
        (λ other. held_after d other (is.held d x found))
        (same_or_other desc_total desc_exact d descriptor.desc);
    flags = is.flags;
  }

  pub held_keeps_holders : (processes : Processes) (makers : Makers) (descriptions : Descriptions) → AreHolders processes makers descriptors descriptions → AreHolders processes makers (map.remove descriptors at) descriptions
  held_keeps_holders processes makers descriptions is = record {
    host = λ a b x y found too same. is.host a b x y (was a x found) (was b y too) same;
    owner = λ a x description found known. is.owner a x description (was a x found) known;
  }

  pub held_keeps_hosts : (makers : Makers) (descriptions : Descriptions) (listeners : Listeners) (channels : Channels) → AreHosts makers descriptors descriptions listeners channels
      → AreHosts makers (map.remove descriptors at) descriptions listeners channels
  held_keeps_hosts makers descriptions listeners channels is = record {
    held = λ a x description host found known on. is.held a x description host (was a x found) known on;
    pending = is.pending;
  }

  -- none does
  module _ (descriptions : Descriptions) (last : is_held (map.remove descriptors at) descriptor.desc ≡ false) where
    still : (d : DescId) (x : Description) → map.get (map.remove descriptions descriptor.desc) d ≡ Some x → map.get descriptions d ≡ Some x
    still d x found = still_there desc_total desc_exact descriptions descriptor.desc d x found

    apart : (q : Slot) (d : Descriptor) → map.get (map.remove descriptors at) q ≡ Some d → d.desc ≢ descriptor.desc
    apart q d found same = true_false (sym (refers_held q d found) ∙ ap (is_held (map.remove descriptors at)) same ∙ last)

    pub last_keeps_descriptors : (processes : Processes) → AreDescriptors processes descriptions descriptors → AreDescriptors processes (map.remove descriptions descriptor.desc) (map.remove descriptors at)
    last_keeps_descriptors processes is = record {
      number = λ q d found. is.number q d (was q d found);
      alive = λ q d found. is.alive q d (was q d found);
      described = λ q d found. ap is_some (get_remove_other desc_total desc_exact descriptions descriptor.desc d.desc (apart q d found)) ∙ is.described q d (was q d found);
    }

    pub last_keeps_descriptions : AreDescriptions descriptors descriptions → AreDescriptions (map.remove descriptors at) (map.remove descriptions descriptor.desc)
    last_keeps_descriptions is = record {
      held = λ d x found. held_after d (not_removed desc_total desc_exact descriptions descriptor.desc d x found) (is.held d x (still d x found));
      flags = λ d x found. is.flags d x (still d x found);
    }

    pub last_keeps_holders : (processes : Processes) (makers : Makers) → AreHolders processes makers descriptors descriptions → AreHolders processes makers (map.remove descriptors at) (map.remove descriptions descriptor.desc)
    last_keeps_holders processes makers is = record {
      host = λ a b x y found too same. is.host a b x y (was a x found) (was b y too) same;
      owner = λ a x description found known. is.owner a x description (was a x found) (still x.desc description known);
    }

    -- hosts, where listeners and addresses of channels are those that were there
    pub last_keeps_hosts : (makers : Makers) (listeners : Listeners) (channels after : Channels) → ((object : Object) (host : ℕ) → host_of_object after object ≡ Some host → host_of_object channels object ≡ Some host)
        → AreHosts makers descriptors descriptions listeners channels
        → (a : Slot) (x : Descriptor) (description : Description) (host : ℕ) → map.get (map.remove descriptors at) a ≡ Some x → map.get (map.remove descriptions descriptor.desc) x.desc ≡ Some description
        → host_of_object after description.object ≡ Some host → has_host (map.get makers a.pid) host ≡ true
    last_keeps_hosts makers listeners channels after same is a x description host found known on = is.held a x description host (was a x found) (still x.desc description known) (same description.object host on)

-- a description is gone
module _ (descriptions : Descriptions) (d : DescId) (x : Description) (known : map.get descriptions d ≡ Some x) where
  gone : (e : DescId) (y : Description) → map.get (map.remove descriptions d) e ≡ Some y → map.get descriptions e ≡ Some y
  gone e y found = still_there desc_total desc_exact descriptions d e y found

  -- a test which its object did not pass tells the same
  pub any_without : (test : Object → Bool) → test x.object ≡ false → list_any (λ (y : Description). test y.object) (map.values (map.remove descriptions d)) ≡ list_any (λ (y : Description). test y.object) (map.values descriptions)
  any_without test refuses = same_any desc_total desc_exact (λ (y : Description). test y.object) descriptions (map.remove descriptions d)
      (λ e y found passes. (
        y,
        get_remove_other desc_total desc_exact descriptions d e (λ here.
            let same : y ≡ x = let one = subst (λ r. map.get descriptions r ≡ Some y) here found in cc in
            true_false (sym passes ∙ ap (λ (z : Description). test z.object) same ∙ refuses)) ∙ found,
        passes,
      ))
      (λ e y found passes. (y, gone e y found, passes))

  pub without_keeps_made : (next_id : ℕ) (processes : Processes) (makers : Makers) (channels after : Channels) → ((conn : ConnId) → is_some (map.get after conn) ≡ true → is_some (map.get channels conn) ≡ true)
      → AreMade next_id processes makers descriptions channels → AreMade next_id processes makers (map.remove descriptions d) after
  without_keeps_made next_id processes makers channels after fewer is = record {
    opened = λ e y found. is.opened e y (gone e y found);
    peers = λ e y found. is.peers e y (gone e y found);
    joined = λ conn channel found. joined_by conn (map.get channels conn) refl (fewer conn (ap is_some found));
  }
    where
      joined_by : (conn : ConnId) (found : Option Channel) → map.get channels conn ≡ found → is_some found ≡ true → IsMade next_id processes makers conn.pid conn.num
      joined_by conn None none there = true_false (sym there)
      joined_by conn (Some channel) found there = is.joined conn channel found

  pub without_keeps_addresses : AreAddresses descriptions → AreAddresses (map.remove descriptions d)
  without_keeps_addresses is = record {
    each = λ e y found. is.each e y (gone e y found);
    apart = λ e f y z address found too at same. is.apart e f y z address (gone e y found) (gone f z too) at same;
  }

  pub without_keeps_counters : AreCounters descriptions → AreCounters (map.remove descriptions d)
  without_keeps_counters is = record { each = λ e y found. is.each e y (gone e y found) }

  pub without_keeps_open_files : (names : Names) (files : Files) → ((number : ℕ) → is_file number x.object ≡ false) → AreOpenFiles names files descriptions → AreOpenFiles names files (map.remove descriptions d)
  without_keeps_open_files names files no_file is = record {
    there = λ e y found. is.there e y (gone e y found);
    kept = λ number bytes found. ap (λ b. has_name names number || b) (any_without (is_file number) (no_file number)) ∙ is.kept number bytes found;
  }

  pub without_keeps_inboxes : (inboxes : Inboxes) → is_datagram x.object ≡ false → AreInboxes descriptions inboxes → AreInboxes (map.remove descriptions d) inboxes
  without_keeps_inboxes inboxes other is = record {
    same = λ e. ⊎_elim
        (λ here. subst (λ r. is_some (map.get inboxes r) ≡ is_datagram_in (map.get (map.remove descriptions d) r)) (sym here)
        (is.same d ∙ ap is_datagram_in known ∙ other ∙ sym (ap is_datagram_in (get_remove_same desc_total desc_exact descriptions d))))
        (λ apart. is.same e ∙ sym (ap is_datagram_in (get_remove_other desc_total desc_exact descriptions d e apart)))
        (same_or_other desc_total desc_exact e d);
    other = λ e y found. is.other e y (gone e y found);
    paired = λ e f y z found too knows. is.paired e f y z (gone e y found) (gone f z too) knows;
    once = λ e f peer y z found too knows also. is.once e f peer y z (gone e y found) (gone f z too) knows also;
    messages = is.messages;
  }

  pub without_inbox : (inboxes : Inboxes) → AreInboxes descriptions inboxes → AreInboxes (map.remove descriptions d) (map.remove inboxes d)
  without_inbox inboxes is = record {
    same = λ e. ⊎_elim
        (λ here. subst (λ r. is_some (map.get (map.remove inboxes d) r) ≡ is_datagram_in (map.get (map.remove descriptions d) r)) (sym here)
        (ap is_some (get_remove_same desc_total desc_exact inboxes d) ∙ sym (ap is_datagram_in (get_remove_same desc_total desc_exact descriptions d))))
        (λ apart. ap is_some (get_remove_other desc_total desc_exact inboxes d e apart) ∙ is.same e ∙ sym (ap is_datagram_in (get_remove_other desc_total desc_exact descriptions d e apart)))
        (same_or_other desc_total desc_exact e d);
    other = λ e y found. is.other e y (gone e y found);
    paired = λ e f y z found too knows. is.paired e f y z (gone e y found) (gone f z too) knows;
    once = λ e f peer y z found too knows also. is.once e f peer y z (gone e y found) (gone f z too) knows also;
    messages = λ e messages found. is.messages e messages (still_there desc_total desc_exact inboxes d e messages found);
  }
