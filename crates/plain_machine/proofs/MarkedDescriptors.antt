-- The kernel part stays whole where a descriptor has another mark for exec.
--     whole_marked
use Rattle.std.proofs.Common.{◌≡◌, ◌≢◌, ℕ, true, refl, sym, ap, subst, ◌∙◌, ⊎_elim}
use Rattle.std.specs.Prelude.{Some, is_some}
use Rattle.std.specs.Ordering.{eq_by_cmp}
use Rattle.std.specs.FinMap as map
use Rattle.plain_tables.proofs.OfViews.MapLaws.{get_insert_same, get_insert_other, same_or_other}
use Rattle.plain_tables.specs.OfSysAbi.declared.identity.VPid.{VPid}
use Rattle.plain_tables.specs.OfSysAbi.declared.identity.Slot.{Slot}
use Rattle.plain_tables.specs.OfSysAbi.declared.identity.DescId.{DescId}
use Rattle.plain_tables.specs.OfSysAbi.Orders.{desc_cmp}
use Rattle.plain_tables.proofs.OfSysAbi.OrderLaws.{slot_total, slot_exact}
use Rattle.plain_tables.specs.OfPlainProcess.Valid.{Each}
use Rattle.plain_machine.specs.declared.kernel.PlainKernel.{PlainKernel}
use Rattle.plain_tables.specs.OfSysAbi.declared.descriptor.Descriptor.{Descriptor}
use Rattle.plain_tables.specs.Tables.{Processes, Makers, Descriptors, Descriptions, Channels, Listeners, slot, refers_to, is_held}
use Rattle.plain_tables.specs.Valid.Descriptions.{AreDescriptors, AreDescriptions, AreHolders}
use Rattle.plain_tables.specs.Valid.Sockets.{AreHosts}
use Rattle.plain_machine.specs.Kernel.{with_descriptor}
use Rattle.plain_machine.specs.Kernels.{IsKernel}
use Rattle.plain_tables.proofs.Entries.{each_with, any_kept}

-- a descriptor that stood there, of the same description
record Referred (descriptors : Descriptors) (at : Slot) (now : Descriptor) : Type 0 where
  v : Descriptor
  there : map.get descriptors at ≡ Some v
  desc : now.desc ≡ v.desc

module _ (descriptors : Descriptors) (at : Slot) (old new : Descriptor) (known : map.get descriptors at ≡ Some old) (same : new.desc ≡ old.desc) where
  back : Each (map.insert descriptors at new) (Referred descriptors)
  back = each_with slot_total slot_exact (Referred descriptors) descriptors at new (record { v = old; there = known; desc = same })
      (λ q w other found. record { v = w; there = found; desc = refl })

  held_again : (d : DescId) → is_held descriptors d ≡ true → is_held (map.insert descriptors at new) d ≡ true
  unfolding is_held
  held_again d = any_kept slot_total slot_exact (refers_to d) descriptors (map.insert descriptors at new)
      (λ q w found refers. ⊎_elim
      (λ (here : q ≡ at).
      let there : map.get descriptors at ≡ Some w = subst (λ r. map.get descriptors r ≡ Some w) here found in
      let one : old ≡ w = cc in (
        new,
        subst (λ r. map.get (map.insert descriptors at new) r ≡ Some new) (sym here) (get_insert_same slot_total slot_exact descriptors at new),
        ap (eq_by_cmp desc_cmp d) same ∙ ap (refers_to d) one ∙ refers,
      ))
      (λ (other : q ≢ at). (w, get_insert_other slot_total slot_exact descriptors at new q other ∙ found, refers))
      (same_or_other slot_total slot_exact q at))

  marked_descriptors : (processes : Processes) (descriptions : Descriptions) → AreDescriptors processes descriptions descriptors → AreDescriptors processes descriptions (map.insert descriptors at new)
  marked_descriptors processes descriptions is = record {
    number = λ q w found. let was = back q w found in is.number q was.v was.there;
    alive = λ q w found. let was = back q w found in is.alive q was.v was.there;
    described = λ q w found. let was = back q w found in ap (λ d. is_some (map.get descriptions d)) was.desc ∙ is.described q was.v was.there;
  }

  marked_descriptions : (descriptions : Descriptions) → AreDescriptions descriptors descriptions → AreDescriptions (map.insert descriptors at new) descriptions
  marked_descriptions descriptions is = record { held = λ d x found. held_again d (is.held d x found); flags = is.flags }

  marked_holders : (processes : Processes) (makers : Makers) (descriptions : Descriptions) → AreHolders processes makers descriptors descriptions → AreHolders processes makers (map.insert descriptors at new) descriptions
  marked_holders processes makers descriptions is = record {
    host = λ a b x y found too alike.
        let was = back a x found in
        let other = back b y too in
        is.host a b was.v other.v was.there other.there (sym was.desc ∙ alike ∙ other.desc);
    owner = λ a x description found described. let was = back a x found in is.owner a was.v description was.there (ap (map.get descriptions) (sym was.desc) ∙ described);
  }

  marked_hosts : (makers : Makers) (descriptions : Descriptions) (listeners : Listeners) (channels : Channels) → AreHosts makers descriptors descriptions listeners channels
      → AreHosts makers (map.insert descriptors at new) descriptions listeners channels
  marked_hosts makers descriptions listeners channels is = record {
    held = λ a x description host found described on. let was = back a x found in is.held a was.v description host was.there (ap (map.get descriptions) (sym was.desc) ∙ described) on;
    pending = is.pending;
  }

-- another descriptor of the same description in the place of one
pub whole_marked : (k : PlainKernel) (p : VPid) (fd : ℕ) (old new : Descriptor) → IsKernel k → map.get k.descriptors (slot p fd) ≡ Some old → new.desc ≡ old.desc → IsKernel (with_descriptor k p fd new)
whole_marked k p fd old new is known same = record {
  numbers = is.numbers;
  processes = is.processes;
  makers = is.makers;
  parents = is.parents;
  files = is.files;
  open_files = is.open_files;
  descriptors = marked_descriptors k.descriptors (slot p fd) old new known same k.processes k.descriptions is.descriptors;
  descriptions = marked_descriptions k.descriptors (slot p fd) old new known same k.descriptions is.descriptions;
  holders = marked_holders k.descriptors (slot p fd) old new known same k.processes k.makers k.descriptions is.holders;
  made = is.made;
  channels = is.channels;
  streams = is.streams;
  listeners = is.listeners;
  addresses = is.addresses;
  hosts = marked_hosts k.descriptors (slot p fd) old new known same k.makers k.descriptions k.listeners k.channels is.hosts;
  inboxes = is.inboxes;
  counters = is.counters;
}
