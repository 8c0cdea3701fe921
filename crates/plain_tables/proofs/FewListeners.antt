-- There are at most 32,768 listeners: each has a description, each description a descriptor, and each of at
-- most 128
-- processes has at most 256 descriptors.
--     few_descriptors, few_descriptions, few_listeners
use Rattle.std.proofs.Common.{◌≡◌, ℕ, ◌*◌, ◌≤◌, Bool, true, false, refl, sym, ap, ◌∙◌, subst, arith}
use Rattle.std.specs.Prelude.{Option, Some, None, is_some}
use Rattle.std.specs.Ordering.{eq_by_cmp}
use Rattle.std.specs.FinMap as map
use Rattle.std.proofs.lemmas.Option.{same_Some}
use Rattle.plain_process.proofs.OfViews.MapLaws.{true_false, same_key}
use Rattle.plain_process.proofs.OfViews.Counting.{led_into, of_pairs, found_among}
use Rattle.id_maps.specs.OfSysAbi.declared.identity.VPid.{VPid}
use Rattle.id_maps.specs.OfSysAbi.declared.identity.Slot.{Slot}
use Rattle.id_maps.specs.OfSysAbi.declared.identity.DescId.{DescId}
use Rattle.id_maps.specs.OfSysAbi.declared.identity.VirtAddr.{VirtAddr}
use Rattle.id_maps.specs.OfSysAbi.declared.descriptor.Descriptor.{Descriptor}
use Rattle.id_maps.specs.OfSysAbi.Orders.{desc_cmp}
use Rattle.id_maps.proofs.OfSysAbi.OrderLaws.{vpid_total, vpid_exact, slot_total, slot_exact, desc_total, desc_exact}
use Rattle.id_maps.proofs.OfSysAbi.OrderLaws.{address_total, address_exact}
use Rattle.plain_tables.specs.declared.process.Process.{Process}
use Rattle.plain_tables.specs.declared.description.Description.{Description}
use Rattle.plain_tables.specs.declared.description.Object.{Object}
use Rattle.plain_tables.specs.declared.description.Object.TheVariants.{Console, File, Stream, Socket}
use Rattle.plain_tables.specs.declared.description.Object.TheVariants.{Listener, Datagram, Counter}
use Rattle.plain_tables.specs.Tables.{Processes, Descriptors, Descriptions, Channels, Listeners, slot}
use Rattle.plain_tables.specs.Tables.{is_live_process, refers_to, is_held}
use Rattle.plain_tables.specs.Objects.{is_listener_at}
use Rattle.plain_tables.specs.Valid.Processes.{AreProcesses}
use Rattle.plain_tables.specs.Valid.Descriptions.{AreDescriptors, AreDescriptions}
use Rattle.plain_tables.specs.Valid.Sockets.{AreListeners}

live_there : (found : Option Process) → is_live_process found ≡ true → is_some found ≡ true
live_there None live = live
live_there (Some process) live = refl

-- a listener's object names its address
one_address : (a b : VirtAddr) (o : Object) → is_listener_at a o ≡ true → is_listener_at b o ≡ true → a ≡ b
one_address a b (Listener at) is_a is_b =
    same_key address_total address_exact a at is_a ∙ sym (same_key address_total address_exact b at is_b)
one_address a b Console is_a is_b = true_false (sym is_a)
one_address a b (File number offset) is_a is_b = true_false (sym is_a)
one_address a b (Stream conn side) is_a is_b = true_false (sym is_a)
one_address a b (Socket at) is_a is_b = true_false (sym is_a)
one_address a b (Datagram peer) is_a is_b = true_false (sym is_a)
one_address a b (Counter value) is_a is_b = true_false (sym is_a)

module _ (next_id : ℕ) (processes : Processes) (descriptors : Descriptors) (descriptions : Descriptions)
    (listeners : Listeners) (channels : Channels) (are_processes : AreProcesses next_id processes)
    (are_descriptors : AreDescriptors processes descriptions descriptors)
    (are_descriptions : AreDescriptions descriptors descriptions)
    (are_listeners : AreListeners descriptions listeners channels) where
  pub few_descriptors : map.len descriptors ≤ 32768
  few_descriptors =
      let each =
      of_pairs slot_total slot_exact vpid_total vpid_exact (λ at. at.pid) (λ at. at.fd)
      (λ a b pid fd. (λ i. slot (pid i) (fd i))) processes 256 descriptors
      (λ at d is.
      (live_there (map.get processes at.pid) (are_descriptors.alive at d is), are_descriptors.number at d is)) in
      let few = are_processes.count in
      omega (arith, each, few)

  abbrev IsOf : DescId → Slot → Type 0
  IsOf d at = (x : Descriptor) × ((map.get descriptors at ≡ Some x) × (refers_to d x ≡ true))

  one_description : (d e : DescId) (at : Slot) → IsOf d at → IsOf e at → d ≡ e
  one_description d e at of_d of_e =
      let same : of_d.0 ≡ of_e.0 = same_Some _ _ (sym of_d.1.0 ∙ of_e.1.0) in
      same_key desc_total desc_exact d of_d.0.desc of_d.1.1
      ∙ ap (λ (x : Descriptor). x.desc) same ∙ sym (same_key desc_total desc_exact e of_e.0.desc of_e.1.1)

  held_at : (d : DescId) → is_held descriptors d ≡ true
      → (at : Slot) × ((is_some (map.get descriptors at) ≡ true) × IsOf d at)
  unfolding is_held
  held_at d held =
      let found = found_among slot_total slot_exact (refers_to d) descriptors held in
      (found.0, (ap is_some found.1.1.0, (found.1.0, found.1.1)))

  pub few_descriptions : map.len descriptions ≤ map.len descriptors
  few_descriptions =
      led_into desc_total desc_exact slot_total slot_exact IsOf one_description descriptions descriptors
      (λ d x is. held_at d (are_descriptions.held d x is))

  abbrev IsAt : VirtAddr → DescId → Type 0
  IsAt a d = (x : Description) × ((map.get descriptions d ≡ Some x) × (is_listener_at a x.object ≡ true))

  one_listener : (a b : VirtAddr) (d : DescId) → IsAt a d → IsAt b d → a ≡ b
  one_listener a b d at_a at_b =
      let same : at_a.0 ≡ at_b.0 = same_Some _ _ (sym at_a.1.0 ∙ at_b.1.0) in
      one_address a b at_b.0.object
      (subst (λ (x : Description). is_listener_at a x.object ≡ true) same at_a.1.1) at_b.1.1

  described_at : (a : VirtAddr) → is_some (map.get listeners a) ≡ true
      → (d : DescId) × ((is_some (map.get descriptions d) ≡ true) × IsAt a d)
  described_at a there =
      let found =
      found_among desc_total desc_exact (λ (x : Description). is_listener_at a x.object) descriptions
      (sym (are_listeners.described a) ∙ there) in
      (found.0, (ap is_some found.1.1.0, (found.1.0, found.1.1)))

  pub few_listeners : map.len listeners ≤ 32768
  few_listeners =
      let led =
      led_into address_total address_exact desc_total desc_exact IsAt one_listener listeners descriptions
      (λ a x is. described_at a (ap is_some is)) in
      let next = few_descriptions in
      let last = few_descriptors in
      omega (arith, led, next, last)
