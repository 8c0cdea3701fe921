-- The maps of a shared image's kernel part, item by item: what is found in a map is that of an item, and each item is found.
--     IsInOrder s      no two items of a list have one number, and no two have one name or are listeners at one address
--     file_item, name_item, ..      the item of what is found
--     item_file, item_name, ..      what is found of an item
use Rattle.std.proofs.Common.{◌≡◌, ℕ, List, [], ◌∷◌, inl, inr, refl, sym, ap, subst, ◌∙◌, ⊎_elim, arith}
use Rattle.std.specs.Prelude.{◌⊎◌, Some}
use Rattle.std.specs.Cmp.{nat_cmp_total}
use Rattle.std.specs.FinMap as map
use Rattle.std.specs.FinMap.{nat_cmp-IsAntisymmetric}
use Rattle.sys_abi.specs.declared.identity.VPid.{VPid}
use Rattle.sys_abi.specs.declared.identity.Slot.{Slot}
use Rattle.sys_abi.specs.declared.identity.DescId.{DescId}
use Rattle.sys_abi.specs.declared.identity.ConnId.{ConnId}
use Rattle.sys_abi.specs.declared.identity.Dir.{Dir}
use Rattle.sys_abi.specs.declared.identity.VirtAddr.{VirtAddr}
use Rattle.sys_abi.proofs.OrderLaws.{vpid_total, vpid_exact, slot_total, slot_exact, desc_total, desc_exact, conn_total, conn_exact, dir_total, dir_exact, address_total, address_exact, name_total, name_exact}
use Rattle.plain_tables.specs.declared.process.Process.{Process}
use Rattle.sys_abi.specs.declared.maker.Maker.{Maker}
use Rattle.plain_tables.specs.declared.description.Description.{Description}
use Rattle.sys_abi.specs.declared.descriptor.Descriptor.{Descriptor}
use Rattle.plain_tables.specs.declared.channel.Channel.{Channel}
use Rattle.plain_tables.specs.declared.channel.Direction.{Direction}
use Rattle.plain_tables.specs.declared.channel.Listening.{Listening}
use Rattle.plain_machine.specs.declared.kernel.PlainKernel.{PlainKernel}
use Rattle.shared_items.specs.declared.shared.FileImage.{FileImage}
use Rattle.shared_items.specs.declared.shared.ChannelImage.{ChannelImage}
use Rattle.shared_items.specs.declared.shared.DescriptionImage.{DescriptionImage}
use Rattle.shared_items.specs.declared.shared.ThreadEntry.{ThreadEntry}
use Rattle.shared_items.specs.declared.shared.DescriptorEntry.{DescriptorEntry}
use Rattle.shared_items.specs.declared.shared.ProcessEntry.{ProcessEntry}
use Rattle.shared_items.specs.declared.shared.Shared.{Shared}
use Rattle.image_codec.specs.KernelParts.{kernel_of, process_entry, maker_entry, descriptor_entry, descriptor_entries, signals_entry, description_entry, listening_of, file_entry, name_entry, channel_entry, direction_entry, direction_entries}
use Rattle.image_codec.proofs.Items.{IsItem, item_of_each, each_item, first_or_later, nothing_in, at_start, in_later}
use Rattle.image_codec.proofs.DistinctItems.{AreDistinct, each_there, each_found, filtered_there, filtered_found, flat_there, flat_found}

pub record IsInOrder (s : Shared) : Type 0 where
  pub files : AreDistinct (λ (f : FileImage). f.number) s.files
  pub names : (f g : FileImage) (name : List ℕ) (m n : ℕ) → IsItem s.files f → IsItem s.files g
      → name_entry f ≡ Some (name, m) → name_entry g ≡ Some (name, n) → f ≡ g
  pub channels : AreDistinct (λ (c : ChannelImage). c.id) s.channels
  pub descriptions : AreDistinct (λ (d : DescriptionImage). d.id) s.descriptions
  pub listeners : (d e : DescriptionImage) (address : VirtAddr) (x y : Listening) → IsItem s.descriptions d → IsItem s.descriptions e
      → listening_of d.object ≡ Some (address, x) → listening_of e.object ≡ Some (address, y) → d ≡ e
  pub processes : AreDistinct (λ (p : ProcessEntry). p.pid) s.processes
  pub descriptors : (p : ProcessEntry) → IsItem s.processes p → AreDistinct (λ (d : DescriptorEntry). d.number) p.descriptors
  pub threads : (p : ProcessEntry) → IsItem s.processes p → AreDistinct (λ (t : ThreadEntry). t.tid) p.threads

-- of two options that are the same
pub same_some : {X : Type 0} (x y : X) → Some x ≡ Some y → x ≡ y
same_some x y is = cc

module _ (s : Shared) where
  abbrev k : PlainKernel
  k = kernel_of s

  -- what is found is that of an item
  pub file_item : (number : ℕ) (bytes : List ℕ) → map.get k.files number ≡ Some bytes → (f : FileImage) × IsItem s.files f × (f.number ≡ number) × (f.bytes ≡ bytes)
  unfolding kernel_of
  file_item number bytes found =
      let (f, at, is) = each_found nat_cmp_total nat_cmp-IsAntisymmetric file_entry s.files number bytes found in
      (f, at, ap (λ (e : ℕ × List ℕ). e.0) is, ap (λ (e : ℕ × List ℕ). e.1) is)

  pub name_item : (name : List ℕ) (number : ℕ) → map.get k.names name ≡ Some number → (f : FileImage) × IsItem s.files f × (name_entry f ≡ Some (name, number))
  unfolding kernel_of
  name_item name number found = filtered_found name_total name_exact name_entry s.files name number found

  pub channel_item : (conn : ConnId) (channel : Channel) → map.get k.channels conn ≡ Some channel → (c : ChannelImage) × IsItem s.channels c × (channel_entry s.descriptions c ≡ (conn, channel))
  unfolding kernel_of
  channel_item conn channel found = each_found conn_total conn_exact (channel_entry s.descriptions) s.channels conn channel found

  pub direction_item : (at : Dir) (direction : Direction) → map.get k.directions at ≡ Some direction → (c : ChannelImage) × IsItem s.channels c × IsItem (direction_entries c) (at, direction)
  unfolding kernel_of
  direction_item at direction found = flat_found dir_total dir_exact direction_entries s.channels at direction found

  pub description_item : (d : DescId) (x : Description) → map.get k.descriptions d ≡ Some x → (it : DescriptionImage) × IsItem s.descriptions it × (description_entry it ≡ (d, x))
  unfolding kernel_of
  description_item d x found = each_found desc_total desc_exact description_entry s.descriptions d x found

  pub listener_item : (address : VirtAddr) (listening : Listening) → map.get k.listeners address ≡ Some listening
      → (it : DescriptionImage) × IsItem s.descriptions it × (listening_of it.object ≡ Some (address, listening))
  unfolding kernel_of
  listener_item address listening found = filtered_found address_total address_exact (λ (it : DescriptionImage). listening_of it.object) s.descriptions address listening found

  pub process_item : (p : VPid) (process : Process) → map.get k.processes p ≡ Some process → (e : ProcessEntry) × IsItem s.processes e × (process_entry e ≡ (p, process))
  unfolding kernel_of
  process_item p process found = each_found vpid_total vpid_exact process_entry s.processes p process found

  pub maker_item : (p : VPid) (maker : Maker) → map.get k.makers p ≡ Some maker → (e : ProcessEntry) × IsItem s.processes e × (maker_entry e ≡ (p, maker))
  unfolding kernel_of
  maker_item p maker found = each_found vpid_total vpid_exact maker_entry s.processes p maker found

  pub descriptor_item : (at : Slot) (x : Descriptor) → map.get k.descriptors at ≡ Some x
      → (e : ProcessEntry) × (d : DescriptorEntry) × IsItem s.processes e × IsItem e.descriptors d × (descriptor_entry e.pid d ≡ (at, x))
  unfolding kernel_of
  descriptor_item at x found =
      let (e, there, has) = flat_found slot_total slot_exact descriptor_entries s.processes at x found in
      let (d, in_it, is) = item_of_each (descriptor_entry e.pid) e.descriptors (at, x) has in
      (e, d, there, in_it, is)

-- the directions of a channel
direction_of : (c : ChannelImage) (at : Dir) (direction : Direction) → IsItem (direction_entries c) (at, direction)
    → ((at, direction) ≡ direction_entry c.id 0 c.first) ⊎ ((at, direction) ≡ direction_entry c.id 1 c.second)
direction_of c at direction is = ⊎_elim
    (λ first. inl (sym first))
    (λ rest. ⊎_elim (λ second. inr (sym second)) (λ none. absurd (nothing_in (at, direction) none)) (first_or_later (direction_entry c.id 1 c.second) (at, direction) [] rest))
    (first_or_later (direction_entry c.id 0 c.first) (at, direction) (direction_entry c.id 1 c.second ∷ []) is)

sides_differ : {X : Type 0} (m n : ℕ) → m ≡ 0 → n ≡ 1 → m ≡ n → X
sides_differ m n first second same = absurd (omega (arith, first, second, same))

module _ (s : Shared) (order : IsInOrder s) where
  abbrev kernel : PlainKernel
  kernel = kernel_of s

  pub item_file : (f : FileImage) → IsItem s.files f → map.get kernel.files f.number ≡ Some f.bytes
  unfolding kernel_of
  item_file f at = each_there nat_cmp_total nat_cmp-IsAntisymmetric file_entry s.files f order.files at

  pub item_name : (f : FileImage) (name : List ℕ) (number : ℕ) → IsItem s.files f → name_entry f ≡ Some (name, number) → map.get kernel.names name ≡ Some number
  unfolding kernel_of
  item_name f name number at is = filtered_there name_total name_exact name_entry s.files f name number
      (λ g h m n q here there has too.
      let same = order.names g h q m n here there has too in
      let one : (q, m) ≡ (q, n) = same_some (q, m) (q, n) (sym has ∙ ap name_entry same ∙ too) in
      ap (λ (e : List ℕ × ℕ). e.1) one)
      at is

  pub item_channel : (c : ChannelImage) → IsItem s.channels c → map.get kernel.channels c.id ≡ Some (channel_entry s.descriptions c).1
  unfolding kernel_of
  item_channel c at = each_there conn_total conn_exact (channel_entry s.descriptions) s.channels c order.channels at

  -- a direction is that of one channel and one side
  one_direction : (c d : ChannelImage) (x y : Direction) (at : Dir) → IsItem s.channels c → IsItem s.channels d → IsItem (direction_entries c) (at, x) → IsItem (direction_entries d) (at, y) → x ≡ y
  one_direction c d x y at here there has too = ⊎_elim
      (λ first. ⊎_elim (λ other. same_first first other) (λ other. sides_differ at.side at.side (side_is first) (side_is other) refl) (direction_of d at y too))
      (λ second. ⊎_elim (λ other. sides_differ at.side at.side (side_is other) (side_is second) refl) (λ other. same_second second other) (direction_of d at y too))
      (direction_of c at x has)
    where
      side_is : {z : Direction} {e : Dir × Direction} → (at, z) ≡ e → at.side ≡ e.0.side
      side_is same = ap (λ (e : Dir × Direction). e.0.side) same

      same_first : (at, x) ≡ direction_entry c.id 0 c.first → (at, y) ≡ direction_entry d.id 0 d.first → x ≡ y
      same_first first other =
          let same : c ≡ d = order.channels c d here there (sym (ap (λ (e : Dir × Direction). e.0.conn) first) ∙ ap (λ (e : Dir × Direction). e.0.conn) other) in
          ap (λ (e : Dir × Direction). e.1) first ∙ ap (λ (b : ChannelImage). (direction_entry b.id 0 b.first).1) same ∙ sym (ap (λ (e : Dir × Direction). e.1) other)

      same_second : (at, x) ≡ direction_entry c.id 1 c.second → (at, y) ≡ direction_entry d.id 1 d.second → x ≡ y
      same_second second other =
          let same : c ≡ d = order.channels c d here there (sym (ap (λ (e : Dir × Direction). e.0.conn) second) ∙ ap (λ (e : Dir × Direction). e.0.conn) other) in
          ap (λ (e : Dir × Direction). e.1) second ∙ ap (λ (b : ChannelImage). (direction_entry b.id 1 b.second).1) same ∙ sym (ap (λ (e : Dir × Direction). e.1) other)

  item_direction : (c : ChannelImage) (at : Dir) (direction : Direction) → IsItem s.channels c → IsItem (direction_entries c) (at, direction) → map.get kernel.directions at ≡ Some direction
  unfolding kernel_of
  item_direction c at direction here is = flat_there dir_total dir_exact direction_entries s.channels c at direction (λ d e x y q. one_direction d e x y q) here is

  pub first_direction : (c : ChannelImage) → IsItem s.channels c → map.get kernel.directions (direction_entry c.id 0 c.first).0 ≡ Some (direction_entry c.id 0 c.first).1
  first_direction c at = item_direction c _ _ at (at_start (direction_entry c.id 0 c.first) (direction_entry c.id 1 c.second ∷ []))

  pub second_direction : (c : ChannelImage) → IsItem s.channels c → map.get kernel.directions (direction_entry c.id 1 c.second).0 ≡ Some (direction_entry c.id 1 c.second).1
  second_direction c at = item_direction c _ _ at (in_later (direction_entry c.id 0 c.first) (direction_entry c.id 1 c.second) (direction_entry c.id 1 c.second ∷ []) (at_start (direction_entry c.id 1 c.second) []))

  pub item_description : (it : DescriptionImage) → IsItem s.descriptions it → map.get kernel.descriptions it.id ≡ Some (description_entry it).1
  unfolding kernel_of
  item_description it at = each_there desc_total desc_exact description_entry s.descriptions it order.descriptions at

  pub item_listener : (it : DescriptionImage) (address : VirtAddr) (listening : Listening) → IsItem s.descriptions it → listening_of it.object ≡ Some (address, listening) → map.get kernel.listeners address ≡ Some listening
  unfolding kernel_of
  item_listener it address listening at is = filtered_there address_total address_exact (λ (d : DescriptionImage). listening_of d.object) s.descriptions it address listening
      (λ d e x y q here there has too.
      let same = order.listeners d e q x y here there has too in
      let one : (q, x) ≡ (q, y) = same_some (q, x) (q, y) (sym has ∙ ap (λ (f : DescriptionImage). listening_of f.object) same ∙ too) in
      ap (λ (e : VirtAddr × Listening). e.1) one)
      at is

  pub item_process : (e : ProcessEntry) → IsItem s.processes e → map.get kernel.processes e.pid ≡ Some (process_entry e).1
  unfolding kernel_of
  item_process e at = each_there vpid_total vpid_exact process_entry s.processes e order.processes at

  pub item_maker : (e : ProcessEntry) → IsItem s.processes e → map.get kernel.makers e.pid ≡ Some (maker_entry e).1
  unfolding kernel_of
  item_maker e at = each_there vpid_total vpid_exact maker_entry s.processes e order.processes at

  pub item_thread : (e : ProcessEntry) (t : ThreadEntry) → IsItem s.processes e → IsItem e.threads t → map.get (process_entry e).1.threads t.tid ≡ Some t.pending
  item_thread e t at is = each_there nat_cmp_total nat_cmp-IsAntisymmetric signals_entry e.threads t (order.threads e at) is

  one_slot : (e f : ProcessEntry) (x y : Descriptor) (at : Slot) → IsItem s.processes e → IsItem s.processes f → IsItem (descriptor_entries e) (at, x) → IsItem (descriptor_entries f) (at, y) → x ≡ y
  one_slot e f x y at here there has too =
      let (c, of_e, is) = item_of_each (descriptor_entry e.pid) e.descriptors (at, x) has in
      let (d, of_f, other) = item_of_each (descriptor_entry f.pid) f.descriptors (at, y) too in
      let same : e ≡ f = order.processes e f here there (ap (λ (a : Slot × Descriptor). a.0.pid) is ∙ sym (ap (λ (a : Slot × Descriptor). a.0.pid) other)) in
      let of_it : IsItem e.descriptors d = subst (λ (p : ProcessEntry). IsItem p.descriptors d) (sym same) of_f in
      let one : c ≡ d = order.descriptors e here c d of_e of_it (ap (λ (a : Slot × Descriptor). a.0.fd) is ∙ sym (ap (λ (a : Slot × Descriptor). a.0.fd) other)) in
      sym (ap (λ (a : Slot × Descriptor). a.1) is) ∙ ap (λ (z : DescriptorEntry). (descriptor_entry e.pid z).1) one ∙ ap (λ (a : Slot × Descriptor). a.1) other

  pub item_descriptor : (e : ProcessEntry) (d : DescriptorEntry) → IsItem s.processes e → IsItem e.descriptors d → map.get kernel.descriptors (descriptor_entry e.pid d).0 ≡ Some (descriptor_entry e.pid d).1
  unfolding kernel_of
  item_descriptor e d at is = flat_there slot_total slot_exact descriptor_entries s.processes e _ _ (λ p q x y a. one_slot p q x y a) at (each_item (descriptor_entry e.pid) e.descriptors d is)

pub thread_item : (e : ProcessEntry) (t signals : ℕ) → map.get (process_entry e).1.threads t ≡ Some signals → (thread : ThreadEntry) × IsItem e.threads thread × (thread.tid ≡ t) × (thread.pending ≡ signals)
thread_item e t signals found =
    let (thread, at, is) = each_found nat_cmp_total nat_cmp-IsAntisymmetric signals_entry e.threads t signals found in
    (thread, at, ap (λ (a : ℕ × ℕ). a.0) is, ap (λ (a : ℕ × ℕ). a.1) is)
