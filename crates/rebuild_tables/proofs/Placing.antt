-- One descriptor more in a book, and its description where that isn't there yet.
--     held_beside      a descriptor more of one description changes nothing about others
--     placed           the book then has that descriptor too
use Rattle.std.proofs.Common.{◌≡◌, ◌≢◌, true, false, refl, sym, ap, subst, ◌∙◌, inl, inr}
use Rattle.std.specs.Prelude.{Option, Some, None, Bool, option_map}
use Rattle.std.specs.FinMap as map
use Rattle.std.proofs.lemmas.Option.{none-some}
use Rattle.views.proofs.MapLaws.{true_false, same_or_other, same_key, get_insert_same, get_insert_other}
use Rattle.sys_abi.specs.declared.identity.DescId.{DescId}
use Rattle.sys_abi.specs.declared.identity.Slot.{Slot}
use Rattle.sys_abi.specs.declared.identity.RealPid.{RealPid}
use Rattle.sys_abi.specs.declared.descriptor.Descriptor.{Descriptor}
use Rattle.sys_abi.proofs.OrderLaws.{slot_total, slot_exact, desc_total, desc_exact}
use Rattle.fd_tables.specs.declared.real_slot.RealSlot.{RealSlot}
use Rattle.fd_tables.specs.declared.description.Desc.{Desc}
use Rattle.fd_tables.specs.Slots as slots
use Rattle.fd_book.specs.Books.{Books, new_or_same, with_new, with_descriptor}
use Rattle.virt_ids.specs.Pairs.{Pairs, AreInverse}
use Rattle.plain_tables.specs.declared.description.Description.{Description}
use Rattle.plain_tables.specs.Tables.{Descriptors, Descriptions, refers_to, is_held}
use Rattle.plain_tables.proofs.Entries.{same_any}
use Rattle.plain_tables.proofs.AddedDescriptions.{held_now}
use Rattle.host_tables.specs.Processes.{SameDescriptors}
use Rattle.host_tables.proofs.LookUps.{at_slot}
use Rattle.host_tables.proofs.SlotChanges.{slot_put}
use Rattle.rebuild_tables.specs.Rebuilt.{real_desc, IsBookOf}

module _ (descriptors : Descriptors) (at : Slot) (d : Descriptor) (free : map.get descriptors at ≡ None)
    (id : DescId) (differ : id ≢ d.desc) where
  was_there : (q : Slot) (x : Descriptor) → map.get (map.insert descriptors at d) q ≡ Some x
      → refers_to id x ≡ true → map.get descriptors q ≡ Some x
  was_there q x found refers = elim (same_or_other slot_total slot_exact q at) [
    | inl here ↦
        let put : map.get (map.insert descriptors at d) at ≡ Some x =
        subst (λ s. map.get (map.insert descriptors at d) s ≡ Some x) here found in
        let same : d ≡ x = let new = get_insert_same slot_total slot_exact descriptors at d in cc in
        absurd (differ (same_key desc_total desc_exact id x.desc refers
        ∙ ap (λ (y : Descriptor). y.desc) (sym same)))
    | inr other ↦ sym (get_insert_other slot_total slot_exact descriptors at d q other) ∙ found
  ]

  still_there : (q : Slot) (x : Descriptor) → map.get descriptors q ≡ Some x
      → map.get (map.insert descriptors at d) q ≡ Some x
  still_there q x found =
      get_insert_other slot_total slot_exact descriptors at d q
      (λ here. none-some x (sym free ∙ ap (map.get descriptors) (sym here) ∙ found)) ∙ found

  pub held_beside : is_held (map.insert descriptors at d) id ≡ is_held descriptors id
  unfolding is_held
  held_beside =
      same_any slot_total slot_exact (refers_to id) descriptors (map.insert descriptors at d)
      (λ q x found refers. (x, still_there q x found, refers))
      (λ q x found refers. (x, was_there q x found refers, refers))

module _ (ids : Pairs) (inverse : AreInverse ids.pids ids.virts) (done : Descriptors)
    (descriptions : Descriptions) (b : Books) (is : IsBookOf ids done descriptions b) (at : Slot) (d : Descriptor) (r : RealPid)
    (paired : map.get ids.pids at.pid.0 ≡ Some r)
    (unused : map.get b.descriptors (slots.slot r at.fd) ≡ None)
    (x : Description) (there : map.get descriptions d.desc ≡ Some x) where
  abbrev desc : Desc
  desc = real_desc ids x

  abbrev real_slot : RealSlot
  real_slot = slots.slot r at.fd

  abbrev described : Books
  described = with_new b d.desc desc

  pub free : map.get done at ≡ None
  free = at_slot ids.pids ids.virts b.descriptors done is.same at.pid r paired at.fd ∙ unused

  is_new : (o : Option Desc) → map.get b.descriptions d.desc ≡ o → described ≡ new_or_same b d.desc desc o
  unfolding with_new
  is_new o found = ap (new_or_same b d.desc desc) found

  same_slots : described.descriptors ≡ b.descriptors
  same_slots = by (map.get b.descriptions d.desc) refl
    where
      by : (o : Option Desc) → map.get b.descriptions d.desc ≡ o → described.descriptors ≡ b.descriptors
      by None found = ap (λ (c : Books). c.descriptors) (is_new None found)
      by (Some y) found = ap (λ (c : Books). c.descriptors) (is_new (Some y) found)

  -- what is there already is the same description
  there_already : (y : Desc) → map.get b.descriptions d.desc ≡ Some y → Some y ≡ Some desc
  there_already y found = by (is_held done d.desc) refl
    where
      by : (t : Bool) → is_held done d.desc ≡ t → Some y ≡ Some desc
      by true held = sym found ∙ is.held d.desc held ∙ ap (option_map (real_desc ids)) there
      by false held = absurd (none-some y (sym (is.others d.desc held) ∙ found))

  here : map.get described.descriptions d.desc ≡ Some desc
  here = by (map.get b.descriptions d.desc) refl
    where
      by : (o : Option Desc) → map.get b.descriptions d.desc ≡ o
          → map.get described.descriptions d.desc ≡ Some desc
      by None found =
          ap (λ (c : Books). map.get c.descriptions d.desc) (is_new None found)
          ∙ get_insert_same desc_total desc_exact b.descriptions d.desc desc
      by (Some y) found =
          ap (λ (c : Books). map.get c.descriptions d.desc) (is_new (Some y) found) ∙ found
          ∙ there_already y found

  beside : (q : DescId) → q ≢ d.desc → map.get described.descriptions q ≡ map.get b.descriptions q
  beside q differ = by (map.get b.descriptions d.desc) refl
    where
      by : (o : Option Desc) → map.get b.descriptions d.desc ≡ o
          → map.get described.descriptions q ≡ map.get b.descriptions q
      by None found =
          ap (λ (c : Books). map.get c.descriptions q) (is_new None found)
          ∙ get_insert_other desc_total desc_exact b.descriptions d.desc desc q differ
      by (Some y) found = ap (λ (c : Books). map.get c.descriptions q) (is_new (Some y) found)

  then : IsBookOf ids (map.insert done at d) descriptions (with_descriptor described real_slot d.desc d.cloexec)
  then = record {
    same = subst (λ m. SameDescriptors ids.pids ids.virts (map.insert done at d) (map.insert m real_slot d))
        (sym same_slots)
        (slot_put ids.pids ids.virts inverse done b.descriptors is.same at.pid r paired at.fd d);
    held = λ q held. elim (same_or_other desc_total desc_exact q d.desc) [
      | inl same ↦
          ap (map.get described.descriptions) same ∙ here ∙ sym (ap (option_map (real_desc ids)) there)
          ∙ ap (λ i. option_map (real_desc ids) (map.get descriptions i)) (sym same)
      | inr differ ↦ beside q differ ∙ is.held q (sym (held_beside done at d free q differ) ∙ held)
    ];
    others = λ q none. elim (same_or_other desc_total desc_exact q d.desc) [
      | inl same ↦
          true_false (sym (held_now done at d free) ∙ ap (is_held (map.insert done at d)) (sym same) ∙ none)
      | inr differ ↦ beside q differ ∙ is.others q (sym (held_beside done at d free q differ) ∙ none)
    ];
  }

  pub placed : (now : Books) (made : Desc) → made ≡ desc
      → now ≡ with_descriptor (with_new b d.desc made) real_slot d.desc d.cloexec
      → IsBookOf ids (map.insert done at d) descriptions now
  placed now made is_desc is_now =
      subst (IsBookOf ids (map.insert done at d) descriptions)
      (sym (is_now ∙ ap (λ e. with_descriptor (with_new b d.desc e) real_slot d.desc d.cloexec) is_desc)) then
