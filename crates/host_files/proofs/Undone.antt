-- A description that was placed and closed again leaves the book as it was; one that is told its file is a
-- description of that file.
use Rattle.std.proofs.Common.{◌≡◌, ℕ, Bool, false, None, sym, ap, ◌∙◌}
use Rattle.std.specs.Prelude.{is_some}
use Rattle.std.specs.FinMap as map
use Rattle.views.proofs.MapLaws.{true_false, other_key, get_insert_same, insert_insert, remove_insert_new}
use Rattle.views.proofs.MapValues.{none_among-values}
use Rattle.views.specs.Numbers.{Flags}
use Rattle.sys_abi.specs.declared.identity.DescId.{DescId}
use Rattle.sys_abi.proofs.OrderLaws.{desc_total, desc_exact}
use Rattle.fd_tables.specs.declared.description.Desc.{Desc}
use Rattle.fd_tables.specs.declared.description.Object.TheVariants.{File}
use Rattle.fd_tables.specs.Parts as parts
use Rattle.fd_tables.specs.declared.real_slot.RealSlot.{RealSlot}
use Rattle.fd_tables.specs.Slots.{refers_to}
use Rattle.fd_tables.proofs.OrderLaws.{real_slot_total, real_slot_exact}
use Rattle.fd_book.specs.Books.{Books, IsWhole, is_held, with_descriptor, after_close, with_changed, changed_or_same}
use Rattle.host_descriptors.proofs.CloseCall.{after_is}
use Rattle.host_files.specs.Opening.{file_at_start}

module _ (b : Books) (whole : IsWhole b) (at : RealSlot) (id : DescId) (d : Desc) (cloexec : Bool)
    (free : map.get b.descriptors at ≡ None) (new : map.get b.descriptions id ≡ None) where
  abbrev pub placed : Books
  placed = with_descriptor (record b { descriptions = map.insert b.descriptions id d }) at id cloexec

  unused : is_held b.descriptors id ≡ false
  unfolding is_held
  unused =
      none_among-values real_slot_total real_slot_exact (refers_to id) b.descriptors
      (λ q v is. other_key desc_total desc_exact id v.desc
      (λ same. true_false (sym (whole.described q v is) ∙ ap (λ x. is_some (map.get b.descriptions x)) (sym same)
      ∙ ap is_some new)))

  slot_removed : map.remove placed.descriptors at ≡ b.descriptors
  slot_removed =
      remove_insert_new real_slot_total real_slot_exact b.descriptors at (record { desc = id; cloexec = cloexec }) free

  desc_removed : map.remove placed.descriptions id ≡ b.descriptions
  desc_removed = remove_insert_new desc_total desc_exact b.descriptions id d new

  pub undone : after_close placed at ≡ b
  undone =
      after_is placed at (record { desc = id; cloexec = cloexec })
      (get_insert_same real_slot_total real_slot_exact b.descriptors at (record { desc = id; cloexec = cloexec }))
      false (ap (λ m. is_held m id) slot_removed ∙ unused)
      ∙ (λ i. record { descriptions = desc_removed i; descriptors = slot_removed i })

-- a description that was placed is told its file
module _ (b : Books) (at : RealSlot) (id : DescId) (number : ℕ) (flags : Flags) (cloexec : Bool) where
  abbrev pub with_file : ℕ → Books
  with_file n =
      with_descriptor (record b { descriptions = map.insert b.descriptions id (file_at_start n flags) }) at id cloexec

  pub told_file : (first told : Books) (d : Desc) → d ≡ file_at_start 0 flags
      → first ≡ with_descriptor (record b { descriptions = map.insert b.descriptions id d }) at id cloexec
      → told ≡ with_changed (parts.with_object (File number 0)) first id → told ≡ with_file number
  unfolding with_changed
  told_file first told d d_is first_is told_is =
      told_is
      ∙ ap (λ w. with_changed (parts.with_object (File number 0)) w id)
      (first_is ∙ ap (λ x. with_descriptor (record b { descriptions = map.insert b.descriptions id x }) at id cloexec) d_is)
      ∙ ap (changed_or_same (parts.with_object (File number 0)) (with_file 0) id)
      (get_insert_same desc_total desc_exact b.descriptions id (file_at_start 0 flags))
      ∙ ap (λ m. record (with_file 0) { descriptions = m })
      (insert_insert desc_total desc_exact b.descriptions id (file_at_start 0 flags) (file_at_start number flags))
