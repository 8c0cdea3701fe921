-- Descriptors put and taken away through the pairs, and whether a description is held.
--     put_kept, taken_kept      a descriptor more, or in the place of another;  one less
--     same_held                 either side tells whether a description is held
use Rattle.std.proofs.Common.{◌≡◌, ℕ, Option, Some, refl, ap}
use Rattle.std.specs.FinMap as map
use Rattle.views.proofs.Seen.{SeenBy-insert, SeenBy-remove, any_seen}
use Rattle.sys_abi.specs.declared.identity.VPid.{VPid}
use Rattle.sys_abi.specs.declared.identity.DescId.{DescId}
use Rattle.sys_abi.specs.declared.identity.RealPid.{RealPid}
use Rattle.sys_abi.specs.declared.descriptor.Descriptor.{Descriptor}
use Rattle.sys_abi.proofs.OrderLaws.{slot_total, slot_exact}
use Rattle.fd_book.specs.Books as books
use Rattle.fd_tables.specs.Slots as slots
use Rattle.fd_tables.proofs.OrderLaws.{real_slot_total, real_slot_exact}
use Rattle.proc_book.specs.OfVirtIds.Pairs.{AreInverse}
use Rattle.plain_machine.specs.OfPlainTables.Tables.{Descriptors, slot, is_held, refers_to}
use Rattle.plain_machine.specs.declared.kernel.PlainKernel.{PlainKernel}
use Rattle.plain_machine.specs.Kernel.{with_descriptor}
use Rattle.plain_machine.specs.Closing.{without_descriptor}
use Rattle.host_tables.specs.declared.kernel.Kernel.{Kernel}
use Rattle.host_tables.specs.Numbers.{Pids, Virts}
use Rattle.host_tables.specs.Processes.{IsSame, RealDescriptors, SameDescriptors, to_slot, from_slot}
use Rattle.host_tables.specs.Descriptions.{Stage}
use Rattle.host_tables.specs.Stands.{Given, Stands}
use Rattle.host_tables.proofs.Frames.{book_kept}
use Rattle.host_tables.proofs.LookUps.{leads}
use Rattle.host_tables.proofs.Ways.{lead_slot}

module _ (pids : Pids) (virts : Virts) (inverse : AreInverse pids virts) (virt : Descriptors)
    (real : RealDescriptors) (same : SameDescriptors pids virts virt real) where
  pub same_held : (id : DescId) → is_held virt id ≡ books.is_held real id
  unfolding is_held books.is_held
  same_held id =
      any_seen slot_total slot_exact real_slot_total real_slot_exact (to_slot pids) (from_slot virts)
      (lead_slot pids virts inverse) IsSame virt real same (refers_to id) (slots.refers_to id)
      (λ at s d e is. ap (refers_to id) is)

  module _ (p : VPid) (r : RealPid) (paired : map.get pids p.0 ≡ Some r) (fd : ℕ) where
    pub slot_put : (d : Descriptor)
        → SameDescriptors pids virts (map.insert virt (slot p fd) d) (map.insert real (slots.slot r fd) d)
    slot_put d =
        SeenBy-insert slot_total slot_exact real_slot_total real_slot_exact (to_slot pids) (from_slot virts)
        (lead_slot pids virts inverse) IsSame virt real same (slot p fd) (slots.slot r fd)
        (leads pids virts real virt same p r paired fd) d d refl

    pub slot_taken : SameDescriptors pids virts (map.remove virt (slot p fd)) (map.remove real (slots.slot r fd))
    slot_taken =
        SeenBy-remove slot_total slot_exact real_slot_total real_slot_exact (to_slot pids) (from_slot virts)
        (lead_slot pids virts inverse) IsSame virt real same (slot p fd) (slots.slot r fd)
        (leads pids virts real virt same p r paired fd)

module _ (g : Given) (held : Option Stage) (real : Kernel) (k : PlainKernel) (st : Stands g held real k)
    (p : VPid) (r : RealPid) (paired : map.get g.pids p.0 ≡ Some r) (fd : ℕ) where
  pub put_kept : (d : Descriptor) → Stands g held
      (record real { book = record real.book { descriptors = map.insert real.book.descriptors (slots.slot r fd) d } })
      (with_descriptor k p fd d)
  put_kept d =
      book_kept g held real k st
      (record real.book { descriptors = map.insert real.book.descriptors (slots.slot r fd) d })
      (map.insert k.descriptors (slot p fd) d) k.descriptions
      (slot_put g.pids g.virts st.paired.inverse k.descriptors real.book.descriptors st.descriptors p r paired fd d)
      st.descriptions st.inboxes

  pub taken_kept : Stands g held
      (record real { book = record real.book { descriptors = map.remove real.book.descriptors (slots.slot r fd) } })
      (without_descriptor k (slot p fd))
  taken_kept =
      book_kept g held real k st
      (record real.book { descriptors = map.remove real.book.descriptors (slots.slot r fd) })
      (map.remove k.descriptors (slot p fd)) k.descriptions
      (slot_taken g.pids g.virts st.paired.inverse k.descriptors real.book.descriptors st.descriptors p r paired fd)
      st.descriptions st.inboxes
