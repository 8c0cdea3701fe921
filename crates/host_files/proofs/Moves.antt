-- The offset of an open file moves through the pairs.
--     moved_kept        a description's offset is another
--     size_is           either side tells how many bytes a file has
use Rattle.std.proofs.Common.{◌≡◌, ℕ, Some, None, length, sym, ap, ◌∙◌, subst}
use Rattle.std.specs.Option.{option_map_or}
use Rattle.std.specs.FinMap as map
use Rattle.fd_tables.specs.declared.description.Object.{Object}
use Rattle.fd_tables.specs.declared.description.Object.TheVariants as object
use Rattle.fd_tables.specs.Parts as parts
use Rattle.fd_book.specs.Books as books
use Rattle.fd_book.specs.Books.{Books}
use Rattle.plain_machine.specs.declared.kernel.PlainKernel.{PlainKernel}
use Rattle.plain_machine.specs.Rows.Files.{file_size}
use Rattle.plain_machine.specs.Transfers.Files.{moved_behind}
use Rattle.host_descriptors.specs.OfHostTables.declared.kernel.Kernel.{Kernel}
use Rattle.host_descriptors.specs.OfHostTables.Datagrams.{inbox_of}
use Rattle.host_descriptors.specs.OfHostTables.Stands.{Given, Stands}
use Rattle.host_descriptors.proofs.OfHostTables.DescriptionChanges.{description_changed}
use Rattle.host_descriptors.specs.declared.held.Held.{Held}
use Rattle.host_descriptors.specs.Held.{seen_held}
use Rattle.host_files.specs.Sizes.{size_in}

-- a file is no end of a datagram pair
pub no_end : (number offset queue side : ℕ) → object.File number offset ≡ object.Datagram queue side → ⊥
no_end number offset queue side e = cc

module _ (g : Given) (real : Kernel) (k : PlainKernel) (st : Stands g None real k) where
  pub size_is : (number : ℕ) → file_size k number ≡ size_in real.files.files number
  size_is number = ap (λ m. option_map_or length (map.get m number) 0) st.files.files_are

  module _ (h : Held) (there : map.get real.book.descriptions h.desc ≡ Some h.description) (number at : ℕ)
      (file : h.description.object ≡ object.File number at) where
    changed_is : (o : Object) → books.with_changed (parts.with_object o) real.book h.desc
        ≡ record real.book { descriptions = map.insert real.book.descriptions h.desc (parts.with_object o h.description) }
    unfolding books.with_changed
    changed_is o = ap (books.changed_or_same (parts.with_object o) real.book h.desc) there

    pub moved_kept : (offset : ℕ) (b : Books)
        → b ≡ books.with_changed (parts.with_object (object.File number offset)) real.book h.desc
        → Stands g None (record real { book = b }) (moved_behind k (seen_held g real h) number offset)
    moved_kept offset b is =
        subst (λ (w : Books). Stands g None (record real { book = w })
        (moved_behind k (seen_held g real h) number offset))
        (sym (is ∙ changed_is (object.File number offset)))
        (description_changed g None real k st h.desc (parts.with_object (object.File number offset) h.description)
        (st.descriptions.owners h.desc h.description there) tt h.description there
        (ap (inbox_of real.datagrams) file)
        (λ queue side is_end. absurd (no_end number at queue side (sym file ∙ is_end))))
