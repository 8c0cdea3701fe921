-- A file that is opened, and a description of it, through the pairs.
--     files_opened      the file is there, and empty where that was asked for
--     file_placed       a description more, behind a descriptor more
use Rattle.std.proofs.Common.{◌≡◌, ℕ, ◌+◌, Bool, true, false, List, [], Option, Some, None, refl, sym, ap, ◌∙◌, subst}
use Rattle.std.specs.Prelude.{if◌then◌else◌, unwrap_or, IsSome}
use Rattle.std.specs.Option.{option_map_or}
use Rattle.std.specs.Cmp.{nat_cmp_total}
use Rattle.std.specs.FinMap as map
use Rattle.std.specs.FinMap.{nat_cmp-IsAntisymmetric}
use Rattle.views.specs.Numbers.{Flags, Byte}
use Rattle.views.proofs.MapLaws.{true_false, get_insert_same, insert_insert}
use Rattle.sys_abi.specs.declared.flags.TheConstants.{O_TRUNC, O_CLOEXEC}
use Rattle.sys_abi.specs.declared.identity.VPid.{VPid}
use Rattle.sys_abi.specs.declared.identity.DescId.{DescId}
use Rattle.sys_abi.specs.declared.identity.RealPid.{RealPid}
use Rattle.sys_abi.specs.Flags.{has_flag}
use Rattle.fd_tables.specs.declared.description.Desc.{Desc}
use Rattle.plain_tables.specs.declared.description.Object.TheVariants.{File}
use Rattle.fd_tables.specs.Slots as slots
use Rattle.fd_book.specs.Books as books
use Rattle.fd_book.specs.Books.{Books}
use Rattle.vfs_files.specs.FileTable.{FileTable, Contents, truncated, opened_by}
use Rattle.plain_machine.specs.declared.kernel.PlainKernel.{PlainKernel}
use Rattle.plain_machine.specs.Kernel.{made_of, numbered, placed, with_descriptor}
use Rattle.plain_machine.specs.Kernels.{IsKernel}
use Rattle.plain_machine.specs.Making.{desc_id}
use Rattle.plain_machine.specs.Rows.Files.{with_file_bytes, opened_number, with_opened, status_flags, with_open_file}
use Rattle.plain_machine.specs.Start.{with_file}
use Rattle.host_descriptors.specs.OfHostTables.declared.kernel.Kernel.{Kernel}
use Rattle.host_descriptors.specs.OfHostTables.Stands.{Given, Stands}
use Rattle.host_descriptors.proofs.OfHostTables.DescriptionChanges.{description_new}
use Rattle.host_descriptors.proofs.OfHostTables.Frames.{files_kept}
use Rattle.host_descriptors.proofs.OfHostTables.MakerChanges.{made_kept}
use Rattle.host_descriptors.proofs.OfHostTables.SlotChanges.{put_kept}
use Rattle.host_files.specs.Opening.{file_at_start, emptied, IsOpened}
use Rattle.host_files.proofs.Moves.{no_end}

-- by the file that the name has, and whether it becomes empty
abbrev after : FileTable → List Byte → Option ℕ → Bool → FileTable
after t name o c = if c then emptied (opened_by t name o) (unwrap_or o t.next_file) else opened_by t name o

-- a file that is there becomes empty
truncated_there : (files : Contents) (number : ℕ) (o : Option (List ℕ)) → map.get files number ≡ o → IsSome o
    → truncated files number ≡ map.insert files number []
truncated_there files number None is some = absurd (true_false (sym some))
truncated_there files number (Some bytes) is some = ap (λ o. option_map_or (λ _. map.insert files number []) o files) is

truncated_new : (files : Contents) (number : ℕ)
    → truncated (map.insert files number []) number ≡ map.insert files number []
truncated_new files number =
    truncated_there (map.insert files number []) number (Some [])
    (get_insert_same nat_cmp_total nat_cmp-IsAntisymmetric files number []) refl
    ∙ insert_insert nat_cmp_total nat_cmp-IsAntisymmetric files number [] []

module _ (g : Given) (real : Kernel) (k : PlainKernel) (whole : IsKernel k) (st : Stands g None real k)
    (name : List Byte) (flags : Flags) where
  abbrev t : FileTable
  t = real.files

  new_file : (files : Contents) → files ≡ map.insert t.files t.next_file []
      → Stands g None (record real { files = record (opened_by t name None) { files = files } })
      (with_opened k name flags None)
  unfolding with_file
  new_file files are =
      files_kept g None real k st (record (opened_by t name None) { files = files })
      (map.insert k.names name k.next_file) (map.insert k.files k.next_file []) (k.next_file + 1) (record {
        names_are = λ i. map.insert (st.files.names_are i) name (st.files.next_is i);
        files_are = (λ i. map.insert (st.files.files_are i) (st.files.next_is i) []) ∙ sym are;
        next_is = ap (λ n. n + 1) st.files.next_is;
      })

  made_by : (c : Bool) → Stands g None (record real { files = after t name None c }) (with_opened k name flags None)
  made_by true = new_file (truncated (map.insert t.files t.next_file []) t.next_file) (truncated_new t.files t.next_file)
  made_by false = new_file (map.insert t.files t.next_file []) refl

  there_by : (number : ℕ) → IsSome (map.get t.files number) → (c : Bool)
      → Stands g None (record real { files = after t name (Some number) c })
      (if c then with_file_bytes k number [] else k)
  there_by number there true =
      files_kept g None real k st (emptied t number) k.names (map.insert k.files number []) k.next_file (record {
        names_are = st.files.names_are;
        files_are = ap (λ m. map.insert m number []) st.files.files_are
            ∙ sym (truncated_there t.files number (map.get t.files number) refl there);
        next_is = st.files.next_is;
      })
  there_by number there false = st

  named_there : (number : ℕ) → map.get k.names name ≡ Some number → IsSome (map.get t.files number)
  named_there number is =
      subst (λ m. IsSome (map.get m number)) st.files.files_are (whole.files.named name number is).1

  by_found : (o : Option ℕ) → map.get k.names name ≡ o
      → Stands g None (record real { files = after t name o (has_flag flags O_TRUNC) }) (with_opened k name flags o)
  by_found None is = made_by (has_flag flags O_TRUNC)
  by_found (Some number) is = there_by number (named_there number is) (has_flag flags O_TRUNC)

  number_by : (o : Option ℕ) → opened_number k o ≡ unwrap_or o t.next_file
  number_by None = st.files.next_is
  number_by (Some number) = refl

  made_same : (o : Option ℕ) (p : VPid) → made_of (with_opened k name flags o) p ≡ made_of k p
  unfolding with_file
  made_same None p = refl
  made_same (Some number) p = emptied_same (has_flag flags O_TRUNC)
    where
      emptied_same : (c : Bool) → made_of (if c then with_file_bytes k number [] else k) p ≡ made_of k p
      emptied_same true = refl
      emptied_same false = refl

  module _ (new : FileTable) (number : ℕ) (is : IsOpened t new name flags number) where
    abbrev found : Option ℕ
    found = map.get k.names name

    files_opened : Stands g None (record real { files = new }) (with_opened k name flags found)
    files_opened =
        subst (λ (w : FileTable). Stands g None (record real { files = w }) (with_opened k name flags found))
        (ap (λ m. after t name (map.get m name) (has_flag flags O_TRUNC)) st.files.names_are ∙ sym is.files_are)
        (by_found found refl)

    number_same : opened_number k found ≡ number
    number_same =
        number_by found ∙ ap (λ m. unwrap_or (map.get m name) t.next_file) st.files.names_are ∙ sym is.number_is

    module _ (p : VPid) (who : RealPid) (paired : map.get g.pids p.0 ≡ Some who) (fd : ℕ) (id : DescId)
        (none : map.get real.book.descriptions id ≡ None) (id_is : id ≡ desc_id p (made_of k p)) where
      abbrev d : Desc
      d = file_at_start number (status_flags flags)

      abbrev cloexec : Bool
      cloexec = has_flag flags O_CLOEXEC

      abbrev opened_kernel : PlainKernel
      opened_kernel = with_opened k name flags found

      abbrev with_slot : Kernel
      with_slot = record real {
        files = new;
        book = record real.book {
          descriptors = map.insert real.book.descriptors (slots.slot who fd) (record { desc = id; cloexec = cloexec });
        };
      }

      abbrev pub placed_book : Books
      placed_book =
          books.with_descriptor (record real.book { descriptions = map.insert real.book.descriptions id d })
          (slots.slot who fd) id cloexec

      slot_put : Stands g None with_slot
          (with_descriptor (numbered opened_kernel p 1) p fd (record { desc = id; cloexec = cloexec }))
      slot_put =
          put_kept g None (record real { files = new }) (numbered opened_kernel p 1)
          (made_kept g None (record real { files = new }) opened_kernel files_opened p 1) p who paired fd
          (record { desc = id; cloexec = cloexec })

      placed_so : Stands g None (record real { files = new; book = placed_book })
          (placed (numbered opened_kernel p 1) p fd id cloexec (File number 0) (status_flags flags))
      placed_so =
          description_new g None with_slot
          (with_descriptor (numbered opened_kernel p 1) p fd (record { desc = id; cloexec = cloexec })) slot_put id d
          tt tt none (λ queue side e. no_end number 0 queue side e)

      pub file_placed : Stands g None (record real { files = new; book = placed_book })
          (with_open_file opened_kernel p fd flags (opened_number k found))
      file_placed =
          subst (λ (n : ℕ). Stands g None (record real { files = new; book = placed_book })
          (with_open_file opened_kernel p fd flags n)) (sym number_same)
          (subst (λ (x : DescId). Stands g None (record real { files = new; book = placed_book })
          (placed (numbered opened_kernel p 1) p fd x cloexec (File number 0) (status_flags flags)))
          (id_is ∙ ap (desc_id p) (sym (made_same found p))) placed_so)
