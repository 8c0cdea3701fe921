-- Writes to open files through the pairs.
--     write_bad, write_none, write_some      by whether the file is there, and whether there are bytes
--     piece_far, piece_full, piece_done      the tests of a piece in their order, and the write
--     written_kept                           the file's bytes are other ones
use Rattle.std.proofs.Common.{◌≡◌, ℕ, ◌+◌, ◌-◌, ◌<◌, Bool, true, false, not, List, length, Option, Some, None, Result, Ok, Err, IsTrue, IsOkUnless, refl, sym, ap, ◌∙◌, subst}
use Rattle.std.specs.Prelude.{nat_lt, nat_le, ◌==◌, option_map, if◌then◌else◌}
use Rattle.std.specs.FinMap as map
use Rattle.std.proofs.lemmas.Option.{same_Some, none-some}
use Rattle.views.specs.Numbers.{Byte}
use Rattle.views.specs.Limits.{ALL_FILES_LIMIT}
use Rattle.sys_abi.specs.declared.errors.TheConstants.{EBADF, EFBIG, ENOSPC}
use Rattle.vfs_files.specs.declared.file_fault.FileFault.{FileFault}
use Rattle.vfs_files.specs.declared.file_fault.FileFault.TheVariants.{Space, Memory}
use Rattle.vfs_files.specs.Bytes.{written}
use Rattle.vfs_files.specs.FileTable.{FileTable, bytes_of, with_write, is_too_big}
use Rattle.vfs_files.proofs.Changes.{contents-found}
use Rattle.plain_process.specs.Attempts.{Try, Fails, and_then, need, found}
use Rattle.plain_machine.specs.declared.kernel.PlainKernel.{PlainKernel}
use Rattle.plain_machine.specs.Attempts.{Served, replied}
use Rattle.plain_machine.specs.Kernel.{Held}
use Rattle.plain_machine.specs.Rows.Files.{OFFSET_LIMIT, with_file_bytes}
use Rattle.plain_machine.specs.Transfers.Files.{total_bytes, with_piece, write_place, moved_behind, write_piece, write_file}
use Rattle.host_descriptors.specs.OfHostTables.declared.kernel.Kernel.{Kernel}
use Rattle.host_descriptors.specs.OfHostTables.Stands.{Given, Stands}
use Rattle.host_descriptors.proofs.OfHostTables.Frames.{files_kept}
use Rattle.host_files.proofs.Sizes.{written_is, too_big_is}

module _ (g : Given) (real : Kernel) (k : PlainKernel) (st : Stands g None real k) (h : Held) (number : ℕ) where
  module _ (offset : ℕ) (given : List Byte) where
    abbrev by_bytes : List Byte → Try Served
    by_bytes bytes = if length given == 0 then replied k 0 else (
        write_piece k h number (write_place h.description.flags offset bytes) bytes given)

    abbrev the_write : Try Served
    the_write = write_file k h number offset given

    write_is : (o : Option (List Byte)) → map.get real.files.files number ≡ o
        → the_write ≡ and_then (found o EBADF) by_bytes
    unfolding write_file
    write_is o is =
        ap (λ m. and_then (found (map.get m number) EBADF) by_bytes) st.files.files_are
        ∙ ap (λ w. and_then (found w EBADF) by_bytes) is

    pub write_bad : map.get real.files.files number ≡ None → the_write ≡ Fails EBADF
    unfolding and_then found
    write_bad none = write_is None none

    pub write_none : (bytes : List Byte) → map.get real.files.files number ≡ Some bytes
        → (length given == 0) ≡ true → the_write ≡ replied k 0
    unfolding and_then found
    write_none bytes is none =
        write_is (Some bytes) is
        ∙ ap (λ b. if b then replied k 0 else (
        write_piece k h number (write_place h.description.flags offset bytes) bytes given)) none

    pub write_some : (bytes : List Byte) → map.get real.files.files number ≡ Some bytes
        → (length given == 0) ≡ false
        → the_write ≡ write_piece k h number (write_place h.description.flags offset bytes) bytes given
    unfolding and_then found
    write_some bytes is some =
        write_is (Some bytes) is
        ∙ ap (λ b. if b then replied k 0 else (
        write_piece k h number (write_place h.description.flags offset bytes) bytes given)) some

  module _ (place : ℕ) (bytes piece : List Byte) where
    abbrev end : ℕ
    end = place + length piece

    abbrev roomy : Bool
    roomy = nat_le (total_bytes k.files + (end - length bytes)) ALL_FILES_LIMIT

    abbrev written_kernel : PlainKernel
    written_kernel = with_file_bytes k number (with_piece bytes place piece)

    abbrev pub the_piece : Try Served
    the_piece = write_piece k h number place bytes piece

    abbrev by_room : Bool → Try Served
    by_room b = and_then (need b ENOSPC) (λ _.
        replied (moved_behind written_kernel h number end) (length piece))

    abbrev by_end : Bool → Try Served
    by_end b = and_then (need b EFBIG) (λ _. by_room roomy)

    piece_is : the_piece ≡ by_end (nat_lt end OFFSET_LIMIT)
    unfolding write_piece
    piece_is = refl

    pub piece_far : nat_lt end OFFSET_LIMIT ≡ false → the_piece ≡ Fails EFBIG
    unfolding and_then need
    piece_far far = piece_is ∙ ap by_end far

    near_is : nat_lt end OFFSET_LIMIT ≡ true → the_piece ≡ by_room roomy
    unfolding and_then need
    near_is near = piece_is ∙ ap by_end near

    module _ (is : map.get real.files.files number ≡ Some bytes) (some : 0 < length piece)
        (near : nat_lt end OFFSET_LIMIT ≡ true) where
      too_big : is_too_big real.files.files number place piece ≡ not roomy
      unfolding bytes_of
      too_big =
          too_big_is real.files.files number place piece bytes is some near
          ∙ ap (λ m. not (nat_le (total_bytes m + (end - length bytes)) ALL_FILES_LIMIT)) (sym st.files.files_are)

      not_true : (b : Bool) → not b ≡ true → b ≡ false
      not_true true e = sym e
      not_true false e = refl

      not_false : (b : Bool) → not b ≡ false → b ≡ true
      not_false true e = refl
      not_false false e = sym e

      pub piece_full : is_too_big real.files.files number place piece ≡ true → the_piece ≡ Fails ENOSPC
      unfolding and_then need
      piece_full big = near_is near ∙ ap by_room (not_true roomy (sym too_big ∙ big))

      pub piece_done : is_too_big real.files.files number place piece ≡ false
          → the_piece ≡ replied (moved_behind written_kernel h number end) (length piece)
      unfolding and_then need
      piece_done fits = near_is near ∙ ap by_room (not_false roomy (sym too_big ∙ fits))

      bytes_are : with_write real.files.files number place piece
          ≡ map.insert real.files.files number (with_piece bytes place piece)
      bytes_are =
          ap (λ b. map.insert real.files.files number (written place piece b))
          (contents-found real.files.files number bytes (sym is))
          ∙ ap (map.insert real.files.files number) (written_is place piece bytes some)

      pub written_kept : (t : FileTable)
          → t ≡ record real.files { files = with_write real.files.files number place piece }
          → Stands g None (record real { files = t }) written_kernel
      written_kept t after =
          files_kept g None real k st t k.names (map.insert k.files number (with_piece bytes place piece)) k.next_file
          (record {
            names_are = st.files.names_are ∙ sym (ap (λ (w : FileTable). w.names) after);
            files_are = ap (λ m. map.insert m number (with_piece bytes place piece)) st.files.files_are
                ∙ sym (ap (λ (w : FileTable). w.files) after ∙ bytes_are);
            next_is = st.files.next_is ∙ sym (ap (λ (w : FileTable). w.next_file) after);
          })

-- what a look-up of a length told

pub size_none : (o : Option (List Byte)) → option_map length o ≡ None → o ≡ None
size_none None e = refl
size_none (Some bytes) e = absurd (none-some (length bytes) (sym e))

pub size_some : (o : Option (List Byte)) (size : ℕ) → option_map length o ≡ Some size
    → (bytes : List Byte) × ((o ≡ Some bytes) × (length bytes ≡ size))
size_some None size e = absurd (none-some size e)
size_some (Some bytes) size e = (bytes, (refl, same_Some (length bytes) size e))

-- what a write came to

ok_err : {A E : Type 0} (x : A) (e : E) → Ok x ≡ Err e → ⊥
ok_err x e h = cc

pub fits_by : {A : Type 0} (b : Bool) (r : Result A FileFault) (x : A) → r ≡ Ok x → (IsTrue b → r ≡ Err Space)
    → b ≡ false
fits_by true r x is refused = absurd (ok_err x Space (sym is ∙ refused refl))
fits_by false r x is refused = refl

other_fault : Space ≡ Memory → ⊥
other_fault e = cc

pub big_by : {A : Type 0} (b : Bool) (r : Result A FileFault) → r ≡ Err Space
    → (b ≡ false → IsOkUnless r Memory) → b ≡ true
big_by true r is granted = refl
big_by false r is granted = absurd (other_fault (subst (λ w. IsOkUnless w Memory) is (granted refl)))
