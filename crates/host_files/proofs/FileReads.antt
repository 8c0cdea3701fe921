-- Reads of open files through the pairs.
use Rattle.std.proofs.Common.{◌≡◌, ℕ, ◌+◌, List, length, Option, Some, None, sym, ap, ◌∙◌, subst}
use Rattle.std.specs.FinMap as map
use Rattle.views.specs.Numbers.{Byte}
use Rattle.sys_abi.specs.declared.errors.TheConstants.{EBADF}
use Rattle.plain_process.specs.Attempts.{Try, Fails, and_then, found}
use Rattle.plain_machine.specs.declared.kernel.PlainKernel.{PlainKernel}
use Rattle.plain_machine.specs.Attempts.{Served}
use Rattle.plain_machine.specs.Kernel.{Held}
use Rattle.plain_machine.specs.Transfers.Answers.{gave}
use Rattle.plain_machine.specs.Transfers.Files.{bytes_from, read_room, moved_behind, read_file}
use Rattle.host_descriptors.specs.OfHostTables.declared.kernel.Kernel.{Kernel}
use Rattle.host_descriptors.specs.OfHostTables.declared.attempt.Attempt.TheVariants as answer
use Rattle.host_descriptors.specs.OfHostTables.Serves.{Serves, ByNumber, same, bytes_or}
use Rattle.host_descriptors.specs.OfHostTables.Stands.{Given, Stands}

module _ (g : Given) (real : Kernel) (k : PlainKernel) (st : Stands g None real k) (h : Held)
    (number offset count : ℕ) where
  abbrev piece_of : List Byte → List Byte
  piece_of bytes = bytes_from bytes offset (read_room offset count)

  abbrev given_of : List Byte → Try Served
  given_of bytes = gave (moved_behind k h number (offset + length (piece_of bytes))) (piece_of bytes)

  abbrev the_read : Try Served
  the_read = read_file k h number offset count

  read_is : (o : Option (List Byte)) → map.get real.files.files number ≡ o
      → the_read ≡ and_then (found o EBADF) given_of
  unfolding read_file
  read_is o is =
      ap (λ m. and_then (found (map.get m number) EBADF) given_of) st.files.files_are
      ∙ ap (λ w. and_then (found w EBADF) given_of) is

  pub read_bad : map.get real.files.files number ≡ None → the_read ≡ Fails EBADF
  unfolding and_then found
  read_bad none = read_is None none

  pub read_done : (bytes : List Byte) → map.get real.files.files number ≡ Some bytes → (taken : ℕ)
      → taken ≡ length (piece_of bytes) → (before now : List Byte) → now ≡ bytes_or before (piece_of bytes)
      → (new : Kernel) → Stands g None new (moved_behind k h number (offset + taken))
      → Serves ByNumber same g real new before now (answer.Gives taken) the_read
  unfolding and_then found
  read_done bytes is taken many before now gives new stands =
      subst (Serves ByNumber same g real new before now (answer.Gives taken)) (sym (read_is (Some bytes) is))
      (record {
        reply = many;
        bytes = gives;
        stands = subst (λ n. Stands g None new (moved_behind k h number (offset + n))) many stands;
      })
