-- How many bytes a file and all files have after a write.
--     written_is        what a write leaves, in the plain machine's word
--     too_big_is        whether a write has no room
use Rattle.std.proofs.Common.{◌≡◌, ℕ, ◌+◌, ◌-◌, ◌<◌, ◌≤◌, min, Bool, true, false, not, List, [], ◌∷◌, ◌++◌, length, take, drop, replicate, Some, refl, sym, ap, ◌∙◌, arith}
use Rattle.std.specs.Prelude.{nat_lt, nat_le, ◌||◌}
use Rattle.std.specs.FinMap as map
use Rattle.std.proofs.lemmas.Bool.Decides.{nat_tests}
use Rattle.std.proofs.lemmas.List.{length-append, length-take, length-drop, length-replicate}
use Rattle.views.specs.Numbers.{Byte}
use Rattle.views.specs.Limits.{ALL_FILES_LIMIT}
use Rattle.vfs_files.specs.declared.limits.TheConstants.{LAST_END}
use Rattle.vfs_files.specs.Bytes.{filled, overwritten, written}
use Rattle.vfs_files.specs.FileTable.{Contents, bytes_of, with_write, is_too_big}
use Rattle.vfs_files.proofs.Changes.{sum-write}
use Rattle.plain_machine.specs.Rows.Files.{OFFSET_LIMIT}
use Rattle.plain_machine.specs.Transfers.Files.{with_piece}

none_below : 0 < 0 → ⊥
none_below h = omega (arith, h)

pub written_is : (place : ℕ) (piece bytes : List Byte) → 0 < length piece
    → written place piece bytes ≡ with_piece bytes place piece
written_is place [] bytes some = absurd (none_below some)
written_is place (byte ∷ piece) bytes some = refl

length_filled : (place : ℕ) (bytes : List Byte) → length (filled place bytes) ≡ length bytes + (place - length bytes)
length_filled place bytes =
    length-append bytes (replicate (place - length bytes) 0)
    ∙ ap (λ n. length bytes + n) (length-replicate (place - length bytes) 0)

length_overwritten : (place : ℕ) (piece bytes : List Byte) → length (overwritten place piece bytes)
    ≡ min place (length bytes) + length piece + (length bytes - (place + length piece))
length_overwritten place piece bytes =
    length-append (take place bytes ++ piece) (drop (place + length piece) bytes)
    ∙ (λ i. (length-append (take place bytes) piece ∙ ap (λ n. n + length piece) (length-take place bytes)) i
    + length-drop (place + length piece) bytes i)

min_above : (a b : ℕ) → a ≤ b → min a b ≡ a
min_above a b h = grind (arith, h)

grown_by : (place size piece : ℕ)
    → min place (size + (place - size)) + piece + (size + (place - size) - (place + piece))
    ≡ size + (place + piece - size)
grown_by place size piece =
    ap (λ n. n + piece + (size + (place - size) - (place + piece)))
    (min_above place (size + (place - size)) (omega arith))
    ∙ omega arith

length_written : (place : ℕ) (piece bytes : List Byte) → 0 < length piece
    → length (written place piece bytes) ≡ length bytes + (place + length piece - length bytes)
length_written place piece bytes some =
    ap length (written_is place piece bytes some) ∙ length_overwritten place piece (filled place bytes)
    ∙ ap (λ n. min place n + length piece + (n - (place + length piece))) (length_filled place bytes)
    ∙ grown_by place (length bytes) (length piece)

module _ (files : Contents) (number place : ℕ) (piece bytes : List Byte) (is : map.get files number ≡ Some bytes)
    (some : 0 < length piece) where
  total_written : bytes_of (with_write files number place piece)
      ≡ bytes_of files + (place + length piece - length bytes)
  total_written =
      let sum = sum-write files number place (bytes_of files) piece bytes (sym is) refl in
      let size = length_written place piece bytes some in
      omega (arith, sum, size)

  too_big_by : (piece : List Byte) → 0 < length piece → (a b : Bool)
      → nat_lt ALL_FILES_LIMIT (bytes_of (with_write files number place piece)) ≡ a
      → nat_lt LAST_END (place + length piece) ≡ b → is_too_big files number place piece ≡ (a || b)
  too_big_by [] h a b e f = absurd (none_below h)
  too_big_by (byte ∷ piece) h a b e f = λ i. e i || f i

  or_false : (a : Bool) → (a || false) ≡ a
  or_false true = refl
  or_false false = refl

  below_end : (end : ℕ) → nat_lt end OFFSET_LIMIT ≡ true → nat_lt LAST_END end ≡ false
  below_end end h = grind (arith, nat_tests, h)

  above_is : (n l : ℕ) → nat_lt l n ≡ not (nat_le n l)
  above_is n l = by_test (nat_le n l) refl
    where
      by_test : (b : Bool) → nat_le n l ≡ b → nat_lt l n ≡ not b
      by_test true e = grind (arith, nat_tests, e)
      by_test false e = grind (arith, nat_tests, e)

  pub too_big_is : nat_lt (place + length piece) OFFSET_LIMIT ≡ true → is_too_big files number place piece
      ≡ not (nat_le (bytes_of files + (place + length piece - length bytes)) ALL_FILES_LIMIT)
  too_big_is near =
      too_big_by piece some (nat_lt ALL_FILES_LIMIT (bytes_of (with_write files number place piece))) false refl
      (below_end (place + length piece) near)
      ∙ or_false (nat_lt ALL_FILES_LIMIT (bytes_of (with_write files number place piece)))
      ∙ ap (nat_lt ALL_FILES_LIMIT) total_written
      ∙ above_is (bytes_of files + (place + length piece - length bytes)) ALL_FILES_LIMIT
