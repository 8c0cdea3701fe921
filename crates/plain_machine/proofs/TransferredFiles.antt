-- The bytes of files that read and write move.
--     piece_bounds      a piece that is read      whole_piece      the kernel part stays whole where a piece is written
use Rattle.std.proofs.Common.{◌≡◌, ℕ, ◌+◌, ◌-◌, ◌^◌, ◌<◌, ◌≤◌, List, [], ◌++◌, length, take, drop, ap, arith}
use Rattle.std.specs.Prelude.{Some, is_some, replicate, All}
use Rattle.std.specs.FinMap as map
use Rattle.std.proofs.Math.Nat.{min-le_left, min-le_right}
use Rattle.std.proofs.lemmas.List.{length-take, length-drop, length-append, length-replicate}
use Rattle.std.proofs.lemmas.List.Elements.{All-take, All-drop, All-append, All-replicate}
use Rattle.plain_tables.specs.OfViews.Limits.{ALL_FILES_LIMIT}
use Rattle.plain_tables.specs.OfPlainProcess.Valid.{IsByte}
use Rattle.plain_machine.specs.declared.kernel.PlainKernel.{PlainKernel}
use Rattle.plain_tables.specs.declared.description.Object.TheVariants.{File}
use Rattle.plain_machine.specs.Kernel.{Held}
use Rattle.plain_machine.specs.Kernels.{IsKernel}
use Rattle.plain_machine.specs.Rows.Files.{with_file_bytes}
use Rattle.plain_machine.specs.Transfers.Files.{LAST_OFFSET, read_room, bytes_from, filled, with_piece, total_bytes, moved_behind}
use Rattle.plain_tables.proofs.FileSums.{sum_replaced}
use Rattle.plain_machine.proofs.WholeObjects.{whole_bytes, whole_offset}

-- a piece that is read, and where it ends
module _ (bytes : List ℕ) (offset count : ℕ) where
  pub piece_short : length (bytes_from bytes offset (read_room offset count)) ≤ count
  piece_short =
      let some = length-take (read_room offset count) (drop offset bytes) in
      let least = min-le_left (read_room offset count) (length (drop offset bytes)) in
      let most = min-le_left count (LAST_OFFSET - offset) in
      omega arith

  pub piece_ends : offset < 2 ^ 32 → offset + length (bytes_from bytes offset (read_room offset count)) < 2 ^ 32
  piece_ends fits =
      let some = length-take (read_room offset count) (drop offset bytes) in
      let least = min-le_left (read_room offset count) (length (drop offset bytes)) in
      let most = min-le_right count (LAST_OFFSET - offset) in
      omega arith

module _ (bytes : List ℕ) (place : ℕ) (piece : List ℕ) where
  abbrev full : List ℕ
  full = filled place bytes

  abbrev tail : List ℕ
  tail = drop (place + length piece) full

  pub piece_length : length (with_piece bytes place piece) ≡ place + length piece + (length bytes - (place + length piece))
  piece_length =
      let gap = length-replicate {A = ℕ} (place - length bytes) 0 in
      let all = length-append bytes (replicate (place - length bytes) 0) in
      let first = length-take place full in
      let last = length-drop (place + length piece) full in
      let one = length-append (take place full) piece in
      let two = length-append (take place full ++ piece) tail in
      omega (arith, gap, all, first, last, one, two)

  pub piece_bytes : All IsByte bytes → All IsByte piece → All IsByte (with_piece bytes place piece)
  piece_bytes are new =
      let every = All-append IsByte bytes (replicate (place - length bytes) 0) are (All-replicate IsByte (place - length bytes) 0 (omega arith)) in
      All-append IsByte (take place full ++ piece) tail (All-append IsByte (take place full) piece (All-take IsByte place full every) new) (All-drop IsByte (place + length piece) full every)

pub whole_piece : (k : PlainKernel) (h : Held) (number offset place : ℕ) (bytes piece : List ℕ) → IsKernel k → map.get k.descriptions h.desc ≡ Some h.description → h.description.object ≡ File number offset → map.get k.files number ≡ Some bytes
    → All IsByte piece → place + length piece < 2 ^ 31 → total_bytes k.files + (place + length piece - length bytes) ≤ ALL_FILES_LIMIT
    → IsKernel (moved_behind (with_file_bytes k number (with_piece bytes place piece)) h number (place + length piece))
whole_piece k h number offset place bytes piece is known object there new ends fits =
    let old = sum_replaced k.files number bytes [] there in
    let sum = sum_replaced k.files number bytes (with_piece bytes place piece) there in
    let size = piece_length bytes place piece in
    whole_offset (with_file_bytes k number (with_piece bytes place piece)) h number offset (place + length piece)
    (whole_bytes k number (with_piece bytes place piece) is (ap is_some there) (piece_bytes bytes place piece (is.files.bytes number bytes there) new) (omega arith)) known object (omega arith)
