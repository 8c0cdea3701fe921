-- Bytes within a page.
--     bytes_from page offset n               n of its bytes, from an offset on
--     with_piece frame offset piece          the frame, with the piece in the place of as many bytes
--     IsRead frame offset size value         the frame may be read, and so many of its bytes spell this number
use Rattle.std.specs.Prelude.{◌≡◌, true, ℕ, zero, suc, ◌+◌, List, [], ◌∷◌, ◌++◌, length, take, drop, slice_index}
use Rattle.plain_process.specs.declared.memory.Frame.{Frame}
use Rattle.plain_process.specs.declared.memory.Right.TheVariants.{Read}
use Rattle.plain_process.specs.Memory.{allows, little_endian}

unfoldable pub bytes_from : List ℕ → ℕ → ℕ → List ℕ
bytes_from page offset zero = []
bytes_from page offset (suc n) = bytes_from page offset n ++ slice_index page (offset + n) ∷ []

abbrev pub with_piece : Frame → ℕ → List ℕ → Frame
with_piece frame offset piece = record { rights = frame.rights; page = take offset frame.page ++ piece ++ drop (offset + length piece) frame.page }

pub record IsRead (frame : Frame) (offset size value : ℕ) : Type 0 where
  pub allowed : allows Read frame.rights ≡ true
  pub spelled : value ≡ little_endian (bytes_from frame.page offset size)
