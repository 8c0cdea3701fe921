-- The bytes of a file, and what a read and a write do to them.
-- Source: `man 2 pread`, `man 2 pwrite`, and `man 2 lseek` for what reads in a gap.
--     filled at bytes              zeros after the bytes, up to the offset
--     overwritten at piece bytes   the piece in place of the bytes from an offset on, and past their end
--     written at piece bytes       the bytes after a write; an empty piece changes nothing
use Rattle.std.specs.Prelude.{ℕ, ◌+◌, ◌-◌, List, [], ◌∷◌, ◌++◌, length, take, drop, replicate}

abbrev pub filled : ℕ → List ℕ → List ℕ
filled at bytes = bytes ++ replicate (at - length bytes) 0

abbrev pub overwritten : ℕ → List ℕ → List ℕ → List ℕ
overwritten at piece bytes = take at bytes ++ piece ++ drop (at + length piece) bytes

abbrev pub written : ℕ → List ℕ → List ℕ → List ℕ
written at [] bytes = bytes
written at (byte ∷ piece) bytes = overwritten at (byte ∷ piece) (filled at bytes)
