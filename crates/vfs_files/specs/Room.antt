-- Whether a write has room, from the number of bytes that all files have.
--     is_past total at piece bytes     all files would have too many bytes, or the write would end too far
use Rattle.std.specs.Prelude.{ℕ, ◌+◌, ◌-◌, Bool, false, ◌||◌, nat_lt, List, [], ◌∷◌, length}
use Rattle.vfs_files.specs.declared.limits.TheConstants.{TOTAL_LIMIT, LAST_END}
use Rattle.vfs_files.specs.Bytes.{written}

abbrev pub is_past : ℕ → ℕ → List ℕ → List ℕ → Bool
is_past total at [] bytes = false
is_past total at (byte ∷ piece) bytes = nat_lt TOTAL_LIMIT (total - length bytes + length (written at (byte ∷ piece) bytes)) || nat_lt LAST_END (at + length (byte ∷ piece))
