-- Words on the bytes of a file.
-- Source: `man 2 pread`.
--     read_from at n bytes         what a read of n bytes at an offset gives, fewer at the end
use Rattle.std.specs.Prelude.{ℕ, List, take, drop}

abbrev pub read_from : ℕ → ℕ → List ℕ → List ℕ
read_from at n bytes = take n (drop at bytes)
