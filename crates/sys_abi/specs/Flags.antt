-- Flags of calls: bits of one number.
--     has_flag flags flag      the flag, a power of two, is among them
use Rattle.std.specs.Prelude.{ℕ, Bool, ◌/◌, ◌%◌, ◌==◌}
use Rattle.views.specs.Numbers.{Flags}

abbrev pub has_flag : Flags → ℕ → Bool
has_flag flags flag = flags / flag % 2 == 1
