-- The part of a fork's child while its number isn't known yet.
-- Source: `man 2 fork`.
--     alone t found      one thread under its number, or none
--     twin_of user t     its parent's part with the caller's thread alone, where it stands; nobody waits
use Rattle.std.specs.Prelude.{ℕ, [], Option, Some, None}
use Rattle.std.specs.Ordering.{nat_cmp}
use Rattle.std.specs.FinMap as map
use Rattle.plain_process.specs.declared.user_part.UserPart.{UserPart}
use Rattle.plain_process.specs.declared.user_part.ThreadPart.{ThreadPart}

abbrev pub alone : ℕ → Option ThreadPart → map.FinMap nat_cmp ThreadPart
alone t None = map.empty
alone t (Some thread) = map.insert map.empty t thread

abbrev pub twin_of : UserPart → ℕ → UserPart
twin_of user t = record user { threads = alone t (map.get user.threads t); waiters = [] }
