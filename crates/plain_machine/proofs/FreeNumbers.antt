-- The search for a free descriptor, one number further.
--     free_among_more, free_among_none
use Rattle.std.proofs.Common.{◌≡◌, ℕ, ◌+◌, ◌-◌, ◌<◌, ap, arith, cond}
use Rattle.std.specs.Prelude.{suc, Some, None, is_some}
use Rattle.std.specs.FinMap as map
use Rattle.plain_tables.specs.OfSysAbi.declared.identity.VPid.{VPid}
use Rattle.plain_tables.specs.Tables.{Descriptors, slot}
use Rattle.plain_machine.specs.Kernel.{free_among}

pub free_among_more : (m : Descriptors) (p : VPid) (n : ℕ) → n < 256 → free_among m p n (256 - n) ≡ cond (is_some (map.get m (slot p n))) (free_among m p (n + 1) (256 - (n + 1))) (Some n)
unfolding free_among
free_among_more m p n low = let next : 256 - n ≡ suc (256 - (n + 1)) = omega arith in ap (free_among m p n) next

pub free_among_none : (m : Descriptors) (p : VPid) (n : ℕ) → 256 - n ≡ 0 → free_among m p n (256 - n) ≡ None
unfolding free_among
free_among_none m p n none = ap (free_among m p n) none
