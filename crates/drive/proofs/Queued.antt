-- One more process in a queue.
use Rattle.std.proofs.Common.{◌≡◌, ℕ, List, [], ◌∷◌, ◌++◌, refl, ap}
use Rattle.std.proofs.Common.{map as each}
use Rattle.sys_abi.specs.declared.identity.VPid.{VPid}
use Rattle.plain_tables.specs.Tables.{pid}

pub each_more : (numbers : List ℕ) (p : VPid) (left : List VPid) → each pid (numbers ++ p.0 ∷ []) ++ left ≡ each pid numbers ++ p ∷ left
each_more [] p left = refl
each_more (n ∷ numbers) p left = ap (λ rest. pid n ∷ rest) (each_more numbers p left)
