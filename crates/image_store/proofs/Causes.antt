-- The count of faults over a stretch of calls.
--     Counts             it does not fall, and stays a count of 64 bits
--     counts_of, counts  what one call says of it
--     counts_then, counts_none      two stretches, and no call at all
use Rattle.std.proofs.Common.{ℕ, ◌^◌, ◌<◌, ◌≤◌, arith}
use Rattle.std.specs.Prelude.{Result}
use Rattle.disk_folder.specs.Faults.{HasCause as FolderCause}
use Rattle.disk_folder.specs.declared.disk_fault.DiskFault.{DiskFault as FolderFault}
use Rattle.image_store.specs.StoreCauses.{HasCause}

-- a stretch of calls that succeeded
pub record Counts (old new : ℕ) : Type 0 where
  pub later : old ≤ new
  pub small : old < 2 ^ 64 → new < 2 ^ 64

pub counts_of : {A : Type 0} {r : Result A FolderFault} {old new : ℕ} → FolderCause r old new → Counts old new
counts_of cause = record { later = cause.later; small = λ _. cause.small }

pub counts : {A E : Type 0} {r : Result A E} {fault : E} {old new : ℕ} → HasCause r fault old new → Counts old new
counts cause = record { later = cause.later; small = cause.small }

pub counts_then : {a b c : ℕ} → Counts a b → Counts b c → Counts a c
counts_then first second = record { later = let l = first.later in let m = second.later in omega arith; small = λ h. second.small (first.small h) }

pub counts_none : (n : ℕ) → Counts n n
counts_none n = record { later = omega arith; small = λ h. h }
