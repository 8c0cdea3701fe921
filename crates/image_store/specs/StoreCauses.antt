-- Why a store refuses.
--     HasCause result fault old new     a count of faults goes from old to new in a call: it does not fall,
--                                       and the result is that fault only where it rose
--     IsOutside fault                   the disk failed or memory ran out
--     IsOfReading fault                 any refusal but that no set counts
--     IsOrOutside result bytes          the result is the set of these files, or the disk failed or memory
--                                       ran out
--     IsDamageOrOutside result damage   the result is this damage, or the disk failed or memory ran out
--     IsManifestOrOutside result m      the same of a manifest
--     TellsDamage result damage         the result is this damage, Ok where there is none, or the disk failed
--                                       or memory ran out
use Rattle.std.specs.Prelude.{◌≡◌, ℕ, ◌^◌, ◌<◌, ◌≤◌, List, Option, Some, None, Result, Ok, Err}
use Rattle.views.specs.Faults.{IsFaultOf}
use Rattle.image_format.specs.declared.damage.Damage.{Damage}
use Rattle.image_format.specs.declared.manifest.Manifest.{Manifest}
use Rattle.image_format.specs.declared.set_bytes.SetBytes.{SetBytes}
use Rattle.image_store.specs.declared.store_fault.StoreFault.{StoreFault}
use Rattle.image_store.specs.declared.store_fault.StoreFault.TheVariants.{DiskFault, NoSet, Damaged, Memory}

pub record HasCause {A E : Type 0} (result : Result A E) (fault : E) (old new : ℕ) : Type 0 where
  pub later : old ≤ new
  pub failed : IsFaultOf result fault old new
  -- a count of 64 bits stays one
  pub small : old < 2 ^ 64 → new < 2 ^ 64

abbrev pub IsOutside : StoreFault → Type 0
IsOutside DiskFault = Unit {0}
IsOutside NoSet = ⊥
IsOutside (Damaged damage) = ⊥
IsOutside Memory = Unit {0}

abbrev pub IsOfReading : StoreFault → Type 0
IsOfReading DiskFault = Unit {0}
IsOfReading NoSet = ⊥
IsOfReading (Damaged damage) = Unit {0}
IsOfReading Memory = Unit {0}

abbrev pub IsOrOutside : Result SetBytes StoreFault → List (List ℕ) → Type 0
IsOrOutside (Ok set) bytes = set.files ≡ bytes
IsOrOutside (Err fault) bytes = IsOutside fault

abbrev pub IsDamageOrOutside : Result SetBytes StoreFault → Damage → Type 0
IsDamageOrOutside (Ok set) damage = ⊥
IsDamageOrOutside (Err DiskFault) damage = Unit {0}
IsDamageOrOutside (Err NoSet) damage = ⊥
IsDamageOrOutside (Err (Damaged found)) damage = found ≡ damage
IsDamageOrOutside (Err Memory) damage = Unit {0}

abbrev pub IsManifestOrOutside : Result Manifest StoreFault → Manifest → Type 0
IsManifestOrOutside (Ok found) m = found ≡ m
IsManifestOrOutside (Err fault) m = IsOutside fault

abbrev pub TellsDamage : {A : Type 0} → Result A StoreFault → Option Damage → Type 0
TellsDamage (Ok value) damage = damage ≡ None
TellsDamage (Err DiskFault) damage = Unit {0}
TellsDamage (Err NoSet) damage = ⊥
TellsDamage (Err (Damaged found)) damage = damage ≡ Some found
TellsDamage (Err Memory) damage = Unit {0}
