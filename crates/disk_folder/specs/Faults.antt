-- A folder's count of faults.
use Rattle.std.specs.Prelude.{◌≡◌, ℕ, ◌^◌, ◌<◌, ◌≤◌, Result, Err}
use Rattle.views.specs.Faults.{IsFaultOf}
use Rattle.disk_folder.specs.declared.disk_fault.DiskFault.{DiskFault}
use Rattle.disk_folder.specs.declared.disk_fault.DiskFault.TheVariants.{Failed, Memory}

-- The count does not fall. `Failed` is told only where it rose, and want of memory is no fault.
pub record HasCause {A : Type 0} (result : Result A DiskFault) (old new : ℕ) : Type 0 where
  pub later : old ≤ new
  pub failed : IsFaultOf result Failed old new
  pub memory : result ≡ Err Memory → new ≡ old
  -- it is a count of 64 bits
  pub small : new < 2 ^ 64
