-- What holds of every plain state that a run reaches: of its kernel part, of each process's part, and of how
-- they fit together.
-- Source: the limits of docs/MACHINE.md.
--     IsKernel k      of the kernel part
--     IsValid g       of it and of each process's part, and of how they fit together
use Rattle.std.specs.Prelude.{◌≡◌, ℕ, Some, is_some}
use Rattle.std.specs.FinMap as map
use Rattle.plain_tables.specs.OfSysAbi.declared.identity.VPid.{VPid}
use Rattle.plain_tables.specs.OfPlainProcess.declared.user_part.UserPart.{UserPart}
use Rattle.plain_tables.specs.declared.process.Process.{Process}
use Rattle.plain_machine.specs.declared.plain.Plain.{Plain}
use Rattle.plain_machine.specs.Kernel.{is_live}
pub use Rattle.plain_machine.specs.Kernels.{IsKernel, AreNamed}
use Rattle.plain_tables.specs.OfPlainProcess.Valid.{Each, IsUser}
pub use Rattle.plain_tables.specs.Valid.Processes.{IsSignalSet, IsGivenOut, FitsLife, IsProcess}

-- a process's part has the threads that the kernel part has of it
abbrev pub SameThreads : Process → UserPart → Type 0
SameThreads process user = (t : ℕ) → is_some (map.get user.threads t) ≡ is_some (map.get process.threads t)

pub record IsValid (g : Plain) : Type 0 where
  pub kernel : IsKernel g.kernel
  pub users : Each g.users (λ p user. IsUser user)
  pub alive : (p : VPid) → is_some (map.get g.users p) ≡ is_live g.kernel p
  pub threads : (p : VPid) (process : Process) (user : UserPart) → map.get g.kernel.processes p ≡ Some process
      → map.get g.users p ≡ Some user → SameThreads process user
