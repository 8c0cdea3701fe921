-- What a wait for any child finds, said of each child.
-- Source: `man 2 wait4`; that the least child that has ended comes first is this project's own rule.
--     IsChildless m p               p has no child
--     IsNoneEnded m p               p has a child, and none of its children has ended
--     IsEnded m p r status          r is a child of p that has ended with that status
--     IsLeastEnded m p r status     and no child of p with a lesser number has ended
--     Finds m p found               that of these which is found
use Rattle.std.specs.Prelude.{◌≡◌, ℕ, false, Some, IsTrue}
use Rattle.std.specs.Ordering.{is_le}
use Rattle.std.specs.FinMap as map
use Rattle.virt_ids.specs.OfSysAbi.declared.identity.RealPid.{RealPid}
use Rattle.virt_ids.specs.OfSysAbi.Orders.{real_pid_cmp}
use Rattle.virt_ids.specs.OfSysAbi.declared.life.Life.TheVariants.{Zombie}
use Rattle.proc_book.specs.declared.process.Process.{Process}
use Rattle.proc_book.specs.declared.waiting.Waiting.{Waiting}
use Rattle.proc_book.specs.declared.waiting.Waiting.TheVariants.{NoChild, NotReady, Ended}
use Rattle.proc_book.specs.Processes.{is_child_of}
use Rattle.proc_book.specs.Ends.{Processes, is_zombie_child}

abbrev pub IsChildless : Processes → RealPid → Type 0
IsChildless m p = (r : RealPid) (process : Process) → map.get m r ≡ Some process → is_child_of p process ≡ false

pub record IsChild (m : Processes) (p r : RealPid) : Type 0 where
  pub process : Process
  pub there : map.get m r ≡ Some process
  pub child : IsTrue (is_child_of p process)

pub record IsNoneEnded (m : Processes) (p : RealPid) : Type 0 where
  pub child : RealPid
  pub there : IsChild m p child
  pub live : (r : RealPid) (process : Process) → map.get m r ≡ Some process → is_zombie_child p process ≡ false

pub record IsEnded (m : Processes) (p r : RealPid) (status : ℕ) : Type 0 where
  pub process : Process
  pub there : map.get m r ≡ Some process
  pub child : IsTrue (is_child_of p process)
  pub ended : process.life ≡ Zombie status

pub record IsLeastEnded (m : Processes) (p r : RealPid) (status : ℕ) : Type 0 where
  pub child : IsEnded m p r status
  pub least : (q : RealPid) (process : Process) → map.get m q ≡ Some process → IsTrue (is_zombie_child p process) → IsTrue (is_le (real_pid_cmp r q))

abbrev pub Finds : Processes → RealPid → Waiting → Type 0
Finds m p NoChild = IsChildless m p
Finds m p NotReady = IsNoneEnded m p
Finds m p (Ended r status) = IsLeastEnded m p r status
