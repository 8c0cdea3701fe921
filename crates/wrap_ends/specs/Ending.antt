-- A process on its way to its end.
--     EndsAs new next_id k p who Also      the system stands for a kernel part in which the process lives,
--                                          and that comes to the same when it leaves; Also says more of it
--     HasNoZombie k p                      no child of the process has ended
--     Reaps, EndsOne, EndsThread           one step, by whether there was one to make
--     without_thread ids own t             the pairs without a thread's, unless it has its process's number
use Rattle.std.specs.Prelude.{◌≡◌, ◌==◌, ℕ, ◌<◌, ◌≤◌, Bool, true, false, Some, if◌then◌else◌}
use Rattle.std.specs.FinMap as map
use Rattle.sys_abi.specs.declared.identity.RealPid.{RealPid}
use Rattle.sys_abi.specs.declared.identity.VPid.{VPid}
use Rattle.virt_ids.specs.Pairs.{Pairs, without_back}
use Rattle.plain_tables.specs.declared.process.Process.{Process}
use Rattle.plain_tables.specs.Ends.{is_zombie_child}
use Rattle.plain_tables.specs.Tables.{without_thread_entry}
use Rattle.plain_machine.specs.declared.kernel.PlainKernel.{PlainKernel}
use Rattle.plain_machine.specs.Kernel.{at_process, is_live, thread_count}
use Rattle.host_tables.specs.declared.system.System.{System}
use Rattle.wrap_names.specs.OfHostProcesses.Leaves.{after_leave}
use Rattle.wrap_names.specs.Wrapping.{IsWrapped}

pub record EndsAs (new : System) (next_id : ℕ) (k : PlainKernel) (p : VPid) (who : RealPid)
    (Also : PlainKernel → Type 0) : Type 0 where
  pub kernel : PlainKernel
  pub wrapped : IsWrapped new next_id kernel
  pub alive : is_live kernel p ≡ true
  pub paired : map.get new.ids.pids p.0 ≡ Some who
  pub same : (status : ℕ) → after_leave kernel p status ≡ after_leave k p status
  pub also : Also kernel

pub record HasNoZombie (k : PlainKernel) (p : VPid) : Type 0 where
  pub none : (q : VPid) (x : Process) → map.get k.processes q ≡ Some x → is_zombie_child p x ≡ false

-- its own threads stay
pub record IsAlone (before k : PlainKernel) (p : VPid) : Type 0 where
  pub none : HasNoZombie k p
  pub own : map.get k.processes p ≡ map.get before.processes p

pub record IsFewer (before k : PlainKernel) (p : VPid) : Type 0 where
  pub fewer : map.len k.processes < map.len before.processes
  pub own : map.get k.processes p ≡ map.get before.processes p

abbrev pub Reaps : System → ℕ → PlainKernel → VPid → RealPid → Bool → Type 0
Reaps new next_id k p who true = EndsAs new next_id k p who (λ kernel. IsFewer k kernel p)
Reaps new next_id k p who false = EndsAs new next_id k p who (λ kernel. IsAlone k kernel p)

abbrev pub EndsOne : System → ℕ → PlainKernel → VPid → RealPid → Bool → Type 0
EndsOne new next_id k p who true = EndsAs new next_id k p who
    (λ kernel. thread_count kernel p < thread_count k p)
EndsOne new next_id k p who false = EndsAs new next_id k p who (λ kernel. thread_count kernel p ≤ 1)

-- by whether the thread had others beside it
abbrev pub EndsThread : System → System → ℕ → PlainKernel → VPid → RealPid → ℕ → Bool → Type 0
EndsThread old new next_id k p who t true =
    (1 < thread_count k p)
    × (IsWrapped new next_id (at_process k p (without_thread_entry t))
    × (map.get new.ids.pids p.0 ≡ Some who))
EndsThread old new next_id k p who t false = (thread_count k p ≤ 1) × (new ≡ old)

abbrev pub without_number : Pairs → ℕ → Pairs
without_number ids v = record ids {
  pids = map.remove ids.pids v;
  virts = without_back ids.virts (map.get ids.pids v);
}

-- a process keeps its number
abbrev pub without_thread : Pairs → ℕ → ℕ → Pairs
without_thread ids own t = if t == own then ids else without_number ids t
