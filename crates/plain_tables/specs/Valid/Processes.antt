-- What holds of the processes of every kernel part, and of the numbers that it gives out.
-- Source: the limits of docs/MACHINE.md; `man 2 clone`, `man 2 wait4`.
--     AreNumbers, AreProcesses, AreMakers, AreParents      a topic each, over the tables that it speaks of
use Rattle.std.specs.Prelude.{◌≡◌, ◌⊎◌, ℕ, ◌^◌, ◌<◌, ◌≤◌, true, is_some}
use Rattle.std.specs.Ordering.{nat_cmp}
use Rattle.std.specs.FinMap as map
use Rattle.plain_process.specs.OfViews.Numbers.{ThreadNumber}
use Rattle.plain_process.specs.OfViews.Limits.{HOST_LIMIT, PROCESS_LIMIT, THREAD_LIMIT}
use Rattle.id_maps.specs.OfSysAbi.declared.identity.VPid.{VPid}
use Rattle.id_maps.specs.OfSysAbi.declared.life.Life.{Life}
use Rattle.id_maps.specs.OfSysAbi.declared.life.Life.TheVariants.{Live, Zombie}
use Rattle.plain_process.specs.Valid.{Each}
use Rattle.plain_tables.specs.declared.process.Process.{Process}
use Rattle.plain_tables.specs.Tables.{FIRST_PID, NOBODY, Processes, Makers, pid, lives_in, has_thread_in, same_host}

-- a set of the signals 1 to 31
abbrev pub IsSignalSet : ℕ → Type 0
IsSignalSet signals = signals < 2 ^ 31

-- the number of a process or thread that was given out
abbrev pub IsGivenOut : ℕ → ℕ → Type 0
IsGivenOut next_id number = (FIRST_PID ≤ number) × (number < next_id)

-- a live process has 1 to 64 threads; a zombie has none, and no pending signals
abbrev pub FitsLife : Life → map.FinMap nat_cmp ℕ → ℕ → Type 0
FitsLife Live threads pending = (1 ≤ map.len threads) × (map.len threads ≤ THREAD_LIMIT)
FitsLife (Zombie status) threads pending = (map.len threads ≡ 0) × (pending ≡ 0)

pub record IsProcess (next_id : ℕ) (p : VPid) (process : Process) : Type 0 where
  pub number : IsGivenOut next_id p.0
  pub pending : IsSignalSet process.pending
  pub life : FitsLife process.life process.threads process.pending
  pub threads : Each process.threads (λ t signals. IsGivenOut next_id t × IsSignalSet signals)

-- the numbers that the next process or thread and the next file get
pub record AreNumbers (next_id next_file : ℕ) : Type 0 where
  pub first_id : FIRST_PID ≤ next_id
  pub last_id : next_id < 2 ^ 31
  pub first_file : 1 ≤ next_file
  pub last_file : next_file < 2 ^ 32

-- at most 128; no thread has the number of a thread or of a process of another process
pub record AreProcesses (next_id : ℕ) (processes : Processes) : Type 0 where
  pub count : map.len processes ≤ PROCESS_LIMIT
  pub each : Each processes (IsProcess next_id)
  pub threads_apart : (p q : VPid) (t : ThreadNumber) → has_thread_in t (map.get processes p) ≡ true
      → has_thread_in t (map.get processes q) ≡ true → p ≡ q
  pub own_number : (p q : VPid) → has_thread_in q.0 (map.get processes p) ≡ true
      → is_some (map.get processes q) ≡ true → p ≡ q

-- each process has a maker, on one of 16 hosts, and nobody else has one
pub record AreMakers (processes : Processes) (makers : Makers) : Type 0 where
  pub same : (p : VPid) → is_some (map.get makers p) ≡ is_some (map.get processes p)
  pub hosts : Each makers (λ p maker. maker.host < HOST_LIMIT)
  pub counts : Each makers (λ p maker. maker.made < 2 ^ 32)

-- a live process with a lower number, on the child's host
pub record IsParent (processes : Processes) (makers : Makers) (p : VPid) (parent : ℕ) : Type 0 where
  pub below : parent < p.0
  pub alive : lives_in processes (pid parent) ≡ true
  pub host : same_host (map.get makers p) (map.get makers (pid parent)) ≡ true

-- nobody waits for the process, or a parent does; for a zombie, which keeps its status, always one does
abbrev pub HasParent : Processes → Makers → VPid → ℕ → Life → Type 0
HasParent processes makers p parent Live = (parent ≡ NOBODY) ⊎ IsParent processes makers p parent
HasParent processes makers p parent (Zombie status) = IsParent processes makers p parent × (status < 2 ^ 32)

pub record AreParents (processes : Processes) (makers : Makers) : Type 0 where
  pub each : Each processes (λ p process. HasParent processes makers p process.parent process.life)
