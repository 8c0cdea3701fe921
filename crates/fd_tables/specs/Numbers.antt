-- The numbers of a process's descriptors, which are free up to 255.
-- Source: `man 2 open` ("the lowest-numbered file descriptor not currently open"), `man 2 fcntl` (F_DUPFD).
--     AllUsed m p from               each number from that one on is open
--     IsLowestFree m p from fd       the least of those that is not
--     NoneOpen m p from              none from that one on is open
--     IsLowestOpen m p from fd       the least of those that is
--     free_below m p n               how many numbers below n are not open
--     first_above above              the first number after one, or of all
use Rattle.std.specs.Prelude.{◌≡◌, ℕ, zero, suc, ◌+◌, ◌<◌, ◌≤◌, cond, Option, Some, None, is_some, IsSome}
use Rattle.std.specs.FinMap as map
use Rattle.std.specs.FinMap.{FinMap}
use Rattle.sys_abi.specs.declared.identity.RealPid.{RealPid}
use Rattle.sys_abi.specs.declared.identity.Fd.{Fd}
use Rattle.sys_abi.specs.declared.descriptor.Descriptor.{Descriptor}
use Rattle.fd_tables.specs.Orders.{real_slot_cmp}
use Rattle.fd_tables.specs.Slots.{slot}

abbrev pub AllUsed : FinMap real_slot_cmp Descriptor → RealPid → ℕ → Type 0
AllUsed m p from = (fd : ℕ) → from ≤ fd → fd < 256 → IsSome (map.get m (slot p fd))

pub record IsLowestFree (m : FinMap real_slot_cmp Descriptor) (p : RealPid) (from fd : ℕ) : Type 0 where
  pub free : map.get m (slot p fd) ≡ None
  pub from_on : from ≤ fd
  pub in_range : fd < 256
  pub lowest : (lower : ℕ) → from ≤ lower → lower < fd → IsSome (map.get m (slot p lower))

abbrev pub NoneOpen : FinMap real_slot_cmp Descriptor → RealPid → ℕ → Type 0
NoneOpen m p from = (fd : ℕ) → from ≤ fd → map.get m (slot p fd) ≡ None

pub record IsLowestOpen (m : FinMap real_slot_cmp Descriptor) (p : RealPid) (from fd : ℕ) : Type 0 where
  pub open_there : IsSome (map.get m (slot p fd))
  pub from_on : from ≤ fd
  pub in_range : fd < 256
  pub lowest : (lower : ℕ) → from ≤ lower → lower < fd → map.get m (slot p lower) ≡ None

unfoldable pub free_below : FinMap real_slot_cmp Descriptor → RealPid → ℕ → ℕ
free_below m p zero = 0
free_below m p (suc n) = free_below m p n + cond (is_some (map.get m (slot p n))) 0 1

abbrev pub first_above : Option Fd → ℕ
first_above None = 0
first_above (Some fd) = fd.0 + 1
