-- Words on a kernel part: look-ups, and changes, each of which a call's row names.
-- Source: `man 2 open` (descriptors and open descriptions), `man 2 credentials` (processes), `man 7 signal`
-- (pending signals).
use Rattle.std.specs.Prelude.{ℕ, zero, suc, ◌+◌, ◌-◌, ◌^◌, Bool, ◌&&◌, nat_lt, Option, Some, None, is_some, option_and_then, if◌then◌else◌}
use Rattle.std.specs.Option.{option_map_or}
use Rattle.std.specs.FinMap as map
use Rattle.plain_tables.specs.OfViews.Numbers.{ThreadNumber, SignalNumber, Flags}
use Rattle.plain_tables.specs.OfViews.Limits.{DESCRIPTOR_LIMIT}
use Rattle.plain_tables.specs.OfSysAbi.declared.identity.VPid.{VPid}
use Rattle.plain_machine.specs.declared.kernel.PlainKernel.{PlainKernel}
use Rattle.plain_tables.specs.declared.process.Process.{Process}
use Rattle.plain_tables.specs.OfSysAbi.declared.identity.DescId.{DescId}
use Rattle.plain_tables.specs.OfSysAbi.declared.errors.TheConstants.{EBADF, EMFILE}
use Rattle.plain_tables.specs.OfPlainProcess.Attempts.{Try, Gives, found, ◌>>=◌}
use Rattle.plain_tables.specs.OfSysAbi.declared.descriptor.Descriptor.{Descriptor}
use Rattle.plain_tables.specs.declared.description.Description.{Description}
use Rattle.plain_tables.specs.declared.description.Object.{Object}
use Rattle.plain_tables.specs.Tables.{Descriptors, pid, slot, is_live_process, pending_in, taken_from, raised_at, raised_for_all, changed_at, thread_count_in, has_thread_in, with_thread_entry, same_host, made_more}

-- the process is there and has not ended
unfoldable pub is_live : PlainKernel → VPid → Bool
is_live k p = is_live_process (map.get k.processes p)

-- the description to which a descriptor of a process refers
unfoldable pub description_at : PlainKernel → VPid → ℕ → Option Description
description_at k p fd =
    option_and_then (λ descriptor. map.get k.descriptions descriptor.desc) (map.get k.descriptors (slot p fd))

-- a descriptor and the description to which it refers
pub record Held : Type 0 where
  pub desc : DescId
  pub cloexec : Bool
  pub description : Description

unfoldable pub held : PlainKernel → VPid → ℕ → Try Held
held k p fd = do
  descriptor ← found (map.get k.descriptors (slot p fd)) EBADF
  description ← found (map.get k.descriptions descriptor.desc) EBADF
  Gives (record { desc = descriptor.desc; cloexec = descriptor.cloexec; description = description })

-- the least number from this one on at which no descriptor is, among the next n
unfoldable pub free_among : Descriptors → VPid → ℕ → ℕ → Option ℕ
free_among descriptors p from zero = None
free_among descriptors p from (suc n) =
    if is_some (map.get descriptors (slot p from)) then free_among descriptors p (from + 1) n else Some from

unfoldable pub free_from : PlainKernel → VPid → ℕ → Try ℕ
free_from k p from = found (free_among k.descriptors p from (DESCRIPTOR_LIMIT - from)) EMFILE

-- the running number for what a process makes, and its host
abbrev pub made_of : PlainKernel → VPid → ℕ
made_of k p = option_map_or (λ maker. maker.made) (map.get k.makers p) 0

abbrev pub host_of : PlainKernel → VPid → ℕ
host_of k p = option_map_or (λ maker. maker.host) (map.get k.makers p) 0

-- room for the numbers that one call takes
abbrev pub has_numbers : PlainKernel → VPid → Bool
has_numbers k p = nat_lt (made_of k p) (2 ^ 32 - 4)

-- a process has made n things more
abbrev pub numbered : PlainKernel → VPid → ℕ → PlainKernel
numbered k p n = record k { makers = changed_at k.makers p (made_more n) }

abbrev pub with_descriptor : PlainKernel → VPid → ℕ → Descriptor → PlainKernel
with_descriptor k p fd descriptor = record k { descriptors = map.insert k.descriptors (slot p fd) descriptor }

abbrev pub with_description : PlainKernel → DescId → Description → PlainKernel
with_description k d description = record k { descriptions = map.insert k.descriptions d description }

-- another object in the place of a description's
abbrev pub with_object : PlainKernel → Held → Object → PlainKernel
with_object k h object = with_description k h.desc (record h.description { object = object })

-- a new description behind a new descriptor
abbrev pub placed : PlainKernel → VPid → ℕ → DescId → Bool → Object → Flags → PlainKernel
placed k p fd d cloexec object flags =
    with_description (with_descriptor k p fd (record { desc = d; cloexec = cloexec })) d
    (record { object = object; flags = flags; owner = 0 })

abbrev pub without_process : VPid → PlainKernel → PlainKernel
without_process p k = record k { processes = map.remove k.processes p; makers = map.remove k.makers p }

-- the signals that are pending for the thread or its process
unfoldable pub pending : PlainKernel → VPid → ThreadNumber → ℕ
pending k p t = pending_in t (map.get k.processes p)

abbrev pub at_process : PlainKernel → VPid → (Process → Process) → PlainKernel
at_process k p change = record k { processes = changed_at k.processes p change }

unfoldable pub after_take : PlainKernel → VPid → ThreadNumber → SignalNumber → PlainKernel
after_take k p t s = at_process k p (taken_from t s)

unfoldable pub after_raise : PlainKernel → VPid → ThreadNumber → SignalNumber → PlainKernel
after_raise k p t s = at_process k p (raised_at t s)

unfoldable pub after_raise_for_all : PlainKernel → VPid → SignalNumber → PlainKernel
after_raise_for_all k p s = at_process k p (raised_for_all s)

abbrev pub thread_count : PlainKernel → VPid → ℕ
thread_count k p = thread_count_in (map.get k.processes p)

abbrev pub has_thread : PlainKernel → VPid → ThreadNumber → Bool
has_thread k p t = has_thread_in t (map.get k.processes p)

-- a thread more, with the next number
unfoldable pub with_next_thread : PlainKernel → VPid → PlainKernel
with_next_thread k p =
    record (at_process k p (with_thread_entry k.next_id)) { next_id = k.next_id + 1 }

-- a live process of the caller's host (`man 2 kill`)
unfoldable pub is_neighbour : PlainKernel → VPid → ℕ → Bool
is_neighbour k p number =
    is_live k (pid number) && same_host (map.get k.makers p) (map.get k.makers (pid number))
