-- What the look-ups of a row found: a descriptor with its description, and a free descriptor.
--     IsHeldAt, held_is, held_prompt      IsFreeFrom, free_is, free_prompt
use Rattle.std.proofs.Common.{◌≡◌, ℕ, ◌+◌, ◌-◌, ◌<◌, ◌≤◌, true, false, refl, arith}
use Rattle.std.specs.Prelude.{zero, suc, Option, Some, None, is_some}
use Rattle.std.specs.FinMap as map
use Rattle.plain_tables.specs.OfViews.Limits.{DESCRIPTOR_LIMIT}
use Rattle.plain_tables.proofs.OfViews.MapLaws.{true_false}
use Rattle.plain_tables.specs.OfSysAbi.declared.identity.VPid.{VPid}
use Rattle.plain_tables.specs.OfSysAbi.declared.errors.TheConstants.{EBADF, EMFILE}
use Rattle.plain_machine.specs.declared.kernel.PlainKernel.{PlainKernel}
use Rattle.plain_tables.specs.Tables.{Descriptors, Descriptions, slot}
use Rattle.plain_tables.specs.OfPlainProcess.Attempts.{Gives, found}
use Rattle.plain_machine.specs.Kernel.{Held, held, free_among, free_from}
use Rattle.plain_tables.proofs.OfPlainProcess.Giving.{Giving, gives, nothing, either}
use Rattle.plain_machine.proofs.Trying.{Trying, succeeds, after}
use Rattle.plain_machine.proofs.LocalReplies.{was_found}
use Rattle.plain_machine.proofs.Prompt.{is_prompt, prompt_then, prompt_found}

-- the descriptor and the description that it refers to
pub record IsHeldAt (descriptors : Descriptors) (descriptions : Descriptions) (p : VPid) (fd : ℕ) (h : Held) : Type 0 where
  pub descriptor : map.get descriptors (slot p fd) ≡ Some (record { desc = h.desc; cloexec = h.cloexec })
  pub description : map.get descriptions h.desc ≡ Some h.description

held_gives : (k : PlainKernel) (p : VPid) (fd : ℕ) → Trying (held k p fd) (IsHeldAt k.descriptors k.descriptions p fd)
unfolding held
held_gives k p fd = after (found (map.get k.descriptors (slot p fd)) EBADF) (λ descriptor there. after (found (map.get k.descriptions descriptor.desc) EBADF) (λ description described.
    succeeds _ (record { descriptor = was_found (map.get k.descriptors (slot p fd)) EBADF descriptor there; description = was_found (map.get k.descriptions descriptor.desc) EBADF description described })))

pub held_is : (k : PlainKernel) (p : VPid) (fd : ℕ) (h : Held) → held k p fd ≡ Gives h → IsHeldAt k.descriptors k.descriptions p fd h
held_is k p fd h is = (held_gives k p fd).each h is

pub held_prompt : (k : PlainKernel) (p : VPid) (fd : ℕ) → is_prompt (held k p fd) ≡ true
unfolding held
held_prompt k p fd = prompt_then (found (map.get k.descriptors (slot p fd)) EBADF) _ (prompt_found (map.get k.descriptors (slot p fd)) EBADF)
    (λ descriptor. prompt_then (found (map.get k.descriptions descriptor.desc) EBADF) _ (prompt_found (map.get k.descriptions descriptor.desc) EBADF) (λ description. refl))

-- the free descriptor
pub record IsFreeFrom (descriptors : Descriptors) (p : VPid) (from fd : ℕ) : Type 0 where
  pub above : from ≤ fd
  pub low : fd < 256
  pub free : map.get descriptors (slot p fd) ≡ None

record IsFreeAmong (descriptors : Descriptors) (p : VPid) (from n fd : ℕ) : Type 0 where
  above : from ≤ fd
  low : fd < from + n
  free : map.get descriptors (slot p fd) ≡ None

none_there : {A : Type 0} (there : Option A) → is_some there ≡ false → there ≡ None
none_there None is = refl
none_there (Some a) is = true_false is

free_among_is : (descriptors : Descriptors) (p : VPid) (from n : ℕ) → Giving (free_among descriptors p from n) (IsFreeAmong descriptors p from n)
unfolding free_among
free_among_is descriptors p from zero = nothing
free_among_is descriptors p from (suc n) = either (is_some (map.get descriptors (slot p from)))
    (λ used. later (free_among_is descriptors p (from + 1) n))
    (λ free. gives from (record { above = omega arith; low = omega arith; free = none_there (map.get descriptors (slot p from)) free }))
  where
    later : Giving (free_among descriptors p (from + 1) n) (IsFreeAmong descriptors p (from + 1) n) → Giving (free_among descriptors p (from + 1) n) (IsFreeAmong descriptors p from (suc n))
    later among = record { each = λ fd is. let free = among.each fd is in let above = free.above in let low = free.low in record { above = omega arith; low = omega arith; free = free.free } }

pub free_is : (k : PlainKernel) (p : VPid) (from fd : ℕ) → free_from k p from ≡ Gives fd → IsFreeFrom k.descriptors p from fd
unfolding free_from
free_is k p from fd is =
    let free = (free_among_is k.descriptors p from (DESCRIPTOR_LIMIT - from)).each fd (was_found (free_among k.descriptors p from (DESCRIPTOR_LIMIT - from)) EMFILE fd is) in
    let above = free.above in
    let low = free.low in
    record { above = above; low = omega arith; free = free.free }

pub free_prompt : (k : PlainKernel) (p : VPid) (from : ℕ) → is_prompt (free_from k p from) ≡ true
unfolding free_from
free_prompt k p from = prompt_found (free_among k.descriptors p from (DESCRIPTOR_LIMIT - from)) EMFILE
