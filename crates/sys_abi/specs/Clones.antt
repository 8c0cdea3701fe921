-- The forms of clone (`man 2 clone`): which flags make a process and which a thread.
-- Source: the flags of `man 2 clone`; which of them go together is this project's own rule.
--     clone_form flags      what the flags make, none where they are of no form
use Rattle.std.specs.Prelude.{◌==◌, ℕ, ◌-◌, bit_and, Option, Some, None, if◌then◌else◌}
use Rattle.views.specs.Numbers.{Flags}
use Rattle.sys_abi.specs.declared.cloning.CloneForm.{CloneForm}
use Rattle.sys_abi.specs.declared.cloning.CloneForm.TheVariants.{Fork, Thread}
use Rattle.sys_abi.specs.declared.cloning.TheConstants.{FORK_FLAGS, FORK_OPTIONS, THREAD_FLAGS, THREAD_OPTIONS}

-- a word without the bits of another
abbrev pub without_bits : ℕ → ℕ → ℕ
without_bits word bits = bit_and word (0xFFFFFFFF - bits)

abbrev pub clone_form : Flags → Option CloneForm
clone_form flags =
    if without_bits flags FORK_OPTIONS == FORK_FLAGS then Some Fork else
    if without_bits flags THREAD_OPTIONS == THREAD_FLAGS then Some Thread else None
