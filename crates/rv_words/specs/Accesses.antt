-- Loads and stores of a guest's memory, as their callers are answered (RISC-V unprivileged manual, section
-- 2.6).
--     IsLoaded answer value      the answer is the value that stands there, or Fault where there is none
--     IsStored answer after memory      the answer says whether the store was made, and then memory is what it left
use Rattle.std.specs.Prelude.{◌≡◌, ◌⊎◌, ℕ, Result, Ok, Err, Option, Some, None}
use Rattle.plain_process.specs.Memory.{Memory}
use Rattle.rv_words.specs.declared.guest_memory.AccessFault.{AccessFault}
use Rattle.rv_words.specs.declared.guest_memory.AccessFault.TheVariants.{Fault, Memory as NoMemory}

-- a byte, a half-word or a word
abbrev pub IsAccessSize : ℕ → Type 0
IsAccessSize size = (size ≡ 1) ⊎ (size ≡ 2) ⊎ (size ≡ 4)

abbrev pub IsLoaded : Result ℕ AccessFault → Option ℕ → Type 0
IsLoaded (Ok value) loaded = loaded ≡ Some value
IsLoaded (Err Fault) loaded = loaded ≡ None
IsLoaded (Err NoMemory) loaded = Unit {0}

abbrev pub IsStored : {X : Type 0} → Result X AccessFault → Option Memory → Memory → Type 0
IsStored (Ok done) stored memory = stored ≡ Some memory
IsStored (Err Fault) stored memory = stored ≡ None
IsStored (Err NoMemory) stored memory = Unit {0}
