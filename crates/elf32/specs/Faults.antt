-- Faults: a reason and the byte of the file at which it shows.
--     fault_at reason place     the fault at this byte of the file
--     needs holds reason place  no fault where the rule holds, else the fault at this byte
--     first_some faults           the first fault of the list, in its order
--     Reports result first      the result reports this first fault, or that there is none
--     reason_text reason            the reason in lower case
use Rattle.std.specs.Prelude.{◌≡◌, ℕ, ◌-◌, ◌^◌, Bool, if◌then◌else◌, List, [], ◌∷◌, ◌⊎◌, Option, Some, None, Result, Ok, Err, min, codes}
use Rattle.views.specs.Numbers.{Byte}
use Rattle.elf32.specs.declared.fault.ElfFault.{ElfFault}
use Rattle.elf32.specs.declared.fault.ElfReason.{ElfReason}
use Rattle.elf32.specs.declared.fault.ElfReason.TheVariants.{Short, Magic, Class, Machine, FileType, Flags, Dynamic, Segment, Overlap, TooLarge, Memory}

-- an offset has 32 bits, so a place past the last of them stands as the last
abbrev pub fault_at : ElfReason → ℕ → ElfFault
fault_at reason place = record { reason = reason; offset = min place (2 ^ 32 - 1) }

abbrev pub no_memory : ElfFault
no_memory = record { reason = Memory; offset = 0 }

unfoldable pub needs : Bool → ElfReason → ℕ → Option ElfFault
needs holds reason place = if holds then None else Some (fault_at reason place)

unfoldable pub first_some : List (Option ElfFault) → Option ElfFault
first_some [] = None
first_some (None ∷ faults) = first_some faults
first_some (Some fault ∷ _) = Some fault

-- a result of trying these rules: a value where each holds, else the first fault. Want of memory may stand in
-- place of either
abbrev pub Reports : {A : Type 0} → Result A ElfFault → Option ElfFault → Type 0
Reports (Ok value) first = first ≡ None
Reports (Err fault) first = (fault ≡ no_memory) ⊎ (first ≡ Some fault)

abbrev pub reason_text : ElfReason → List Byte
reason_text Short = codes "short"
reason_text Magic = codes "magic"
reason_text Class = codes "class"
reason_text Machine = codes "machine"
reason_text FileType = codes "filetype"
reason_text Flags = codes "flags"
reason_text Dynamic = codes "dynamic"
reason_text Segment = codes "segment"
reason_text Overlap = codes "overlap"
reason_text TooLarge = codes "toolarge"
reason_text Memory = codes "memory"
