-- The last line of a log, by the way in which the call ended. Each line ends with a newline.
use Rattle.std.specs.Prelude.{ℕ, List, ◌++◌, codes}
use Rattle.std.specs.Fmt.{decimal}
use Rattle.views.specs.Numbers.{Byte}
use Rattle.elf32.specs.declared.fault.ElfFault.{ElfFault}
use Rattle.elf32.specs.Faults.{reason_text}
use Rattle.image_format.specs.declared.damage.Damage.{Damage}

abbrev pub line : List Byte → List Byte
line text = text ++ codes "\n"

abbrev pub done_line : List Byte
done_line = line (codes "done")

abbrev pub usage_line : List Byte
usage_line = line (codes "usage")

abbrev pub input_fault_line : List Byte → List Byte
input_fault_line name = line (codes "input fault: " ++ name)

abbrev pub missing_line : List Byte → List Byte
missing_line name = line (codes "missing: " ++ name)

-- as `short at 51`
abbrev pub fault_text : ElfFault → List Byte
fault_text fault = reason_text fault.reason ++ codes " at " ++ decimal fault.offset

abbrev pub bad_program_line : List Byte → ElfFault → List Byte
bad_program_line name fault = line (codes "bad program: " ++ name ++ codes ": " ++ fault_text fault)

abbrev pub too_big_line : List Byte
too_big_line = line (codes "files too large")

abbrev pub budget_line : ℕ → List Byte
budget_line records = codes "budget spent: " ++ decimal records ++ codes " records\n"

abbrev pub stuck_line : List Byte
stuck_line = line (codes "stuck")

abbrev pub memory_line : List Byte
memory_line = line (codes "memory")

abbrev pub disk_fault_line : List Byte
disk_fault_line = line (codes "disk fault")

abbrev pub no_set_line : List Byte
no_set_line = line (codes "no set")

-- as `2 at 51`
abbrev pub place_text : Damage → List Byte
place_text damage = decimal damage.file ++ codes " at " ++ decimal damage.offset

abbrev pub damaged_line : ℕ → Damage → List Byte
damaged_line slot damage =
    line (codes "damaged: slot " ++ decimal slot ++ codes " file " ++ place_text damage)
