-- The rules of a file, each a test that gives no fault where the rule holds, in the order in which they are
-- tried.
--     file_header_rules file        those of the ELF header
--     program_header_rules file n   those of the first n program headers, one header after the other
--     entry_rule file               that of the address of the first instruction
--     first_fault file              the fault of the first rule that does not hold
use Rattle.std.specs.Prelude.{ℕ, ◌+◌, ◌*◌, ◌/◌, ◌%◌, ◌==◌, Bool, true, false, not, ◌&&◌, nat_lt, nat_le, if◌then◌else◌, List, [], ◌∷◌, ◌++◌, length, slice_index, bit_and, codes, Option, None, zero, suc}
use Rattle.std.specs.List.{list_any}
use Rattle.views.specs.Numbers.{Byte}
use Rattle.views.specs.Limits.{PROGRAM_PAGE_LIMIT}
use Rattle.elf32.specs.declared.fault.ElfFault.{ElfFault}
use Rattle.elf32.specs.declared.fault.ElfReason.{ElfReason}
use Rattle.elf32.specs.declared.fault.ElfReason.TheVariants.{Short, Magic, Class, Machine, FileType, Flags, Dynamic, Segment, Overlap, TooLarge}
use Rattle.elf32.specs.declared.program.Segment.{Segment as MemorySegment}
use Rattle.elf32.specs.declared.program_header.ProgramHeader.{ProgramHeader}
use Rattle.elf32.specs.declared.program_header.SegmentType.{SegmentType}
use Rattle.elf32.specs.declared.program_header.SegmentType.TheVariants.{Load, Dynamic as DynamicType, Interpreter, Other}
use Rattle.elf32.specs.Faults.{needs, first_some}
use Rattle.elf32.specs.FileHeader.{e_type, e_machine, e_entry, e_phoff, e_flags, e_phentsize, e_phnum}
use Rattle.elf32.specs.Pages.{range_of, page_count, page_rights}
use Rattle.elf32.specs.ProgramHeaders.{place_of, program_header, describes_memory, memory_of, segment_of, segments_before}
use Rattle.elf32.specs.Ranges.{meets}

-- the bytes from a place on are these; the fault is at the first that differs
unfoldable pub bytes_are : List Byte → ℕ → List Byte → ElfReason → Option ElfFault
bytes_are file place [] reason = None
bytes_are file place (byte ∷ bytes) reason =
    first_some
    (needs (slice_index file place == byte) reason place ∷ bytes_are file (place + 1) bytes reason ∷ [])

-- the file is an executable for this machine, with headers of the size that the format gives them
abbrev pub kind_rules : List Byte → List (Option ElfFault)
kind_rules file =
    needs (e_machine file == 243) Machine 18
    ∷ needs (e_type file == 2) FileType 16
    ∷ needs (bit_and (e_flags file) 0x0F == 0) Flags 36
    ∷ needs (e_phentsize file == 32) Segment 42
    ∷ []

-- e_ident begins with ELFMAG, 7F and "ELF". EI_CLASS is ELFCLASS32, EI_DATA ELFDATA2LSB and EI_VERSION
-- EV_CURRENT, all 1. EM_RISCV is 243, ET_EXEC 2. Of e_flags the RISC-V ELF psABI gives bit 0 to RVC, bits 1
-- and 2 to the floating point ABI and bit 3 to RVE. An Elf32_Phdr has 32 bytes. The format has no limit of 64
-- program headers: that one is this crate's
abbrev pub file_header_rules : List Byte → List (Option ElfFault)
file_header_rules file =
    needs (nat_le 52 (length file)) Short (length file)
    ∷ bytes_are file 0 (0x7F ∷ codes "ELF") Magic
    ∷ bytes_are file 4 (1 ∷ 1 ∷ 1 ∷ []) Class
    ∷ kind_rules file
    ++ needs (nat_lt 0 (e_phnum file) && nat_le (e_phnum file) 64) Segment 44
    ∷ needs (nat_le (e_phoff file + 32 * e_phnum file) (length file)) Short (length file)
    ∷ []

-- the header asks for a dynamic linker or an interpreter
abbrev pub is_dynamic : SegmentType → Bool
is_dynamic Load = false
is_dynamic DynamicType = true
is_dynamic Interpreter = true
is_dynamic Other = false

-- the segment's bytes stand in the file, fit into its memory, and that lies from 0x1000 to 0x40000000
abbrev pub is_well_placed : List Byte → ProgramHeader → Bool
is_well_placed file h =
    nat_le (h.offset + h.filesz) (length file)
    && nat_le h.filesz h.memsz
    && nat_le 0x1000 h.vaddr
    && nat_le (h.vaddr + h.memsz) 0x4000_0000

-- the rules of a header at this place that describes memory, after headers that describe the segments
-- `before`
unfoldable pub memory_rules : List Byte → List MemorySegment → ℕ → ProgramHeader → List (Option ElfFault)
memory_rules file before place h =
    needs (is_well_placed file h) Segment place
    ∷ needs (not (list_any (λ s. meets (range_of s) (memory_of h)) before)) Overlap place
    ∷ needs (nat_le (page_count (before ++ segment_of file h ∷ [])) PROGRAM_PAGE_LIMIT) TooLarge place
    ∷ []

unfoldable pub rules_at : List Byte → List MemorySegment → ℕ → ProgramHeader → List (Option ElfFault)
rules_at file before place h =
    needs (not (is_dynamic h.kind)) Dynamic place
    ∷ (if describes_memory h then memory_rules file before place h else [])

unfoldable pub program_header_rules : List Byte → ℕ → List (Option ElfFault)
program_header_rules file zero = []
program_header_rules file (suc n) =
    program_header_rules file n
    ++ rules_at file (segments_before file n) (place_of file n) (program_header file n)

-- an instruction has 4 bytes, and the first lies in a page that may be executed, by PF_X, which is 1
abbrev pub is_entry : ℕ → List MemorySegment → Bool
is_entry entry segments = (entry % 4 == 0) && (bit_and (page_rights segments (entry / 4096)) 1 == 1)

abbrev pub entry_rule : List Byte → Option ElfFault
entry_rule file = needs (is_entry (e_entry file) (segments_before file (e_phnum file))) Segment 24

unfoldable pub first_fault : List Byte → Option ElfFault
first_fault file =
    first_some
    (file_header_rules file ++ program_header_rules file (e_phnum file) ++ entry_rule file ∷ [])
