-- The program header table: entries of type Elf32_Phdr (System V ABI, chapter 5, "Program Header"), from byte
-- e_phoff on.
--     place_of file i          the byte at which the header of this index begins
--     program_header file i    its fields
--     describes_memory h       it describes a piece of memory: its type is PT_LOAD, and p_memsz is not 0
--     segment_of file h        that piece of memory. Its rights are the bits PF_R 4, PF_W 2 and PF_X 1 of p_flags
--     memory_of h              its addresses
--     segments_before file n   the pieces that the first n headers describe, in their order
use Rattle.std.specs.Prelude.{ℕ, ◌+◌, ◌*◌, ◌==◌, Bool, true, false, ◌&&◌, nat_lt, if◌then◌else◌, List, [], ◌∷◌, ◌++◌, slice_range, bit_and, zero, suc}
use Rattle.views.specs.Numbers.{Byte}
use Rattle.elf32.specs.declared.program.Segment.{Segment}
use Rattle.elf32.specs.declared.program_header.ProgramHeader.{ProgramHeader}
use Rattle.elf32.specs.declared.program_header.SegmentType.{SegmentType}
use Rattle.elf32.specs.declared.program_header.SegmentType.TheVariants.{Load, Dynamic, Interpreter, Other}
use Rattle.elf32.specs.declared.range.AddressRange.{AddressRange}
use Rattle.elf32.specs.Fields.{word_at}
use Rattle.elf32.specs.FileHeader.{e_phoff}

-- PT_LOAD is 1, PT_DYNAMIC 2, PT_INTERP 3
abbrev pub type_of : ℕ → SegmentType
type_of p_type =
    if p_type == 1 then Load
    else if p_type == 2 then Dynamic
    else if p_type == 3 then Interpreter
    else Other

abbrev pub place_of : List Byte → ℕ → ℕ
place_of file i = e_phoff file + 32 * i

unfoldable pub header_at : List Byte → ℕ → ProgramHeader
header_at file place = record {
  kind = type_of (word_at file place);
  offset = word_at file (place + 4);
  vaddr = word_at file (place + 8);
  filesz = word_at file (place + 16);
  memsz = word_at file (place + 20);
  flags = word_at file (place + 24);
}

abbrev pub program_header : List Byte → ℕ → ProgramHeader
program_header file i = header_at file (place_of file i)

abbrev pub is_load : SegmentType → Bool
is_load Load = true
is_load _ = false

abbrev pub describes_memory : ProgramHeader → Bool
describes_memory h = is_load h.kind && nat_lt 0 h.memsz

abbrev pub segment_of : List Byte → ProgramHeader → Segment
segment_of file h = record {
  vaddr = h.vaddr;
  memsz = h.memsz;
  rights = bit_and h.flags 7;
  bytes = slice_range file h.offset (h.offset + h.filesz);
}

abbrev pub memory_of : ProgramHeader → AddressRange
memory_of h = record { start = h.vaddr; end = h.vaddr + h.memsz }

abbrev pub segments_of : List Byte → ProgramHeader → List Segment
segments_of file h = if describes_memory h then segment_of file h ∷ [] else []

unfoldable pub segments_before : List Byte → ℕ → List Segment
segments_before file zero = []
segments_before file (suc n) = segments_before file n ++ segments_of file (program_header file n)
