-- The ELF header, Elf32_Ehdr (System V ABI, chapter 4, "ELF Header"): its fields, each by its place.
--     header_of file     the fields that say where the program starts and where its program headers lie
use Rattle.std.specs.Prelude.{ℕ, List}
use Rattle.views.specs.Numbers.{Byte}
use Rattle.elf32.specs.declared.file_header.FileHeader.{FileHeader}
use Rattle.elf32.specs.Fields.{half_at, word_at}

abbrev pub e_type : List Byte → ℕ
e_type file = half_at file 16

abbrev pub e_machine : List Byte → ℕ
e_machine file = half_at file 18

abbrev pub e_entry : List Byte → ℕ
e_entry file = word_at file 24

abbrev pub e_phoff : List Byte → ℕ
e_phoff file = word_at file 28

abbrev pub e_flags : List Byte → ℕ
e_flags file = word_at file 36

abbrev pub e_phentsize : List Byte → ℕ
e_phentsize file = half_at file 42

abbrev pub e_phnum : List Byte → ℕ
e_phnum file = half_at file 44

abbrev pub header_of : List Byte → FileHeader
header_of file = record { entry = e_entry file; phoff = e_phoff file; phnum = e_phnum file }
