-- The program that a file describes, and what is true of the program of each file that keeps the rules.
--     program_of file        its entry, and its segments in the order of their headers
--     IsWellPlaced segment   its memory lies from 0x1000 to 0x40000000 and is not empty; its bytes fit into it
--     IsApart a b            no address is in both segments
use Rattle.std.specs.Prelude.{◌≡◌, ◌+◌, ◌<◌, ◌≤◌, false, List, length}
use Rattle.views.specs.Numbers.{Byte}
use Rattle.elf32.specs.declared.program.Program.{Program}
use Rattle.elf32.specs.declared.program.Segment.{Segment}
use Rattle.elf32.specs.FileHeader.{e_entry, e_phnum}
use Rattle.elf32.specs.Pages.{range_of}
use Rattle.elf32.specs.ProgramHeaders.{segments_before}
use Rattle.elf32.specs.Ranges.{meets}

abbrev pub program_of : List Byte → Program
program_of file = record { entry = e_entry file; segments = segments_before file (e_phnum file) }

pub record IsWellPlaced (segment : Segment) : Type 0 where
  pub first : 0x1000 ≤ segment.vaddr
  pub last : segment.vaddr + segment.memsz ≤ 0x4000_0000
  pub some : 0 < segment.memsz
  pub bytes : length segment.bytes ≤ segment.memsz
  pub rights : segment.rights < 8

abbrev pub IsApart : Segment → Segment → Type 0
IsApart a b = meets (range_of a) (range_of b) ≡ false
