-- The start of a process: its program's segments, its stack with its arguments, and the page to which a
-- signal handler returns.
-- Source: System V ABI, chapter 5 (program loading), chapter 3 of its supplements (process initialization),
-- and the RISC-V ELF psABI (the stack pointer is a multiple of 16).
--     start_user program arguments t      the part of a process whose one thread has the number t
use Rattle.std.specs.Prelude.{◌==◌, ◌&&◌, ◌≤◌, All, ℕ, zero, suc, ◌+◌, ◌-◌, ◌*◌, ◌/◌, ◌^◌, max, nat_le, nat_lt, Bool, true, false, List, [], ◌∷◌, ◌++◌, find, fold, length, take, drop, replicate, slice_index, slice_set, Option, Some, None, if◌then◌else◌}
use Rattle.std.specs.List.{flat_map}
use Rattle.std.specs.FinMap as map
use Rattle.elf32.specs.OfViews.Numbers.{Address, ThreadNumber, Byte}
use Rattle.elf32.specs.OfViews.Limits.{PROGRAM_PAGE_LIMIT}
use Rattle.elf32.specs.declared.program.Program.{Program}
use Rattle.elf32.specs.declared.program.Segment.{Segment}
use Rattle.elf32.specs.Pages.{is_touched, page_rights, page_count}
use Rattle.elf32.specs.Programs.{IsWellPlaced}
use Rattle.plain_process.specs.declared.memory.Frame.{Frame}
use Rattle.plain_process.specs.declared.regs.Regs.{Regs}
use Rattle.plain_process.specs.declared.user_part.UserPart.{UserPart}
use Rattle.plain_process.specs.declared.user_part.ThreadPart.{ThreadPart}
use Rattle.plain_process.specs.declared.user_part.SignalAction.{SignalAction}
use Rattle.plain_process.specs.Memory.{Memory, low_bytes}

-- a program to start: its host, its file, and its argument strings in order, the name first, each with its
-- zero byte
pub record Launched : Type 0 where
  pub host : ℕ
  pub program : Program
  pub arguments : List Byte

-- what a program keeps that was read from a file
pub record IsLoadable (program : Program) : Type 0 where
  pub placed : All IsWellPlaced program.segments
  pub pages : page_count program.segments ≤ PROGRAM_PAGE_LIMIT

-- a page's worth of a content, with zeros after its end
abbrev pub page_of : List Byte → List Byte
page_of bytes = take 4096 (bytes ++ replicate 4096 0)

-- so many pages from a number on, with these rights, that hold the content
unfoldable pub with_pages : Memory → ℕ → ℕ → ℕ → List Byte → Memory
with_pages memory first zero rights content = memory
with_pages memory first (suc n) rights content =
    map.insert (with_pages memory first n rights content) (first + n)
    (record { rights = rights; page = page_of (drop (4096 * n) content) })

-- segments: those bytes of the file, then zeros up to the size in memory
abbrev pub is_in : Address → Segment → Bool
is_in address segment = nat_le segment.vaddr address && nat_lt address (segment.vaddr + segment.memsz)

abbrev pub byte_of_segment : Address → Option Segment → Byte
byte_of_segment address None = 0
byte_of_segment address (Some segment) = slice_index segment.bytes (address - segment.vaddr)

unfoldable pub segment_byte : List Segment → Address → Byte
segment_byte segments address = byte_of_segment address (find (is_in address) segments)

unfoldable pub segment_bytes : List Segment → Address → ℕ → List Byte
segment_bytes segments address zero = []
segment_bytes segments address (suc n) =
    segment_bytes segments address n ++ segment_byte segments (address + n) ∷ []

abbrev pub segment_page : List Segment → ℕ → Frame
segment_page segments number =
    record { rights = page_rights segments number; page = segment_bytes segments (4096 * number) 4096 }

-- of the pages below n, those that some of the segments touch
unfoldable pub segment_pages : List Segment → ℕ → Memory
segment_pages segments zero = map.empty
segment_pages segments (suc n) =
    if is_touched segments n then
    map.insert (segment_pages segments n) n (segment_page segments n)
    else segment_pages segments n

abbrev pub highest_end : List Segment → Address
highest_end segments = fold (λ highest segment. max highest (segment.vaddr + segment.memsz)) 0 segments

-- the first page boundary at or after the highest segment's end
unfoldable pub break_of : List Segment → Address
break_of segments = 4096 * ((highest_end segments + 4095) / 4096)

-- the stack is the 64 pages below 0x80000000
abbrev pub STACK_PAGE : ℕ
STACK_PAGE = 0x7FFC0

abbrev pub STACK_PAGES : ℕ
STACK_PAGES = 64

abbrev pub STACK_START : Address
STACK_START = 0x7FFC0000

abbrev pub STACK_END : Address
STACK_END = 0x80000000

-- the place of each string, where the first one begins at an address; fresh says that a string begins there
unfoldable pub string_places : Address → Bool → List Byte → List Address
string_places address fresh [] = []
string_places address true (byte ∷ rest) = address ∷ string_places (address + 1) (byte == 0) rest
string_places address false (byte ∷ rest) = string_places (address + 1) (byte == 0) rest

-- argc, the pointers to the arguments, and four zero words: the ends of the arguments, the environment and
-- the auxiliary vector
abbrev pub start_words : List ℕ → List ℕ
start_words places = length places ∷ places ++ 0 ∷ 0 ∷ 0 ∷ 0 ∷ []

abbrev pub strings_start : List Byte → Address
strings_start arguments = STACK_END - length arguments

abbrev pub argument_places : List Byte → List Address
argument_places arguments = string_places (strings_start arguments) true arguments

-- the greatest multiple of 16 with room for the words below the strings
unfoldable pub start_sp : List Byte → Address
start_sp arguments = 16 * ((strings_start arguments - 4 * (length (argument_places arguments) + 5)) / 16)

abbrev pub words_bytes : List ℕ → List Byte
words_bytes words = flat_map (low_bytes 4) words

-- what the stack's pages hold: zeros, the words at sp, zeros, the strings
unfoldable pub start_stack : List Byte → List Byte
start_stack arguments =
    let words = words_bytes (start_words (argument_places arguments)) in
    let sp = start_sp arguments in
    replicate (sp - STACK_START) 0 ++ words
    ++ replicate (strings_start arguments - (sp + length words)) 0 ++ arguments

-- the page to which a signal handler returns: li a7, 139; ecall
abbrev pub RETURN_PAGE : ℕ
RETURN_PAGE = 0x80000

abbrev pub return_code : List Byte
return_code = low_bytes 4 0x08B00893 ++ low_bytes 4 0x00000073

-- the code, and zeros
unfoldable pub return_bytes : List Byte
return_bytes = page_of return_code

abbrev pub return_frame : Frame
return_frame = record { rights = 5; page = return_bytes }

-- programs lie below 0x40000000
abbrev pub PROGRAM_PAGES : ℕ
PROGRAM_PAGES = 2 ^ 18

-- rights are 4 to read, 2 to write, 1 to execute
unfoldable pub start_memory : Program → List Byte → Memory
start_memory program arguments =
    let program_pages = segment_pages program.segments PROGRAM_PAGES in
    with_pages (with_pages program_pages STACK_PAGE STACK_PAGES 6 (start_stack arguments))
    RETURN_PAGE 1 5 return_code

-- sp is x2
unfoldable pub start_regs : Program → List Byte → Regs
start_regs program arguments =
    record { x = slice_set (replicate 32 0) 2 (start_sp arguments); pc = program.entry }

abbrev pub start_thread : Regs → ThreadPart
start_thread regs = record { regs = regs; mask = 0; clear_tid = 0; contexts = [] }

abbrev pub default_action : SignalAction
default_action = record { handler = 0; flags = 0; mask = 0 }

unfoldable pub start_user : Program → List Byte → ThreadNumber → UserPart
start_user program arguments t = record {
  memory = start_memory program arguments;
  break_start = break_of program.segments;
  break_end = break_of program.segments;
  threads = map.insert map.empty t (start_thread (start_regs program arguments));
  actions = replicate 31 default_action;
  waiters = [];
}
