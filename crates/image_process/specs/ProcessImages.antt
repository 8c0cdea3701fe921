-- The image of a process: 8 bytes `DMTPRC01`, its number, the break's start and the break in 32 bits each,
-- its pages, what it does on each of the signals 1 to 31, its waiters and its threads. A list has its length
-- in 32 bits before its items. It is read beside the shared image, which tells the number and the threads of
-- the process.
--     SpellsProcess pid tids text p      the bytes are the image p of the process of this number with these threads
--     DamagedProcess pid tids text n      the bytes are no image of it, and n is where they break the format
--     pid_at, tids_at shared file      the process whose image is this file: the live ones in order from file 2 on
-- Source: docs/FORMATS.md, "Process image".
use Rattle.std.specs.Prelude.{ℕ, ◌-◌, ◌&&◌, nat_lt, Bool, List, [], ◌∷◌, length, map as each_of, filter, slice_get, codes, Option, Some, None, if◌then◌else◌}
use Rattle.std.specs.Option.{option_map, option_map_or}
use Rattle.views.specs.Numbers.{Address, ThreadNumber, Byte}
use Rattle.sys_abi.specs.Lives.{lives}
use Rattle.plain_process.specs.declared.user_part.Context.{Context}
use Rattle.plain_process.specs.declared.user_part.SignalAction.{SignalAction}
use Rattle.plain_process.specs.declared.user_part.Waiter.{Waiter}
use Rattle.image_process.specs.declared.page_image.PageImage.{PageImage}
use Rattle.image_process.specs.declared.thread_image.ThreadImage.{ThreadImage}
use Rattle.image_process.specs.declared.process_image.ProcImage.{ProcImage}
use Rattle.shared_items.specs.declared.shared.ThreadEntry.{ThreadEntry}
use Rattle.shared_items.specs.declared.shared.ProcessEntry.{ProcessEntry}
use Rattle.shared_items.specs.declared.shared.Shared.{Shared}
use Rattle.image_format.specs.Fields.{is_bytes}
use Rattle.image_format.specs.Format.{FormatOf, unsigned, raw, give, ◌>>=◌, each, counted, any, n8, n32, SpellsFile, Damaged}
use Rattle.image_process.specs.ProcessTests.{is_number, is_break_start, is_break_end, is_page_count, is_page_number, is_page_rights, is_page_content, is_waiting, is_context_count, is_count_of_threads, is_thread_at, has_heap, has_return_page}

abbrev pub PROCESS_MAGIC : List Byte
PROCESS_MAGIC = codes "DMTPRC01"

-- which process

abbrev pub tids_of : List ThreadEntry → List ThreadNumber
tids_of threads = each_of (λ thread. thread.tid) threads

abbrev pub live_processes : Shared → List ProcessEntry
live_processes shared = filter (λ process. lives process.life) shared.processes

unfoldable pub process_at : Shared → ℕ → Option ProcessEntry
process_at shared file = if nat_lt file 2 then None else slice_get (live_processes shared) (file - 2)

abbrev pub pid_at : Shared → ℕ → Option ℕ
pid_at shared file = option_map (λ process. process.pid.0) (process_at shared file)

abbrev pub tids_at : Shared → ℕ → List ThreadNumber
tids_at shared file = option_map_or (λ process. tids_of process.threads) (process_at shared file) []

-- the format

unfoldable pub word_format : FormatOf ℕ
word_format = unsigned n32 any

unfoldable pub page_format : Address → Address → List PageImage → FormatOf PageImage
page_format start end front = do
  number ← unsigned n32 (is_page_number start end front)
  rights ← unsigned n8 (is_page_rights number)
  bytes ← raw 4096 (is_page_content number)
  give (record { number = number; frame = record { rights = rights; page = bytes } })

unfoldable pub action_format : FormatOf SignalAction
action_format = do
  handler ← word_format
  flags ← word_format
  mask ← word_format
  give (record { handler = handler; flags = flags; mask = mask })

unfoldable pub waiter_format : List ThreadNumber → List Waiter → FormatOf Waiter
waiter_format tids front = do
  tid ← unsigned n32 (is_waiting tids (each_of (λ before. before.tid) front))
  address ← word_format
  give (record { tid = tid; address = address })

-- x1 to x31; x0 is 0
unfoldable pub registers_format : FormatOf (List ℕ)
registers_format = do
  words ← each (λ _. word_format) 31 []
  give (0 ∷ words)

unfoldable pub context_format : FormatOf Context
context_format = do
  x ← registers_format
  pc ← word_format
  mask ← word_format
  give (record { regs = record { x = x; pc = pc }; mask = mask })

unfoldable pub thread_format : List ThreadNumber → List ThreadImage → FormatOf ThreadImage
thread_format tids front = do
  tid ← unsigned n32 (is_thread_at tids (length front))
  x ← registers_format
  pc ← word_format
  mask ← word_format
  clear_tid ← word_format
  contexts ← counted is_context_count (λ _. context_format)
  give (record {
    tid = tid;
    part = record {
      regs = record { x = x; pc = pc };
      mask = mask;
      clear_tid = clear_tid;
      contexts = contexts;
    };
  })

-- the lists of the process of this number with this break, as its whole image
abbrev pub lists_format : List ThreadNumber → ℕ → Address → Address → FormatOf ProcImage
lists_format tids number start end = do
  pages ← counted is_page_count (page_format start end)
  actions ← each (λ _. action_format) 31 []
  waiters ← counted any (waiter_format tids)
  threads ← counted (is_count_of_threads tids) (thread_format tids)
  give (record {
    pid = record { 0 = number };
    break_start = start;
    break_end = end;
    pages = pages;
    actions = actions;
    waiters = waiters;
    threads = threads;
  })

unfoldable pub process_format : Option ℕ → List ThreadNumber → FormatOf ProcImage
process_format pid tids = do
  magic ← raw 8 (is_bytes PROCESS_MAGIC)
  number ← unsigned n32 (is_number pid)
  start ← unsigned n32 is_break_start
  end ← unsigned n32 (is_break_end start)
  lists_format tids number start end

-- at the end of the file: no page lacks
unfoldable pub is_whole_process : ProcImage → Bool
is_whole_process p = has_heap p.break_start p.break_end p.pages && has_return_page p.pages

abbrev pub SpellsProcess : Option ℕ → List ThreadNumber → List Byte → ProcImage → Type 0
SpellsProcess pid tids = SpellsFile (process_format pid tids) is_whole_process

abbrev pub DamagedProcess : Option ℕ → List ThreadNumber → List Byte → ℕ → Type 0
DamagedProcess pid tids = Damaged (process_format pid tids) is_whole_process

-- the same of the file of this index in a set
abbrev pub SpellsFileAt : Shared → ℕ → List Byte → ProcImage → Type 0
SpellsFileAt shared file = SpellsProcess (pid_at shared file) (tids_at shared file)

abbrev pub DamagedFileAt : Shared → ℕ → List Byte → ℕ → Type 0
DamagedFileAt shared file = DamagedProcess (pid_at shared file) (tids_at shared file)
