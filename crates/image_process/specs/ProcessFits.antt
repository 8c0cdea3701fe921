-- Which values the image of a process spells, as its writer asks for them: a fact a field, and for each list
-- its items in order. That these are what the format says is proved (`proofs/ProcessFiles.antt`).
--     IsImage pid tids p      the value has a file as the image of the process of this number with these threads
--     HasImage p      it has one as the image of its own process
--     ImageWords p      its numbers that no test bounds have 32 bits
use Rattle.std.specs.Prelude.{◌≡◌, ℕ, IsTrue, List, [], length, map as each_of, slice_index, All, Option}
use Rattle.std.specs.Prelude.{Some}
use Rattle.plain_process.specs.declared.user_part.Context.{Context}
use Rattle.plain_process.specs.declared.user_part.SignalAction.{SignalAction}
use Rattle.plain_process.specs.declared.user_part.Waiter.{Waiter}
use Rattle.plain_process.specs.Valid.{IsWord}
use Rattle.image_process.specs.declared.page_image.PageImage.{PageImage}
use Rattle.image_process.specs.declared.thread_image.ThreadImage.{ThreadImage}
use Rattle.image_process.specs.declared.process_image.ProcImage.{ProcImage}
use Rattle.image_format.specs.Texts.{EachFrom}
use Rattle.image_process.specs.ProcessTests.{is_number, is_break_start, is_break_end, is_page_count}
use Rattle.image_process.specs.ProcessTests.{is_page_number, is_page_rights, is_page_content, is_waiting}
use Rattle.image_process.specs.ProcessTests.{is_context_count, is_count_of_threads, is_thread_at}
use Rattle.image_process.specs.ProcessImages.{is_whole_process}

pub record IsPage (start end : ℕ) (front : List PageImage) (p : PageImage) : Type 0 where
  pub number : IsTrue (is_page_number start end front p.number)
  pub rights : IsTrue (is_page_rights p.number p.frame.rights)
  pub size : length p.frame.page ≡ 4096
  pub content : IsTrue (is_page_content p.number p.frame.page)

abbrev pub IsWaiter : List ℕ → List Waiter → Waiter → Type 0
IsWaiter tids front w = IsTrue (is_waiting tids (each_of (λ before. before.tid) front) w.tid)

pub record IsRegisters (x : List ℕ) : Type 0 where
  pub size : length x ≡ 32
  pub zero : slice_index x 0 ≡ 0

pub record IsThreadImage (tids : List ℕ) (front : List ThreadImage) (t : ThreadImage) : Type 0 where
  pub tid : IsTrue (is_thread_at tids (length front) t.tid)
  pub registers : IsRegisters t.part.regs.x
  pub context_count : IsTrue (is_context_count (length t.part.contexts))
  pub contexts : All (λ c. IsRegisters c.regs.x) t.part.contexts

pub record ImageFields (pid : Option ℕ) (tids : List ℕ) (p : ProcImage) : Type 0 where
  pub number : IsTrue (is_number pid p.pid.0)
  pub break_start : IsTrue (is_break_start p.break_start)
  pub break_end : IsTrue (is_break_end p.break_start p.break_end)
  pub page_count : IsTrue (is_page_count (length p.pages))
  pub pages : EachFrom (IsPage p.break_start p.break_end) [] p.pages
  pub actions : length p.actions ≡ 31
  pub waiters : EachFrom (IsWaiter tids) [] p.waiters
  pub thread_count : IsTrue (is_count_of_threads tids (length p.threads))
  pub threads : EachFrom (IsThreadImage tids) [] p.threads

pub record IsImage (pid : Option ℕ) (tids : List ℕ) (p : ProcImage) : Type 0 where
  pub fields : ImageFields pid tids p
  pub whole : IsTrue (is_whole_process p)

-- its own number and threads
abbrev pub threads_of : ProcImage → List ℕ
threads_of p = each_of (λ t. t.tid) p.threads

abbrev pub HasImage : ProcImage → Type 0
HasImage p = IsImage (Some p.pid.0) (threads_of p) p

-- the numbers that no test bounds have 32 bits

pub record ActionWords (a : SignalAction) : Type 0 where
  pub handler : IsWord a.handler
  pub flags : IsWord a.flags
  pub mask : IsWord a.mask

pub record ContextWords (c : Context) : Type 0 where
  pub x : All IsWord c.regs.x
  pub pc : IsWord c.regs.pc
  pub mask : IsWord c.mask

pub record WaiterWords (w : Waiter) : Type 0 where
  pub tid : IsWord w.tid
  pub address : IsWord w.address

pub record ThreadWords (t : ThreadImage) : Type 0 where
  pub tid : IsWord t.tid
  pub x : All IsWord t.part.regs.x
  pub pc : IsWord t.part.regs.pc
  pub mask : IsWord t.part.mask
  pub clear_tid : IsWord t.part.clear_tid
  pub contexts : All ContextWords t.part.contexts

pub record ImageWords (p : ProcImage) : Type 0 where
  pub number : IsWord p.pid.0
  pub actions : All ActionWords p.actions
  pub waiters : All WaiterWords p.waiters
  pub threads : All ThreadWords p.threads
