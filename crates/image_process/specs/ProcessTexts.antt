-- The bytes of a process's image, and of each item of its lists, as its writer puts them.
--     IsProcessText pid tids text p      the bytes are the text of a value that has a file
-- Source: docs/FORMATS.md, "Process image".
use Rattle.std.specs.Prelude.{◌≡◌, ℕ, List, ◌++◌, length, drop, Option}
use Rattle.std.specs.List.{flat_map}
use Rattle.plain_process.specs.declared.user_part.Context.{Context}
use Rattle.plain_process.specs.declared.user_part.SignalAction.{SignalAction}
use Rattle.plain_process.specs.declared.user_part.Waiter.{Waiter}
use Rattle.image_process.specs.declared.page_image.PageImage.{PageImage}
use Rattle.image_process.specs.declared.thread_image.ThreadImage.{ThreadImage}
use Rattle.image_process.specs.declared.process_image.ProcImage.{ProcImage}
use Rattle.image_format.specs.Format.{n8, n32, number_text}
use Rattle.image_process.specs.ProcessImages.{PROCESS_MAGIC}
use Rattle.image_process.specs.ProcessFits.{IsImage, ImageWords}

unfoldable pub list_text : {X : Type 0} → (X → List ℕ) → List X → List ℕ
list_text text items = number_text n32 (length items) ++ flat_map text items

unfoldable pub page_text : PageImage → List ℕ
page_text p = number_text n32 p.number ++ number_text n8 p.frame.rights ++ p.frame.page

unfoldable pub action_text : SignalAction → List ℕ
action_text a = number_text n32 a.handler ++ number_text n32 a.flags ++ number_text n32 a.mask

unfoldable pub waiter_text : Waiter → List ℕ
waiter_text w = number_text n32 w.tid ++ number_text n32 w.address

unfoldable pub registers_text : List ℕ → List ℕ
registers_text x = flat_map (number_text n32) (drop 1 x)

unfoldable pub context_text : Context → List ℕ
context_text c = registers_text c.regs.x ++ number_text n32 c.regs.pc ++ number_text n32 c.mask

unfoldable pub thread_text : ThreadImage → List ℕ
thread_text t =
    number_text n32 t.tid ++ registers_text t.part.regs.x ++ number_text n32 t.part.regs.pc
    ++ number_text n32 t.part.mask ++ number_text n32 t.part.clear_tid
    ++ list_text context_text t.part.contexts

unfoldable pub process_text : ProcImage → List ℕ
process_text p =
    PROCESS_MAGIC ++ number_text n32 p.pid.0 ++ number_text n32 p.break_start ++ number_text n32 p.break_end
    ++ list_text page_text p.pages ++ flat_map action_text p.actions ++ list_text waiter_text p.waiters
    ++ list_text thread_text p.threads

pub record IsProcessText (pid : Option ℕ) (tids : List ℕ) (text : List ℕ) (p : ProcImage) : Type 0 where
  pub keeps : IsImage pid tids p
  pub words : ImageWords p
  pub text_is : text ≡ process_text p
