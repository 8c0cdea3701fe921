-- What the image of a process stands for: a process's own part.
use Rattle.std.specs.Prelude.{ℕ, map as each}
use Rattle.std.specs.FinMap as map
use Rattle.plain_process.specs.declared.memory.Frame.{Frame}
use Rattle.plain_process.specs.declared.user_part.UserPart.{UserPart}
use Rattle.plain_process.specs.declared.user_part.ThreadPart.{ThreadPart}
use Rattle.image_process.specs.declared.page_image.PageImage.{PageImage}
use Rattle.image_process.specs.declared.thread_image.ThreadImage.{ThreadImage}
use Rattle.image_process.specs.declared.process_image.ProcImage.{ProcImage}

abbrev pub page_entry : PageImage → ℕ × Frame
page_entry image = (image.number, image.frame)

abbrev pub thread_entry : ThreadImage → ℕ × ThreadPart
thread_entry image = (image.tid, image.part)

unfoldable pub user_of : ProcImage → UserPart
user_of image = record {
  memory = map.from_entries (each page_entry image.pages);
  break_start = image.break_start;
  break_end = image.break_end;
  threads = map.from_entries (each thread_entry image.threads);
  actions = image.actions;
  waiters = image.waiters;
}
