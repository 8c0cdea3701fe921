-- The user part of an image, by its lists.
--     part_of      of an image that lists a part      made_of      of a part that is made of an image's lists
use Rattle.std.proofs.Common.{◌≡◌, map as each, sym, ap, ◌∙◌}
use Rattle.std.specs.Ordering.{nat_cmp}
use Rattle.std.specs.FinMap as map
use Rattle.plain_process.specs.declared.user_part.UserPart.{UserPart}
use Rattle.image_process.specs.declared.process_image.ProcImage.{ProcImage}
use Rattle.image_process.specs.UserParts.{page_entry, thread_entry, user_of}
use Rattle.thread_group.specs.OfProcessMemory.MemoryParts.{MemoryPart}
use Rattle.thread_group.specs.Groups.{GroupPart, joined}
use Rattle.image_process.proofs.EntryLists.{from_own_entries}
pub use Rattle.image_process.proofs.EntryLists.{above, key_there, one_more_entry, fewer_left, all_entries}
pub use Rattle.image_process.proofs.RisingKeys.{lt_true}

-- the part of an image, by its parts
pub part_of : (image : ProcImage) (user : UserPart) → each page_entry image.pages ≡ map.entries user.memory → each thread_entry image.threads ≡ map.entries user.threads → image.break_start ≡ user.break_start → image.break_end ≡ user.break_end
    → image.actions ≡ user.actions → image.waiters ≡ user.waiters → user_of image ≡ user
unfolding user_of
part_of image user pages threads start end actions waiters =
    let memory_is = ap (λ es. map.from_entries {R = nat_cmp} es) pages ∙ from_own_entries user.memory in
    let threads_are = ap (λ es. map.from_entries {R = nat_cmp} es) threads ∙ from_own_entries user.threads in
    λ i. record { memory = memory_is i; break_start = start i; break_end = end i; threads = threads_are i; actions = actions i; waiters = waiters i }

-- the part that is made of an image's lists
pub made_of : (image : ProcImage) (memory : MemoryPart) (group : GroupPart)
    → memory ≡ record { pages = map.from_entries (each page_entry image.pages); break_start = image.break_start; break_end = image.break_end }
    → group ≡ record { threads = map.from_entries (each thread_entry image.threads); actions = image.actions; waiters = image.waiters; spare = 0 }
    → user_of image ≡ joined memory group
unfolding user_of
made_of image memory group is_memory is_group = λ i. joined (sym is_memory i) (sym is_group i)
