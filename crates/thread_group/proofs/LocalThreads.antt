-- Changes of one thread of a group, and what the rows on masks and handlers say of them.
--     nothing_popped, context_restored      a return from a handler, where none runs and where one does
--     mask_row_told                             a mask that was set or not, and the old one
use Rattle.std.proofs.Common.{◌≡◌, ℕ, ◌-◌, List, [], ◌∷◌, ◌++◌, length, true, refl, sym, ap, ◌∙◌, arith}
use Rattle.std.specs.Prelude.{◌==◌, ◌&&◌, nat_le, Some, None, Ok, if◌then◌else◌}
use Rattle.std.specs.Ordering.{nat_cmp}
use Rattle.std.specs.Cmp.{nat_cmp_total}
use Rattle.std.proofs.lemmas.Option.{slice_get-get_or}
use Rattle.std.specs.FinMap as map
use Rattle.views.proofs.MapLaws.{get_insert_same, insert_same, insert_insert}
use Rattle.plain_process.specs.declared.user_part.Context.{Context}
use Rattle.plain_process.specs.declared.user_part.ThreadPart.{ThreadPart}
use Rattle.plain_process.specs.declared.user_part.UserPart.{UserPart}
use Rattle.plain_process.specs.Memory.{low_bytes}
use Rattle.plain_process.specs.Steps.{with_regs, with_thread}
use Rattle.plain_process.specs.Attempts.{Fails, Gives, and_then, need, found}
use Rattle.plain_process.specs.Rows.Locals.{Replies, Stays as StaysAs}
use Rattle.plain_process.specs.Rows.Handlers.{with_mask, mask_by, word_in, last_context, returned, sigprocmask_row, sigreturn_row}
use Rattle.guest_threads.specs.Threads.{with_contexts, earlier, changed_by, changed}
use Rattle.process_memory.specs.MemoryParts.{MemoryPart}
use Rattle.process_memory.specs.Local.{DoesRow}
use Rattle.thread_group.specs.Groups.{GroupPart, joined, with_change}
use Rattle.thread_group.specs.Local.{mask_told, stays_told}

changed_found : (threads : map.FinMap nat_cmp ThreadPart) (t : ℕ) (change : ThreadPart → ThreadPart) (thread : ThreadPart) → map.get threads t ≡ Some thread
    → changed threads t change ≡ map.insert threads t (change thread)
changed_found threads t change thread is = ap (changed_by threads t change) is

changed_again : (threads : map.FinMap nat_cmp ThreadPart) (t : ℕ) (change : ThreadPart → ThreadPart) (thread : ThreadPart)
    → changed (map.insert threads t thread) t change ≡ map.insert threads t (change thread)
changed_again threads t change thread =
    changed_found (map.insert threads t thread) t change thread (get_insert_same nat_cmp_total map.nat_cmp-IsAntisymmetric threads t thread)
    ∙ insert_insert nat_cmp_total map.nat_cmp-IsAntisymmetric threads t thread (change thread)

abbrev with_rows : GroupPart → map.FinMap nat_cmp ThreadPart → GroupPart
with_rows group threads = record group { threads = threads }

abbrev popped : ThreadPart → ThreadPart
popped thread = with_contexts thread (earlier thread.contexts)

no_contexts : (contexts : List Context) → last_context contexts ≡ None → contexts ≡ []
no_contexts [] none = refl
no_contexts (context ∷ rest) none =
    let last = slice_get-get_or (context ∷ rest) (length (context ∷ rest) - 1) context (omega arith) in cc

-- no handler runs
nothing_earlier : (thread : ThreadPart) → thread.contexts ≡ [] → popped thread ≡ thread
nothing_earlier thread none = λ k. record {
  regs = thread.regs;
  mask = thread.mask;
  clear_tid = thread.clear_tid;
  contexts = (ap earlier none ∙ sym none) k;
}

pub nothing_popped : (memory : MemoryPart) (before after : GroupPart) (t : ℕ) (thread : ThreadPart) → map.get before.threads t ≡ Some thread → None ≡ last_context thread.contexts
    → after ≡ with_change before t popped → (sigreturn_row (joined memory before) t thread ≡ Fails 22) × (joined memory after ≡ joined memory before)
unfolding sigreturn_row and_then found
nothing_popped memory before after t thread there none is =
    let same : changed before.threads t popped ≡ before.threads =
    changed_found before.threads t popped thread there
    ∙ ap (map.insert before.threads t) (nothing_earlier thread (no_contexts thread.contexts (sym none)))
    ∙ insert_same nat_cmp_total map.nat_cmp-IsAntisymmetric before.threads t thread there in (
      ap (λ last. and_then (found last 22) (λ context. Gives (StaysAs (with_thread (joined memory before) t (returned thread context) memory.pages)))) (sym none),
      ap (joined memory) (is ∙ ap (with_rows before) same),
    )

-- the thread goes on as the handler found it
pub context_restored : (memory : MemoryPart) (before after : GroupPart) (popping putting : GroupPart) (t : ℕ) (thread : ThreadPart) (context : Context)
    → map.get before.threads t ≡ Some thread → Some context ≡ last_context thread.contexts → popping ≡ with_change before t popped
    → putting ≡ with_change popping t (λ one. with_regs one context.regs) → after ≡ with_change putting t (λ one. with_mask one context.mask)
    → DoesRow stays_told (joined memory before) (joined memory after) (sigreturn_row (joined memory before) t thread) (Ok tt)
unfolding sigreturn_row and_then found
context_restored memory before after popping putting t thread context there last first second third =
    let threads = before.threads in
    let one : popping ≡ with_rows before (map.insert threads t (popped thread)) = first ∙ ap (with_rows before) (changed_found threads t popped thread there) in
    let two : putting ≡ with_rows before (map.insert threads t (with_regs (popped thread) context.regs)) =
    second ∙ ap (λ (g : GroupPart). with_change g t (λ one. with_regs one context.regs)) one
    ∙ ap (with_rows before) (changed_again threads t (λ one. with_regs one context.regs) (popped thread)) in
    let three : after ≡ with_rows before (map.insert threads t (returned thread context)) =
    third ∙ ap (λ (g : GroupPart). with_change g t (λ one. with_mask one context.mask)) two
    ∙ ap (with_rows before) (changed_again threads t (λ one. with_mask one context.mask) (with_regs (popped thread) context.regs)) in
    ap (λ last. and_then (found last 22) (λ context. Gives (StaysAs (with_thread (joined memory before) t (returned thread context) memory.pages)))) (sym last)
    ∙ ap (λ (g : GroupPart). Gives (StaysAs (joined memory g))) (sym three)

-- a mask that was set or not, and the old one
abbrev with_new_mask : UserPart → ℕ → ThreadPart → List ℕ → ℕ → ℕ → UserPart
with_new_mask user t thread given how address =
    if address == 0 then user else with_thread user t (with_mask thread (mask_by how thread.mask (word_in given 0))) user.memory

pub mask_row_told : (before after : UserPart) (t : ℕ) (thread : ThreadPart) (given : List ℕ) (how address size old : ℕ) → true ≡ (size == 8) && nat_le how 2
    → old ≡ thread.mask → after ≡ with_new_mask before t thread given how address
    → DoesRow mask_told before after (sigprocmask_row before t thread given how address size) (Ok old)
unfolding sigprocmask_row and_then need
mask_row_told before after t thread given how address size old test old_is is =
    (λ k. and_then (need (sym test k) 22) (λ _. Gives (Replies (with_new_mask before t thread given how address) 0 (low_bytes 4 thread.mask ++ low_bytes 4 0))))
    ∙ (λ k. Gives (Replies (sym is k) 0 (low_bytes 4 (sym old_is k) ++ low_bytes 4 0)))
