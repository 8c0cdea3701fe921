-- The entry into a handler, over plain variables.
--     at_thread_twice      two changes of one thread are one
--     entered_by           what the entry into a handler does to the table of threads
use Rattle.std.proofs.Common.{◌≡◌, ℕ, Bool, [], ◌∷◌, ◌++◌, refl, ap, ◌∙◌}
use Rattle.std.specs.Prelude.{Option, Some, None, option_map}
use Rattle.std.specs.Ordering.{nat_cmp}
use Rattle.std.specs.Cmp.{nat_cmp_total}
use Rattle.std.specs.FinMap as map
use Rattle.views.proofs.MapLaws.{get_insert_same, insert_insert}
use Rattle.plain_process.specs.declared.regs.Regs.{Regs}
use Rattle.plain_process.specs.declared.user_part.SignalAction.{SignalAction}
use Rattle.plain_process.specs.declared.user_part.ThreadPart.{ThreadPart}
use Rattle.plain_process.specs.Steps.{with_regs}
use Rattle.plain_process.specs.Rows.Handlers.{with_mask}
use Rattle.plain_process.specs.Deliveries.{interrupted, handler_regs, handler_mask, entered}
use Rattle.guest_threads.specs.Threads.{ThreadTable, with_contexts, changed_by, changed, at_thread}

-- two changes of one thread
twice_by : (threads : map.FinMap nat_cmp ThreadPart) (t : ℕ) (first then : ThreadPart → ThreadPart) (found : Option ThreadPart) → map.get threads t ≡ found
    → changed (changed_by threads t first found) t then ≡ changed_by threads t (λ thread. then (first thread)) found
twice_by threads t first then None missing = ap (changed_by threads t then) missing
twice_by threads t first then (Some thread) there =
    ap (changed_by (map.insert threads t (first thread)) t then) (get_insert_same nat_cmp_total map.nat_cmp-IsAntisymmetric threads t (first thread))
    ∙ insert_insert nat_cmp_total map.nat_cmp-IsAntisymmetric threads t (first thread) (then (first thread))

pub at_thread_twice : (table : ThreadTable) (t : ℕ) (first then : ThreadPart → ThreadPart) → at_thread (at_thread table t first) t then ≡ at_thread table t (λ thread. then (first thread))
at_thread_twice table t first then = ap (λ threads. record { threads = threads; spare = table.spare }) (twice_by table.threads t first then (map.get table.threads t) refl)

-- the entry into a handler
abbrev saving : Regs → ℕ → ThreadPart → ThreadPart
saving saved mask thread = with_contexts thread (thread.contexts ++ record { regs = saved; mask = mask } ∷ [])

abbrev moved_to : Regs → ℕ → Regs → ℕ → ThreadPart → ThreadPart
moved_to saved mask regs blocked thread = with_regs (with_mask (saving saved mask thread) blocked) regs

same_by : (threads : map.FinMap nat_cmp ThreadPart) (t : ℕ) (regs : Regs) (mask : ℕ) (action : SignalAction) (s : ℕ) (is_unready : Bool) (found : Option ThreadPart)
    → option_map (λ thread. thread.regs) found ≡ Some regs → option_map (λ thread. thread.mask) found ≡ Some mask
    → changed_by threads t (moved_to (interrupted is_unready action.flags regs) mask (handler_regs regs s action.handler) (handler_mask mask action s)) found
    ≡ changed_by threads t (λ thread. entered thread action s is_unready) found
same_by threads t regs mask action s is_unready None has_regs has_mask = cc
same_by threads t regs mask action s is_unready (Some thread) has_regs has_mask =
    let same_regs : regs ≡ thread.regs = cc in
    let same_mask : mask ≡ thread.mask = cc in
    λ i. map.insert threads t
    (moved_to (interrupted is_unready action.flags (same_regs i)) (same_mask i) (handler_regs (same_regs i) s action.handler) (handler_mask (same_mask i) action s) thread)

pub entered_by : (table pushed masked after : ThreadTable) (t : ℕ) (regs saved moved : Regs) (mask blocked : ℕ) (action : SignalAction) (s : ℕ) (is_unready : Bool)
    → option_map (λ thread. thread.regs) (map.get table.threads t) ≡ Some regs → option_map (λ thread. thread.mask) (map.get table.threads t) ≡ Some mask
    → saved ≡ interrupted is_unready action.flags regs → blocked ≡ handler_mask mask action s → moved ≡ handler_regs regs s action.handler
    → pushed ≡ at_thread table t (saving saved mask) → masked ≡ at_thread pushed t (λ thread. with_mask thread blocked) → after ≡ at_thread masked t (λ thread. with_regs thread moved)
    → after ≡ at_thread table t (λ thread. entered thread action s is_unready)
entered_by table pushed masked after t regs saved moved mask blocked action s is_unready has_regs has_mask is_saved is_blocked is_moved first second third =
    third ∙ ap (λ (x : ThreadTable). at_thread x t (λ thread. with_regs thread moved)) second
    ∙ ap (λ (x : ThreadTable). at_thread (at_thread x t (λ thread. with_mask thread blocked)) t (λ thread. with_regs thread moved)) first
    ∙ ap (λ (x : ThreadTable). at_thread x t (λ thread. with_regs thread moved)) (at_thread_twice table t (saving saved mask) (λ thread. with_mask thread blocked))
    ∙ at_thread_twice table t (λ thread. with_mask (saving saved mask thread) blocked) (λ thread. with_regs thread moved)
    ∙ (λ i. at_thread table t (moved_to (is_saved i) mask (is_moved i) (is_blocked i)))
    ∙ ap (λ threads. record { threads = threads; spare = table.spare }) (same_by table.threads t regs mask action s is_unready (map.get table.threads t) has_regs has_mask)
