-- The threads of a process with what they share, as their callers see them, and the user part that they make
-- with a memory.
--     joined memory group      the user part of a process with this memory and these threads
--     with_change group t change      with a change of one thread, if it is there
--     with_threads user threads       the user part with these threads
use Rattle.std.specs.Prelude.{ℕ, Bool, List, Option, Some, None, refl}
use Rattle.std.specs.Coded.{Coded, code_by, coded×, coded_list, coded_ℕ}
use Rattle.std.specs.Ordering.{nat_cmp}
use Rattle.std.specs.FinMap as map
use Rattle.plain_process.specs.declared.user_part.SignalAction.{SignalAction}
use Rattle.plain_process.specs.declared.user_part.ThreadPart.{ThreadPart}
use Rattle.plain_process.specs.declared.user_part.UserPart.{UserPart}
use Rattle.plain_process.specs.declared.user_part.Waiter.{Waiter}
use Rattle.plain_process.specs.contracts.user_part.SignalAction as signal_action
use Rattle.plain_process.specs.contracts.user_part.ThreadPart as thread_part
use Rattle.plain_process.specs.contracts.user_part.Waiter as waiter
use Rattle.plain_process.specs.Deliveries.{with_entered}
use Rattle.plain_process.specs.Threads.{with_waiters, without_waiter}
use Rattle.guest_threads.specs.Threads.{changed}
use Rattle.process_memory.specs.MemoryParts.{MemoryPart}

pub record GroupPart : Type 0 where
  pub threads : map.FinMap nat_cmp ThreadPart
  pub actions : List SignalAction
  pub waiters : List Waiter
  pub spare : ℕ  -- for so many further threads there is room

-- stored as the pair of its threads and of its other fields
abbrev pub group_code : Coded GroupPart
group_code =
    code_by (map.FinMap nat_cmp ThreadPart × (List SignalAction × (List Waiter × ℕ)))
    (coded× (map.code coded_ℕ thread_part.the_row.coded)
    (coded× (coded_list signal_action.the_row.coded) (coded× (coded_list waiter.the_row.coded) coded_ℕ)))
    (λ g. (g.threads, (g.actions, (g.waiters, g.spare))))
    (λ p. record { threads = p.0; actions = p.1.0; waiters = p.1.1.0; spare = p.1.1.1 })
    (λ _. refl)

abbrev pub joined : MemoryPart → GroupPart → UserPart
joined memory group = record {
  memory = memory.pages;
  break_start = memory.break_start;
  break_end = memory.break_end;
  threads = group.threads;
  actions = group.actions;
  waiters = group.waiters;
}

abbrev pub with_threads : UserPart → map.FinMap nat_cmp ThreadPart → UserPart
with_threads user threads = record user { threads = threads }

abbrev pub with_change : GroupPart → ℕ → (ThreadPart → ThreadPart) → GroupPart
with_change group t change = record group { threads = changed group.threads t change }

-- the part after a thread has entered a handler, if it is there
abbrev pub entered_in : UserPart → ℕ → SignalAction → ℕ → Bool → Option ThreadPart → UserPart
entered_in user t action s is_unready None = with_waiters user (without_waiter t user.waiters)
entered_in user t action s is_unready (Some thread) = with_entered user t thread action s is_unready
