-- The threads of a process with room for further ones, and what a call does to one of them.
--     at_thread table t change      with a change of one thread, if it is there
use Rattle.std.specs.Prelude.{ℕ, ◌-◌, List, [], length, take, Option, Some, None, refl}
use Rattle.std.specs.Coded.{Coded, code_by, coded×, coded_ℕ}
use Rattle.std.specs.Ordering.{nat_cmp}
use Rattle.std.specs.FinMap as map
use Rattle.plain_process.specs.declared.regs.Regs.{Regs}
use Rattle.plain_process.specs.declared.user_part.Context.{Context}
use Rattle.plain_process.specs.declared.user_part.ThreadPart.{ThreadPart}
use Rattle.plain_process.specs.contracts.user_part.ThreadPart as thread_part

pub record ThreadTable : Type 0 where
  pub threads : map.FinMap nat_cmp ThreadPart
  pub spare : ℕ  -- for so many further threads there is room

-- stored as the pair of its fields
abbrev pub table_code : Coded ThreadTable
table_code =
    code_by (map.FinMap nat_cmp ThreadPart × ℕ) (coded× (map.code coded_ℕ thread_part.the_row.coded) coded_ℕ) (λ t. (t.threads, t.spare)) (λ p. record { threads = p.0; spare = p.1 }) (λ _. refl)

-- how many there are of it
abbrev pub count_of : {X : Type 0} → Option X → ℕ
count_of None = 0
count_of (Some x) = 1

abbrev pub with_contexts : ThreadPart → List Context → ThreadPart
with_contexts thread contexts = record { regs = thread.regs; mask = thread.mask; clear_tid = thread.clear_tid; contexts = contexts }

-- without the last one
abbrev pub earlier : List Context → List Context
earlier contexts = take (length contexts - 1) contexts

-- a thread that no handler has interrupted
abbrev pub fresh : Regs → ℕ → ℕ → ThreadPart
fresh regs mask clear_tid = record { regs = regs; mask = mask; clear_tid = clear_tid; contexts = [] }

abbrev pub changed_by : map.FinMap nat_cmp ThreadPart → ℕ → (ThreadPart → ThreadPart) → Option ThreadPart → map.FinMap nat_cmp ThreadPart
changed_by threads t change None = threads
changed_by threads t change (Some thread) = map.insert threads t (change thread)

abbrev pub changed : map.FinMap nat_cmp ThreadPart → ℕ → (ThreadPart → ThreadPart) → map.FinMap nat_cmp ThreadPart
changed threads t change = changed_by threads t change (map.get threads t)

abbrev pub at_thread : ThreadTable → ℕ → (ThreadPart → ThreadPart) → ThreadTable
at_thread table t change = record { threads = changed table.threads t change; spare = table.spare }
