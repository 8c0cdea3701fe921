-- A process's memory as its callers see it: its pages, and where its break starts and stands.
use Rattle.std.specs.Prelude.{ℕ, refl}
use Rattle.std.specs.Coded.{Coded, code_by, coded×, coded_ℕ}
use Rattle.std.specs.FinMap as map
use Rattle.plain_process.specs.contracts.memory.Frame as frame
use Rattle.plain_process.specs.declared.user_part.UserPart.{UserPart}
use Rattle.plain_process.specs.Memory.{Memory}

pub record MemoryPart : Type 0 where
  pub pages : Memory
  pub break_start : ℕ
  pub break_end : ℕ

-- stored as the pair of its pages and of its break
abbrev pub memory_code : Coded MemoryPart
memory_code =
    code_by (Memory × (ℕ × ℕ)) (coded× (map.code coded_ℕ frame.the_row.coded) (coded× coded_ℕ coded_ℕ))
    (λ m. (m.pages, (m.break_start, m.break_end)))
    (λ p. record { pages = p.0; break_start = p.1.0; break_end = p.1.1 })
    (λ _. refl)

-- the user part with this memory
abbrev pub with_memory_part : UserPart → MemoryPart → UserPart
with_memory_part user part = record user {
  memory = part.pages;
  break_start = part.break_start;
  break_end = part.break_end;
}
