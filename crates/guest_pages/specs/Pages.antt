-- Pages by their numbers.
--     IsSpace memory          no page lies past the addresses of 32 bits, and there are at most 2,048
--     IsCode memory page      the page is there and may be executed
use Rattle.std.specs.Prelude.{◌≡◌, ◌^◌, ℕ, ◌≤◌, None, true}
use Rattle.std.specs.Result.{is_ok}
use Rattle.std.specs.FinMap as map
use Rattle.plain_process.specs.declared.memory.Right.TheVariants.{Execute}
use Rattle.plain_process.specs.Memory.{Memory}
use Rattle.guest_pages.specs.Refusals.{granted}

pub record IsSpace (memory : Memory) : Type 0 where
  pub bounded : (number : ℕ) → 2 ^ 20 ≤ number → map.get memory number ≡ None
  pub small : map.len memory ≤ 2048

abbrev pub IsCode : Memory → ℕ → Type 0
IsCode memory page = is_ok (granted Execute (map.get memory page)) ≡ true
