-- Which numbers of a process are free or open, read off its places.
use Rattle.std.proofs.Common.{◌≡◌, ◌<◌, ◌≤◌, ◌+◌, min, ℕ, zero, suc, cond, List, refl, ap, ◌∙◌, arith}
use Rattle.std.specs.Prelude.{Option, Some, None, is_some, IsSome, IfSome, IfNone}
use Rattle.std.specs.FinMap as map
use Rattle.std.specs.FinMap.{FinMap}
use Rattle.sys_abi.specs.declared.identity.RealPid.{RealPid}
use Rattle.sys_abi.specs.declared.descriptor.Descriptor.{Descriptor}
use Rattle.fd_tables.specs.Orders.{real_slot_cmp}
use Rattle.fd_tables.specs.Slots.{slot}
use Rattle.fd_tables.specs.Numbers.{AllUsed, IsLowestFree, NoneOpen, IsLowestOpen, free_below}
use Rattle.fd_tables.specs.Tables.{at_place, free_places}

module _ (now : FinMap real_slot_cmp Descriptor) (p : RealPid) (places : List (Option Descriptor)) (at : (fd : ℕ) → map.get now (slot p fd) ≡ at_place places fd) where
  some_there : (fd : ℕ) → IsSome (at_place places fd) → IsSome (map.get now (slot p fd))
  some_there fd there = ap is_some (at fd) ∙ there

  pub lowest_free_seen : (from : ℕ) (r : Option ℕ)
      → IfSome r (λ fd. (from ≤ fd) × (fd < 256) × (at_place places fd ≡ None) × ((q : ℕ) → from ≤ q → q < fd → IsSome (at_place places q)))
      → IfSome r (λ fd. IsLowestFree now p from fd)
  lowest_free_seen from None told = told
  lowest_free_seen from (Some fd) told = record { free = at fd ∙ told.2; from_on = told.0; in_range = told.1; lowest = λ q after before. some_there q (told.3 q after before) }

  pub all_used_seen : (from : ℕ) (r : Option ℕ) → IfNone r ((q : ℕ) → from ≤ q → q < 256 → IsSome (at_place places q)) → IfNone r (AllUsed now p from)
  all_used_seen from None told = λ q after before. some_there q (told q after before)
  all_used_seen from (Some fd) told = told

  pub lowest_open_seen : (from : ℕ) (r : Option ℕ)
      → IfSome r (λ fd. (from ≤ fd) × (fd < 256) × IsSome (at_place places fd) × ((q : ℕ) → from ≤ q → q < fd → at_place places q ≡ None))
      → IfSome r (λ fd. IsLowestOpen now p from fd)
  lowest_open_seen from None told = told
  lowest_open_seen from (Some fd) told = record { open_there = some_there fd told.2; from_on = told.0; in_range = told.1; lowest = λ q after before. at q ∙ told.3 q after before }

  pub none_open_seen : (from : ℕ) (r : Option ℕ) → IfNone r ((q : ℕ) → from ≤ q → at_place places q ≡ None) → IfNone r (NoneOpen now p from)
  none_open_seen from None told = λ q after. at q ∙ told q after
  none_open_seen from (Some fd) told = told

  pub free_seen : (n : ℕ) → free_below now p n ≡ free_places places n
  unfolding free_below free_places
  free_seen zero = refl
  free_seen (suc n) = λ i. free_seen n i + cond (is_some (at n i)) 0 1

module _ (now : FinMap real_slot_cmp Descriptor) (p : RealPid) (none : (fd : ℕ) → map.get now (slot p fd) ≡ None) where
  pub lowest_free_none : (from : ℕ) → from < 256 → IsLowestFree now p from from
  lowest_free_none from within = record { free = none from; from_on = omega arith; in_range = within; lowest = λ q after before. absurd (omega arith) }

  pub free_none : (n : ℕ) → free_below now p n ≡ n
  unfolding free_below
  free_none zero = refl
  free_none (suc n) = (λ i. free_none n i + cond (is_some (none n i)) 0 1) ∙ omega arith

-- the numbers above the greatest one are as those from it on
pub none_above : (now : FinMap real_slot_cmp Descriptor) (p : RealPid) (from first top : ℕ) (r : Option ℕ) → from ≡ min first top → IfNone r (NoneOpen now p from) → IfNone r (NoneOpen now p first)
none_above now p from first top None is told = λ q after. told q (omega arith)
none_above now p from first top (Some fd) is told = told

pub open_above : (now : FinMap real_slot_cmp Descriptor) (p : RealPid) (from first top : ℕ) (r : Option ℕ) → from ≡ min first top → 256 ≤ top → IfSome r (λ fd. IsLowestOpen now p from fd) → IfSome r (λ fd. IsLowestOpen now p first fd)
open_above now p from first top None is high told = told
open_above now p from first top (Some fd) is high told =
    let after = told.from_on in let within = told.in_range in
    record { open_there = told.open_there; from_on = omega arith; in_range = within; lowest = λ q from_on before. told.lowest q (omega arith) before }
