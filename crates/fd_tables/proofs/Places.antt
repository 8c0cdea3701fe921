-- What stands at the places of one process.
use Rattle.std.proofs.Common.{◌≡◌, ◌≤◌, ℕ, List, length, ap, ◌∙◌, arith, inl, inr}
use Rattle.std.specs.Prelude.{Option, None, replicate}
use Rattle.std.proofs.lemmas.Bool.{cases_lt}
use Rattle.std.proofs.lemmas.List.{get_or_past, get_or-replicate, length-replicate}
use Rattle.sys_abi.specs.declared.descriptor.Descriptor.{Descriptor}
use Rattle.fd_tables.specs.Tables.{at_place}

pub past_places : (places : List (Option Descriptor)) (fd : ℕ) → length places ≤ fd → at_place places fd ≡ None
past_places places fd past = get_or_past places fd None past

-- a list of empty places
pub empty_places : (items slice : List (Option Descriptor)) (n : ℕ) → items ≡ slice → slice ≡ replicate n None → (fd : ℕ) → at_place items fd ≡ None
empty_places items slice n is empty fd =
    ap (λ places. at_place places fd) (is ∙ empty) ∙ elim (cases_lt fd n) [
      | inl within ↦ get_or-replicate n fd None None within
      | inr past ↦ past_places (replicate n None) fd (omega (arith, length-replicate {A = Option Descriptor}))
    ]
