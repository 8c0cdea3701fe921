-- An answer with no bytes for the guest can always be put.
use Rattle.std.proofs.Common.{◌≡◌, ℕ, ◌-◌, List, [], ◌∷◌, take, drop, refl, sym, subst, true, arith}
use Rattle.std.specs.Prelude.{is_some}
use Rattle.plain_process.specs.declared.memory.Right.TheVariants.{Write}
use Rattle.plain_process.specs.declared.buffers.Span.{Span}
use Rattle.plain_process.specs.Memory.{Memory, bytes_at, with_bytes}
use Rattle.process_memory.specs.Lending.{CanHold, CanTake}

holds_nothing : (memory : Memory) (address : ℕ) → is_some (bytes_at memory Write address 0) ≡ true
unfolding bytes_at
holds_nothing memory address = refl

pub takes_nothing : (memory : Memory) (spans : List Span) → CanTake memory spans []
takes_nothing memory [] = tt
takes_nothing memory (at ∷ []) = holds_nothing memory at.address
takes_nothing memory (at ∷ next ∷ rest) =
    let none : 0 - next.length ≡ 0 = omega arith in
    subst (λ front. CanHold memory at.address (take front []) × CanHold (with_bytes memory at.address (take front [])) next.address (drop front [])) (sym none)
    (holds_nothing memory at.address, holds_nothing (with_bytes memory at.address []) next.address)
