-- Where a result names a damage.
--     IsDamageOf P result      where the result is a damage, P holds of its file and its offset
use Rattle.std.specs.Prelude.{ℕ, Result, Ok, Err}
use Rattle.image_format.specs.declared.damage.ReadFault.{ReadFault}
use Rattle.image_format.specs.declared.damage.ReadFault.TheVariants.{Damaged, Memory}

abbrev pub IsDamageOf : {A : Type 0} → (ℕ → ℕ → Type 0) → Result A ReadFault → Type 0
IsDamageOf P (Ok a) = Unit {0}
IsDamageOf P (Err (Damaged damage)) = P damage.file damage.offset
IsDamageOf P (Err Memory) = Unit {0}
