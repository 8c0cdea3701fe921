-- The pair of a real number, by what a look-up answers.
--     number_told, none_told      its virtual number;  it has none
use Rattle.std.proofs.Common.{◌≡◌, ℕ, Option, Some, None, Result, Ok, Err, refl, sym, ap}
use Rattle.std.specs.Option.{ok_or}
use Rattle.virt_ids.specs.declared.id_fault.IdFault.{IdFault}

different : (n : ℕ) (f : IdFault) → ◌≡◌ {A = Result ℕ IdFault} (Ok n) (Err f) → ⊥
different n f h = cc

same_number : (a b : ℕ) → ◌≡◌ {A = Result ℕ IdFault} (Ok a) (Ok b) → a ≡ b
same_number a b h = cc

pub number_told : (o : Option ℕ) (n : ℕ) (f : IdFault) → Ok n ≡ ok_or o f → o ≡ Some n
number_told None n f is = absurd (different n f is)
number_told (Some m) n f is = ap Some (sym (same_number n m is))

pub none_told : (o : Option ℕ) (f e : IdFault) → Err e ≡ ok_or o f → o ≡ None
none_told None f e is = refl
none_told (Some m) f e is = absurd (different m e (sym is))
