-- What a look-up among the pairs tells.
--     found_pair, no_pair
use Rattle.std.proofs.Common.{◌≡◌, Option, Some, None, Ok, Err, refl, ap}
use Rattle.std.specs.Prelude.{ok_or}
use Rattle.virt_ids.specs.declared.id_fault.IdFault.{IdFault}

pub found_pair : {A : Type 0} (o : Option A) (f : IdFault) (a : A) → ok_or o f ≡ Ok a → o ≡ Some a
found_pair None f a e = cc
found_pair (Some b) f a e = let same : b ≡ a = cc in ap Some same

pub no_pair : {A : Type 0} (o : Option A) (f g : IdFault) → ok_or o f ≡ Err g → o ≡ None
no_pair None f g e = refl
no_pair (Some b) f g e = cc
