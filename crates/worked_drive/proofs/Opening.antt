-- Which generation the next set follows.
--     follows       without a floor the one of the set that counts, if there is one
use Rattle.std.proofs.Common.{◌≡◌, ℕ, Option, ap, arith}
use Rattle.std.specs.Prelude.{suc, max}
use Rattle.std.specs.Option.{option_map_or}
use Rattle.image_store.specs.declared.set_info.SetInfo.{SetInfo}
use Rattle.image_store.specs.StoreStates.{generation_after}

pub follows : (floor : ℕ) (found : Option SetInfo) (opening : ℕ) → floor ≡ 0 → option_map_or (λ info. info.generation) found 0 ≡ opening → generation_after floor found ≡ suc opening
unfolding generation_after
follows floor found opening none is =
    let greater : max floor (option_map_or (λ info. info.generation) found 0) ≡ opening = omega (arith, none, is) in ap suc greater
