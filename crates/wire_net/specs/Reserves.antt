-- What a contract sees of a list with room that was taken before.
use Rattle.std.specs.Prelude.{ℕ, List, refl}
use Rattle.std.specs.Coded.{Coded, code_by, coded×, coded_list, coded_ℕ}

-- the items, and how many of them it holds without memory
pub record Reserve (X : Type 0) : Type 0 where
  pub items : List X
  pub room : ℕ

module _ {X : Type 0} where
  abbrev pub reserve : List X → ℕ → Reserve X
  reserve xs n = record { items = xs; room = n }

  abbrev pub reserve_code : Coded X → Coded (Reserve X)
  reserve_code c = code_by (List X × ℕ) (coded× (coded_list c) coded_ℕ) (λ r. (r.items, r.room)) (λ p. reserve p.0 p.1) (λ _. refl)
