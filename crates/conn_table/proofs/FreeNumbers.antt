-- Numbers that pairs have, one after the other.
--     taken_none, taken_more     none so far;  one more
--     lowest_found               the first that no pair has
use Rattle.std.proofs.Common.{◌≡◌, ℕ, ◌+◌, Bool, true, false, inl, inr, refl, ap, ◌∙◌, sym, arith}
use Rattle.std.specs.Prelude.{Option, Some, None, is_some}
use Rattle.std.specs.Cmp.{nat_cmp_total}
use Rattle.std.specs.FinMap as map
use Rattle.std.specs.FinMap.{nat_cmp-IsAntisymmetric}
use Rattle.id_maps.proofs.OfViews.MapLaws.{true_false, same_or_other}
use Rattle.conn_table.specs.declared.pairs.DatagramPair.{DatagramPair}
use Rattle.conn_table.specs.Pairs.{Pairs}
use Rattle.conn_table.specs.Openings.{AreTaken, IsLowestNumber}

pub none_there : (found : Option DatagramPair) → is_some found ≡ false → found ≡ None
none_there None is = refl
none_there (Some x) is = true_false is

module _ (m : Pairs) where
  pub taken_none : AreTaken m 0
  taken_none number below = absurd (omega (arith, below))

  pub taken_more : (end : ℕ) (found : Bool) → AreTaken m end → found ≡ is_some (map.get m end) → found ≡ true
      → AreTaken m (end + 1)
  taken_more end found before told is number below =
      elim (same_or_other nat_cmp_total nat_cmp-IsAntisymmetric number end) [
        | inl same ↦ ap (λ n. is_some (map.get m n)) same ∙ sym told ∙ is
        | inr differ ↦ before number (omega (arith, differ, below))
      ]

  pub lowest_found : (number : ℕ) (found : Bool) → AreTaken m number → found ≡ is_some (map.get m number)
      → found ≡ false → IsLowestNumber m number
  lowest_found number found before told is =
      record { free = none_there (map.get m number) (sym told ∙ is); lowest = before }
