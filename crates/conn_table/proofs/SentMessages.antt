-- A pair that was found and changed, in its place.
--     changed_at        it is the change of the pairs at that number
--     same_at           where the pair is as before, so are the pairs
use Rattle.std.proofs.Common.{◌≡◌, ℕ, sym, ap}
use Rattle.std.specs.Prelude.{Some}
use Rattle.std.specs.Cmp.{nat_cmp_total}
use Rattle.std.specs.Option.{option_map_or}
use Rattle.std.specs.FinMap as map
use Rattle.std.specs.FinMap.{nat_cmp-IsAntisymmetric}
use Rattle.id_maps.proofs.OfViews.MapLaws.{insert_same}
use Rattle.conn_table.specs.declared.pairs.DatagramPair.{DatagramPair}
use Rattle.conn_table.specs.Messages.{at_pair}
use Rattle.conn_table.specs.Pairs.{Pairs}

module _ (m : Pairs) (number : ℕ) (pair : DatagramPair) (there : Some pair ≡ map.get m number) where
  pub changed_at : (f : DatagramPair → DatagramPair) → map.insert m number (f pair) ≡ at_pair f m number
  changed_at f = ap (λ found. option_map_or (λ x. map.insert m number (f x)) found m) there

  pub same_at : map.insert m number pair ≡ m
  same_at = insert_same nat_cmp_total nat_cmp-IsAntisymmetric m number pair (sym there)
