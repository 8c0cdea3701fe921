-- A pair whose last open end is closed is gone.
use Rattle.std.proofs.Common.{◌≡◌, ℕ, Bool, true, false, refl, sym, ap, ◌∙◌}
use Rattle.std.specs.Prelude.{Option, Some, None, if◌then◌else◌}
use Rattle.std.specs.Cmp.{nat_cmp_total}
use Rattle.std.specs.Option.{option_map, option_map_or}
use Rattle.std.specs.FinMap as map
use Rattle.std.specs.FinMap.{nat_cmp-IsAntisymmetric}
use Rattle.id_maps.proofs.OfViews.MapLaws.{true_false, remove_insert}
use Rattle.conn_table.specs.declared.pairs.DatagramPair.{DatagramPair}
use Rattle.conn_table.specs.Pairs.{Pairs, is_open, without_end, put_back, after_close, with_closed, stays_open}

first_of_two : {A : Type 0} (b : Bool) (x y : A) → b ≡ true → x ≡ (if b then x else y)
first_of_two true x y is = refl
first_of_two false x y is = true_false (sym is)

second_of_two : {A : Type 0} (b : Bool) (x y : A) → b ≡ false → y ≡ (if b then x else y)
second_of_two true x y is = true_false is
second_of_two false x y is = refl

module _ (side : ℕ) (m : Pairs) (number : ℕ) where
  kept : (found : Option DatagramPair) → stays_open side found ≡ true
      → option_map_or (λ pair. map.insert m number (without_end side pair)) found m
      ≡ put_back m number (option_map (without_end side) found)
  kept None is = refl
  kept (Some pair) is =
      first_of_two (is_open (without_end side pair)) (map.insert m number (without_end side pair))
      (map.remove m number) is

  taken_out : (found : Option DatagramPair) → stays_open side found ≡ false
      → map.remove (option_map_or (λ pair. map.insert m number (without_end side pair)) found m) number
      ≡ put_back m number (option_map (without_end side) found)
  taken_out None is = true_false is
  taken_out (Some pair) is =
      remove_insert nat_cmp_total nat_cmp-IsAntisymmetric m number (without_end side pair)
      ∙ second_of_two (is_open (without_end side pair)) (map.insert m number (without_end side pair))
      (map.remove m number) is

  pub after_other_end : (closed : Pairs) (opens : Bool) → opens ≡ stays_open side (map.get m number)
      → opens ≡ true → closed ≡ with_closed side m number → closed ≡ after_close side m number
  after_other_end closed opens told stays is = is ∙ kept (map.get m number) (sym told ∙ stays)

  pub after_last_end : (closed gone : Pairs) (opens : Bool) → opens ≡ stays_open side (map.get m number)
      → opens ≡ false → closed ≡ with_closed side m number → gone ≡ map.remove closed number
      → gone ≡ after_close side m number
  after_last_end closed gone opens told closes is removed =
      removed ∙ ap (λ n. map.remove n number) is ∙ taken_out (map.get m number) (sym told ∙ closes)

  -- what a change of a pair that was found leaves
  pub changed_found : (pair : DatagramPair) → Some pair ≡ map.get m number
      → map.insert m number (without_end side pair) ≡ with_closed side m number
  changed_found pair is = ap (λ found. option_map_or (λ x. map.insert m number (without_end side x)) found m) is
