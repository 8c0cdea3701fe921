-- The first item of a list that passes a test, looked for from the front.
--     found_here, further, found_none      whether an item is the first one, and where none is
use Rattle.std.proofs.Common.{◌≡◌, ℕ, ◌+◌, ◌<◌, ◌≤◌, suc, Bool, true, false, List, drop, length, get_or, sym, ap, ◌∙◌, arith}
use Rattle.std.specs.Prelude.{Some, None, find, slice_get, if◌then◌else◌}
use Rattle.std.proofs.Math.Seq.{drop-cons}
use Rattle.std.proofs.lemmas.List.{drop_all}
use Rattle.std.proofs.lemmas.Option.{slice_get-get_or}

module _ {X : Type 0} (test : X → Bool) where
  -- the first item that was not passed over
  first_left : (items : List X) (i : ℕ) (z : X) → i < length items → find test (drop i items) ≡ find test items
      → (if test (get_or items i z) then Some (get_or items i z) else find test (drop (suc i) items)) ≡ find test items
  first_left items i z below so_far = ap (find test) (sym (drop-cons items i z below)) ∙ so_far

  pub found_here : (items : List X) (i : ℕ) (z : X) → i < length items → z ≡ get_or items i z → find test (drop i items) ≡ find test items → test z ≡ true → slice_get items i ≡ find test items
  found_here items i z below is so_far passes =
      slice_get-get_or items i z below
      ∙ sym (ap (λ (b : Bool). if b then Some (get_or items i z) else find test (drop (suc i) items)) (ap test (sym is) ∙ passes)) ∙ first_left items i z below so_far

  pub further : (items : List X) (i : ℕ) (z : X) → i < length items → z ≡ get_or items i z → find test (drop i items) ≡ find test items → test z ≡ false → find test (drop (i + 1) items) ≡ find test items
  further items i z below is so_far fails =
      let next : i + 1 ≡ suc i = omega arith in
      ap (λ (k : ℕ). find test (drop k items)) next
      ∙ sym (ap (λ (b : Bool). if b then Some (get_or items i z) else find test (drop (suc i) items)) (ap test (sym is) ∙ fails)) ∙ first_left items i z below so_far

  pub found_none : (items : List X) (i : ℕ) → length items ≤ i → find test (drop i items) ≡ find test items → None ≡ find test items
  found_none items i past so_far = sym (ap (find test) (drop_all i items past)) ∙ so_far
