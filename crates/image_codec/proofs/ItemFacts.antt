-- What is so of each item of a list is so of all, and of each two.
--     all_items      of all items
--     item_pairs      of each item and each later one, where it is so of each and those in front of it
use Rattle.std.proofs.Common.{List, [], ◌∷◌, ◌++◌, sym, subst, append_assoc, append-nil, arith}
use Rattle.std.specs.Prelude.{All, AllPairs}
use Rattle.std.proofs.lemmas.List.Elements.{All-nil, All-cons}
use Rattle.std.proofs.lemmas.List.Kept.{AllPairs-cons}
use Rattle.image_format.specs.Texts.{EachFrom}
use Rattle.image_codec.proofs.Items.{IsItem, at_start, in_later, in_second, in_first}

module _ {X : Type 0} where
  pub all_items : (P : X → Type 0) (xs : List X) → ((x : X) → IsItem xs x → P x) → All P xs
  all_items P [] told = All-nil P
  all_items P (x ∷ xs) told = All-cons P x xs (told x (at_start x xs)) (all_items P xs (λ y at. told y (in_later x y xs at)))

  later_fits : (P : List X → X → Type 0) (front ahead : List X) (y : X) (rest : List X) → EachFrom P front (ahead ++ y ∷ rest) → P (front ++ ahead) y
  unfolding EachFrom
  later_fits P front [] y rest fits = subst (λ ys. P ys y) (sym (append-nil front)) fits.0
  later_fits P front (x ∷ ahead) y rest fits = subst (λ ys. P ys y) (append_assoc front (x ∷ []) ahead) (later_fits P (front ++ x ∷ []) ahead y rest fits.1)

  no_pairs : (R : X → X → Type 0) → AllPairs R []
  no_pairs R = grind arith

  module _ (P : List X → X → Type 0) (R : X → X → Type 0) (told : (front : List X) (x y : X) → P front y → IsItem front x → R x y) where
    pairs_from : (front xs : List X) → EachFrom P front xs → AllPairs R xs
    unfolding EachFrom
    pairs_from front [] fits = no_pairs R
    pairs_from front (x ∷ xs) fits =
        AllPairs-cons R x xs
        (all_items (R x) xs (λ y at.
        told ((front ++ x ∷ []) ++ at.front) x y
        (later_fits P (front ++ x ∷ []) at.front y at.rest (subst (EachFrom P (front ++ x ∷ [])) at.whole fits.1))
        (in_first (front ++ x ∷ []) at.front x (in_second front (x ∷ []) x (at_start x [])))))
        (pairs_from (front ++ x ∷ []) xs fits.1)

    pub item_pairs : (xs : List X) → EachFrom P [] xs → AllPairs R xs
    item_pairs xs fits = pairs_from [] xs fits
