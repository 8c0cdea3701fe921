-- The texts of a list's items, put one after the other
use Rattle.std.proofs.Common.{Fits, w64, arith, ◌≡◌, ℕ, ◌+◌, ◌<◌, ◌≤◌, ◌^◌, List, ◌++◌, length, take, drop, get_or, length-drop, sym, ap, ◌∙◌, append-nil}
use Rattle.std.specs.List.{flat_map}
use Rattle.std.specs.Prelude.{All}
use Rattle.std.proofs.lemmas.List.{flat_map_more, take_more, take_all, get_or_default}

pub puts_none : {X : Type 0} (f : X → List ℕ) (start : List ℕ) (xs : List X) → start ≡ start ++ flat_map f (take 0 xs)
puts_none f start xs = sym (append-nil start)

pub puts_more : {X : Type 0} (f : X → List ℕ) (start bytes new : List ℕ) (xs : List X) (i : ℕ) (d : X) → i < length xs → bytes ≡ start ++ flat_map f (take i xs) → new ≡ bytes ++ f (get_or xs i d) → new ≡ start ++ flat_map f (take (i + 1) xs)
puts_more f start bytes new xs i d h e put =
    put ∙ ap (λ (b : List ℕ). b ++ f (get_or xs i d)) e ∙ flat_map_more f start (take i xs) (get_or xs i d) ∙ ap (λ (items : List _). start ++ flat_map f items) (sym (take_more xs i d h))

pub puts_all : {X : Type 0} (f : X → List ℕ) (start bytes : List ℕ) (xs : List X) (i : ℕ) → length xs ≤ i → bytes ≡ start ++ flat_map f (take i xs) → bytes ≡ start ++ flat_map f xs
puts_all f start bytes xs i h e = e ∙ ap (λ (items : List _). start ++ flat_map f items) (take_all i xs h)

-- the numbers of a slice fit their type
pub all_fit_64 : (xs : List ℕ) → ((k : ℕ) → Fits w64 (get_or xs k 0)) → All (λ x. x < 2 ^ 64) xs
all_fit_64 xs h k d inside = rw (get_or_default xs k d 0 inside) (omega (arith, h k))

pub all_below : (limit : ℕ) (xs : List ℕ) → ((k : ℕ) → get_or xs k 0 < limit) → All (λ x. x < limit) xs
all_below limit xs h k d inside = rw (get_or_default xs k d 0 inside) (h k)

-- a slice from its second item on
pub tail_of : (xs : List ℕ) (n : ℕ) → length xs ≡ n + 1 → take n (drop 1 xs) ≡ drop 1 xs
tail_of xs n h = take_all n (drop 1 xs) (omega (arith, length-drop 1 xs))
