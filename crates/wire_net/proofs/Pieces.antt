-- The front of a list that is taken in two steps, and a list of which more is dropped.
--     drop_twice, drop_further      what is dropped in two steps
--     take_twice                    what is taken in two steps
use Rattle.std.proofs.Common.{◌≡◌, ℕ, ◌+◌, ◌-◌, List, [], ◌∷◌, ◌++◌, take, drop, suc, zero, sym, ap, ◌∙◌, arith}
use Rattle.std.proofs.Math.Seq.{drop-nil, take-nil}

pub drop_twice : (a b : ℕ) (xs : List ℕ) → drop b (drop a xs) ≡ drop (a + b) xs
drop_twice zero b xs = ap (λ (k : ℕ). drop k xs) (let e : b ≡ 0 + b = omega arith in e)
drop_twice (suc a) b [] = drop-nil b ∙ sym (drop-nil (suc a + b))
drop_twice (suc a) b (x ∷ xs) = drop_twice a b xs ∙ ap (λ (k : ℕ). drop k (x ∷ xs)) (let e : suc (a + b) ≡ suc a + b = omega arith in e)

-- n bytes were dropped of the k and more
pub drop_further : (k n : ℕ) (xs : List ℕ) → drop (k - n) (drop n xs) ≡ drop (n - k) (drop k xs)
drop_further k n xs = drop_twice n (k - n) xs ∙ ap (λ (i : ℕ). drop i xs) (let e : n + (k - n) ≡ k + (n - k) = omega arith in e) ∙ sym (drop_twice k (n - k) xs)

pub take_twice : (k n : ℕ) (xs : List ℕ) → take k (take n xs) ++ take (k - n) (drop n xs) ≡ take k xs
take_twice zero n xs = ap (λ (i : ℕ). take i (drop n xs)) (let e : 0 - n ≡ 0 = omega arith in e)
take_twice (suc k) zero xs = ap (λ (i : ℕ). take i xs) (let e : suc k - 0 ≡ suc k = omega arith in e)
take_twice (suc k) (suc n) [] = take-nil (suc k - suc n)
take_twice (suc k) (suc n) (x ∷ xs) =
    ap (λ (l : List ℕ). x ∷ l) (ap (λ (i : ℕ). take k (take n xs) ++ take i (drop n xs)) (let e : suc k - suc n ≡ k - n = omega arith in e) ∙ take_twice k n xs)
