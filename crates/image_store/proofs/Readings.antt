-- The files of a slot against the lengths of its manifest.
--     whole_file         a file that is there in its length
--     damage_here        the first damage from a place on
--     damage_step, damage_end      one file more, and no file left
--     read_step, read_end          the same of the files that are read
use Rattle.std.proofs.Common.{◌≡◌, ℕ, ◌+◌, ◌<◌, ◌≤◌, add-one, get_or, List, [], ◌∷◌, ◌++◌, length, take, drop, refl, sym, ap, ◌∙◌, arith, append_assoc, append-nil}
use Rattle.std.specs.Prelude.{Bool, true, false, if◌then◌else◌, ◌==◌, Option, Some, None, unwrap_or, map}
use Rattle.std.specs.Option.{option_or}
use Rattle.std.proofs.lemmas.Bool.Decides.{nat_tests}
use Rattle.std.proofs.lemmas.List.{drop_more, drop_all, take_all, map_push, take_more}
use Rattle.image_format.specs.declared.damage.Damage.{Damage}
use Rattle.image_store.specs.FoundSets.{files_from}
use Rattle.image_store.specs.SetDamages.{damage_at, damage_from}

fits_by : (b : Bool) (index n : ℕ) (bytes : List ℕ) (damage : Damage) → (if b then None else Some damage) ≡ None → b ≡ true
fits_by true index n bytes damage is = refl
fits_by false index n bytes damage is = (cc)

same_length : (m n : ℕ) → (m == n) ≡ true → m ≡ n
same_length m n is = grind (arith, nat_tests)

pub whole_file : (index n : ℕ) (file : Option (List ℕ)) → damage_at index n file ≡ None → (bytes : List ℕ) × (file ≡ Some bytes) × (length bytes ≡ n)
unfolding damage_at
whole_file index n None is = (cc)
whole_file index n (Some bytes) is = (bytes, refl, same_length (length bytes) n (fits_by (length bytes == n) index n bytes _ is))

-- what is found at the front of the file
pub whole_bytes : (index n : ℕ) (file : Option (List ℕ)) (bytes : List ℕ) → damage_at index n file ≡ None → bytes ≡ take n (unwrap_or file []) → (file ≡ Some bytes) × (length bytes ≡ n)
whole_bytes index n file bytes none is =
    let there = whole_file index n file none in
    let same : bytes ≡ there.0 = is ∙ ap (λ f. take n (unwrap_or f [])) there.1 ∙ take_all n there.0 (omega (arith, there.2)) in
    (there.1 ∙ ap (λ (xs : List ℕ). Some xs) (sym same), ap length same ∙ there.2)

-- from a place on
unfoldable pub damage_here : (ℕ → Option (List ℕ)) → List ℕ → ℕ → Option Damage
damage_here there lengths i = damage_from (i + 1) (drop i lengths) (files_from there (i + 1) (length (drop i lengths)))

pub damage_start : (there : ℕ → Option (List ℕ)) (lengths : List ℕ) → damage_here there lengths 0 ≡ damage_from 1 lengths (files_from there 1 (length lengths))
unfolding damage_here
damage_start there lengths = refl

pub damage_end : (there : ℕ → Option (List ℕ)) (lengths : List ℕ) (i : ℕ) → length lengths ≤ i → damage_here there lengths i ≡ None
unfolding damage_here
damage_end there lengths i le = ap (λ left. damage_from (i + 1) left (files_from there (i + 1) (length left))) (drop_all i lengths le)

pub damage_step : (there : ℕ → Option (List ℕ)) (lengths : List ℕ) (i : ℕ) → i < length lengths → damage_here there lengths i ≡ option_or (damage_at (i + 1) (get_or lengths i 0) (there (i + 1))) (damage_here there lengths (i + 1))
unfolding damage_here
damage_step there lengths i lt =
    ap (λ left. damage_from (i + 1) left (files_from there (i + 1) (length left))) (drop_more lengths i 0 lt)
    ∙ ap (λ n. option_or (damage_at (i + 1) (get_or lengths i 0) (there (i + 1))) (damage_from n (drop (i + 1) lengths) (files_from there n (length (drop (i + 1) lengths))))) (sym (add-one (i + 1)))

-- a file that fits
pub damage_after : (there : ℕ → Option (List ℕ)) (lengths : List ℕ) (i : ℕ) → i < length lengths → damage_at (i + 1) (get_or lengths i 0) (there (i + 1)) ≡ None → damage_here there lengths (i + 1) ≡ damage_here there lengths i
damage_after there lengths i lt none = sym (damage_step there lengths i lt ∙ ap (λ d. option_or d (damage_here there lengths (i + 1))) none)

pub damage_found : (there : ℕ → Option (List ℕ)) (lengths : List ℕ) (i : ℕ) (damage : Damage) → i < length lengths → damage_at (i + 1) (get_or lengths i 0) (there (i + 1)) ≡ Some damage → damage_here there lengths i ≡ Some damage
damage_found there lengths i damage lt found = damage_step there lengths i lt ∙ ap (λ d. option_or d (damage_here there lengths (i + 1))) found

or_none : (a b : Option Damage) → option_or a b ≡ None → (a ≡ None) × (b ≡ None)
or_none None b is = (refl, is)
or_none (Some x) b is = (cc)

-- where there is no damage
pub fits_here : (there : ℕ → Option (List ℕ)) (lengths : List ℕ) (i : ℕ) → i < length lengths → damage_here there lengths i ≡ None → (damage_at (i + 1) (get_or lengths i 0) (there (i + 1)) ≡ None) × (damage_here there lengths (i + 1) ≡ None)
fits_here there lengths i lt none = or_none _ _ (sym (damage_step there lengths i lt) ∙ none)

-- the files that are read, and those that are left
unfoldable pub files_left : (ℕ → Option (List ℕ)) → List ℕ → ℕ → List (Option (List ℕ))
files_left there lengths i = files_from there (i + 1) (length (drop i lengths))

pub left_start : (there : ℕ → Option (List ℕ)) (lengths : List ℕ) → files_left there lengths 0 ≡ files_from there 1 (length lengths)
unfolding files_left
left_start there lengths = refl

pub left_end : (there : ℕ → Option (List ℕ)) (lengths : List ℕ) (i : ℕ) → length lengths ≤ i → files_left there lengths i ≡ []
unfolding files_left
left_end there lengths i le = ap (λ left. files_from there (i + 1) (length left)) (drop_all i lengths le)

left_step : (there : ℕ → Option (List ℕ)) (lengths : List ℕ) (i : ℕ) → i < length lengths → files_left there lengths i ≡ there (i + 1) ∷ files_left there lengths (i + 1)
unfolding files_left
left_step there lengths i lt =
    ap (λ left. files_from there (i + 1) (length left)) (drop_more lengths i 0 lt)
    ∙ ap (λ n. there (i + 1) ∷ files_from there n (length (drop (i + 1) lengths))) (sym (add-one (i + 1)))

pub read_step : (there : ℕ → Option (List ℕ)) (lengths : List ℕ) (i : ℕ) (images : List (List ℕ)) (image : List ℕ) → i < length lengths → there (i + 1) ≡ Some image → map Some (images ++ image ∷ []) ++ files_left there lengths (i + 1) ≡ map Some images ++ files_left there lengths i
read_step there lengths i images image lt found =
    let rest = files_left there lengths (i + 1) in
    ap (λ (xs : List (Option (List ℕ))). xs ++ rest) (map_push (λ (xs : List ℕ). Some xs) images image)
    ∙ append_assoc (map Some images) (Some image ∷ []) rest
    ∙ ap (λ (xs : List (Option (List ℕ))). map Some images ++ xs) (ap (λ file. file ∷ rest) (sym found) ∙ sym (left_step there lengths i lt))

pub read_end : (there : ℕ → Option (List ℕ)) (lengths : List ℕ) (i : ℕ) (images : List (List ℕ)) → length lengths ≤ i → map Some images ++ files_left there lengths i ≡ files_from there 1 (length lengths) → files_from there 1 (length lengths) ≡ map Some images
read_end there lengths i images le is = sym is ∙ ap (λ (xs : List (Option (List ℕ))). map Some images ++ xs) (left_end there lengths i le) ∙ append-nil (map Some images)

-- the lengths of what is read
pub lengths_step : (lengths : List ℕ) (i : ℕ) (images : List (List ℕ)) (image : List ℕ) → i < length lengths → map length images ≡ take i lengths → length image ≡ get_or lengths i 0 → map length (images ++ image ∷ []) ≡ take (i + 1) lengths
lengths_step lengths i images image lt so_far is =
    map_push length images image ∙ (λ k. so_far k ++ is k ∷ []) ∙ sym (take_more lengths i 0 lt)
