-- The first of several refusals.
--     first xs                        the first of the refusals, if any
--     first_refusal_is                that of a launch, by files, programs and their sum
--     none_refused, one_refused       where none comes, and where all before one are none
--     told_first, all_told            what is refused for what was read is so for what is held
use Rattle.std.proofs.Common.{◌≡◌, List, [], ◌∷◌, ◌++◌, map, Option, Some, None, refl, sym, ap, subst, ◌∙◌}
use Rattle.std.specs.Prelude.{All, fold}
use Rattle.std.specs.Option.{option_or}
use Rattle.std.proofs.lemmas.List.{map-append}
use Rattle.std.proofs.lemmas.List.Sums.{fold-append}
use Rattle.std.proofs.lemmas.List.Elements.{All-head, All-tail}
use Rattle.launch_start.specs.JobInputs.{Refusal, unread, JobInputs, file_refusal, program_refusal, sum_refusal, first_refusal}

abbrev pub first : List (Option Refusal) → Option Refusal
first refusals = fold option_or None refusals

kept : (refusal : Refusal) (xs : List (Option Refusal)) → fold option_or (Some refusal) xs ≡ Some refusal
kept refusal [] = refl
kept refusal (x ∷ xs) = kept refusal xs

first_from : (a : Option Refusal) (xs : List (Option Refusal)) → fold option_or a xs ≡ option_or a (first xs)
first_from None xs = refl
first_from (Some refusal) xs = kept refusal xs

first_both : (xs ys : List (Option Refusal)) → first (xs ++ ys) ≡ option_or (first xs) (first ys)
first_both xs ys = fold-append option_or None xs ys ∙ first_from (first xs) ys

either_first : (a b c : Option Refusal) → option_or (option_or a b) c ≡ option_or a (option_or b c)
either_first None b c = refl
either_first (Some refusal) b c = refl

pub first_refusal_is : (inputs : JobInputs)
    → first_refusal inputs ≡ option_or (first (map file_refusal inputs.files)) (option_or (first (map program_refusal inputs.programs)) (sum_refusal inputs.files))
first_refusal_is inputs =
    first_both (map file_refusal inputs.files ++ map program_refusal inputs.programs) (sum_refusal inputs.files ∷ [])
    ∙ ap (λ o. option_or o (sum_refusal inputs.files)) (first_both (map file_refusal inputs.files) (map program_refusal inputs.programs))
    ∙ either_first (first (map file_refusal inputs.files)) (first (map program_refusal inputs.programs)) (sum_refusal inputs.files)

none_some : {A P : Type 0} (a : A) → None ≡ Some a → P
none_some a is = cc

module _ {A : Type 0} (f : A → Option Refusal) where
  pub none_refused : (items : List A) → All (λ x. f x ≡ None) items → first (map f items) ≡ None
  none_refused [] none = refl
  none_refused (x ∷ items) none =
      first_from (f x) (map f items) ∙ ap (λ o. option_or o (first (map f items))) (All-head (λ y. f y ≡ None) x items none) ∙ none_refused items (All-tail (λ y. f y ≡ None) x items none)

  here_first : (x : A) (items : List A) (refusal : Refusal) → f x ≡ Some refusal → first (map f (x ∷ items)) ≡ Some refusal
  here_first x items refusal is = first_from (f x) (map f items) ∙ ap (λ o. option_or o (first (map f items))) is

  passed_first : (x : A) (items : List A) → f x ≡ None → first (map f (x ∷ items)) ≡ first (map f items)
  passed_first x items is = first_from (f x) (map f items) ∙ ap (λ o. option_or o (first (map f items))) is

  pub one_refused : (before : List A) (x : A) (after : List A) (refusal : Refusal) → All (λ y. f y ≡ None) before → f x ≡ Some refusal → first (map f (before ++ x ∷ after)) ≡ Some refusal
  one_refused before x after refusal none is =
      ap first (map-append f before (x ∷ after)) ∙ first_both (map f before) (map f (x ∷ after)) ∙ ap (λ o. option_or o (first (map f (x ∷ after)))) (none_refused before none) ∙ here_first x after refusal is

-- what came of each read is known
abbrev pub IsKnown : Option Refusal → Type 0
IsKnown (Some (unread name)) = ⊥
IsKnown _ = Unit {0}

-- where an item's refusal is known it is the item that is held
module _ {A : Type 0} (f : A → Option Refusal) (held : A → A) (IsTold : A → Type 0) (same : (x : A) → IsTold x → IsKnown (f x) → x ≡ held x) where
  pub told_first : (items : List A) (refusal : Option Refusal) → All IsTold items → first (map f items) ≡ refusal → IsKnown refusal → first (map f (map held items)) ≡ refusal
  told_first [] refusal told is known = is
  told_first (x ∷ items) refusal told is known = by (f x) refl (λ rest. told_first items refusal (All-tail IsTold x items told) rest known)
    where
      by : (o : Option Refusal) → f x ≡ o → (first (map f items) ≡ refusal → first (map f (map held items)) ≡ refusal) → first (map f (map held (x ∷ items))) ≡ refusal
      by None here later =
          let own : x ≡ held x = same x (All-head IsTold x items told) (subst IsKnown (sym here) tt) in
          passed_first f (held x) (map held items) (ap f (sym own) ∙ here) ∙ later (sym (passed_first f x items here) ∙ is)
      by (Some why) here later =
          let whole : refusal ≡ Some why = sym is ∙ here_first f x items why here in
          let own : x ≡ held x = same x (All-head IsTold x items told) (subst IsKnown (whole ∙ sym here) known) in
          here_first f (held x) (map held items) why (ap f (sym own) ∙ here) ∙ sym whole

  pub all_told : (items : List A) → All IsTold items → first (map f items) ≡ None → items ≡ map held items
  all_told [] told none = refl
  all_told (x ∷ items) told none = by (f x) refl (λ rest. all_told items (All-tail IsTold x items told) rest)
    where
      by : (o : Option Refusal) → f x ≡ o → (first (map f items) ≡ None → items ≡ map held items) → x ∷ items ≡ map held (x ∷ items)
      by None here later =
          let own : x ≡ held x = same x (All-head IsTold x items told) (subst IsKnown (sym here) tt) in
          ap (λ y. y ∷ items) own ∙ ap (λ rest. held x ∷ rest) (later (sym (passed_first f x items here) ∙ none))
      by (Some why) here later = none_some why (sym none ∙ here_first f x items why here)
