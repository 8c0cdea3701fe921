-- One byte after another of a quoted text.
use Rattle.std.proofs.Common.{◌≡◌, ℕ, ◌+◌, List, [], ◌∷◌, ◌++◌, length, Option, Some, None, refl, sym, ap, ◌∙◌, arith, append_assoc, append-nil, ◌==◌, Bool, true, eqb-true}
use Rattle.std.specs.Prelude.{option_map, unwrap_or}
use Rattle.std.proofs.lemmas.Option.{same_Some, none-some}
use Rattle.asm_parts.specs.Texts.{Text}
use Rattle.asm_parts.specs.Quotes.{spelled, put_first}

-- how many bytes there are, with these counted before
abbrev pub counted : ℕ → Option (List ℕ) → Option ℕ
counted n bytes = option_map (λ bs. length bs + n) bytes

one_counted-by : (b n : ℕ) (o : Option (List ℕ)) → counted n (put_first (Some b) o) ≡ counted (n + 1) o
one_counted-by b n None = refl
one_counted-by b n (Some bs) = ap (λ (k : ℕ). Some k) (omega arith)

pub one_counted : (b n : ℕ) (rest behind : Text) → spelled rest ≡ put_first (Some b) (spelled behind) → counted n (spelled rest) ≡ counted (n + 1) (spelled behind)
one_counted b n rest behind is = ap (counted n) is ∙ one_counted-by b n (spelled behind)

pub all_counted : (n : ℕ) (rest : Text) → length rest ≡ 0 → counted n (spelled rest) ≡ Some n
unfolding spelled
all_counted n [] h = ap (λ (k : ℕ). Some k) (omega arith)
all_counted n (b ∷ rest) h = absurd (omega arith)

pub none_counted : (n : ℕ) (rest : Text) → spelled rest ≡ None → counted n (spelled rest) ≡ None
none_counted n rest is = ap (counted n) is

-- the bytes behind others
abbrev pub put_behind : List ℕ → Option (List ℕ) → Option (List ℕ)
put_behind front bytes = option_map (λ bs. front ++ bs) bytes

one_put-by : (front : List ℕ) (b : ℕ) (o : Option (List ℕ)) → put_behind front (put_first (Some b) o) ≡ put_behind (front ++ b ∷ []) o
one_put-by front b None = refl
one_put-by front b (Some bs) = ap (λ (xs : List ℕ). Some xs) (sym (append_assoc front (b ∷ []) bs))

pub one_put : (front : List ℕ) (b : ℕ) (rest behind : Text) → spelled rest ≡ put_first (Some b) (spelled behind)
    → put_behind front (spelled rest) ≡ put_behind (front ++ b ∷ []) (spelled behind)
one_put front b rest behind is = ap (put_behind front) is ∙ one_put-by front b (spelled behind)

all_put-by : (front out : List ℕ) (o : Option (List ℕ)) → put_behind front o ≡ Some (out ++ []) → out ≡ front ++ unwrap_or o []
all_put-by front out None is = absurd (none-some _ is)
all_put-by front out (Some bs) is = sym (append-nil out) ∙ sym (same_Some _ _ is)

pub all_put : (front out : List ℕ) (o : Option (List ℕ)) (rest : Text) → put_behind front o ≡ put_behind out (spelled rest) → length rest ≡ 0 → out ≡ front ++ unwrap_or o []
unfolding spelled
all_put front out o [] is h = all_put-by front out o is
all_put front out o (b ∷ rest) is h = absurd (omega arith)

pub is_empty : (b : Bool) (n : ℕ) → b ≡ (n == 0) → b ≡ true → n ≡ 0
is_empty b n is h = eqb-true n 0 (sym is ∙ h)
