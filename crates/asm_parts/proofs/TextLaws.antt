-- What std's methods of texts give, in the words of `specs/Texts.antt`.
use Rattle.std.proofs.Common.{◌≡◌, ◌==◌, ℕ, ◌+◌, ◌<◌, Bool, true, false, List, [], ◌∷◌, ◌++◌, length, drop, take, ◌-◌, Option, Some, None, refl, sym, ap, ◌∙◌, arith, eqb-true, eq-eqb, lit<, suc}
use Rattle.std.specs.Prelude.{if◌then◌else◌, MatchOption, IfSome, option_map}
use Rattle.std.specs.List.{position_or_len, before_first, after_first, prefix_len}
use Rattle.std.specs.Str.Pattern.{FindsCharPrefix, FindsCharSuffix, HasCharAt, CutsPrefixes, IsTrimStartMatches}
use Rattle.std.proofs.lemmas.Bool.Decides.{nat_tests}
use Rattle.std.proofs.lemmas.Option.{same_Some, none-some}
use Rattle.std.proofs.lemmas.Str.Pattern.{IsSplitOnceResult, split_once_first, strip_prefix_char, strip_suffix_char, drop_at_char}
use denote.Ref.{Bor}
use Rattle.asm_parts.specs.Texts.{has_byte, cut, without_spaces, without_first, without_last}

abbrev Pair : Type 0
Pair = Bor (List ℕ) × Bor (List ℕ)

abbrev seen_pair : Pair → List ℕ × List ℕ
seen_pair p = (p.0.now, p.1.now)

-- ---- `split_once`

found_byte : (c : ℕ) (bs : List ℕ) → position_or_len (λ b. b == c) bs < length bs → has_byte c bs ≡ true
found_byte c bs h = grind (arith, nat_tests)

no_byte : (c : ℕ) (bs : List ℕ) → position_or_len (λ b. b == c) bs ≡ length bs → has_byte c bs ≡ false
no_byte c bs h = grind (arith, nat_tests)

cut_by : (c : ℕ) (bs : List ℕ) (r : Option Pair)
    → MatchOption r (position_or_len (λ b. b == c) bs ≡ length bs) (λ x. (position_or_len (λ b. b == c) bs < length bs) × (x.0.now ≡ before_first (λ b. b == c) bs) × (x.1.now ≡ after_first (λ b. b == c) bs))
    → option_map seen_pair r ≡ cut c bs
unfolding cut
cut_by c bs None h = rw (no_byte c bs h) refl
cut_by c bs (Some x) h = rw (found_byte c bs h.0) (λ i. Some (h.1 i, h.2 i))

pub cut_is : (c : ℕ) (bs : List ℕ) (r : Option Pair) → IsSplitOnceResult c bs r → c < 128 → option_map seen_pair r ≡ cut c bs
cut_is c bs r h small = cut_by c bs r (split_once_first c bs r h small)

-- ---- `trim_start_matches`

abbrev trimmed : List ℕ → List ℕ
trimmed s = drop (prefix_len (λ b. b == 32) s) s

one_add : (n : ℕ) → 1 + n ≡ suc n
one_add n = omega arith

trimmed_cons : (rest : List ℕ) → trimmed (32 ∷ rest) ≡ trimmed rest
trimmed_cons rest = ap (λ n. drop n (32 ∷ rest)) (one_add (prefix_len (λ b. b == 32) rest))

same_after : (s r : List ℕ) (ns : List ℕ) → CutsPrefixes (FindsCharPrefix 32) s ns r → trimmed s ≡ trimmed r
same_after s r [] h = ap trimmed (sym h)
same_after s r (n ∷ ns) (m, cuts, at, is) =
    same_after s m ns cuts ∙ ap trimmed (drop_at_char 32 m 0 n at (lit< tt)) ∙ trimmed_cons (drop n m) ∙ ap trimmed (sym is)

first_by : (b : ℕ) (rest : List ℕ) (t : Bool) → (b == 32) ≡ t → ((tail : List ℕ) → b ∷ rest ≡ 32 ∷ tail → ⊥)
    → (if t then 1 + prefix_len (λ x. x == 32) rest else 0) ≡ 0
first_by b rest true e h = absurd (h rest (ap (λ x. x ∷ rest) (eqb-true b 32 e)))
first_by b rest false e h = refl

none_left : (r : List ℕ) → ((tail : List ℕ) → r ≡ 32 ∷ tail → ⊥) → prefix_len (λ b. b == 32) r ≡ 0
none_left [] h = refl
none_left (b ∷ rest) h = first_by b rest (b == 32) refl h

zero_wide : (r : List ℕ) (n : ℕ) → HasCharAt 32 r 0 n → n ≡ 0 → ⊥
zero_wide r n at is = let wide : n ≡ 0 + 1 = at.ends in absurd (omega arith)

left_alone : (r : List ℕ) (o : Option ℕ) → FindsCharPrefix 32 r o → IfSome o (λ n. n ≡ 0) → trimmed r ≡ r
left_alone r None none h = ap (λ n. drop n r) (none_left r (strip_prefix_char 32 r None none (lit< tt)))
left_alone r (Some n) at h = absurd (zero_wide r n at h)

pub trimmed_is : (s r : List ℕ) → IsTrimStartMatches (FindsCharPrefix 32) s r → r ≡ without_spaces s
unfolding without_spaces
trimmed_is s r h = sym (same_after s r h.0.0 h.0.1 ∙ left_alone r h.1.0 h.1.1 h.1.2)

-- ---- `strip_prefix`

first_is-by : (c b : ℕ) (rest : List ℕ) (t : Bool) → (b == c) ≡ t → ((tail : List ℕ) → b ∷ rest ≡ c ∷ tail → ⊥)
    → None ≡ (if t then Some rest else None)
first_is-by c b rest true e h = absurd (h rest (ap (λ x. x ∷ rest) (eqb-true b c e)))
first_is-by c b rest false e h = refl

no_first : (c : ℕ) (bs : List ℕ) → ((tail : List ℕ) → bs ≡ c ∷ tail → ⊥) → None ≡ without_first c bs
unfolding without_first
no_first c [] h = refl
no_first c (b ∷ rest) h = first_is-by c b rest (b == c) refl h

is_first : (c : ℕ) (rest : List ℕ) → Some rest ≡ without_first c (c ∷ rest)
unfolding without_first
is_first c rest = rw (eq-eqb c c refl) refl

first_by_cases : (c : ℕ) (bs : List ℕ) (r : Option (Bor (List ℕ))) → MatchOption r ((tail : List ℕ) → bs ≡ c ∷ tail → ⊥) (λ x. bs ≡ c ∷ x.now)
    → option_map (λ x. x.now) r ≡ without_first c bs
first_by_cases c bs None h = no_first c bs h
first_by_cases c bs (Some x) h = is_first c x.now ∙ ap (without_first c) (sym h)

pub first_is : (c : ℕ) (bs : List ℕ) (r : Option (Bor (List ℕ)))
    → MatchOption r (FindsCharPrefix c bs None) (λ x. (n : ℕ) × FindsCharPrefix c bs (Some n) × (x.now ≡ drop n bs) × (length x.now + n ≡ length bs)) → c < 128
    → option_map (λ x. x.now) r ≡ without_first c bs
first_is c bs r h small = first_by_cases c bs r (strip_prefix_char c bs r h small)

-- ---- `strip_suffix`

last_of : (c : ℕ) (front : List ℕ) → without_last c (front ++ c ∷ []) ≡ Some front
unfolding without_last
last_of c [] = rw (eq-eqb c c refl) refl
last_of c (b ∷ []) = ap (option_map (λ front. b ∷ front)) (last_of c [])
last_of c (b ∷ d ∷ rest) = ap (option_map (λ front. b ∷ front)) (last_of c (d ∷ rest))

one_last-by : (c b : ℕ) (front : List ℕ) (t : Bool) → (b == c) ≡ t → (if t then Some [] else None) ≡ Some front → b ∷ [] ≡ front ++ c ∷ []
one_last-by c b front true e h = ap (λ x. x ∷ []) (eqb-true b c e) ∙ ap (λ f. f ++ c ∷ []) (same_Some _ _ h)
one_last-by c b front false e h = absurd (none-some _ h)

more_last-by : (c b : ℕ) (rest front : List ℕ) (o : Option (List ℕ)) → ((f : List ℕ) → o ≡ Some f → rest ≡ f ++ c ∷ [])
    → option_map (λ f. b ∷ f) o ≡ Some front → b ∷ rest ≡ front ++ c ∷ []
more_last-by c b rest front None later h = absurd (none-some _ h)
more_last-by c b rest front (Some f) later h = ap (λ r. b ∷ r) (later f refl) ∙ ap (λ g. g ++ c ∷ []) (same_Some _ _ h)

last_from : (c : ℕ) (bs front : List ℕ) → without_last c bs ≡ Some front → bs ≡ front ++ c ∷ []
unfolding without_last
last_from c [] front h = absurd (none-some _ h)
last_from c (b ∷ []) front h = one_last-by c b front (b == c) refl h
last_from c (b ∷ d ∷ rest) front h = more_last-by c b (d ∷ rest) front (without_last c (d ∷ rest)) (λ f is. last_from c (d ∷ rest) f is) h

no_last-by : (c : ℕ) (bs : List ℕ) (o : Option (List ℕ)) → without_last c bs ≡ o → ((front : List ℕ) → bs ≡ front ++ c ∷ [] → ⊥) → None ≡ o
no_last-by c bs None is h = refl
no_last-by c bs (Some front) is h = absurd (h front (last_from c bs front is))

last_by_cases : (c : ℕ) (bs : List ℕ) (r : Option (Bor (List ℕ))) → MatchOption r ((front : List ℕ) → bs ≡ front ++ c ∷ [] → ⊥) (λ x. bs ≡ x.now ++ c ∷ [])
    → option_map (λ x. x.now) r ≡ without_last c bs
last_by_cases c bs None h = no_last-by c bs (without_last c bs) refl h
last_by_cases c bs (Some x) h = sym (ap (without_last c) h ∙ last_of c x.now)

pub last_is : (c : ℕ) (bs : List ℕ) (r : Option (Bor (List ℕ)))
    → MatchOption r (FindsCharSuffix c bs None) (λ x. (n : ℕ) × FindsCharSuffix c bs (Some n) × (x.now ≡ take (length bs - n) bs) × (length x.now + n ≡ length bs)) → c < 128
    → option_map (λ x. x.now) r ≡ without_last c bs
last_is c bs r h small = last_by_cases c bs r (strip_suffix_char c bs r h small)
