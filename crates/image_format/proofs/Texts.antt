-- A format's spellings as texts: a value that meets the facts of its fields has one spelling, its text, and no other value has any.
-- The laws follow a format's shape, a field at a time.
use Rattle.std.proofs.Common.{◌≡◌, ℕ, zero, suc, IsTrue, Bool, List, [], ◌∷◌, ◌++◌, length, refl, sym, ap, subst, ◌∙◌, append_assoc, append-nil}
use Rattle.std.specs.List.{flat_map}
use Rattle.std.specs.Prelude.{All}
use Rattle.std.proofs.lemmas.List.Elements.{All-nil, All-cons, All-head, All-tail}
use Rattle.image_format.specs.Format.{Size, n32, FormatOf, unsigned, raw, give, next, each, counted, number_text, Spells}
use Rattle.image_format.specs.Texts.{FitsField, EachFrom}

pub record Law {A : Type 0} (f : FormatOf A) (text : A → List ℕ) (Fits : A → Type 0) : Type 0 where
  pub only : (t : List ℕ) (a : A) → Spells f t a → (t ≡ text a) × Fits a
  pub again : (a : A) → Fits a → Spells f (text a) a

pub unsigned_law : (size : Size) (ok : ℕ → Bool) → Law (unsigned size ok) (number_text size) (FitsField size ok)
unfolding Spells
unsigned_law size ok = record {
  only = λ t n s. (s.0, (s.1, s.2));
  again = λ n h. (refl, h.0, h.1);
}

pub raw_law : (size : ℕ) (ok : List ℕ → Bool) → Law (raw size ok) (λ bytes. bytes) (λ bytes. (length bytes ≡ size) × IsTrue (ok bytes))
unfolding Spells
raw_law size ok = record {
  only = λ t bytes s. (s.0, (s.1, s.2));
  again = λ bytes h. (refl, h.0, h.1);
}

pub give_law : {A : Type 0} (value : A) → Law (give value) (λ _. []) (λ a. a ≡ value)
unfolding Spells
give_law value = record {
  only = λ t a s. (s.0, s.1);
  again = λ a h. (refl, h);
}

-- a field whose value stands in the whole value, where get finds it
pub next_law : {A B : Type 0} (f : FormatOf B) (k : B → FormatOf A) (text : B → List ℕ) (Fits : B → Type 0) (rest_text : A → List ℕ) (RestFits : B → A → Type 0) (get : A → B)
    → Law f text Fits → ((b : B) (a : A) → Fits b → RestFits b a → b ≡ get a) → ((b : B) → Law (k b) rest_text (RestFits b))
    → Law (next f k) (λ a. text (get a) ++ rest_text a) (λ a. Fits (get a) × RestFits (get a) a)
unfolding Spells
next_law {A} {B} f k text Fits rest_text RestFits get law found laws = record {
  only = λ t a (b, first, rest, e, s, r).
      let (is_first, fits) = law.only first b s in
      let (is_rest, rest_fits) = (laws b).only rest a r in
      let same = found b a fits rest_fits in
      let first_is : first ≡ text (get a) = is_first ∙ ap text same in (
        e ∙ ap (λ (x : List ℕ). x ++ rest) first_is ∙ ap (λ (x : List ℕ). text (get a) ++ x) is_rest,
        (subst Fits same fits, subst (λ (x : B). RestFits x a) same rest_fits),
      );
  again = λ a h.
      (get a, text (get a), rest_text a, refl, law.again (get a) h.0, (laws (get a)).again a h.1);
}

-- the same format in other words for its text and its facts
pub in_words : {A : Type 0} (f : FormatOf A) (text : A → List ℕ) (Fits : A → Type 0) (words : A → List ℕ) (Facts : A → Type 0)
    → ((a : A) → Fits a → text a ≡ words a) → ((a : A) → Fits a → Facts a) → ((a : A) → Facts a → Fits a) → Law f text Fits → Law f words Facts
in_words f text Fits words Facts same to from law = record {
  only = λ t a s. let (is_text, fits) = law.only t a s in (is_text ∙ same a fits, to a fits);
  again = λ a h. subst (λ (t : List ℕ). Spells f t a) (same a (from a h)) (law.again a (from a h));
}

-- the items of a list, each after those before it

each_only : {X : Type 0} (item : List X → FormatOf X) (text : X → List ℕ) (Fits : List X → X → Type 0) → ((front : List X) → Law (item front) text (Fits front))
    → (n : ℕ) (front : List X) (t : List ℕ) (all : List X) → Spells (each item n front) t all
    → (items : List X) × (all ≡ front ++ items) × (length items ≡ n) × EachFrom Fits front items × (t ≡ flat_map text items)
unfolding Spells each EachFrom
each_only item text Fits law zero front t all s = ([], s.1 ∙ sym (append-nil front), refl, tt, s.0)
each_only item text Fits law (suc n) front t all (x, first, rest, e, s, r) =
    let (is_first, fits) = (law front).only first x s in
    let (items, is_all, size, rest_fit, is_rest) = each_only item text Fits law n (front ++ x ∷ []) rest all r in
    (x ∷ items, is_all ∙ append_assoc front (x ∷ []) items, ap suc size, (fits, rest_fit), e ∙ ap (λ (y : List ℕ). y ++ rest) is_first ∙ ap (λ (y : List ℕ). text x ++ y) is_rest)

each_again : {X : Type 0} (item : List X → FormatOf X) (text : X → List ℕ) (Fits : List X → X → Type 0) → ((front : List X) → Law (item front) text (Fits front))
    → (items front : List X) → EachFrom Fits front items → Spells (each item (length items) front) (flat_map text items) (front ++ items)
unfolding Spells each EachFrom
each_again item text Fits law [] front h = (refl, append-nil front)
each_again item text Fits law (x ∷ items) front h =
    let rest = each_again item text Fits law items (front ++ x ∷ []) h.1 in
    let same : (front ++ x ∷ []) ++ items ≡ front ++ x ∷ items = append_assoc front (x ∷ []) items in
    (x, text x, flat_map text items, refl, (law front).again x h.0, subst (λ (all : List _). Spells (each item (length items) (front ++ x ∷ [])) (flat_map text items) all) same rest)

pub each_law : {X : Type 0} (item : List X → FormatOf X) (text : X → List ℕ) (Fits : List X → X → Type 0) (n : ℕ) → ((front : List X) → Law (item front) text (Fits front))
    → Law (each item n []) (flat_map text) (λ items. (length items ≡ n) × EachFrom Fits [] items)
each_law {X} item text Fits n law = record {
  only = λ t all s.
      let (items, is_all, size, fit, is_text) = each_only item text Fits law n [] t all s in
      rw is_all (is_text, (size, fit));
  again = λ items h. subst (λ (m : ℕ). Spells (each item m []) (flat_map text items) items) h.0 (each_again item text Fits law items [] h.1);
}

pub counted_law : {X : Type 0} (ok : ℕ → Bool) (item : List X → FormatOf X) (text : X → List ℕ) (Fits : List X → X → Type 0) → ((front : List X) → Law (item front) text (Fits front))
    → Law (counted ok item) (λ items. number_text n32 (length items) ++ flat_map text items) (λ items. FitsField n32 ok (length items) × EachFrom Fits [] items)
unfolding counted
counted_law ok item text Fits law =
    in_words _ _ _ _ _ (λ items h. refl) (λ items h. (h.0, h.1.1)) (λ items h. (h.0, (refl, h.1)))
    (next_law (unsigned n32 ok) (λ n. each item n []) (number_text n32) (FitsField n32 ok) (flat_map text) (λ n items. (length items ≡ n) × EachFrom Fits [] items) length
    (unsigned_law n32 ok) (λ n items _ h. sym h.0) (λ n. each_law item text Fits n law))

-- a fact of each item that doesn't look at those before it

pub all_from_each : {X : Type 0} (P : X → Type 0) (front items : List X) → EachFrom (λ _ x. P x) front items → All P items
unfolding EachFrom
all_from_each P front [] h = All-nil P
all_from_each P front (x ∷ items) h = All-cons P x items h.0 (all_from_each P (front ++ x ∷ []) items h.1)

pub each_from_all : {X : Type 0} (P : X → Type 0) (front items : List X) → All P items → EachFrom (λ _ x. P x) front items
unfolding EachFrom
each_from_all P front [] h = tt
each_from_all P front (x ∷ items) h = (All-head P x items h, each_from_all P (front ++ x ∷ []) items (All-tail P x items h))

-- two facts of each item, of which one looks at those before it

pub both_from_each : {X : Type 0} (P : List X → X → Type 0) (Q : X → Type 0) (front items : List X) → EachFrom (λ before x. P before x × Q x) front items → EachFrom P front items × All Q items
unfolding EachFrom
both_from_each P Q front [] h = (tt, All-nil Q)
both_from_each P Q front (x ∷ items) h =
    let rest = both_from_each P Q (front ++ x ∷ []) items h.1 in
    ((h.0.0, rest.0), All-cons Q x items h.0.1 rest.1)

pub each_from_both : {X : Type 0} (P : List X → X → Type 0) (Q : X → Type 0) (front items : List X) → EachFrom P front items → All Q items → EachFrom (λ before x. P before x × Q x) front items
unfolding EachFrom
each_from_both P Q front [] p q = tt
each_from_both P Q front (x ∷ items) p q = ((p.0, All-head Q x items q), each_from_both P Q (front ++ x ∷ []) items p.1 (All-tail Q x items q))
