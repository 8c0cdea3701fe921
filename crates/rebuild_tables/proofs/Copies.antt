-- A map made by a walk over another's entries in order, of which each gives an entry under its key, or none.
--     below_next, earlier, not_yet       what was walked over comes before what is next, and isn't that
--     find_behind               what isn't found in a list's front is looked up in the rest
--     IsCopied f m rest t       of the entries of m all but the rest were walked over
--     none_copied               none was yet
--     is_new                    the next one's key has no entry yet
--     copied_some, copied_none  one more was
--     all_copied                all were
use Rattle.std.proofs.Common.{◌≡◌, Ordering, Less, true, false, cond, T, List, [], ◌∷◌, ◌++◌, append_assoc, append-nil, refl, sym, ap, subst, ◌∙◌}
use Rattle.std.specs.Prelude.{Option, Some, None, option_and_then}
use Rattle.std.specs.Ordering.{eq_by_cmp, is_lt}
use Rattle.std.specs.Cmp.{IsTotalOrder, tied_itself}
use Rattle.std.specs.FinMap as map
use Rattle.std.specs.FinMap.{FinMap, IsAntisymmetric, is_sorted}
use Rattle.std.specs.FinMap.Entries.{below_all}
use Rattle.std.proofs.lemmas.Option.{none-some}
use Rattle.views.proofs.MapLaws.{true_false, same_key}
use Rattle.views.proofs.Passes.{first, second, less}

pub record IsCopied {K X Y : Type 0} {R : K → K → Ordering} (f : K → X → Option Y) (m : FinMap R X)
    (rest : List (K × X)) (t : FinMap R Y) : Type 0 where
  pub done : List (K × X)
  pub split : done ++ rest ≡ map.entries m
  pub each : (q : K) → map.get t q ≡ option_and_then (f q) (map.find R q done)

pub find_behind : {K X : Type 0} (R : K → K → Ordering) (q : K) (front rest : List (K × X))
    → map.find R q front ≡ None → map.find R q (front ++ rest) ≡ map.find R q rest
find_behind R q [] rest none = refl
find_behind R q (e ∷ front) rest none =
    elim (eq_by_cmp R q e.0) as (λ b. cond b (Some e.1) (map.find R q front) ≡ None
    → cond b (Some e.1) (map.find R q (front ++ rest)) ≡ map.find R q rest) [
      | true ↦ λ is. absurd (none-some e.1 (sym is))
      | false ↦ λ is. find_behind R q front rest is
    ] none

module _ {K X : Type 0} {R : K → K → Ordering} (o : IsTotalOrder R) (exact : IsAntisymmetric R) where
  pub below_next : (x : K) (done rest : List (K × X)) (e : K × X) → T (below_all R x (done ++ e ∷ rest))
      → R x e.0 ≡ Less
  below_next x [] rest e below = less _ (first _ _ below)
  below_next x (d ∷ done) rest e below = below_next x done rest e (second _ _ below)

  pub earlier : (done rest : List (K × X)) (e : K × X) (q : K) (v : X) → T (is_sorted R (done ++ e ∷ rest))
      → map.find R q done ≡ Some v → R q e.0 ≡ Less
  earlier [] rest e q v sorted found = absurd (none-some v found)
  earlier (d ∷ done) rest e q v sorted found =
      elim (eq_by_cmp R q d.0) as (λ b. eq_by_cmp R q d.0 ≡ b → cond b (Some d.1) (map.find R q done) ≡ Some v
      → R q e.0 ≡ Less) [
        | true ↦ λ tied is.
            ap (λ k. R k e.0) (same_key o exact q d.0 tied) ∙ below_next d.0 done rest e (first _ _ sorted)
        | false ↦ λ apart is. earlier done rest e q v (second _ _ sorted) is
      ] refl found

  pub not_yet : (done rest : List (K × X)) (e : K × X) → T (is_sorted R (done ++ e ∷ rest))
      → map.find R e.0 done ≡ None
  not_yet done rest e sorted =
      elim (map.find R e.0 done) as (λ found. map.find R e.0 done ≡ found → found ≡ None) [
        | None ↦ λ is. refl
        | Some v ↦ λ is.
            true_false (sym (ap is_lt (sym (tied_itself o e.0) ∙ earlier done rest e e.0 v sorted is)))
      ] refl

  module _ {Y : Type 0} (f : K → X → Option Y) (m : FinMap R X) where
    pub none_copied : (all : List (K × X)) (t : FinMap R Y) → all ≡ map.entries m → t ≡ map.empty
        → IsCopied f m all t
    none_copied all t is none = record {
      done = [];
      split = is;
      each = λ q. ap (λ n. map.get n q) none ∙ map.get-empty R q;
    }

    module _ (e : K × X) (rest : List (K × X)) (t : FinMap R Y) (c : IsCopied f m (e ∷ rest) t) where
      in_order : T (is_sorted R (c.done ++ e ∷ rest))
      in_order = subst (λ es. T (is_sorted R es)) (sym c.split) (map.entries_sorted m)

      pub new_key : map.find R e.0 c.done ≡ None
      new_key = not_yet c.done rest e in_order

      pub is_new : map.get t e.0 ≡ None
      is_new = c.each e.0 ∙ ap (option_and_then (f e.0)) new_key

      one_more : (q : K) → map.find R q (c.done ++ e ∷ [])
          ≡ cond (eq_by_cmp R q e.0) (Some e.1) (map.find R q c.done)
      one_more q = map.Entries.find-append R o c.done e.0 e.1 q new_key

      pub copied_some : (y : Y) (n : FinMap R Y) → f e.0 e.1 ≡ Some y → n ≡ map.insert t e.0 y
          → IsCopied f m rest n
      copied_some y n gives put = record {
        done = c.done ++ e ∷ [];
        split = append_assoc c.done (e ∷ []) rest ∙ c.split;
        each = λ q.
            ap (λ l. map.get l q) put ∙ map.get-insert o t e.0 y q
            ∙ elim (eq_by_cmp R q e.0) as (λ b. eq_by_cmp R q e.0 ≡ b → cond b (Some y) (map.get t q)
            ≡ option_and_then (f q) (cond b (Some e.1) (map.find R q c.done))) [
              | true ↦ λ tied. sym gives ∙ ap (λ k. f k e.1) (sym (same_key o exact q e.0 tied))
              | false ↦ λ apart. c.each q
            ] refl
            ∙ ap (option_and_then (f q)) (sym (one_more q));
      }

      pub copied_none : f e.0 e.1 ≡ None → IsCopied f m rest t
      copied_none gives = record {
        done = c.done ++ e ∷ [];
        split = append_assoc c.done (e ∷ []) rest ∙ c.split;
        each = λ q.
            elim (eq_by_cmp R q e.0) as (λ b. eq_by_cmp R q e.0 ≡ b → map.get t q
            ≡ option_and_then (f q) (cond b (Some e.1) (map.find R q c.done))) [
              | true ↦ λ tied. ap (map.get t) (same_key o exact q e.0 tied) ∙ is_new ∙ sym gives
                  ∙ ap (λ k. f k e.1) (sym (same_key o exact q e.0 tied))
              | false ↦ λ apart. c.each q
            ] refl
            ∙ ap (option_and_then (f q)) (sym (one_more q));
      }

    pub all_copied : (t : FinMap R Y) → IsCopied f m [] t
        → (q : K) → map.get t q ≡ option_and_then (f q) (map.get m q)
    all_copied t c q =
        c.each q ∙ ap (λ es. option_and_then (f q) (map.find R q es)) (sym (append-nil c.done) ∙ c.split)
        ∙ ap (option_and_then (f q)) (sym (map.get-entries m q))
