-- Which threads a map of an image's threads has
use Rattle.std.proofs.Common.{◌≡◌, ◌≢◌, ℕ, ◌==◌, ◌||◌, true, false, cond, List, [], ◌∷◌, map as each, refl, sym, ap, ◌∙◌, ⊎_elim, arith}
use Rattle.std.specs.Prelude.{Some, is_some}
use Rattle.std.specs.Ordering.{nat_cmp, eq_by_cmp}
use Rattle.std.specs.Cmp.{nat_cmp_total}
use Rattle.std.specs.FinMap as map
use Rattle.std.specs.FinMap.{nat_cmp-IsAntisymmetric}
use Rattle.std.proofs.lemmas.Bool.Decides.{nat_tests}
use Rattle.views.proofs.MapLaws.{same_or_other, key_tied, other_key}
use Rattle.plain_process.specs.declared.user_part.ThreadPart.{ThreadPart}
use Rattle.image_process.specs.declared.thread_image.ThreadImage.{ThreadImage}
use Rattle.image_process.specs.ProcessTests.{is_listed}
use Rattle.image_process.specs.UserParts.{thread_entry}

differ : (m n : ℕ) → n ≢ m → (m == n) ≡ false
differ m n other = elim (m == n) as (λ b. (m == n) ≡ b → b ≡ false) [ true ↦ λ is. absurd (other (grind (arith, nat_tests))) | false ↦ λ is. refl ] refl

equal : (m n : ℕ) → m ≡ n → (m == n) ≡ true
equal m n is = grind (arith, nat_tests, is)

pub keys_there : {X : Type 0} (es : List (ℕ × X)) (t : ℕ) → is_some (map.find nat_cmp t es) ≡ is_listed (each (λ e. e.0) es) t
keys_there [] t = refl
keys_there (e ∷ es) t = ⊎_elim
    (λ (here : t ≡ e.0).
    ap (λ b. is_some (cond b (Some e.1) (map.find nat_cmp t es))) (ap (λ k. eq_by_cmp nat_cmp k e.0) here ∙ key_tied nat_cmp_total nat_cmp-IsAntisymmetric e.0)
    ∙ sym (ap (λ b. b || is_listed (each (λ (f : ℕ × _). f.0) es) t) (equal e.0 t (sym here))))
    (λ (other : t ≢ e.0).
    ap (λ b. is_some (cond b (Some e.1) (map.find nat_cmp t es))) (other_key nat_cmp_total nat_cmp-IsAntisymmetric t e.0 other) ∙ keys_there es t
    ∙ sym (ap (λ b. b || is_listed (each (λ (f : ℕ × _). f.0) es) t) (differ e.0 t other)))
    (same_or_other nat_cmp_total nat_cmp-IsAntisymmetric t e.0)

pub made_there : {X : Type 0} (es : List (ℕ × X)) (t : ℕ) → is_some (map.get (map.from_entries {R = nat_cmp} es) t) ≡ is_listed (each (λ e. e.0) es) t
made_there es t = ap is_some (map.get-from_entries nat_cmp_total es t) ∙ keys_there es t

pub part_keys : (images : List ThreadImage) → each (λ (e : ℕ × ThreadPart). e.0) (each thread_entry images) ≡ each (λ (image : ThreadImage). image.tid) images
part_keys [] = refl
part_keys (image ∷ images) = ap (λ (tids : List ℕ). image.tid ∷ tids) (part_keys images)

pub parts_there : (images : List ThreadImage) (t : ℕ) → is_some (map.get (map.from_entries {R = nat_cmp} (each thread_entry images)) t) ≡ is_listed (each (λ (image : ThreadImage). image.tid) images) t
parts_there images t = made_there (each thread_entry images) t ∙ ap (λ (tids : List ℕ). is_listed tids t) (part_keys images)
