-- The maps from names to files and from files to names stay inverse.
use Rattle.std.proofs.Common.{◌≡◌, ◌≢◌, ℕ, Ordering, true, false, not, cond, List, [], refl, sym, ap, subst, ◌∙◌, inl, inr, arith}
use Rattle.std.specs.Prelude.{◌==◌, Option, Some, None, Result, Ok, Err, OnOk, OnErr}
use Rattle.std.specs.Option.{option_map_or}
use Rattle.std.specs.Ordering.{nat_cmp}
use Rattle.std.specs.Cmp.{IsTotalOrder, nat_cmp_total}
use Rattle.std.specs.FinMap as map
use Rattle.std.specs.FinMap.{FinMap, IsAntisymmetric, nat_cmp-IsAntisymmetric}
use Rattle.std.proofs.lemmas.Option.{same_Some, none-some}
use Rattle.std.proofs.lemmas.Bool.Decides.{nat_tests}
use Rattle.views.specs.Maps.{option_filter}
use Rattle.views.proofs.MapLaws.{same_or_other, get_insert_same, get_insert_other, get_remove_same, get_remove_other, remove_absent}
use Rattle.views.proofs.MapValues.{get-retained}
use Rattle.sys_abi.specs.Names.{name_cmp}
use Rattle.sys_abi.proofs.OrderLaws.{name_total, name_exact}
use Rattle.vfs_files.specs.Names.{Names, IsNameOf, without_file, LeadsBack, AreInverse}

module _ {K V : Type 0} {R : K → K → Ordering} {S : V → V → Ordering} (o : IsTotalOrder R) (exact : IsAntisymmetric R) (p : IsTotalOrder S) (also : IsAntisymmetric S) where
  -- a new pair
  leads_back-insert : (m : FinMap R V) (n : FinMap S K) (k : K) (v : V) → LeadsBack m n → map.get n v ≡ None → LeadsBack (map.insert m k v) (map.insert n v k)
  leads_back-insert m n k v leads fresh j w is = elim (same_or_other o exact j k) [
    | inl same ↦
        let value : w ≡ v = same_Some w v (sym is ∙ ap (map.get (map.insert m k v)) same ∙ get_insert_same o exact m k v) in
        ap (map.get (map.insert n v k)) value ∙ get_insert_same p also n v k ∙ ap (λ x. Some x) (sym same)
    | inr differ ↦
        let back : map.get n w ≡ Some j = leads j w (sym (get_insert_other o exact m k v j differ) ∙ is) in
        get_insert_other p also n v k w (λ e. none-some j (sym fresh ∙ ap (map.get n) (sym e) ∙ back)) ∙ back
  ]

  -- a pair is gone
  leads_back-remove : (m : FinMap R V) (n : FinMap S K) (k : K) (v : V) → LeadsBack m n → map.get m k ≡ Some v → LeadsBack (map.remove m k) (map.remove n v)
  leads_back-remove m n k v leads there j w is = elim (same_or_other o exact j k) [
    | inl same ↦ absurd (none-some w (sym (get_remove_same o exact m k) ∙ ap (map.get (map.remove m k)) (sym same) ∙ is))
    | inr differ ↦
        let back : map.get n w ≡ Some j = leads j w (sym (get_remove_other o exact m k j differ) ∙ is) in
        get_remove_other p also n v w (λ e. differ (same_Some j k (sym back ∙ ap (map.get n) e ∙ leads k v there))) ∙ back
  ]

pub inverse-same : (files filed : Names) (names named : FinMap nat_cmp (List ℕ)) → filed ≡ files → named ≡ names → AreInverse files names → AreInverse filed named
inverse-same files filed names named same same_too inverse = subst (λ m. AreInverse m named) (sym same) (subst (AreInverse files) (sym same_too) inverse)

pub inverse-empty : AreInverse map.empty map.empty
inverse-empty = record {
  by_name = λ name file is. absurd (none-some file (sym (map.get-empty name_cmp name) ∙ is));
  by_file = λ file name is. absurd (none-some name (sym (map.get-empty nat_cmp file) ∙ is));
}

-- a file to which no name leads has no name
unnamed-None : (files : Names) (names : FinMap nat_cmp (List ℕ)) (file : ℕ) (found : Option (List ℕ)) → AreInverse files names → ((other : List ℕ) → map.get files other ≢ Some file) → map.get names file ≡ found → found ≡ None
unnamed-None files names file None inverse none is = refl
unnamed-None files names file (Some name) inverse none is = absurd (none name (inverse.by_file file name is))

pub inverse-insert : (files : Names) (names : FinMap nat_cmp (List ℕ)) (name : List ℕ) (file : ℕ) → AreInverse files names → map.get files name ≡ None → ((other : List ℕ) → map.get files other ≢ Some file)
    → AreInverse (map.insert files name file) (map.insert names file name)
inverse-insert files names name file inverse new none = record {
  by_name = leads_back-insert name_total name_exact nat_cmp_total nat_cmp-IsAntisymmetric files names name file inverse.by_name (unnamed-None files names file (map.get names file) inverse none refl);
  by_file = leads_back-insert nat_cmp_total nat_cmp-IsAntisymmetric name_total name_exact names files file name inverse.by_file new;
}

inverse-remove : (files : Names) (names : FinMap nat_cmp (List ℕ)) (name : List ℕ) (file : ℕ) → AreInverse files names → map.get files name ≡ Some file → AreInverse (map.remove files name) (map.remove names file)
inverse-remove files names name file inverse is = record {
  by_name = leads_back-remove name_total name_exact nat_cmp_total nat_cmp-IsAntisymmetric files names name file inverse.by_name is;
  by_file = leads_back-remove nat_cmp_total nat_cmp-IsAntisymmetric name_total name_exact names files file name inverse.by_file (inverse.by_name name file is);
}

-- what stands after a name was taken away, whether it was there or not
pub inverse-remove_name : (files : Names) (names : FinMap nat_cmp (List ℕ)) (name : List ℕ) (found : Option ℕ) → AreInverse files names → map.get files name ≡ found
    → AreInverse (map.remove files name) (option_map_or (map.remove names) found names)
inverse-remove_name files names name None inverse is = subst (λ m. AreInverse m names) (sym (remove_absent name_total name_exact files name is)) inverse
inverse-remove_name files names name (Some file) inverse is = inverse-remove files names name file inverse is

pub inverse-forget : (files : Names) (names : FinMap nat_cmp (List ℕ)) (file : ℕ) (found : Option (List ℕ)) → AreInverse files names → map.get names file ≡ found
    → AreInverse (option_map_or (map.remove files) found files) (map.remove names file)
inverse-forget files names file None inverse is = subst (λ m. AreInverse files m) (sym (remove_absent nat_cmp_total nat_cmp-IsAntisymmetric names file is)) inverse
inverse-forget files names file (Some name) inverse is = inverse-remove files names name file inverse (inverse.by_file file name is)

-- the name that is kept for a file
pub name_of-Some : (files : Names) (names : FinMap nat_cmp (List ℕ)) (file : ℕ) (name : List ℕ) → AreInverse files names → map.get names file ≡ Some name → IsNameOf files file name
name_of-Some files names file name inverse is = record {
  only = λ other at. same_Some other name (sym (inverse.by_name other file at) ∙ is);
  own = inl (inverse.by_file file name is);
}

pub name_of-None : (files : Names) (names : FinMap nat_cmp (List ℕ)) (file : ℕ) → AreInverse files names → map.get names file ≡ None → IsNameOf files file []
name_of-None files names file inverse is = record {
  only = λ other at. absurd (none-some other (sym is ∙ inverse.by_name other file at));
  own = inr refl;
}

-- after a call that names a file, or gives up and changes nothing
pub inverse-insert_both : {E : Type 0} (r : Result (Unit {0}) E) (files now filed : Names) (names named : FinMap nat_cmp (List ℕ)) (name : List ℕ) (file : ℕ) → AreInverse files names → files ≡ now → map.get now name ≡ None
    → ((other : List ℕ) → map.get now other ≢ Some file) → OnOk r (filed ≡ map.insert files name file) → OnOk r (named ≡ map.insert names file name) → OnErr r (filed ≡ files) → OnErr r (named ≡ names) → AreInverse filed named
inverse-insert_both (Ok done) files now filed names named name file inverse seen new none filed_is named_is same same_too =
    let both : AreInverse (map.insert files name file) (map.insert names file name) =
    inverse-insert files names name file inverse (ap (λ m. map.get m name) seen ∙ new) (λ other at. none other (ap (λ m. map.get m other) (sym seen) ∙ at)) in
    inverse-same _ filed _ named filed_is named_is both
inverse-insert_both (Err e) files now filed names named name file inverse seen new none filed_is named_is same same_too =
    inverse-same files filed names named same same_too inverse

other_number : (number file : ℕ) → number ≢ file → (number == file) ≡ false
other_number number file differ = elim (number == file) as (λ b. (number == file) ≡ b → b ≡ false) [
  | true ↦ λ e. absurd (differ (grind (arith, nat_tests)))
  | false ↦ λ e. refl
] refl

same_number : (file : ℕ) → (file == file) ≡ true
same_number file = elim (file == file) as (λ b. (file == file) ≡ b → b ≡ true) [
  | true ↦ λ e. refl
  | false ↦ λ e. absurd (grind (arith, nat_tests))
] refl

-- a name of another file is kept
kept : (file : ℕ) (found : Option ℕ) → ((number : ℕ) → found ≡ Some number → number ≢ file) → found ≡ option_filter (λ number. not (number == file)) found
kept file None other = refl
kept file (Some number) other = ap (λ b. cond (not b) (Some number) None) (sym (other_number number file (other number refl)))

taken : (file : ℕ) (found : Option ℕ) → found ≡ Some file → None ≡ option_filter (λ number. not (number == file)) found
taken file found is = ap (λ b. cond (not b) (Some file) None) (sym (same_number file)) ∙ ap (option_filter (λ number. not (number == file))) (sym is)

pub remove_name_of : (files : Names) (names : FinMap nat_cmp (List ℕ)) (file : ℕ) (found : Option (List ℕ)) → AreInverse files names → map.get names file ≡ found → option_map_or (map.remove files) found files ≡ without_file files file
remove_name_of files names file None inverse is = map.same_map name_total name_exact _ _ (λ q.
    kept file (map.get files q) (λ number at same. none-some q (sym is ∙ ap (map.get names) (sym same) ∙ inverse.by_name q number at))
    ∙ sym (get-retained name_total name_exact (λ name number. not (number == file)) files q))
remove_name_of files names file (Some name) inverse is = map.same_map name_total name_exact _ _ (λ q.
    elim (same_or_other name_total name_exact q name) as (λ _. map.get (map.remove files name) q ≡ option_filter (λ number. not (number == file)) (map.get files q)) [
      | inl same ↦ ap (map.get (map.remove files name)) same ∙ get_remove_same name_total name_exact files name ∙ taken file (map.get files q) (ap (map.get files) same ∙ inverse.by_file file name is)
      | inr differ ↦ get_remove_other name_total name_exact files name q differ
          ∙ kept file (map.get files q) (λ number at same. differ (same_Some q name (sym (inverse.by_name q number at) ∙ ap (map.get names) same ∙ is)))
    ] ∙ sym (get-retained name_total name_exact (λ name number. not (number == file)) files q))
