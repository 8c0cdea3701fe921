-- The name of a file, by a walk over all names.
--     IsSought names number rest     of the names all but the rest were passed, and none is the file's
--     sought, passed                 none was passed yet, and one more was
--     found, not_found               the next one is of the file, or none is left
use Rattle.std.proofs.Common.{◌≡◌, ◌≢◌, ℕ, true, false, cond, T, List, [], ◌∷◌, ◌++◌, append_assoc, append-nil, inl, inr, refl, sym, ap, subst, ◌∙◌}
use Rattle.std.specs.Prelude.{Some, None}
use Rattle.std.specs.Ordering.{eq_by_cmp}
use Rattle.std.specs.FinMap as map
use Rattle.std.specs.FinMap.{is_sorted, nat_cmp-IsAntisymmetric, slice_cmp-IsAntisymmetric}
use Rattle.std.specs.Cmp.Lexicographic.{nat_list_cmp_total}
use Rattle.std.proofs.lemmas.Option.{same_Some, none-some}
use Rattle.views.proofs.MapLaws.{key_tied}
use Rattle.sys_abi.specs.Names.{name_cmp}
use Rattle.vfs_files.specs.Names.{Names, IsNameOf, IsNamedOnce}
use Rattle.rebuild_tables.proofs.Copies.{not_yet, find_behind}

pub name_exact : map.IsAntisymmetric name_cmp
name_exact = slice_cmp-IsAntisymmetric nat_cmp-IsAntisymmetric

pub record IsSought (names : Names) (number : ℕ) (rest : List (List ℕ × ℕ)) : Type 0 where
  pub done : List (List ℕ × ℕ)
  pub split : done ++ rest ≡ map.entries names
  pub other : (q : List ℕ) → map.find name_cmp q done ≢ Some number

pub sought : (names : Names) (number : ℕ) (all : List (List ℕ × ℕ)) → all ≡ map.entries names
    → IsSought names number all
sought names number all is = record { done = []; split = is; other = λ q found. none-some number found }

module _ (names : Names) (number : ℕ) (e : List ℕ × ℕ) (rest : List (List ℕ × ℕ))
    (s : IsSought names number (e ∷ rest)) where
  new_name : map.find name_cmp e.0 s.done ≡ None
  new_name =
      not_yet nat_list_cmp_total name_exact s.done rest e
      (subst (λ es. T (is_sorted name_cmp es)) (sym s.split) (map.entries_sorted names))

  pub there : map.get names e.0 ≡ Some e.1
  there =
      map.get-entries names e.0 ∙ ap (map.find name_cmp e.0) (sym s.split)
      ∙ find_behind name_cmp e.0 s.done (e ∷ rest) new_name
      ∙ ap (λ b. cond b (Some e.1) (map.find name_cmp e.0 rest)) (key_tied nat_list_cmp_total name_exact e.0)

  pub found : IsNamedOnce names → e.1 ≡ number → IsNameOf names number e.0
  found once is = record {
    only = λ other of. once other e.0 number of (there ∙ ap Some is);
    own = inl (there ∙ ap Some is);
  }

  pub passed : e.1 ≢ number → IsSought names number rest
  passed differ = record {
    done = s.done ++ e ∷ [];
    split = append_assoc s.done (e ∷ []) rest ∙ s.split;
    other = λ q found.
        elim (eq_by_cmp name_cmp q e.0)
        as (λ b. cond b (Some e.1) (map.find name_cmp q s.done) ≡ Some number → ⊥) [
          | true ↦ λ is. differ (same_Some e.1 number is)
          | false ↦ λ is. s.other q is
        ] (sym (map.Entries.find-append name_cmp nat_list_cmp_total s.done e.0 e.1 q new_name) ∙ found);
  }

pub not_found : (names : Names) (number : ℕ) → IsSought names number [] → IsNameOf names number []
not_found names number s = record {
  only = λ other of.
      absurd (s.other other (ap (map.find name_cmp other) (sym (append-nil s.done) ∙ s.split)
      ∙ sym (map.get-entries names other) ∙ of));
  own = inr refl;
}
