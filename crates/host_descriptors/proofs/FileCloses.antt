-- A file that nothing names goes on both sides.
--     told_named            whether the name that a look-up told is one
--     file_stays, file_goes
--     no_file               no name leads to a file that is not there
use Rattle.std.proofs.Common.{◌≡◌, ◌≢◌, ℕ, suc, Bool, true, false, cond, ◌||◌, List, [], ◌∷◌, length, Option, Some, None, inl, inr, refl, sym, ap, ◌∙◌, subst, arith}
use Rattle.std.specs.Prelude.{is_some, ◌==◌, not}
use Rattle.std.specs.List.{list_any}
use Rattle.std.specs.FinMap as map
use Rattle.std.specs.FinMap.{FinMap}
use Rattle.std.proofs.lemmas.Option.{none-some}
use Rattle.std.proofs.lemmas.Bool.{eqb-true, eq-eqb}
use Rattle.views.specs.Maps.{option_filter}
use Rattle.views.proofs.MapLaws.{true_false}
use Rattle.views.proofs.MapValues.{get-retained, none_among-values, some_among-values}
use Rattle.sys_abi.specs.Names.{name_cmp}
use Rattle.sys_abi.proofs.OrderLaws.{name_total, name_exact}
use Rattle.fd_tables.specs.Parts.{is_of_file}
use Rattle.host_tables.specs.OfVfsFiles.FileTable.{FileTable, after_forget}
use Rattle.host_tables.specs.OfVfsFiles.Keeping.{IsWhole}
use Rattle.host_tables.specs.OfVfsFiles.Names.{IsNameOf, without_file}
use Rattle.host_tables.specs.OfPlainTables.Closing.{without_unkept}
use Rattle.host_tables.specs.OfPlainTables.Objects.{has_name}
use Rattle.host_tables.specs.OfPlainMachine.declared.kernel.PlainKernel.{PlainKernel}
use Rattle.host_tables.specs.declared.kernel.Kernel.{Kernel}
use Rattle.host_tables.specs.Stands.{Given, Stands}
use Rattle.host_tables.proofs.DescriptionChanges.{same_open}
use Rattle.host_tables.proofs.Frames.{files_kept}

not_same : (n m : ℕ) → (n ≡ m → ⊥) → (n == m) ≡ false
not_same n m differ = by_bool (n == m) refl
  where
    by_bool : (b : Bool) → (n == m) ≡ b → (n == m) ≡ false
    by_bool true e = absurd (differ (eqb-true n m e))
    by_bool false e = e

module _ (names : FinMap name_cmp ℕ) (number : ℕ) where
  -- by the name that a look-up told
  unnamed : map.get names [] ≡ None → IsNameOf names number [] → has_name names number ≡ false
  unnamed no_empty of_file =
      none_among-values name_total name_exact (λ n. n == number) names
      (λ q n is. not_same n number (λ same. none-some n
      (sym no_empty ∙ sym (ap (map.get names) (of_file.only q (is ∙ ap Some same))) ∙ is)))

  named : (name : List ℕ) → name ≢ [] → IsNameOf names number name → has_name names number ≡ true
  named name some of_file = elim of_file.own [
    | inl is ↦ some_among-values name_total name_exact (λ n. n == number) names name number is
        (eq-eqb number number refl)
    | inr none ↦ absurd (some none)
  ]

  long : (n : ℕ) → suc n ≡ 0 → ⊥
  long n e = omega (arith, e)

  cons_nil : (byte : ℕ) (name : List ℕ) → byte ∷ name ≡ [] → ⊥
  cons_nil byte name e = cc

  pub told_named : map.get names [] ≡ None → (name : List ℕ) (b : Bool) → IsNameOf names number name
      → b ≡ (length name == 0) → not b ≡ has_name names number
  told_named no_empty [] b of_file is = ap not is ∙ sym (unnamed no_empty of_file)
  told_named no_empty (byte ∷ name) b of_file is =
      ap not (is ∙ not_same (length (byte ∷ name)) 0 (long (length name)))
      ∙ sym (named (byte ∷ name) (λ e. cons_nil byte name e) of_file)

  -- a file that is not there has no name
  pub not_there : ((name : List ℕ) (file : ℕ) → map.get names name ≡ Some file → file ≢ number)
      → false ≡ has_name names number
  not_there apart =
      sym (none_among-values name_total name_exact (λ n. n == number) names
      (λ q n is. not_same n number (λ same. apart q n is same)))

  passes : has_name names number ≡ false → (q : List ℕ) (o : Option ℕ) → map.get names q ≡ o
      → option_filter (λ n. not (n == number)) o ≡ o
  passes none q None is = refl
  passes none q (Some n) is = by_bool (n == number) refl
    where
      by_bool : (b : Bool) → (n == number) ≡ b → cond (not (n == number)) (Some n) None ≡ Some n
      by_bool true e =
          true_false (sym (some_among-values name_total name_exact (λ m. m == number) names q n is e) ∙ none)
      by_bool false e = ap (λ b. cond (not b) (Some n) None) e

  names_same : has_name names number ≡ false → without_file names number ≡ names
  names_same none =
      map.same_map name_total name_exact _ _
      (λ q. get-retained name_total name_exact (λ name n. not (n == number)) names q
      ∙ passes none q (map.get names q) refl)

module _ (g : Given) (old : Kernel) (k : PlainKernel) (st : Stands g None old k) (number : ℕ) where
  abbrev with_files : Bool → PlainKernel
  with_files b = record k { files = cond b k.files (map.remove k.files number) }

  files_are : (a b : Bool) → has_name old.files.names number ≡ a
      → list_any (is_of_file number) (map.values old.book.descriptions) ≡ b
      → record k { files = without_unkept k.names k.descriptions k.files number } ≡ with_files (a || b)
  unfolding without_unkept
  files_are a b e f =
      λ i. with_files ((ap (λ m. has_name m number) st.files.names_are ∙ e) i
      || (same_open g.virts g.names g.addresses old.datagrams None k.descriptions old.book.descriptions
      st.descriptions number ∙ f) i)

  pub file_stays : (a b : Bool) → has_name old.files.names number ≡ a
      → list_any (is_of_file number) (map.values old.book.descriptions) ≡ b → (a || b) ≡ true
      → Stands g None old (record k { files = without_unkept k.names k.descriptions k.files number })
  file_stays a b e f h = subst (Stands g None old) (sym (files_are a b e f ∙ ap with_files h)) st

  pub file_goes : has_name old.files.names number ≡ false
      → list_any (is_of_file number) (map.values old.book.descriptions) ≡ false
      → Stands g None (record old { files = after_forget old.files number })
      (record k { files = without_unkept k.names k.descriptions k.files number })
  file_goes e f =
      subst (Stands g None (record old { files = after_forget old.files number })) (sym (files_are false false e f))
      (files_kept g None old k st (after_forget old.files number) k.names (map.remove k.files number) k.next_file
      (record {
        names_are = st.files.names_are ∙ sym (names_same old.files.names number e);
        files_are = ap (λ m. map.remove m number) st.files.files_are;
        next_is = st.files.next_is;
      }))

pub or_true : (a b : Bool) → b ≡ true → (a || b) ≡ true
or_true true b e = refl
or_true false b e = e

pub true_or : (a b : Bool) → a ≡ true → (a || b) ≡ true
true_or true b e = refl
true_or false b e = true_false (sym e)

-- no name leads to a file that is not there
pub no_file : (t : FileTable) → IsWhole t → (number : ℕ) → false ≡ is_some (map.get t.files number)
    → (name : List ℕ) (file : ℕ) → map.get t.names name ≡ Some file → file ≢ number
no_file t whole number none name file is same =
    true_false (sym (none ∙ ap (λ n. is_some (map.get t.files n)) (sym same) ∙ whole.named name file is))
