-- The files after a description of one is gone: one without a name that is not open goes with it.
--     closed_files, closed_open_files
use Rattle.std.proofs.Common.{◌≡◌, ◌≢◌, ℕ, Bool, true, false, cond, refl, sym, ap, subst, ◌∙◌, arith, ⊎_elim}
use Rattle.std.specs.Prelude.{◌==◌, ◌||◌, List, Some, is_some}
use Rattle.std.specs.Cmp.{nat_cmp_total}
use Rattle.std.specs.FinMap as map
use Rattle.std.proofs.lemmas.Bool.Decides.{nat_tests}
use Rattle.plain_process.proofs.OfViews.MapLaws.{get_remove_other, same_or_other, true_false}
use Rattle.plain_process.proofs.OfViews.MapValues.{some_among-values}
use Rattle.id_maps.specs.OfSysAbi.declared.identity.DescId.{DescId}
use Rattle.id_maps.proofs.OfSysAbi.OrderLaws.{desc_total, desc_exact, name_total, name_exact}
use Rattle.plain_tables.specs.declared.description.Description.{Description}
use Rattle.plain_tables.specs.declared.description.Object.{Object}
use Rattle.plain_tables.specs.declared.description.Object.TheVariants.{File}
use Rattle.plain_tables.specs.Tables.{Names, Files, Descriptions}
use Rattle.plain_tables.specs.Objects.{is_file, has_name, has_open, is_kept}
use Rattle.plain_tables.specs.Closing.{without_unkept}
use Rattle.plain_tables.specs.Valid.Files.{AreFiles, AreOpenFiles, IsOpenFile}
use Rattle.plain_tables.proofs.Entries.{still_there, not_removed, len_without}
use Rattle.plain_tables.proofs.FileSums.{sum_without}
use Rattle.plain_tables.proofs.FewerDescriptions.{any_without}

same_number : (n : ℕ) → (n == n) ≡ true
same_number n = grind (arith, nat_tests)

other_number : (m n : ℕ) → m ≢ n → (m == n) ≡ false
other_number m n other = grind (arith, nat_tests, other)

or_right : (a b : Bool) → b ≡ true → (a || b) ≡ true
or_right true b is = refl
or_right false b is = is

named_file : (names : Names) (name : List ℕ) (number : ℕ) → map.get names name ≡ Some number → has_name names number ≡ true
named_file names name number found = some_among-values name_total name_exact (λ n. n == number) names name number found (same_number number)

open_file : (descriptions : Descriptions) (d : DescId) (x : Description) (number : ℕ) → map.get descriptions d ≡ Some x → is_file number x.object ≡ true → has_open descriptions number ≡ true
open_file descriptions d x number found opens = some_among-values desc_total desc_exact (λ (y : Description). is_file number y.object) descriptions d x found opens

module _ (names : Names) (after : Descriptions) (files : Files) (number : ℕ) where
  files_are : (b : Bool) → is_kept names after number ≡ b → without_unkept names after files number ≡ cond b files (map.remove files number)
  unfolding without_unkept
  files_are b is = ap (λ x. cond x files (map.remove files number)) is

  -- a file that is kept is not the one
  other_file : is_kept names after number ≡ false → (n : ℕ) → is_kept names after n ≡ true → n ≢ number
  other_file unkept n kept same = true_false (sym kept ∙ ap (is_kept names after) same ∙ unkept)

  there_still : is_kept names after number ≡ false → (n : ℕ) → is_kept names after n ≡ true → is_some (map.get files n) ≡ true → is_some (map.get (map.remove files number) n) ≡ true
  there_still unkept n kept there = ap is_some (get_remove_other nat_cmp_total map.nat_cmp-IsAntisymmetric files number n (other_file unkept n kept)) ∙ there

  pub closed_files : (next_file : ℕ) → AreFiles next_file names files → AreFiles next_file names (without_unkept names after files number)
  closed_files next_file is = chosen (is_kept names after number) refl
    where
      without : is_kept names after number ≡ false → AreFiles next_file names (map.remove files number)
      without unkept = record {
        count = let less = len_without nat_cmp_total files number in let few = is.count in omega arith;
        total = let less = sum_without files number in let few = is.total in omega arith;
        numbers = λ n bytes found. is.numbers n bytes (still_there nat_cmp_total map.nat_cmp-IsAntisymmetric files number n bytes found);
        bytes = λ n bytes found. is.bytes n bytes (still_there nat_cmp_total map.nat_cmp-IsAntisymmetric files number n bytes found);
        named = λ name n found.
            let was = is.named name n found in
            (was.0, there_still unkept n (ap (λ b. b || has_open after n) (named_file names name n found)) was.1);
        one_name = is.one_name;
      }

      chosen : (b : Bool) → is_kept names after number ≡ b → AreFiles next_file names (without_unkept names after files number)
      chosen true kept = subst (AreFiles next_file names) (sym (files_are true kept)) is
      chosen false unkept = subst (AreFiles next_file names) (sym (files_are false unkept)) (without unkept)

module _ (names : Names) (descriptions : Descriptions) (files : Files) (d : DescId) (x : Description) (number offset : ℕ) (known : map.get descriptions d ≡ Some x) (opens : x.object ≡ File number offset)
    (is : AreOpenFiles names files descriptions) where
  rest : Descriptions
  rest = map.remove descriptions d

  kept_other : (n : ℕ) → n ≢ number → is_kept names descriptions n ≡ true → is_kept names (map.remove descriptions d) n ≡ true
  kept_other n other kept =
      ap (λ b. has_name names n || b) (any_without descriptions d x known (is_file n) (ap (is_file n) opens ∙ other_number number n (λ same. other (sym same)))) ∙ kept

  open_kept : (m : ℕ) (object : Object) → is_file m object ≡ true → (e : DescId) (y : Description) → y.object ≡ object → map.get (map.remove descriptions d) e ≡ Some y → is_kept names (map.remove descriptions d) m ≡ true
  open_kept m object opens e y same found = or_right (has_name names m) (has_open (map.remove descriptions d) m) (open_file (map.remove descriptions d) e y m found (ap (is_file m) same ∙ opens))

  all_kept : (files_kept : is_kept names (map.remove descriptions d) number ≡ true) (n : ℕ) → is_kept names descriptions n ≡ true → is_kept names (map.remove descriptions d) n ≡ true
  all_kept kept n was = ⊎_elim (λ here. ap (is_kept names (map.remove descriptions d)) here ∙ kept) (λ other. kept_other n other was)
      (same_or_other nat_cmp_total map.nat_cmp-IsAntisymmetric n number)

  there_by : is_kept names (map.remove descriptions d) number ≡ false → (object : Object) (e : DescId) (y : Description) → y.object ≡ object → map.get (map.remove descriptions d) e ≡ Some y → IsOpenFile files object
      → IsOpenFile (map.remove files number) object
  there_by unkept (File m at) e y same found opened =
      (there_still names (map.remove descriptions d) files number unkept m (open_kept m (File m at) (same_number m) e y same found) opened.0, opened.1)
  there_by unkept _ e y same found opened = tt

  pub closed_open_files : AreOpenFiles names (without_unkept names (map.remove descriptions d) files number) (map.remove descriptions d)
  closed_open_files = chosen (is_kept names (map.remove descriptions d) number) refl
    where
      gone : (e : DescId) (y : Description) → map.get (map.remove descriptions d) e ≡ Some y → map.get descriptions e ≡ Some y
      gone e y found = still_there desc_total desc_exact descriptions d e y found

      chosen : (b : Bool) → is_kept names (map.remove descriptions d) number ≡ b → AreOpenFiles names (without_unkept names (map.remove descriptions d) files number) (map.remove descriptions d)
      chosen true kept = subst (λ f. AreOpenFiles names f (map.remove descriptions d)) (sym (files_are names (map.remove descriptions d) files number true kept)) (record {
        there = λ e y found. is.there e y (gone e y found);
        kept = λ n bytes found. all_kept kept n (is.kept n bytes found);
      })
      chosen false unkept = subst (λ f. AreOpenFiles names f (map.remove descriptions d)) (sym (files_are names (map.remove descriptions d) files number false unkept)) (record {
        there = λ e y found. there_by unkept y.object e y refl found (is.there e y (gone e y found));
        kept = λ n bytes found.
            kept_other n (not_removed nat_cmp_total map.nat_cmp-IsAntisymmetric files number n bytes found)
            (is.kept n bytes (still_there nat_cmp_total map.nat_cmp-IsAntisymmetric files number n bytes found));
      })
