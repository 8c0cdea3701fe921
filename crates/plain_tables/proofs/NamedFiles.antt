-- A file more under a new name.
--     named_files, named_open_files
use Rattle.std.proofs.Common.{◌≡◌, ℕ, ◌+◌, ◌<◌, ◌≤◌, Bool, true, false, length, refl, sym, ap, subst, ◌∙◌, arith}
use Rattle.std.specs.Prelude.{◌==◌, ◌||◌, List, sum_by, Option, Some, None, is_some, All}
use Rattle.std.specs.Cmp.{nat_cmp_total}
use Rattle.std.specs.FinMap as map
use Rattle.plain_process.proofs.OfViews.MapLaws.{get_insert_same, get_insert_other, true_false}
use Rattle.plain_process.proofs.OfViews.MapValues.{some_among-values}
use Rattle.id_maps.proofs.OfSysAbi.OrderLaws.{name_total, name_exact}
use Rattle.plain_process.specs.Valid.{IsByte}
use Rattle.plain_tables.specs.declared.description.Object.{Object}
use Rattle.plain_tables.specs.declared.description.Object.TheVariants.{File}
use Rattle.plain_tables.specs.Tables.{Names, Files, Descriptions}
use Rattle.plain_tables.specs.Objects.{has_name, has_open, is_kept}
use Rattle.plain_tables.specs.Valid.Files.{AreFiles, AreOpenFiles, IsOpenFile, IsName}
use Rattle.plain_tables.proofs.Entries.{each_with, there_with, len_with, any_kept}
use Rattle.plain_tables.proofs.FileSums.{sum_with}
use Rattle.plain_tables.proofs.ClosedStreams.{same_number, or_left}

module _ (next : ℕ) (names : Names) (files : Files) (name : List ℕ) (bytes : List ℕ) (free : map.get names name ≡ None) where
  pub named_files : IsName name → All IsByte bytes → map.len files < 1024 → sum_by length (map.values files) + length bytes ≤ 67108864 → 1 ≤ next → AreFiles next names files
      → AreFiles (next + 1) (map.insert names name next) (map.insert files next bytes)
  named_files named are few fits first is = record {
    count = let most = len_with nat_cmp_total files next bytes in omega arith;
    total = let most = sum_with files next bytes in omega arith;
    numbers = each_with nat_cmp_total map.nat_cmp-IsAntisymmetric (λ n b. (1 ≤ n) × (n < next + 1)) files next bytes (first, omega arith)
        (λ n b other found. let was = is.numbers n b found in (was.0, let low = was.1 in omega arith));
    bytes = each_with nat_cmp_total map.nat_cmp-IsAntisymmetric (λ n b. All IsByte b) files next bytes are (λ n b other found. is.bytes n b found);
    named = each_with name_total name_exact (λ a n. IsName a × (is_some (map.get (map.insert files next bytes) n) ≡ true)) names name next
        (named, ap is_some (get_insert_same nat_cmp_total map.nat_cmp-IsAntisymmetric files next bytes))
        (λ a n other found. let was = is.named a n found in (was.0, there_with nat_cmp_total map.nat_cmp-IsAntisymmetric files next bytes n was.1));
    one_name = λ a b n found too.
        each_with name_total name_exact (λ c m. m ≡ n → c ≡ b) names name next
        (λ here. each_with name_total name_exact (λ c m. m ≡ n → name ≡ c) names name next (λ also. refl)
        (λ c m other was also. let low = below c m was in absurd (omega arith)) b n too refl)
        (λ c m other was is_n. each_with name_total name_exact (λ d l. l ≡ n → c ≡ d) names name next
        (λ also. let low = below c m was in absurd (omega arith))
        (λ d l apart stood also. is.one_name c d n (was ∙ ap Some is_n) (stood ∙ ap Some also)) b n too refl)
        a n found refl;
  }
    where
      low_by : (n : ℕ) (found : Option (List ℕ)) → map.get files n ≡ found → is_some found ≡ true → n < next
      low_by n None none there = true_false (sym there)
      low_by n (Some b) found there = (is.numbers n b found).1

      below : (c : List ℕ) (m : ℕ) → map.get names c ≡ Some m → m < next
      below c m was = low_by m (map.get files m) refl (is.named c m was).1

  has_name_now : has_name (map.insert names name next) next ≡ true
  has_name_now = some_among-values name_total name_exact (λ n. n == next) (map.insert names name next) name next (get_insert_same name_total name_exact names name next) (same_number next)

  named_still : (n : ℕ) → has_name names n ≡ true → has_name (map.insert names name next) n ≡ true
  named_still n has = any_kept name_total name_exact (λ m. m == n) names (map.insert names name next)
      (λ a m found passes. (
        m,
        get_insert_other name_total name_exact names name next a (λ here.
            let there : map.get names name ≡ Some m = subst (λ b. map.get names b ≡ Some m) here found in cc) ∙ found,
        passes,
      )) has

  or_more : (a b c : Bool) → (a ≡ true → b ≡ true) → (a || c) ≡ true → (b || c) ≡ true
  or_more true b c more is = or_left b c (more refl)
  or_more false true c more is = refl
  or_more false false c more is = is

  opened : (object : Object) → IsOpenFile files object → IsOpenFile (map.insert files next bytes) object
  opened (File n offset) is = (there_with nat_cmp_total map.nat_cmp-IsAntisymmetric files next bytes n is.0, is.1)
  opened _ is = tt

  pub named_open_files : (descriptions : Descriptions) → AreOpenFiles names files descriptions → AreOpenFiles (map.insert names name next) (map.insert files next bytes) descriptions
  named_open_files descriptions is = record {
    there = λ d x found. opened x.object (is.there d x found);
    kept = each_with nat_cmp_total map.nat_cmp-IsAntisymmetric (λ n b. is_kept (map.insert names name next) descriptions n ≡ true) files next bytes
        (or_left (has_name (map.insert names name next) next) (has_open descriptions next) has_name_now)
        (λ n b other found. or_more (has_name names n) (has_name (map.insert names name next) n) (has_open descriptions n) (named_still n) (is.kept n b found));
  }
