-- What is always true of the parts of a table of files stays true.
use Rattle.std.proofs.Common.{◌≡◌, ◌≢◌, ℕ, ◌+◌, ◌-◌, ◌<◌, ◌≤◌, true, false, not, cond, List, [], ◌∷◌, length, refl, sym, ap, subst, ◌∙◌, inl, inr, arith}
use Rattle.std.specs.Prelude.{◌==◌, ◌⊎◌, Bool, Option, Some, None, is_some, IsSome, unwrap_or}
use Rattle.std.specs.Option.{option_map_or}
use Rattle.std.specs.Ordering.{nat_cmp}
use Rattle.std.specs.Cmp.{nat_cmp_total}
use Rattle.std.specs.FinMap as map
use Rattle.std.specs.FinMap.{nat_cmp-IsAntisymmetric}
use Rattle.std.proofs.lemmas.Option.{same_Some, none-some}
use Rattle.std.proofs.lemmas.Bool.Decides.{nat_tests}
use Rattle.views.specs.Maps.{option_filter}
use Rattle.views.proofs.MapLaws.{true_false, same_or_other, get_insert_same, get_insert_other, get_remove_same, get_remove_other}
use Rattle.views.proofs.MapValues.{get-retained}
use Rattle.sys_abi.specs.Names.{name_cmp}
use Rattle.sys_abi.proofs.OrderLaws.{name_total, name_exact}
use Rattle.vfs_files.specs.declared.limits.TheConstants.{FILE_LIMIT, TOTAL_LIMIT}
use Rattle.vfs_files.specs.Bytes.{written}
use Rattle.vfs_files.specs.Names.{Names, without_file}
use Rattle.vfs_files.specs.FileTable.{Contents, bytes_of, contents, with_write, truncated, with_name, AllBelow}
use Rattle.vfs_files.specs.Keeping.{IsKept}
use Rattle.vfs_files.proofs.Sums.{bytes_of-empty, bytes_of-insert}

pub kept-new : (all : Names) (files : Contents) → all ≡ map.empty → files ≡ map.empty → IsKept all files 1 0
kept-new all files none none_too = record {
  sum = sym (ap bytes_of none_too ∙ bytes_of-empty);
  limit = omega arith;
  count = subst (λ (n : ℕ). n ≤ FILE_LIMIT) (sym (ap map.len none_too ∙ map.len-empty nat_cmp (List ℕ))) (omega arith);
  named = λ name file is. absurd (none-some file (sym (map.get-empty name_cmp name) ∙ ap (λ m. map.get m name) (sym none) ∙ is));
  below = λ file is. true_false (sym is ∙ ap (λ m. is_some (map.get m file)) none_too ∙ ap is_some (map.get-empty nat_cmp file));
}

-- the bytes of a file change, and the same files are there
pub kept-change : (all : Names) (files changed : Contents) (next sum total : ℕ) → IsKept all files next total → ((file : ℕ) → is_some (map.get changed file) ≡ is_some (map.get files file)) → map.len changed ≡ map.len files → sum ≡ bytes_of changed → sum ≤ TOTAL_LIMIT → IsKept all changed next sum
kept-change all files changed next sum total kept same as_many is limit = record {
  sum = is;
  limit = limit;
  count = subst (λ (n : ℕ). n ≤ FILE_LIMIT) (sym as_many) kept.count;
  named = λ name file at. same file ∙ kept.named name file at;
  below = λ file at. kept.below file (sym (same file) ∙ at);
}

pub same_there : (files : Contents) (file : ℕ) (bytes : List ℕ) → is_some (map.get files file) ≡ true → (q : ℕ) → is_some (map.get (map.insert files file bytes) q) ≡ is_some (map.get files q)
same_there files file bytes there q = elim (same_or_other nat_cmp_total nat_cmp-IsAntisymmetric q file) [
  | inl same ↦ ap (λ k. is_some (map.get (map.insert files file bytes) k)) same ∙ ap is_some (get_insert_same nat_cmp_total nat_cmp-IsAntisymmetric files file bytes) ∙ sym there ∙ ap (λ k. is_some (map.get files k)) (sym same)
  | inr differ ↦ ap is_some (get_insert_other nat_cmp_total nat_cmp-IsAntisymmetric files file bytes q differ)
]

pub same_count : (files : Contents) (file : ℕ) (bytes : List ℕ) → is_some (map.get files file) ≡ true → map.len (map.insert files file bytes) ≡ map.len files
same_count files file bytes there = map.len-insert nat_cmp_total files file bytes ∙ ap (λ (found : Bool). cond found (map.len files) (map.len files + 1)) there

pub kept-write : (all : Names) (files changed : Contents) (next total sum file at : ℕ) (piece : List ℕ) → IsKept all files next total → IsSome (map.get files file) → changed ≡ with_write files file at piece → sum ≡ bytes_of (with_write files file at piece) → sum ≤ TOTAL_LIMIT → IsKept all changed next sum
kept-write all files changed next total sum file at piece kept there is sum_is limit =
    kept-change all files changed next sum total kept
    (λ q. ap (λ m. is_some (map.get m q)) is ∙ same_there files file (written at piece (contents files file)) there q)
    (ap map.len is ∙ same_count files file (written at piece (contents files file)) there) (sum_is ∙ ap bytes_of (sym is)) limit

truncated_there : (files : Contents) (file : ℕ) (found : Option (List ℕ)) → map.get files file ≡ found → (q : ℕ) → is_some (map.get (option_map_or (λ bytes. map.insert files file []) found files) q) ≡ is_some (map.get files q)
truncated_there files file None is q = refl
truncated_there files file (Some bytes) is q = same_there files file [] (ap is_some is) q

truncated_count : (files : Contents) (file : ℕ) (found : Option (List ℕ)) → map.get files file ≡ found → map.len (option_map_or (λ bytes. map.insert files file []) found files) ≡ map.len files
truncated_count files file None is = refl
truncated_count files file (Some bytes) is = same_count files file [] (ap is_some is)

pub kept-truncate : (all : Names) (files changed : Contents) (next total file count : ℕ) → IsKept all files next total → changed ≡ truncated files file → count + bytes_of changed ≡ bytes_of files → IsKept all changed next (total - count)
kept-truncate all files changed next total file count kept is less =
    let sum = kept.sum in
    let limit = kept.limit in
    kept-change all files changed next (total - count) total kept (λ q. ap (λ m. is_some (map.get m q)) is ∙ truncated_there files file (map.get files file) refl q) (ap map.len is ∙ truncated_count files file (map.get files file) refl) (omega (arith, sum, less)) (omega (arith, limit))

pub kept-unlink : (all left : Names) (files : Contents) (next total : ℕ) (name : List ℕ) → IsKept all files next total → left ≡ map.remove all name → IsKept left files next total
kept-unlink all left files next total name kept is = record {
  sum = kept.sum;
  limit = kept.limit;
  count = kept.count;
  named = λ other file at. kept.named other file (elim (same_or_other name_total name_exact other name) [
    | inl same ↦ absurd (none-some file (sym (get_remove_same name_total name_exact all name) ∙ ap (map.get (map.remove all name)) (sym same) ∙ ap (λ m. map.get m other) (sym is) ∙ at))
    | inr differ ↦ sym (get_remove_other name_total name_exact all name other differ) ∙ ap (λ m. map.get m other) (sym is) ∙ at
  ]);
  below = kept.below;
}

differs : (file number : ℕ) → (number == file) ≡ false → number ≢ file
differs file number e = λ same. grind (arith, nat_tests)

-- what passes is a value of another file
passed : (file number : ℕ) (found : Option ℕ) → option_filter (λ n. not (n == file)) found ≡ Some number → (found ≡ Some number) × (number ≢ file)
passed file number None is = absurd (none-some number is)
passed file number (Some n) is = elim (n == file) as (λ b. (n == file) ≡ b → cond (not b) (Some n) None ≡ Some number → (Some n ≡ Some number) × (number ≢ file)) [
  | true ↦ λ e same. absurd (none-some number same)
  | false ↦ λ e same. (same, subst (λ k. k ≢ file) (same_Some n number same) (differs file n e))
] refl is

one_less : (there : Bool) (n : ℕ) → n ≤ FILE_LIMIT → cond there (n - 1) n ≤ FILE_LIMIT
one_less true n few = omega (arith, few)
one_less false n few = few

pub kept-forget : (all left : Names) (files fewer : Contents) (next total file count : ℕ) → IsKept all files next total → left ≡ without_file all file → fewer ≡ map.remove files file → count + bytes_of fewer ≡ bytes_of files → IsKept left fewer next (total - count)
kept-forget all left files fewer next total file count kept is fewer_is less =
    let sum = kept.sum in
    let limit = kept.limit in
    record {
      sum = omega (arith, sum, less);
      limit = omega (arith, limit);
      count = subst (λ (n : ℕ). n ≤ FILE_LIMIT) (sym (ap map.len fewer_is ∙ map.len-remove nat_cmp_total files file)) (one_less (map.contains_key files file) (map.len files) kept.count);
      named = λ name number at.
          let other = passed file number (map.get all name) (sym (get-retained name_total name_exact (λ name n. not (n == file)) all name) ∙ ap (λ m. map.get m name) (sym is) ∙ at) in
          ap (λ m. is_some (map.get m number)) fewer_is ∙ ap is_some (get_remove_other nat_cmp_total nat_cmp-IsAntisymmetric files file number other.1) ∙ kept.named name number other.0;
      below = λ number at. kept.below number (elim (same_or_other nat_cmp_total nat_cmp-IsAntisymmetric number file) [
        | inl same ↦ true_false (sym at ∙ ap (λ m. is_some (map.get m number)) fewer_is ∙ ap (λ k. is_some (map.get (map.remove files file) k)) same ∙ ap is_some (get_remove_same nat_cmp_total nat_cmp-IsAntisymmetric files file))
        | inr differ ↦ ap is_some (sym (get_remove_other nat_cmp_total nat_cmp-IsAntisymmetric files file number differ)) ∙ ap (λ m. is_some (map.get m number)) (sym fewer_is) ∙ at
      ]);
    }

absent_by : (files : Contents) (file : ℕ) (found : Option (List ℕ)) → AllBelow files file → map.get files file ≡ found → found ≡ None
absent_by files file None below is = refl
absent_by files file (Some bytes) below is = let later = below file (ap is_some is) in absurd (omega (arith, later))

-- a number above all that are there is not there
pub absent : (files : Contents) (file : ℕ) → AllBelow files file → map.get files file ≡ None
absent files file below = absent_by files file (map.get files file) below refl

pub nameless : (all : Names) (files : Contents) (next total file : ℕ) → IsKept all files next total → AllBelow files file → (other : List ℕ) → map.get all other ≢ Some file
nameless all files next total file kept below other is = true_false (sym (kept.named other file is) ∙ ap is_some (absent files file below))

one_more : (there : Bool) (n : ℕ) → n < FILE_LIMIT → cond there n (n + 1) ≤ FILE_LIMIT
one_more true n few = omega (arith, few)
one_more false n few = omega (arith, few)

-- a new file
pub kept-add : (all more : Names) (files added : Contents) (next later total sum file : ℕ) (bytes : List ℕ) → IsKept all files next total → AllBelow files file
    → ((name : List ℕ) (number : ℕ) → map.get more name ≡ Some number → (number ≡ file) ⊎ (map.get all name ≡ Some number)) → added ≡ map.insert files file bytes
    → map.len files < FILE_LIMIT → file < later → next ≤ later → sum ≡ total + length bytes → sum ≤ TOTAL_LIMIT → IsKept more added later sum
kept-add all more files added next later total sum file bytes kept below names is few before rises sum_is limit =
    let none = ap (λ found. length (unwrap_or found [])) (absent files file below) in
    let grows = bytes_of-insert files file bytes in
    let now = kept.sum in
    let more_bytes = ap bytes_of is in
    record {
      sum = omega (arith, none, grows, now, sum_is, more_bytes);
      limit = limit;
      count = subst (λ (n : ℕ). n ≤ FILE_LIMIT) (sym (ap map.len is ∙ map.len-insert nat_cmp_total files file bytes)) (one_more (map.contains_key files file) (map.len files) few);
      named = λ name number at. ap (λ m. is_some (map.get m number)) is ∙ elim (same_or_other nat_cmp_total nat_cmp-IsAntisymmetric number file) [
        | inl same ↦ ap (λ k. is_some (map.get (map.insert files file bytes) k)) same ∙ ap is_some (get_insert_same nat_cmp_total nat_cmp-IsAntisymmetric files file bytes)
        | inr differ ↦ ap is_some (get_insert_other nat_cmp_total nat_cmp-IsAntisymmetric files file bytes number differ)
            ∙ elim (names name number at) [ inl same ↦ absurd (differ same) | inr old ↦ kept.named name number old ]
      ];
      below = λ number at. elim (same_or_other nat_cmp_total nat_cmp-IsAntisymmetric number file) [
        | inl same ↦ subst (λ k. k < later) (sym same) before
        | inr differ ↦
            let earlier = kept.below number (ap is_some (sym (get_insert_other nat_cmp_total nat_cmp-IsAntisymmetric files file bytes number differ)) ∙ ap (λ m. is_some (map.get m number)) (sym is) ∙ at) in
            omega (arith, earlier, rises)
      ];
    }

pub one_name_more : (all : Names) (name : List ℕ) (file : ℕ) (other : List ℕ) (number : ℕ) → map.get (map.insert all name file) other ≡ Some number → (number ≡ file) ⊎ (map.get all other ≡ Some number)
one_name_more all name file other number at = elim (same_or_other name_total name_exact other name) [
  | inl same ↦ inl (same_Some number file (sym at ∙ ap (map.get (map.insert all name file)) same ∙ get_insert_same name_total name_exact all name file))
  | inr differ ↦ inr (sym (get_insert_other name_total name_exact all name file other differ) ∙ at)
]

pub one_name_more_or_none : (all : Names) (name : List ℕ) (file : ℕ) (other : List ℕ) (number : ℕ) → map.get (with_name all name file) other ≡ Some number → (number ≡ file) ⊎ (map.get all other ≡ Some number)
one_name_more_or_none all [] file other number at = inr at
one_name_more_or_none all (byte ∷ name) file other number at = one_name_more all (byte ∷ name) file other number at

pub kept-made : (all more : Names) (files added : Contents) (next total : ℕ) (name : List ℕ) → IsKept all files next total → more ≡ map.insert all name next → added ≡ map.insert files next [] → map.len files < FILE_LIMIT → IsKept more added (next + 1) total
kept-made all more files added next total name kept more_is is few =
    let limit = kept.limit in
    kept-add all more files added next (next + 1) total total next [] kept kept.below (λ other number at. one_name_more all name next other number (ap (λ m. map.get m other) (sym more_is) ∙ at)) is few (omega arith) (omega arith) (omega arith) limit

pub kept-restore : (all more : Names) (files added : Contents) (next total file : ℕ) (name bytes : List ℕ) → IsKept all files next total → AllBelow files file → file < next → bytes_of files + length bytes ≤ TOTAL_LIMIT → map.len files < FILE_LIMIT → more ≡ with_name all name file → added ≡ map.insert files file bytes → IsKept more added next (total + length bytes)
kept-restore all more files added next total file name bytes kept above below size few more_is is =
    let sum = kept.sum in
    kept-add all more files added next next total (total + length bytes) file bytes kept above (λ other number at. one_name_more_or_none all name file other number (ap (λ m. map.get m other) (sym more_is) ∙ at)) is few below (omega arith) (omega arith) (omega (arith, sum, size))
