-- The kernel part stays whole where a file loses its name.
--     whole_unnamed
use Rattle.std.proofs.Common.{◌≡◌, ◌≢◌, ℕ, Bool, true, false, cond, List, refl, sym, ap, subst, ◌∙◌, arith, ⊎_elim}
use Rattle.std.specs.Prelude.{◌==◌, ◌||◌, Some, is_some}
use Rattle.std.specs.Cmp.{nat_cmp_total}
use Rattle.std.specs.FinMap as map
use Rattle.std.proofs.lemmas.Bool.Decides.{nat_tests}
use Rattle.plain_tables.proofs.OfViews.MapLaws.{get_remove_other, same_or_other, true_false}
use Rattle.plain_tables.proofs.OfViews.MapValues.{some_among-values}
use Rattle.plain_tables.specs.OfSysAbi.declared.identity.DescId.{DescId}
use Rattle.plain_tables.proofs.OfSysAbi.OrderLaws.{desc_total, desc_exact, name_total, name_exact}
use Rattle.plain_machine.specs.declared.kernel.PlainKernel.{PlainKernel}
use Rattle.plain_tables.specs.declared.description.Description.{Description}
use Rattle.plain_tables.specs.declared.description.Object.{Object}
use Rattle.plain_tables.specs.declared.description.Object.TheVariants.{File}
use Rattle.plain_tables.specs.Tables.{Names, Files, Descriptions}
use Rattle.plain_tables.specs.Objects.{is_file, has_name, has_open, is_kept}
use Rattle.plain_tables.specs.Closing.{without_unkept}
use Rattle.plain_tables.specs.Valid.Files.{AreFiles, AreOpenFiles, IsOpenFile}
use Rattle.plain_machine.specs.Kernels.{IsKernel}
use Rattle.plain_machine.specs.Rows.Files.{without_name}
use Rattle.plain_tables.proofs.Entries.{still_there, not_removed, any_kept}
use Rattle.plain_tables.proofs.ClosedFiles.{closed_files}

same_number : (m n : ℕ) → (m == n) ≡ true → m ≡ n
same_number m n same = grind (arith, nat_tests, same)

own_number : (n : ℕ) → (n == n) ≡ true
own_number n = grind (arith, nat_tests)

or_kept : (a b c : Bool) → (a ≡ true → b ≡ true) → (a || c) ≡ true → (b || c) ≡ true
or_kept true b c more is = ap (λ x. x || c) (more refl)
or_kept false true c more is = refl
or_kept false false c more is = is

or_right : (a b : Bool) → b ≡ true → (a || b) ≡ true
or_right true b is = refl
or_right false b is = is

module _ (names : Names) (files : Files) (descriptions : Descriptions) (name : List ℕ) (number : ℕ) (known : map.get names name ≡ Some number) where
  abbrev rest : Names
  rest = map.remove names name

  unnamed_files : (next_file : ℕ) → AreFiles next_file names files → AreFiles next_file rest (without_unkept rest descriptions files number)
  unnamed_files next_file is = closed_files rest descriptions files number next_file (record {
    count = is.count;
    total = is.total;
    numbers = is.numbers;
    bytes = is.bytes;
    named = λ a n found. is.named a n (still_there name_total name_exact names name a n found);
    one_name = λ a b n found too. is.one_name a b n (still_there name_total name_exact names name a n found) (still_there name_total name_exact names name b n too);
  })

  files_are : (b : Bool) → is_kept rest descriptions number ≡ b → without_unkept rest descriptions files number ≡ cond b files (map.remove files number)
  unfolding without_unkept
  files_are b is = ap (λ x. cond x files (map.remove files number)) is

  -- another file keeps its name
  still_named : (n : ℕ) → n ≢ number → has_name names n ≡ true → has_name rest n ≡ true
  still_named n other = any_kept name_total name_exact (λ m. m == n) names rest
      (λ a m found passes. (
        m,
        get_remove_other name_total name_exact names name a (λ here.
            let there : map.get names name ≡ Some m = subst (λ b. map.get names b ≡ Some m) here found in
            let same : number ≡ m = cc in
            other (sym (same_number m n passes) ∙ sym same)) ∙ found,
        passes,
      ))

  still_kept : (n : ℕ) → n ≢ number → is_kept names descriptions n ≡ true → is_kept rest descriptions n ≡ true
  still_kept n other = or_kept (has_name names n) (has_name rest n) (has_open descriptions n) (still_named n other)

  all_kept : is_kept rest descriptions number ≡ true → (n : ℕ) → is_kept names descriptions n ≡ true → is_kept rest descriptions n ≡ true
  all_kept kept n was = ⊎_elim (λ here. ap (is_kept rest descriptions) here ∙ kept) (λ other. still_kept n other was) (same_or_other nat_cmp_total map.nat_cmp-IsAntisymmetric n number)

  -- an open file is there still
  open_kept : (d : DescId) (x : Description) (n at : ℕ) → map.get descriptions d ≡ Some x → x.object ≡ File n at → is_kept rest descriptions n ≡ true
  open_kept d x n at found object = or_right (has_name rest n) (has_open descriptions n)
      (some_among-values desc_total desc_exact (λ (w : Description). is_file n w.object) descriptions d x found (ap (is_file n) object ∙ own_number n))

  opened_still : is_kept rest descriptions number ≡ false → (d : DescId) (x : Description) → map.get descriptions d ≡ Some x → (object : Object) → x.object ≡ object → IsOpenFile files object
      → IsOpenFile (map.remove files number) object
  opened_still unkept d x found (File n at) same opened = (
    ap is_some (get_remove_other nat_cmp_total map.nat_cmp-IsAntisymmetric files number n
        (λ here. true_false (sym (open_kept d x n at found same) ∙ ap (is_kept rest descriptions) here ∙ unkept))) ∙ opened.0,
    opened.1,
  )
  opened_still unkept d x found _ same opened = tt

  unnamed_open_files : AreOpenFiles names files descriptions → AreOpenFiles rest (without_unkept rest descriptions files number) descriptions
  unnamed_open_files is = chosen (is_kept rest descriptions number) refl
    where
      chosen : (b : Bool) → is_kept rest descriptions number ≡ b → AreOpenFiles rest (without_unkept rest descriptions files number) descriptions
      chosen true kept = subst (λ f. AreOpenFiles rest f descriptions) (sym (files_are true kept)) (record {
        there = is.there;
        kept = λ n bytes found. all_kept kept n (is.kept n bytes found);
      })
      chosen false unkept = subst (λ f. AreOpenFiles rest f descriptions) (sym (files_are false unkept)) (record {
        there = λ d x found. opened_still unkept d x found x.object refl (is.there d x found);
        kept = λ n bytes found.
            still_kept n (not_removed nat_cmp_total map.nat_cmp-IsAntisymmetric files number n bytes found)
            (is.kept n bytes (still_there nat_cmp_total map.nat_cmp-IsAntisymmetric files number n bytes found));
      })

pub whole_unnamed : (k : PlainKernel) (name : List ℕ) (number : ℕ) → IsKernel k → map.get k.names name ≡ Some number → IsKernel (without_name k name number)
whole_unnamed k name number is known = record {
  numbers = is.numbers;
  processes = is.processes;
  makers = is.makers;
  parents = is.parents;
  files = unnamed_files k.names k.files k.descriptions name number known k.next_file is.files;
  open_files = unnamed_open_files k.names k.files k.descriptions name number known is.open_files;
  descriptors = is.descriptors;
  descriptions = is.descriptions;
  holders = is.holders;
  made = is.made;
  channels = is.channels;
  streams = is.streams;
  listeners = is.listeners;
  addresses = is.addresses;
  hosts = is.hosts;
  inboxes = is.inboxes;
  counters = is.counters;
}
