-- The files of a kernel part and their names come back from what is made of them.
use Rattle.std.proofs.Common.{◌≡◌, ◌≢◌, ℕ, ◌≤◌, true, cond, List, [], ◌∷◌, length, map as each, refl, sym, ap, subst, ◌∙◌, ⊎_elim, arith}
use Rattle.std.specs.Prelude.{Option, Some, None, is_some, unwrap_or}
use Rattle.std.specs.List.{filter_map, cons_option}
use Rattle.std.specs.Ordering.{nat_cmp, eq_by_cmp}
use Rattle.std.specs.Cmp.{nat_cmp_total}
use Rattle.std.specs.FinMap as map
use Rattle.std.specs.FinMap.{nat_cmp-IsAntisymmetric}
use Rattle.views.proofs.MapLaws.{same_or_other, key_tied, other_key}
use Rattle.views.proofs.MapValues.{EachEntry, each_entry}
use Rattle.sys_abi.specs.Names.{name_cmp}
use Rattle.sys_abi.proofs.OrderLaws.{name_total, name_exact}
use Rattle.plain_machine.specs.declared.kernel.PlainKernel.{PlainKernel}
use Rattle.plain_machine.specs.Kernels.{IsKernel}
use Rattle.plain_tables.specs.Tables.{Names}
use Rattle.plain_tables.proofs.Entries.{found_at}
use Rattle.image_codec.specs.KernelParts.{name_entry, named_entry, file_entry}
use Rattle.image_codec.specs.KernelImages.{name_under, names_by_number, file_image}
use Rattle.image_codec.proofs.MadeMaps.{each_back, filtered_back, each_made, later, there_at}

module _ (names : Names) where
  -- the name that a number has is one that leads to it
  abbrev LeadsTo : ℕ → List ℕ → Type 0
  LeadsTo number name = map.get names name ≡ Some number

  under_are : (es : List (List ℕ × ℕ)) → EachEntry (λ name number. LeadsTo number name) es → EachEntry LeadsTo (each name_under es)
  under_are [] are = tt
  under_are (e ∷ es) are = (are.0, under_are es are.1)

  pub name_leads : (number : ℕ) (name : List ℕ) → map.get (names_by_number names) number ≡ Some name → map.get names name ≡ Some number
  name_leads = each_made nat_cmp_total nat_cmp-IsAntisymmetric LeadsTo (each name_under (map.entries names)) (under_are (map.entries names) (each_entry name_total name_exact (λ name number. LeadsTo number name) names (λ name number is. is)))

  under_there : (es : List (List ℕ × ℕ)) (name : List ℕ) (number : ℕ) → map.find name_cmp name es ≡ Some number → is_some (map.find nat_cmp number (each name_under es)) ≡ true
  under_there [] name number found = cc
  under_there (e ∷ es) name number found = ⊎_elim
      (λ (here : name ≡ e.0).
      let there : map.find name_cmp name (e ∷ es) ≡ Some e.1 = ap (λ b. cond b (Some e.1) (map.find name_cmp name es)) (ap (λ k. eq_by_cmp name_cmp k e.0) here ∙ key_tied name_total name_exact e.0) in
      let value : e.1 ≡ number = cc in
      subst (λ n. is_some (map.find nat_cmp n (name_under e ∷ each name_under es)) ≡ true) value (there_at nat_cmp_total nat_cmp-IsAntisymmetric e.1 e.0 (each name_under es)))
      (λ (other : name ≢ e.0). later nat_cmp_total nat_cmp-IsAntisymmetric (eq_by_cmp nat_cmp number e.1) e.0 (map.find nat_cmp number (each name_under es))
      (under_there es name number (sym (ap (λ b. cond b (Some e.1) (map.find name_cmp name es)) (other_key name_total name_exact name e.0 other)) ∙ found)))
      (same_or_other name_total name_exact name e.0)

  -- and a number to which a name leads has one
  pub has_name : (name : List ℕ) (number : ℕ) → map.get names name ≡ Some number → is_some (map.get (names_by_number names) number) ≡ true
  has_name name number found =
      ap is_some (map.get-from_entries nat_cmp_total (each name_under (map.entries names)) number) ∙ under_there (map.entries names) name number (sym (map.get-entries names name) ∙ found)

  named_are : (number : ℕ) (found : Option (List ℕ)) → ((name : List ℕ) → found ≡ Some name → LeadsTo number name)
      → EachEntry (λ name n. LeadsTo n name) (cons_option (named_entry (unwrap_or found []) number) [])
  named_are number None told = tt
  named_are number (Some []) told = tt
  named_are number (Some (byte ∷ rest)) told = (told (byte ∷ rest) refl, tt)

some_bytes : (name : List ℕ) (number : ℕ) → 1 ≤ length name → is_some (map.find name_cmp name (cons_option (named_entry name number) [])) ≡ true
some_bytes [] number some = absurd (omega arith)
some_bytes (byte ∷ rest) number some = there_at name_total name_exact (byte ∷ rest) number []

module _ (k : PlainKernel) (is : IsKernel k) where
  pub files_back : map.from_entries (each file_entry (each (file_image (names_by_number k.names)) (map.entries k.files))) ≡ k.files
  files_back = each_back nat_cmp_total nat_cmp-IsAntisymmetric nat_cmp_total nat_cmp-IsAntisymmetric (file_image (names_by_number k.names)) k.files k.files file_entry
      (λ number bytes there. there) (λ number bytes there. (number, bytes, there, refl))

  -- the name under which a file is found is the one that its image has
  pub name_back : (name : List ℕ) (number : ℕ) → map.get k.names name ≡ Some number → map.get (names_by_number k.names) number ≡ Some name
  name_back name number found =
      let (other, known) = found_at nat_cmp_total nat_cmp-IsAntisymmetric (names_by_number k.names) number (has_name k.names name number found) in
      known ∙ ap (λ n. Some n) (is.files.one_name other name number (name_leads k.names number other known) found)

  pub names_back : map.from_entries (filter_map name_entry (each (file_image (names_by_number k.names)) (map.entries k.files))) ≡ k.names
  names_back = filtered_back name_total name_exact nat_cmp_total nat_cmp-IsAntisymmetric (file_image (names_by_number k.names)) k.names k.files name_entry
      (λ number bytes there. named_are k.names number (map.get (names_by_number k.names) number) (name_leads k.names number))
      (λ name number found.
      let named = is.files.named name number found in
      let (bytes, known) = found_at nat_cmp_total nat_cmp-IsAntisymmetric k.files number named.1 in (
        number,
        bytes,
        known,
        subst (λ given. is_some (map.find name_cmp name (cons_option (named_entry (unwrap_or given []) number) [])) ≡ true) (sym (name_back name number found)) (some_bytes name number named.0.some),
      ))
