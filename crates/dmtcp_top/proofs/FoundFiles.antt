-- What a system tells of a file is what the kernel part has for which it stands.
--     none_unnamed                    no file has the empty name
--     nothing_found, bytes_found      the content of the file of a name
use Rattle.std.proofs.Common.{◌≡◌, ℕ, List, [], Option, Some, None, refl, sym, ap, ◌∙◌, arith}
use Rattle.std.specs.Prelude.{unwrap_or}
use Rattle.std.specs.Option.{option_and_then}
use Rattle.std.specs.FinMap as map
use Rattle.vfs_files.specs.FileTable.{FileTable}
use Rattle.plain_machine.specs.declared.kernel.PlainKernel.{PlainKernel}
use Rattle.host_tables.specs.declared.system.System.{System}
use Rattle.host_tables.specs.Stands.{SameFiles}
use Rattle.wrap_names.specs.Wrapping.{IsWrapped}
use Rattle.option_words.specs.Options.{Text}
use Rattle.launch_start.specs.Values.{content_named}

module _ (s : System) (k : PlainKernel) (is : IsWrapped s k.next_id k) where
  abbrev table : FileTable
  table = s.kernel.files

  same : SameFiles table k.names k.files k.next_file
  same = is.stands.tables.files

  pub none_unnamed : map.get table.names [] ≡ None
  none_unnamed = by (map.get table.names []) refl
    where
      by : (o : Option ℕ) → map.get table.names [] ≡ o → o ≡ None
      by None at = refl
      by (Some n) at =
          let some = (is.stands.kernel.files.named [] n (ap (λ names. map.get names []) same.names_are ∙ at)).0.some in
          absurd (omega (arith, some))

  content_at : (name : Text) (number : Option ℕ) → map.get table.names name ≡ number → unwrap_or (option_and_then (λ n. map.get table.files n) number) [] ≡ content_named k name
  content_at name number at =
      sym (ap (λ files. unwrap_or (option_and_then (λ n. map.get files n) (map.get k.names name)) []) same.files_are
      ∙ ap (λ o. unwrap_or (option_and_then (λ n. map.get table.files n) o) []) (ap (λ names. map.get names name) same.names_are ∙ at))

  pub nothing_found : (name : Text) → map.get table.names name ≡ None → [] ≡ content_named k name
  nothing_found name none = content_at name None none

  pub bytes_found : (name : Text) (number : ℕ) (bytes : Option (List ℕ)) → map.get table.names name ≡ Some number → map.get table.files number ≡ bytes → unwrap_or bytes [] ≡ content_named k name
  bytes_found name number bytes at there = ap (λ o. unwrap_or o []) (sym there) ∙ content_at name (Some number) at
