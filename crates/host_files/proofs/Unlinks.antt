-- The row of unlinkat through the pairs.
--     unlink_bad, unlink_gone, unlink_done      by the tests up to the path, and by whether it names a file
--     was_none, was_some                        what a name leads to
--     name_kept, still_no_empty                 a name is gone
use Rattle.std.proofs.Common.{◌≡◌, ◌≤◌, ℕ, List, [], length, Option, Some, None, Result, Ok, Err, MatchOption, inl, inr, refl, sym, ap, ◌∙◌, arith}
use Rattle.std.specs.Prelude.{◌==◌}
use Rattle.std.specs.FinMap as map
use Rattle.views.specs.Numbers.{Flags, Byte}
use Rattle.views.proofs.MapLaws.{same_or_other, get_remove_same, get_remove_other, remove_absent}
use Rattle.sys_abi.proofs.OrderLaws.{name_total, name_exact}
use Rattle.sys_abi.specs.declared.errors.TheConstants.{EBADF, EINVAL, ENOENT}
use Rattle.sys_abi.specs.declared.flags.TheConstants.{AT_FDCWD}
use Rattle.sys_abi.specs.declared.identity.VPid.{VPid}
use Rattle.vfs_files.specs.declared.file_fault.FileFault.{FileFault}
use Rattle.vfs_files.specs.declared.file_fault.FileFault.TheVariants.{NoEntry}
use Rattle.vfs_files.specs.FileTable.{FileTable}
use Rattle.plain_process.specs.Attempts.{Try, Fails, Gives, and_then, need, found}
use Rattle.plain_machine.specs.declared.kernel.PlainKernel.{PlainKernel}
use Rattle.plain_machine.specs.Attempts.{Served, replied}
use Rattle.plain_machine.specs.Kernels.{IsKernel}
use Rattle.plain_machine.specs.Rows.Files.{path_of, without_name, unlinkat_row}
use Rattle.host_descriptors.specs.OfHostTables.declared.kernel.Kernel.{Kernel}
use Rattle.host_descriptors.specs.OfHostTables.Stands.{Given, Stands}
use Rattle.host_descriptors.proofs.OfHostTables.Frames.{files_kept}
use Rattle.host_files.specs.Paths.{unlink_path}
use Rattle.host_files.proofs.Answered.{and_then_twice}

module _ (k : PlainKernel) (p : VPid) (directory : ℕ) (flags : Flags) (given : List Byte) where
  abbrev by_number : List Byte → Option ℕ → Try Served
  by_number name o = and_then (found o ENOENT) (λ number. replied (without_name k name number) 0)

  abbrev by_name : List Byte → Try Served
  by_name name = by_number name (map.get k.names name)

  abbrev the_unlink : Try Served
  the_unlink = unlinkat_row k p directory flags given

  unlink_is : the_unlink ≡ and_then (unlink_path directory flags given) by_name
  unfolding unlinkat_row unlink_path
  unlink_is =
      (λ i. and_then (need (directory == AT_FDCWD) EBADF)
      (λ _. sym (and_then_twice (need (flags == 0) EINVAL) (λ _. path_of given) by_name) i))
      ∙ sym (and_then_twice (need (directory == AT_FDCWD) EBADF)
      (λ _. and_then (need (flags == 0) EINVAL) (λ _. path_of given)) by_name)

  pub unlink_bad : (e : ℕ) → unlink_path directory flags given ≡ Fails e → the_unlink ≡ Fails e
  unfolding and_then
  unlink_bad e is = unlink_is ∙ ap (λ m. and_then m by_name) is

  module _ (name : List Byte) (named : unlink_path directory flags given ≡ Gives name) where
    named_is : the_unlink ≡ by_name name
    unfolding and_then
    named_is = unlink_is ∙ ap (λ m. and_then m by_name) named

    pub unlink_gone : map.get k.names name ≡ None → the_unlink ≡ Fails ENOENT
    unfolding and_then found
    unlink_gone none = named_is ∙ ap (by_number name) none

    pub unlink_done : (number : ℕ) → map.get k.names name ≡ Some number
        → the_unlink ≡ replied (without_name k name number) 0
    unfolding and_then found
    unlink_done number is = named_is ∙ ap (by_number name) is

-- what the files answered

ok_err : {A E : Type 0} (x : A) (e : E) → Ok x ≡ Err e → ⊥
ok_err x e h = cc

ok_same : {A E : Type 0} (r : Result A E) (x y : A) → r ≡ Ok x → r ≡ Ok y → x ≡ y
ok_same r x y h e = cc

pub was_none : (o : Option ℕ) (r : Result ℕ FileFault) → MatchOption o (r ≡ Err NoEntry) (λ file. r ≡ Ok file)
    → (fault : FileFault) → r ≡ Err fault → o ≡ None
was_none None r told fault is = refl
was_none (Some file) r told fault is = absurd (ok_err file fault (sym told ∙ is))

pub was_some : (o : Option ℕ) (r : Result ℕ FileFault) → MatchOption o (r ≡ Err NoEntry) (λ file. r ≡ Ok file)
    → (file : ℕ) → r ≡ Ok file → o ≡ Some file
was_some None r told file is = absurd (ok_err file NoEntry (sym is ∙ told))
was_some (Some other) r told file is = ap Some (ok_same r other file told is)

-- a name is gone

pub same_without : (t : FileTable) (name : List Byte) → map.get t.names name ≡ None
    → record t { names = map.remove t.names name } ≡ t
same_without t name none = ap (λ m. record t { names = m }) (remove_absent name_total name_exact t.names name none)

module _ (g : Given) (real : Kernel) (k : PlainKernel) (st : Stands g None real k) (name : List Byte) where
  pub name_kept : (t : FileTable) → t ≡ record real.files { names = map.remove real.files.names name }
      → Stands g None (record real { files = t }) (record k { names = map.remove k.names name })
  name_kept t after =
      files_kept g None real k st t (map.remove k.names name) k.files k.next_file (record {
        names_are = ap (λ m. map.remove m name) st.files.names_are ∙ sym (ap (λ (w : FileTable). w.names) after);
        files_are = st.files.files_are ∙ sym (ap (λ (w : FileTable). w.files) after);
        next_is = st.files.next_is ∙ sym (ap (λ (w : FileTable). w.next_file) after);
      })

  -- no file has the empty name
  module _ (whole : IsKernel k) where
    no_empty : map.get k.names [] ≡ None
    no_empty = by_found (map.get k.names []) refl
      where
        long : 1 ≤ length {A = ℕ} [] → ⊥
        long h = omega (arith, h)

        by_found : (o : Option ℕ) → map.get k.names [] ≡ o → map.get k.names [] ≡ None
        by_found None e = e
        by_found (Some n) e = absurd (long (whole.files.named [] n e).0.some)

    pub still_no_empty : (t : FileTable) → t ≡ record real.files { names = map.remove real.files.names name }
        → map.get t.names [] ≡ None
    still_no_empty t after =
        ap (λ (w : FileTable). map.get w.names []) after
        ∙ ap (λ m. map.get (map.remove m name) []) (sym st.files.names_are)
        ∙ elim (same_or_other name_total name_exact [] name) [
          | inl same ↦
              ap (map.get (map.remove k.names name)) same
              ∙ get_remove_same name_total name_exact k.names name
          | inr differ ↦ get_remove_other name_total name_exact k.names name [] differ ∙ no_empty
        ]
