-- The row of openat through the pairs.
--     open_bad, open_numberless, open_named      the tests up to the descriptor's number
--     full, refused_open, done_open              what follows, by what the tables answer
use Rattle.std.proofs.Common.{◌≡◌, ℕ, ◌%◌, Bool, true, false, List, length, Option, Some, None, refl, sym, ap, ◌∙◌}
use Rattle.std.specs.Prelude.{◌==◌, if◌then◌else◌}
use Rattle.std.specs.FinMap as map
use Rattle.std.proofs.lemmas.Option.{same_Some, none-some}
use Rattle.views.specs.Numbers.{Flags, Byte}
use Rattle.sys_abi.specs.declared.errors.TheConstants.{EBADF, EINVAL, EMFILE, ENFILE, ENOENT}
use Rattle.sys_abi.specs.declared.flags.TheConstants.{AT_FDCWD}
use Rattle.sys_abi.specs.declared.identity.VPid.{VPid}
use Rattle.sys_abi.specs.declared.identity.DescId.{DescId}
use Rattle.plain_process.specs.Attempts.{Try, Fails, Gives, and_then, need, refuse_if}
use Rattle.plain_machine.specs.declared.kernel.PlainKernel.{PlainKernel}
use Rattle.plain_machine.specs.Attempts.{Served, replied}
use Rattle.plain_machine.specs.Kernel.{free_from, made_of, has_numbers}
use Rattle.plain_machine.specs.Making.{desc_id}
use Rattle.plain_machine.specs.Rows.Files.{path_of, may_open, opened_number, with_opened, with_open_file, open_at, openat_row}
use Rattle.host_descriptors.specs.OfHostTables.Requests.{next_desc}
use Rattle.host_files.specs.Opening.{opening_at}
use Rattle.host_files.specs.Paths.{open_path}
use Rattle.host_files.proofs.Answered.{and_then_twice}

-- the number of the new description

numbers_by : (b : Bool) (id next : DescId) → Some id ≡ (if b then Some next else None)
    → (b ≡ true) × (id ≡ next)
numbers_by true id next e = (refl, same_Some id next e)
numbers_by false id next e = absurd (none-some id (sym e))

none_by : (b : Bool) (next : DescId) → None ≡ (if b then Some next else None) → b ≡ false
none_by true next e = absurd (none-some next e)
none_by false next e = refl

pub numbered_next : (k : PlainKernel) (p : VPid) (id : DescId) → Some id ≡ next_desc k p
    → (has_numbers k p ≡ true) × (id ≡ desc_id p (made_of k p))
numbered_next k p id e = numbers_by (has_numbers k p) id (desc_id p (made_of k p)) e

module _ (k : PlainKernel) (p : VPid) (directory : ℕ) (flags : Flags) (given : List Byte) where
  abbrev by_numbers : List Byte → Bool → Try Served
  by_numbers name b = and_then (need b ENFILE) (λ _. opening_at k p name flags)

  abbrev by_name : List Byte → Try Served
  by_name name = by_numbers name (has_numbers k p)

  abbrev of_some : List Byte → Try (Unit {0})
  of_some name = refuse_if (length name == 0) ENOENT

  abbrev of_mode : Try (Unit {0})
  of_mode = refuse_if (flags % 4 == 3) EINVAL

  abbrev tested : List Byte → Try (List Byte)
  tested name = and_then (of_some name) (λ _. and_then of_mode (λ _. Gives name))

  abbrev the_open : Try Served
  the_open = openat_row k p directory flags given

  name_tests : (name : List Byte) → and_then (tested name) by_name
      ≡ and_then (of_some name) (λ _. and_then of_mode (λ _. by_name name))
  unfolding and_then
  name_tests name =
      and_then_twice (of_some name) (λ _. and_then of_mode (λ _. Gives name)) by_name
      ∙ (λ i. and_then (of_some name) (λ _. and_then_twice of_mode (λ _. Gives name) by_name i))

  path_tests : and_then (and_then (path_of given) tested) by_name
      ≡ and_then (path_of given) (λ name. and_then (of_some name) (λ _. and_then of_mode (λ _. by_name name)))
  path_tests =
      and_then_twice (path_of given) tested by_name ∙ (λ i. and_then (path_of given) (λ name. name_tests name i))

  open_is : the_open ≡ and_then (open_path directory flags given) by_name
  unfolding openat_row open_path opening_at
  open_is =
      (λ i. and_then (need (directory == AT_FDCWD) EBADF) (λ _. sym path_tests i))
      ∙ sym (and_then_twice (need (directory == AT_FDCWD) EBADF) (λ _. and_then (path_of given) tested) by_name)

  pub open_bad : (e : ℕ) → open_path directory flags given ≡ Fails e → the_open ≡ Fails e
  unfolding and_then
  open_bad e is = open_is ∙ ap (λ m. and_then m by_name) is

  module _ (name : List Byte) (named : open_path directory flags given ≡ Gives name) where
    named_is : the_open ≡ by_name name
    unfolding and_then
    named_is = open_is ∙ ap (λ m. and_then m by_name) named

    pub open_numberless : None ≡ next_desc k p → the_open ≡ Fails ENFILE
    unfolding and_then need
    open_numberless none =
        named_is ∙ ap (by_numbers name) (none_by (has_numbers k p) (desc_id p (made_of k p)) none)

    pub open_named : (id : DescId) → Some id ≡ next_desc k p → the_open ≡ opening_at k p name flags
    unfolding and_then need
    open_named id some = named_is ∙ ap (by_numbers name) (numbered_next k p id some).0

-- from the descriptor's number on

module _ (k : PlainKernel) (p : VPid) (name : List Byte) (flags : Flags) where
  abbrev file : Option ℕ
  file = map.get k.names name

  abbrev by_free : Try ℕ → Try Served
  by_free m = and_then m (λ fd. open_at k p name flags fd file)

  abbrev opened_kernel : ℕ → PlainKernel
  opened_kernel fd = with_open_file (with_opened k name flags file) p fd flags (opened_number k file)

  abbrev by_allowed : ℕ → Try (Unit {0}) → Try Served
  by_allowed fd m = and_then m (λ _. replied (opened_kernel fd) fd)

  pub full : free_from k p 0 ≡ Fails EMFILE → opening_at k p name flags ≡ Fails EMFILE
  unfolding opening_at and_then
  full none = ap by_free none

  module _ (fd : ℕ) (free : free_from k p 0 ≡ Gives fd) where
    free_is : opening_at k p name flags ≡ by_allowed fd (may_open k flags file)
    unfolding opening_at open_at and_then
    free_is = ap by_free free

    pub refused_open : (e : ℕ) → may_open k flags file ≡ Fails e → opening_at k p name flags ≡ Fails e
    unfolding and_then
    refused_open e not_so = free_is ∙ ap (by_allowed fd) not_so

    pub done_open : may_open k flags file ≡ Gives tt → opening_at k p name flags ≡ replied (opened_kernel fd) fd
    unfolding and_then
    done_open so = free_is ∙ ap (by_allowed fd) so
