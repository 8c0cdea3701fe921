-- Whether a file may be opened, on both sides.
--     refusal_errno fault        the error that a fault is answered as
--     allowed, refused_as        the plain test, by what the files answer
--     answer_is                  what is answered then
use Rattle.std.proofs.Common.{◌≡◌, ◌≢◌, ℕ, ◌<◌, ◌≤◌, ◌^◌, ◌-◌, Bool, true, false, not, ◌&&◌, ◌||◌, List, Option, Some, None, refl, ap, ◌∙◌, arith}
use Rattle.std.specs.Prelude.{nat_lt, nat_le, ◌==◌, if◌then◌else◌}
use Rattle.std.specs.FinMap as map
use Rattle.std.proofs.lemmas.Bool.Decides.{nat_tests}
use Rattle.views.specs.Numbers.{Flags, Byte}
use Rattle.views.specs.Limits.{FILE_LIMIT}
use Rattle.sys_abi.specs.declared.errors.TheConstants.{ENOENT, EEXIST, ENOSPC}
use Rattle.sys_abi.specs.declared.flags.TheConstants.{O_CREAT, O_EXCL}
use Rattle.sys_abi.specs.Flags.{has_flag}
use Rattle.vfs_files.specs.declared.file_fault.FileFault.{FileFault}
use Rattle.vfs_files.specs.declared.file_fault.FileFault.TheVariants.{NoEntry, Exists, Space, Memory}
use Rattle.vfs_files.specs.FileTable.{FileTable, is_full, refusal_by, refusal_at, open_refusal}
use Rattle.plain_process.specs.Attempts.{Try, Fails, Gives, and_then, need, refuse_if}
use Rattle.plain_machine.specs.declared.kernel.PlainKernel.{PlainKernel}
use Rattle.plain_machine.specs.Rows.Files.{LAST_FILE, may_open}
use Rattle.host_descriptors.specs.OfHostTables.declared.attempt.Attempt.{Attempt}
use Rattle.host_descriptors.specs.OfHostTables.declared.attempt.Attempt.TheVariants as answer
use Rattle.host_descriptors.specs.OfHostTables.Stands.{SameFiles}
use Rattle.host_files.specs.Opening.{IsRefusal}

-- what is answered for want of memory is no row's error
abbrev pub refusal_errno : FileFault → ℕ
refusal_errno NoEntry = ENOENT
refusal_errno Exists = EEXIST
refusal_errno Space = ENOSPC
refusal_errno Memory = 0

abbrev pub by_refusal : Option FileFault → Try (Unit {0})
by_refusal None = Gives tt
by_refusal (Some fault) = Fails (refusal_errno fault)

below_is : (n l : ℕ) → nat_lt n l ≡ not (nat_le l n)
below_is n l = by_test (nat_le l n) refl
  where
    by_test : (b : Bool) → nat_le l n ≡ b → nat_lt n l ≡ not b
    by_test true e = grind (arith, nat_tests, e)
    by_test false e = grind (arith, nat_tests, e)

not_last : (n l : ℕ) → n ≤ l → nat_lt n l ≡ not (n == l)
not_last n l h = by_test (n == l) refl
  where
    by_test : (b : Bool) → (n == l) ≡ b → nat_lt n l ≡ not b
    by_test true e = grind (arith, nat_tests, e)
    by_test false e = grind (arith, nat_tests, e, h)

not_either : (a b : Bool) → (not a && not b) ≡ not (a || b)
not_either true b = refl
not_either false b = refl

module _ (t : FileTable) where
  -- no file of the name
  module _ (room : Bool) (room_is : room ≡ not (is_full t)) where
    by_full : (f : Bool) → need (not f) ENOSPC ≡ by_refusal (if f then Some Space else None)
    unfolding need
    by_full true = refl
    by_full false = refl

    none_by : (a b : Bool) → and_then (need a ENOENT) (λ _. need room ENOSPC) ≡ by_refusal (refusal_by t None a b)
    unfolding and_then need
    none_by false b = refl
    none_by true b = ap (λ r. need r ENOSPC) room_is ∙ by_full (is_full t)

  some_by : (number : ℕ) (a b : Bool) → refuse_if (a && b) EEXIST ≡ by_refusal (refusal_by t (Some number) a b)
  unfolding refuse_if
  some_by number true true = refl
  some_by number true false = refl
  some_by number false b = refl

  module _ (k : PlainKernel) (same : SameFiles t k.names k.files k.next_file) (few : k.next_file < 2 ^ 32)
      (flags : Flags) where
    room_is : (nat_lt (map.len k.files) FILE_LIMIT && nat_lt k.next_file LAST_FILE) ≡ not (is_full t)
    room_is =
        (λ i. below_is (map.len k.files) FILE_LIMIT i && not_last k.next_file LAST_FILE (below few) i)
        ∙ not_either (nat_le FILE_LIMIT (map.len k.files)) (k.next_file == LAST_FILE)
        ∙ (λ i. not (nat_le FILE_LIMIT (map.len (same.files_are i)) || (same.next_is i == LAST_FILE)))
      where
        below : k.next_file < 2 ^ 32 → k.next_file ≤ 2 ^ 32 - 1
        below h = omega (arith, h)

    open_by : (o : Option ℕ) → may_open k flags o ≡ by_refusal (refusal_at t flags o)
    unfolding may_open
    open_by None =
        none_by (nat_lt (map.len k.files) FILE_LIMIT && nat_lt k.next_file LAST_FILE) room_is
        (has_flag flags O_CREAT) (has_flag flags O_EXCL)
    open_by (Some number) = some_by number (has_flag flags O_CREAT) (has_flag flags O_EXCL)

    open_is : (name : List Byte) → may_open k flags (map.get k.names name) ≡ by_refusal (open_refusal t name flags)
    open_is name =
        open_by (map.get k.names name) ∙ ap (λ m. by_refusal (refusal_at t flags (map.get m name))) same.names_are

    pub allowed : (name : List Byte) → open_refusal t name flags ≡ None
        → may_open k flags (map.get k.names name) ≡ Gives tt
    allowed name none = open_is name ∙ ap by_refusal none

    pub refused_as : (name : List Byte) (fault : FileFault) → open_refusal t name flags ≡ Some fault
        → may_open k flags (map.get k.names name) ≡ Fails (refusal_errno fault)
    refused_as name fault is = open_is name ∙ ap by_refusal is

-- what is answered
pub answer_is : (fault : FileFault) (a : Attempt) → IsRefusal fault a
    → (a ≡ answer.Fails (record { 0 = refusal_errno fault })) × (fault ≢ Memory)
answer_is NoEntry a is = (is, λ e. cc)
answer_is Exists a is = (is, λ e. cc)
answer_is Space a is = (is, λ e. cc)
answer_is Memory a is = absurd is
