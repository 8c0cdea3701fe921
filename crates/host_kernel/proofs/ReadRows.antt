-- The row of read behind its tests.
--     read_bad          no descriptor is there
--     read_denied, read_waits, read_passes      what the tests found
--     ready_bad, ready_denied, ..               the same of whether it waits
use Rattle.std.proofs.Common.{◌≡◌, ℕ, Bool, true, false, Some, None, List, refl, sym, ap, ◌∙◌, subst}
use Rattle.std.specs.Prelude.{min, not}
use Rattle.std.specs.FinMap as map
use Rattle.views.specs.Numbers.{Byte}
use Rattle.sys_abi.specs.Flags.{has_flag}
use Rattle.sys_abi.specs.declared.errors.TheConstants.{EBADF}
use Rattle.sys_abi.specs.declared.flags.TheConstants.{O_NONBLOCK}
use Rattle.sys_abi.specs.declared.identity.VPid.{VPid}
use Rattle.sys_abi.specs.declared.identity.RealPid.{RealPid}
use Rattle.sys_abi.specs.declared.transfer.TheConstants.{TRANSFER_LIMIT}
use Rattle.fd_tables.specs.Slots as slots
use Rattle.plain_process.specs.Attempts.{Try, Fails, and_then}
use Rattle.plain_machine.specs.declared.kernel.PlainKernel.{PlainKernel}
use Rattle.plain_machine.specs.Attempts.{Served}
use Rattle.plain_machine.specs.Kernel as plain
use Rattle.plain_machine.specs.Rows.Read.{is_readable, read_object, read_access, read_row, is_read_ready}
use Rattle.plain_machine.specs.Transfers.Answers.{may_read}
use Rattle.plain_machine.specs.Waiting.{waits}
use Rattle.host_tables.specs.declared.kernel.Kernel.{Kernel}
use Rattle.host_tables.specs.declared.attempt.Attempt.{Attempt}
use Rattle.host_tables.specs.declared.attempt.Attempt.TheVariants as answer
use Rattle.host_tables.specs.Serves.{Serves, ByNumber, same}
use Rattle.host_tables.specs.Stands.{Given, Stands}
use Rattle.host_tables.proofs.Replies.{refused}
use Rattle.host_files.specs.OfHostDescriptors.declared.held.Held.{Held}
use Rattle.host_files.specs.OfHostDescriptors.Held.{held_in, seen_held}
use Rattle.host_files.proofs.OfHostDescriptors.HeldChanges.{there_of}
use Rattle.host_files.proofs.OfHostDescriptors.HeldTold.{row_told, row_bad}
use Rattle.host_kernel.specs.Access.{unready}
use Rattle.host_kernel.proofs.Accesses.{tested, denied, passed, unready_row, never_denied, never_ready, waits_as}

module _ (g : Given) (real : Kernel) (k : PlainKernel) (st : Stands g None real k) (p : VPid) (who : RealPid)
    (paired : map.get g.pids p.0 ≡ Some who) (fd count : ℕ) where
  abbrev few : ℕ
  few = min count TRANSFER_LIMIT

  abbrev pub object_row : plain.Held → Try Served
  object_row h = read_object k h few h.description.object

  -- what the look-up goes through
  abbrev tests : plain.Held → Try plain.Held
  tests h = tested h (may_read h.description.flags) (is_readable k h few h.description.object)

  access_bad : map.get real.book.descriptors (slots.slot who fd) ≡ None → read_access k p fd few ≡ Fails EBADF
  unfolding read_access
  access_bad none = row_bad g real k st p who paired fd none tests

  pub read_bad : map.get real.book.descriptors (slots.slot who fd) ≡ None → (x : List Byte)
      → Serves ByNumber same g real real x x (answer.Fails (record { 0 = EBADF })) (read_row k p fd count)
  unfolding read_row and_then
  read_bad none x =
      refused g real x ByNumber EBADF (read_row k p fd count)
      (ap (λ m. and_then m object_row) (access_bad none))

  pub ready_bad : map.get real.book.descriptors (slots.slot who fd) ≡ None → true ≡ is_read_ready k p fd count
  unfolding is_read_ready
  ready_bad none = sym (ap (λ m. not (waits m)) (access_bad none))

  module _ (h : Held) (is : held_in real.book (slots.slot who fd) ≡ Some h) where
    abbrev pub seen : plain.Held
    seen = seen_held g real h

    access_is : read_access k p fd few ≡ tests seen
    unfolding read_access
    access_is = row_told g real k st p who paired fd (there_of real who fd h is) tests

    module _ (may ready : Bool) (may_is : may ≡ may_read h.description.flags) (n : ℕ) (few_is : n ≡ few)
        (ready_is : ready ≡ is_readable k seen n seen.description.object) where
      tests_are : tests seen ≡ tested seen may ready
      tests_are =
          sym (ap (λ b. tested seen b ready) may_is
          ∙ ap (tested seen (may_read h.description.flags))
          (ready_is ∙ ap (λ c. is_readable k seen c seen.description.object) few_is))

      read_by : read_row k p fd count ≡ and_then (tested seen may ready) object_row
      unfolding read_row
      read_by = ap (λ m. and_then m object_row) (access_is ∙ tests_are)

      ready_by : is_read_ready k p fd count ≡ not (waits (tested seen may ready))
      unfolding is_read_ready
      ready_by = ap (λ m. not (waits m)) (access_is ∙ tests_are)

    module _ (denies : false ≡ may_read h.description.flags) where
      pub read_denied : (x : List Byte)
          → Serves ByNumber same g real real x x (answer.Fails (record { 0 = EBADF })) (read_row k p fd count)
      read_denied x =
          refused g real x ByNumber EBADF (read_row k p fd count)
          (read_by false (is_readable k seen few seen.description.object) denies few refl refl
          ∙ denied seen object_row (is_readable k seen few seen.description.object))

      pub ready_denied : true ≡ is_read_ready k p fd count
      ready_denied =
          sym (ready_by false (is_readable k seen few seen.description.object) denies few refl refl
          ∙ never_denied seen (is_readable k seen few seen.description.object))

    module _ (allows : true ≡ may_read h.description.flags) (n : ℕ) (few_is : n ≡ few) where
      pub read_waits : false ≡ is_readable k seen n seen.description.object → (x : List Byte) (a : Attempt)
          → a ≡ unready (has_flag h.description.flags O_NONBLOCK)
          → Serves ByNumber same g real real x x a (read_row k p fd count)
      read_waits none x a is_a =
          subst (λ (w : Attempt). Serves ByNumber same g real real x x w (read_row k p fd count)) (sym is_a)
          (subst (Serves ByNumber same g real real x x (unready (has_flag h.description.flags O_NONBLOCK)))
          (sym (read_by true false allows n few_is none)) (unready_row seen object_row g real x))

      pub ready_waits : false ≡ is_readable k seen n seen.description.object
          → has_flag h.description.flags O_NONBLOCK ≡ is_read_ready k p fd count
      ready_waits none = sym (ready_by true false allows n few_is none ∙ waits_as seen)

      pub read_passes : true ≡ is_readable k seen n seen.description.object → (new : Kernel)
          (x now : List Byte)
          (a : Attempt) → Serves ByNumber same g real new x now a
          (read_object k seen n seen.description.object)
          → Serves ByNumber same g real new x now a (read_row k p fd count)
      read_passes some new x now a serves =
          subst (Serves ByNumber same g real new x now a)
          (sym (read_by true true allows n few_is some ∙ passed seen object_row))
          (subst (λ (c : ℕ). Serves ByNumber same g real new x now a
          (read_object k seen c seen.description.object))
          few_is serves)

      pub ready_passes : true ≡ is_readable k seen n seen.description.object → true
          ≡ is_read_ready k p fd count
      ready_passes some = sym (ready_by true true allows n few_is some ∙ never_ready seen)
