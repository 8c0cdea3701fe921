-- The row of write behind its tests.
--     write_bad         no descriptor is there
--     write_denied, write_waits, write_passes      what the tests found
--     ready_bad, ready_denied, ..                  the same of whether it waits
use Rattle.std.proofs.Common.{◌≡◌, ℕ, Bool, true, false, Some, None, List, refl, sym, ap, ◌∙◌, subst}
use Rattle.std.specs.Prelude.{not}
use Rattle.std.specs.FinMap as map
use Rattle.views.specs.Numbers.{ThreadNumber, Byte}
use Rattle.sys_abi.specs.Flags.{has_flag}
use Rattle.sys_abi.specs.declared.errors.TheConstants.{EBADF}
use Rattle.sys_abi.specs.declared.flags.TheConstants.{O_NONBLOCK}
use Rattle.sys_abi.specs.declared.identity.VPid.{VPid}
use Rattle.sys_abi.specs.declared.identity.RealPid.{RealPid}
use Rattle.fd_tables.specs.Slots as slots
use Rattle.plain_process.specs.Attempts.{Try, Fails, and_then}
use Rattle.plain_tables.specs.Tables.{may_write}
use Rattle.plain_machine.specs.declared.kernel.PlainKernel.{PlainKernel}
use Rattle.plain_machine.specs.Attempts.{Served}
use Rattle.plain_machine.specs.Kernel as plain
use Rattle.plain_machine.specs.Rows.Write.{is_writable, write_object, write_access, write_row, is_write_ready}
use Rattle.plain_machine.specs.Waiting.{waits}
use Rattle.host_tables.specs.declared.kernel.Kernel.{Kernel}
use Rattle.host_tables.specs.declared.attempt.Attempt.{Attempt}
use Rattle.host_tables.specs.declared.attempt.Attempt.TheVariants as answer
use Rattle.host_tables.specs.Serves.{Serves, ByNumber, same}
use Rattle.host_tables.specs.Stands.{Given, Stands}
use Rattle.host_tables.proofs.Replies.{refused}
use Rattle.host_files.specs.OfHostDescriptors.declared.held.Held.{Held}
use Rattle.host_files.specs.OfHostDescriptors.Held.{held_in, seen_held}
use Rattle.host_files.proofs.OfHostDescriptors.HeldChanges.{there_of}
use Rattle.host_files.proofs.OfHostDescriptors.HeldTold.{row_told, row_bad}
use Rattle.host_kernel.specs.Access.{unready}
use Rattle.host_kernel.proofs.Accesses.{tested, denied, passed, unready_row, never_denied, never_ready, waits_as}

module _ (g : Given) (real : Kernel) (k : PlainKernel) (st : Stands g None real k) (p : VPid) (who : RealPid)
    (paired : map.get g.pids p.0 ≡ Some who) (fd count : ℕ) (given : List Byte) where
  -- what the look-up goes through
  abbrev tests : plain.Held → Try plain.Held
  tests h = tested h (may_write h.description.flags) (is_writable k count given h.description.object)

  access_bad : map.get real.book.descriptors (slots.slot who fd) ≡ None
      → write_access k p fd count given ≡ Fails EBADF
  unfolding write_access
  access_bad none = row_bad g real k st p who paired fd none tests

  abbrev pub object_row : ThreadNumber → plain.Held → Try Served
  object_row t h = write_object k p t h count given h.description.object

  pub write_bad : map.get real.book.descriptors (slots.slot who fd) ≡ None → (t : ThreadNumber)
      → Serves ByNumber same g real real given given (answer.Fails (record { 0 = EBADF }))
      (write_row k p t fd count given)
  unfolding write_row and_then
  write_bad none t =
      refused g real given ByNumber EBADF (write_row k p t fd count given)
      (ap (λ m. and_then m (object_row t)) (access_bad none))

  pub ready_bad : map.get real.book.descriptors (slots.slot who fd) ≡ None
      → true ≡ is_write_ready k p fd count given
  unfolding is_write_ready
  ready_bad none = sym (ap (λ m. not (waits m)) (access_bad none))

  module _ (h : Held) (is : held_in real.book (slots.slot who fd) ≡ Some h) where
    abbrev pub seen : plain.Held
    seen = seen_held g real h

    access_is : write_access k p fd count given ≡ tests seen
    unfolding write_access
    access_is = row_told g real k st p who paired fd (there_of real who fd h is) tests

    abbrev writable : Bool
    writable = is_writable k count given seen.description.object

    module _ (may ready : Bool) (may_is : may ≡ may_write h.description.flags)
        (ready_is : ready ≡ writable) where
      tests_are : tests seen ≡ tested seen may ready
      tests_are = sym (ap (λ b. tested seen b ready) may_is ∙ ap
          (tested seen (may_write h.description.flags)) ready_is)

      write_by : (t : ThreadNumber)
          → write_row k p t fd count given ≡ and_then (tested seen may ready) (object_row t)
      unfolding write_row
      write_by t = ap (λ m. and_then m (object_row t)) (access_is ∙ tests_are)

      ready_by : is_write_ready k p fd count given ≡ not (waits (tested seen may ready))
      unfolding is_write_ready
      ready_by = ap (λ m. not (waits m)) (access_is ∙ tests_are)

    module _ (denies : false ≡ may_write h.description.flags) where
      pub write_denied : (t : ThreadNumber) → Serves ByNumber same g real real given given
          (answer.Fails (record { 0 = EBADF })) (write_row k p t fd count given)
      write_denied t =
          refused g real given ByNumber EBADF (write_row k p t fd count given)
          (write_by false writable denies refl t ∙ denied seen (object_row t) writable)

      pub ready_denied : true ≡ is_write_ready k p fd count given
      ready_denied = sym (ready_by false writable denies refl ∙ never_denied seen writable)

    module _ (allows : true ≡ may_write h.description.flags) where
      pub write_waits : false ≡ writable → (t : ThreadNumber) (a : Attempt)
          → a ≡ unready (has_flag h.description.flags O_NONBLOCK)
          → Serves ByNumber same g real real given given a (write_row k p t fd count given)
      write_waits none t a is_a =
          subst (λ (w : Attempt). Serves ByNumber same g real real given given w
          (write_row k p t fd count given))
          (sym is_a)
          (subst (Serves ByNumber same g real real given given
          (unready (has_flag h.description.flags O_NONBLOCK)))
          (sym (write_by true false allows none t)) (unready_row seen (object_row t) g real given))

      pub ready_waits : false ≡ writable → has_flag h.description.flags O_NONBLOCK
          ≡ is_write_ready k p fd count given
      ready_waits none = sym (ready_by true false allows none ∙ waits_as seen)

      pub write_passes : true ≡ writable → (t : ThreadNumber) (new : Kernel) (a : Attempt)
          → Serves ByNumber same g real new given given a
          (write_object k p t seen count given seen.description.object)
          → Serves ByNumber same g real new given given a (write_row k p t fd count given)
      write_passes some t new a serves =
          subst (Serves ByNumber same g real new given given a)
          (sym (write_by true true allows some t ∙ passed seen (object_row t))) serves

      pub ready_passes : true ≡ writable → true ≡ is_write_ready k p fd count given
      ready_passes some = sym (ready_by true true allows some ∙ never_ready seen)
