-- Counters through the pairs.
--     may_be                              whether the bytes can be added, by the number that they spell
--     value_kept                          a counter gets another value
--     counter_refused, counter_read       a read of too few bytes; a read
--     addition_refused, counter_added     a write that adds nothing that a counter takes; a write
use Rattle.std.proofs.Common.{◌≡◌, ℕ, ◌+◌, ◌/◌, ◌%◌, w64, true, false, ◌&&◌, List, [], ◌∷◌, arith, Some, None, refl, sym, ap, ◌∙◌, subst}
use Rattle.std.specs.Prelude.{◌==◌, ◌-◌, ◌^◌, nat_le, not}
use Rattle.std.specs.FinMap as map
use Rattle.std.specs.Int.{to_le_bytes}
use Rattle.views.specs.Numbers.{Byte}
use Rattle.sys_abi.specs.declared.errors.TheConstants.{EINVAL}
use Rattle.fd_book.specs.Books as books
use Rattle.fd_book.specs.Books.{Books}
use Rattle.fd_tables.specs.declared.description.Object as real_object
use Rattle.fd_tables.specs.declared.description.Object.TheVariants as object
use Rattle.fd_tables.specs.Parts as parts
use Rattle.plain_process.specs.Attempts.{and_then, need}
use Rattle.plain_process.specs.Memory.{low_bytes}
use Rattle.plain_tables.specs.declared.description.Object.TheVariants.{Counter}
use Rattle.plain_machine.specs.declared.kernel.PlainKernel.{PlainKernel}
use Rattle.plain_machine.specs.Attempts.{replied}
use Rattle.plain_machine.specs.Kernel.{with_object}
use Rattle.plain_machine.specs.Transfers.Answers.{gave}
use Rattle.plain_machine.specs.Transfers.Counters.{COUNTER_SIZE, number_added, may_add, read_counter, write_counter}
use Rattle.host_processes.specs.HandedOn.{Held}
use Rattle.host_processes.specs.HandedOn.{seen_held}
use Rattle.host_processes.specs.OfHostTables.declared.attempt.Attempt.TheVariants as answer
use Rattle.host_processes.specs.OfHostTables.declared.kernel.Kernel.{Kernel}
use Rattle.host_processes.specs.OfHostTables.Datagrams.{inbox_of}
use Rattle.host_processes.specs.OfHostTables.Serves.{Serves, ByNumber, same}
use Rattle.host_processes.specs.OfHostTables.Stands.{Given, Stands}
use Rattle.host_processes.proofs.OfHostTables.DescriptionChanges.{description_changed}

-- the bytes of a value
pub value_bytes : (value : ℕ) → to_le_bytes w64 value ≡ low_bytes COUNTER_SIZE value
value_bytes value =
    let second : value / 65536 ≡ value / 256 / 256 = omega arith in
    let third : value / 16777216 ≡ value / 65536 / 256 = omega arith in
    let fourth : value / 4294967296 ≡ value / 16777216 / 256 = omega arith in
    let fifth : value / 1099511627776 ≡ value / 4294967296 / 256 = omega arith in
    let sixth : value / 281474976710656 ≡ value / 1099511627776 / 256 = omega arith in
    let seventh : value / 72057594037927936 ≡ value / 281474976710656 / 256 = omega arith in
    let to_third = third ∙ ap (λ n. n / 256) second in
    let to_fourth = fourth ∙ ap (λ n. n / 256) to_third in
    let to_fifth = fifth ∙ ap (λ n. n / 256) to_fourth in
    let to_sixth = sixth ∙ ap (λ n. n / 256) to_fifth in
    let to_seventh = seventh ∙ ap (λ n. n / 256) to_sixth in
    λ i. value % 256 ∷ value / 256 % 256 ∷ second i % 256 ∷ to_third i % 256 ∷ to_fourth i % 256
    ∷ to_fifth i % 256 ∷ to_sixth i % 256 ∷ to_seventh i % 256 ∷ []

pub may_be : (count added : ℕ) (given : List Byte) → added ≡ number_added given
    → may_add count given ≡ (nat_le COUNTER_SIZE count && not (added == 2 ^ 64 - 1))
may_be count added given is = sym (ap (λ n. nat_le COUNTER_SIZE count && not (n == 2 ^ 64 - 1)) is)

module _ (g : Given) (real : Kernel) (k : PlainKernel) (h : Held) where
  module _ (st : Stands g None real k) (there : map.get real.book.descriptions h.desc ≡ Some h.description)
      (before : ℕ) (counter : h.description.object ≡ object.Counter before) where
    pub value_kept : (value : ℕ) (b : Books)
        → b ≡ books.with_changed (parts.with_object (object.Counter value)) real.book h.desc
        → Stands g None (record real { book = b }) (with_object k (seen_held g real h) (Counter value))
    unfolding books.with_changed
    value_kept value b is =
        subst (λ (w : Books). Stands g None (record real { book = w })
        (with_object k (seen_held g real h) (Counter value)))
        (sym (is ∙ ap (books.changed_or_same (parts.with_object
        (object.Counter value)) real.book h.desc) there))
        (description_changed g None real k st h.desc (parts.with_object (object.Counter value) h.description)
        (st.descriptions.owners h.desc h.description there) tt h.description there
        (ap (inbox_of real.datagrams) counter) (λ queue side at. absurd (never queue side (sym counter
        ∙ at))))
      where
        never : (queue side : ℕ)
            → ◌≡◌ {A = real_object.Object} (object.Counter before) (object.Datagram queue side) → ⊥
        never queue side e = cc

  module _ (value count : ℕ) where
    pub counter_refused : nat_le COUNTER_SIZE count ≡ false → (before : List Byte)
        → Serves ByNumber same g real real before before (answer.Fails (record { 0 = EINVAL }))
        (read_counter k (seen_held g real h) value count)
    unfolding read_counter and_then need
    counter_refused few before =
        subst (Serves ByNumber same g real real before before (answer.Fails (record { 0 = EINVAL })))
        (sym (ap (λ b. and_then (need b EINVAL)
        (λ _. gave (with_object k (seen_held g real h) (Counter 0)) (low_bytes COUNTER_SIZE value))) few))
        (record { answer = refl; kernel = refl; bytes = refl })

    pub counter_read : nat_le COUNTER_SIZE count ≡ true → (new : Kernel)
        → Stands g None new (with_object k (seen_held g real h) (Counter 0)) → (before now : List Byte)
        → now ≡ low_bytes COUNTER_SIZE value
        → Serves ByNumber same g real new before now (answer.Gives 8)
        (read_counter k (seen_held g real h) value count)
    unfolding read_counter and_then need
    counter_read enough new stands before now is =
        subst (Serves ByNumber same g real new before now (answer.Gives 8))
        (sym (ap (λ b. and_then (need b EINVAL)
        (λ _. gave (with_object k (seen_held g real h) (Counter 0)) (low_bytes COUNTER_SIZE value))) enough))
        (record { reply = refl; bytes = is; stands = stands })

    module _ (given : List Byte) where
      abbrev added : ℕ
      added = value + number_added given

      pub addition_refused : may_add count given ≡ false
          → Serves ByNumber same g real real given given (answer.Fails (record { 0 = EINVAL }))
          (write_counter k (seen_held g real h) value count given)
      unfolding write_counter and_then need
      addition_refused none =
          subst (Serves ByNumber same g real real given given (answer.Fails (record { 0 = EINVAL })))
          (sym (ap (λ b. and_then (need b EINVAL)
          (λ _. replied (with_object k (seen_held g real h) (Counter added)) COUNTER_SIZE)) none))
          (record { answer = refl; kernel = refl; bytes = refl })

      pub counter_added : may_add count given ≡ true → (new : Kernel)
          → Stands g None new (with_object k (seen_held g real h) (Counter added))
          → Serves ByNumber same g real new given given (answer.Gives 8)
          (write_counter k (seen_held g real h) value count given)
      unfolding write_counter and_then need
      counter_added some new stands =
          subst (Serves ByNumber same g real new given given (answer.Gives 8))
          (sym (ap (λ b. and_then (need b EINVAL)
          (λ _. replied (with_object k (seen_held g real h) (Counter added)) COUNTER_SIZE)) some))
          (record { reply = refl; bytes = refl; stands = stands })
