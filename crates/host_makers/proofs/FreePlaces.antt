-- The free descriptor and the next free one.
--     next_free, next_used      the free descriptor once the one before it is used, and that there is none
--     two_given, two_lacked     what the plain look-up of two finds
use Rattle.std.proofs.Common.{◌≡◌, ◌≢◌, ℕ, ◌+◌, ◌<◌, ◌≤◌, Some, None, inl, inr, sym, ap, ◌∙◌, arith}
use Rattle.std.specs.Prelude.{is_some}
use Rattle.std.specs.FinMap as map
use Rattle.std.proofs.lemmas.Option.{none-some}
use Rattle.views.specs.Limits.{DESCRIPTOR_LIMIT}
use Rattle.views.proofs.MapLaws.{true_false, get_insert_same, get_insert_other}
use Rattle.sys_abi.specs.declared.descriptor.Descriptor.{Descriptor}
use Rattle.sys_abi.specs.declared.errors.TheConstants.{EMFILE}
use Rattle.sys_abi.specs.declared.identity.RealPid.{RealPid}
use Rattle.sys_abi.specs.declared.identity.VPid.{VPid}
use Rattle.fd_tables.specs.declared.real_slot.RealSlot.{RealSlot}
use Rattle.fd_tables.specs.Numbers.{AllUsed, IsLowestFree}
use Rattle.fd_tables.specs.Slots.{slot}
use Rattle.fd_tables.proofs.OrderLaws.{real_slot_total, real_slot_exact}
use Rattle.plain_process.specs.Attempts.{Try, Fails, Gives, and_then}
use Rattle.plain_machine.specs.declared.kernel.PlainKernel.{PlainKernel}
use Rattle.plain_machine.specs.Kernel.{free_from}
use Rattle.plain_machine.specs.Rows.Channels.{two_free}
use Rattle.host_tables.specs.declared.kernel.Kernel.{Kernel}
use Rattle.host_tables.specs.Processes.{RealDescriptors}
use Rattle.host_tables.specs.Stands.{Given, Stands}
use Rattle.host_tables.proofs.LookUps.{free_none, free_some}
use Rattle.host_makers.specs.Places.{AreLowestFree, LacksTwo}

module _ (m : RealDescriptors) (who : RealPid) (fd : ℕ) (lowest : IsLowestFree m who 0 fd)
    (d : Descriptor) where
  abbrev used : RealDescriptors
  used = map.insert m (slot who fd) d

  beside : (n : ℕ) → n ≢ fd → map.get used (slot who n) ≡ map.get m (slot who n)
  beside n differ =
      get_insert_other real_slot_total real_slot_exact m (slot who fd) d (slot who n)
      (λ same. differ (ap (λ (at : RealSlot). at.fd) same))

  above_differs : (n : ℕ) → fd + 1 ≤ n → n ≢ fd
  above_differs n above same = absurd (omega (arith, above, same))

  module _ (n : ℕ) (next : IsLowestFree used who 0 n) where
    differs : n ≢ fd
    differs same =
        none-some d (sym next.free ∙ ap (λ x. map.get used (slot who x)) same
        ∙ get_insert_same real_slot_total real_slot_exact m (slot who fd) d)

    free_before : map.get m (slot who n) ≡ None
    free_before = sym (beside n differs) ∙ next.free

    not_below : n < fd → ⊥
    not_below less = true_false (sym (lowest.lowest n (omega arith) less) ∙ ap is_some free_before)

    above : (a b : ℕ) → (a < b → ⊥) → a ≢ b → b + 1 ≤ a
    above a b below differ = grind (arith, below, differ)

    pub next_free : IsLowestFree m who (fd + 1) n
    next_free = record {
      free = free_before;
      from_on = above n fd not_below differs;
      in_range = next.in_range;
      lowest = λ q from_on less. ap is_some (sym (beside q (above_differs q from_on)))
          ∙ next.lowest q (omega arith) less;
    }

  pub next_used : AllUsed used who 0 → AllUsed m who (fd + 1)
  next_used all n above below =
      ap is_some (sym (beside n (above_differs n above))) ∙ all n (omega arith) below

module _ (g : Given) (real : Kernel) (k : PlainKernel) (st : Stands g None real k) (p : VPid) (who : RealPid)
    (paired : map.get g.pids p.0 ≡ Some who) where
  abbrev then_next : Try ℕ → Try (ℕ × ℕ)
  then_next m = and_then m (λ first. and_then (free_from k p (first + 1)) (λ second. Gives (first, second)))

  abbrev then_both : ℕ → Try ℕ → Try (ℕ × ℕ)
  then_both first m = and_then m (λ second. Gives (first, second))

  first_given : (first : ℕ) → IsLowestFree real.book.descriptors who 0 first
      → two_free k p ≡ then_both first (free_from k p (first + 1))
  unfolding two_free and_then
  first_given first lowest = ap then_next (free_some g real k st p who paired 0 first (omega arith) lowest)

  in_range : (first : ℕ) → first < DESCRIPTOR_LIMIT → first + 1 ≤ DESCRIPTOR_LIMIT
  in_range first less = omega (arith, less)

  pub two_given : (first second : ℕ) → AreLowestFree real.book.descriptors who first second
      → two_free k p ≡ Gives (first, second)
  unfolding and_then
  two_given first second are =
      first_given first are.lower
      ∙ ap (then_both first)
      (free_some g real k st p who paired (first + 1) second (in_range first are.lower.in_range) are.upper)

  pub two_lacked : LacksTwo real.book.descriptors who → two_free k p ≡ Fails EMFILE
  unfolding two_free and_then
  two_lacked lacks = elim lacks [
    | inl full ↦ ap then_next (free_none g real k st p who paired 0 (omega arith) full)
    | inr one ↦
        first_given one.0 one.1.0
        ∙ ap (then_both one.0)
        (free_none g real k st p who paired (one.0 + 1) (in_range one.0 one.1.0.in_range) one.1.1)
  ]
