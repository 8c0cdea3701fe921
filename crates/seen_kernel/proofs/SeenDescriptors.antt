-- Descriptors, seen one process after the other.
--     TableTo ids b r left before seen n    of the process, those below this number are seen
--     table_begun, table_on, table_done, table_unpaired
--     DescriptorsTo ids t b seen above      those of all processes up to this one are seen
--     descriptors_begun, descriptors_on, descriptors_done
use Rattle.std.proofs.Common.{◌≡◌, ◌⊎◌, ◌<◌, ◌≤◌, ◌+◌, ◌-◌, ℕ, Bool, true, false, ◌&&◌, Option, Some, None, inl, inr, refl, sym, ap, subst, ◌∙◌, arith}
use Rattle.std.specs.Prelude.{find, nat_lt, not, option_map}
use Rattle.std.specs.Option.{option_map_or}
use Rattle.std.specs.Ordering.{eq_by_cmp}
use Rattle.std.specs.FinMap as map
use Rattle.std.proofs.lemmas.Option.{none-some}
use Rattle.std.proofs.lemmas.Bool.Decides.{nat_tests}
use Rattle.views.proofs.MapLaws.{true_false, same_key, key_tied}
use Rattle.sys_abi.specs.declared.descriptor.Descriptor.{Descriptor}
use Rattle.sys_abi.specs.declared.identity.RealPid.{RealPid}
use Rattle.sys_abi.specs.Orders.{real_pid_cmp}
use Rattle.sys_abi.proofs.OrderLaws.{slot_total, slot_exact, real_pid_total, real_pid_exact}
use Rattle.virt_ids.specs.Pairs.{Pairs, AreInverse}
use Rattle.fd_tables.specs.declared.real_slot.RealSlot.{RealSlot}
use Rattle.fd_tables.specs.Numbers.{NoneOpen, IsLowestOpen}
use Rattle.fd_tables.specs.Slots as slots
use Rattle.fd_tables.proofs.OrderLaws.{real_slot_total, real_slot_exact}
use Rattle.fd_book.specs.Books.{Books}
use Rattle.proc_book.specs.declared.process.Process as real_process
use Rattle.proc_book.specs.Processes.{is_live}
use Rattle.proc_book.specs.Ends.{Processes as RealProcesses, is_live_at}
use Rattle.proc_book.specs.Procs.{ProcTable, is_above}
use Rattle.plain_tables.specs.Tables.{Descriptors, pid, slot}
use Rattle.host_tables.specs.Processes.{IsSame, to_slot, from_slot}
use Rattle.host_tables.proofs.LookUps.{some_value, at_slot}
use Rattle.host_tables.proofs.Ways.{lead_slot}
use Rattle.leader_vote.proofs.Walks.{walked, none_left}
use Rattle.seen_kernel.specs.Filling.{IsFilled}
use Rattle.seen_kernel.specs.Descriptors.{StandForDescriptors, with_descriptor, AreFilled, left_but}
use Rattle.seen_kernel.proofs.Filling.{filled_none, filled_past, filled_on, filled_seen}

-- what is left but for the descriptors of the process below this number
abbrev pub left_from : RealPid → (RealSlot → Bool) → ℕ → RealSlot → Bool
left_from r left n at = left at && not (eq_by_cmp real_pid_cmp at.pid r && nat_lt at.fd n)

-- what is left, by its tests
not_own : (a b c : Bool) → (a && not (b && c)) ≡ false → (a ≡ false) ⊎ ((b ≡ true) × (c ≡ true))
not_own false b c h = inl refl
not_own true false c h = true_false h
not_own true true false h = true_false h
not_own true true true h = inr (refl, refl)

one_of : (a b c : Bool) → (a ≡ false) ⊎ ((b ≡ true) × (c ≡ true)) → (a && not (b && c)) ≡ false
one_of false b c h = refl
one_of true false c h = elim h [ inl e ↦ e | inr e ↦ true_false (sym e.0) ]
one_of true true false h = elim h [ inl e ↦ e | inr e ↦ true_false (sym e.1) ]
one_of true true true h = refl

passed_by : (a b : Bool) → (a && not b) ≡ false → (a ≡ false) ⊎ (b ≡ true)
passed_by false b h = inl refl
passed_by true false h = true_false h
passed_by true true h = inr refl

either_is : (a b : Bool) → (a ≡ false) ⊎ (b ≡ true) → (a && not b) ≡ false
either_is false b h = refl
either_is true false h = elim h [ inl e ↦ e | inr e ↦ true_false (sym e) ]
either_is true true h = refl

below : (n m : ℕ) → nat_lt n m ≡ true → n < m
below n m is = grind (arith, nat_tests)

is_below : (n m : ℕ) → n < m → nat_lt n m ≡ true
is_below n m is = grind (arith, nat_tests)

none_below : (n : ℕ) → nat_lt n 0 ≡ true → ⊥
none_below n is = grind (arith, nat_tests)

by_number : (n m : ℕ) → (n < m) ⊎ ((n ≡ m) ⊎ (m < n))
by_number n m = elim (nat_lt n m) as (λ b. nat_lt n m ≡ b → (n < m) ⊎ ((n ≡ m) ⊎ (m < n))) [
  | true ↦ λ is. inl (below n m is)
  | false ↦ λ is. elim (nat_lt m n) as (λ b. nat_lt m n ≡ b → (n < m) ⊎ ((n ≡ m) ⊎ (m < n))) [
    | true ↦ λ over. inr (inr (below m n over))
    | false ↦ λ under. inr (inl (level n m is under))
  ] refl
] refl
  where
    level : (n m : ℕ) → nat_lt n m ≡ false → nat_lt m n ≡ false → n ≡ m
    level n m first second = grind (arith, nat_tests)

from_on : (m n : ℕ) → (m ≡ n) ⊎ (n < m) → n ≤ m
from_on m n (inl e) = omega (arith, e)
from_on m n (inr h) = omega (arith, h)

up_to : (m fd : ℕ) → nat_lt m (fd + 1) ≡ true → fd < m → ⊥
up_to m fd is more = grind (arith, nat_tests)

pub fewer : (n fd : ℕ) → n ≤ fd → fd < 256 → 256 - (fd + 1) < 256 - n
fewer n fd on range = omega (arith, on, range)

abbrev pub TableTo : Pairs → Books → RealPid → Descriptors → Descriptors → ℕ → Type 0
TableTo ids b r before seen n =
    (ks : Descriptors) (left : RealSlot → Bool) → AreFilled ids b left ks before
    → AreFilled ids b (left_from r left n) ks seen

module _ (ids : Pairs) (b : Books) (r : RealPid) where
  refilled : (left left' : RealSlot → Bool) (ks seen : Descriptors) → AreFilled ids b left ks seen
      → IsFilled (from_slot ids.virts) b.descriptors left' ks seen → AreFilled ids b left' ks seen
  refilled left left' ks seen so_far filled = record {
    inverse = so_far.inverse;
    same = so_far.same;
    filled = filled;
  }

  pub table_begun : (before : Descriptors) → TableTo ids b r before before 0
  table_begun before ks left so_far =
      refilled left (left_from r left 0) ks before so_far
      (filled_past slot_total slot_exact (from_slot ids.virts) b.descriptors ks left (left_from r left 0)
      before
      (λ at k d is leads behind.
      elim (not_own (left at) (eq_by_cmp real_pid_cmp at.pid r) (nat_lt at.fd 0) behind) [
        | inl e ↦ e
        | inr e ↦ absurd (none_below at.fd e.1)
      ]) so_far.filled)

  own_slot : (at : RealSlot) → eq_by_cmp real_pid_cmp at.pid r ≡ true → at ≡ slots.slot r at.fd
  own_slot at is = ap (λ p. slots.slot p at.fd) (same_key real_pid_total real_pid_exact at.pid r is)

  not_there : (at : RealSlot) (d : Descriptor) → map.get b.descriptors at ≡ Some d
      → eq_by_cmp real_pid_cmp at.pid r ≡ true → map.get b.descriptors (slots.slot r at.fd) ≡ None → ⊥
  not_there at d is own none =
      none-some d (sym none ∙ sym (ap (map.get b.descriptors) (own_slot at own)) ∙ is)

  pub table_done : (before seen : Descriptors) (n : ℕ) → NoneOpen b.descriptors r n
      → TableTo ids b r before seen n
      → (ks : Descriptors) (left : RealSlot → Bool) → AreFilled ids b left ks before
      → AreFilled ids b (left_but r left) ks seen
  table_done before seen n none table ks left so_far =
      let now = table ks left so_far in
      refilled (left_from r left n) (left_but r left) ks seen now
      (filled_past slot_total slot_exact (from_slot ids.virts) b.descriptors ks (left_from r left n)
      (left_but r left) seen
      (λ at k d is leads behind.
      one_of (left at) (eq_by_cmp real_pid_cmp at.pid r) (nat_lt at.fd n)
      (elim (passed_by (left at) (eq_by_cmp real_pid_cmp at.pid r) behind) [
        | inl e ↦ inl e
        | inr own ↦ inr (
          own,
          elim (by_number at.fd n) [
            | inl less ↦ is_below at.fd n less
            | inr more ↦ absurd (not_there at d is own (none at.fd (from_on at.fd n more)))
          ],
        )
      ])) now.filled)

  pub table_unpaired : map.get ids.virts r ≡ None → (ks seen : Descriptors) (left : RealSlot → Bool)
      → AreFilled ids b left ks seen → AreFilled ids b (left_but r left) ks seen
  table_unpaired none ks seen left so_far =
      refilled left (left_but r left) ks seen so_far
      (filled_past slot_total slot_exact (from_slot ids.virts) b.descriptors ks left (left_but r left) seen
      (λ at k d is leads behind.
      elim (passed_by (left at) (eq_by_cmp real_pid_cmp at.pid r) behind) [
        | inl e ↦ e
        | inr own ↦ absurd (none-some k (sym (ap (option_map (λ p. slot p at.fd)) (ap (option_map pid)
            (ap (map.get ids.virts) (same_key real_pid_total real_pid_exact at.pid r own) ∙ none))) ∙ leads))
      ]) so_far.filled)

  module _ (v : ℕ) (number : map.get ids.virts r ≡ Some v) where
    pub table_on : (before seen : Descriptors) (n fd : ℕ) → IsLowestOpen b.descriptors r n fd
        → TableTo ids b r before seen n
        → TableTo ids b r before
        (with_descriptor (pid v) fd (map.get b.descriptors (slots.slot r fd)) seen) (fd + 1)
    table_on before seen n fd lowest table ks left so_far =
        let now = table ks left so_far in
        let d = some_value (map.get b.descriptors (slots.slot r fd)) lowest.open_there in
        let there = at_slot ids.pids ids.virts b.descriptors ks now.same (pid v) r
        (now.inverse.leads_there v r number) fd ∙ d.1 in
        subst (AreFilled ids b (left_from r left (fd + 1)) ks)
        (sym (ap (λ o. with_descriptor (pid v) fd o seen) d.1))
        (record {
          inverse = now.inverse;
          same = now.same;
          filled = filled_on slot_total slot_exact (from_slot ids.virts) b.descriptors ks (left_from r left n)
              (left_from r left (fd + 1)) seen (slots.slot r fd) (slot (pid v) fd) d.0
              (ap (λ o. option_map (λ p. slot p fd) (option_map pid o)) number) there
              (λ at e is behind. before_it at e is
              (not_own (left at) (eq_by_cmp real_pid_cmp at.pid r) (nat_lt at.fd (fd + 1)) behind))
              now.filled;
        })
      where
        before_it : (at : RealSlot) (e : Descriptor) → map.get b.descriptors at ≡ Some e
            → (left at ≡ false) ⊎ ((eq_by_cmp real_pid_cmp at.pid r ≡ true) × (nat_lt at.fd (fd + 1) ≡ true))
            → (at ≡ slots.slot r fd) ⊎ (left_from r left n at ≡ false)
        before_it at e is (inl gone) =
            inr (one_of (left at) (eq_by_cmp real_pid_cmp at.pid r) (nat_lt at.fd n) (inl gone))
        before_it at e is (inr own) = elim (by_number at.fd n) [
          | inl less ↦ inr (one_of (left at) (eq_by_cmp real_pid_cmp at.pid r) (nat_lt at.fd n)
              (inr (own.0, is_below at.fd n less)))
          | inr more ↦ elim (by_number at.fd fd) [
            | inl less ↦ absurd (not_there at e is own.0 (lowest.lowest at.fd (from_on at.fd n more) less))
            | inr rest ↦ elim rest [
              | inl level ↦ inl (own_slot at own.0 ∙ ap (slots.slot r) level)
              | inr over ↦ absurd (up_to at.fd fd own.1 over)
            ]
          ]
        ]

-- of all processes

abbrev pub DescriptorsTo : Pairs → ProcTable → Books → Descriptors → Option RealPid → Type 0
DescriptorsTo ids t b seen above =
    (ks : Descriptors) → StandForDescriptors ids t b ks
    → IsFilled (from_slot ids.virts) b.descriptors (λ at. is_above above at.pid) ks seen

pub descriptors_begun : (ids : Pairs) (t : ProcTable) (b : Books) → DescriptorsTo ids t b map.empty None
descriptors_begun ids t b ks stand =
    filled_none slot_total slot_exact (from_slot ids.virts) b.descriptors ks (λ at. is_above None at.pid)
    (λ l. refl)

live_there : (processes : RealProcesses) (r : RealPid) → is_live_at processes r ≡ true
    → (x : real_process.Process) × (map.get processes r ≡ Some x)
live_there processes r live = by_found (map.get processes r) live
  where
    by_found : (found : Option real_process.Process) → option_map_or is_live found false ≡ true
        → (x : real_process.Process) × (found ≡ Some x)
    by_found None is = true_false (sym is)
    by_found (Some x) is = (x, refl)

module _ (ids : Pairs) (t : ProcTable) (b : Books) (inverse : AreInverse ids.pids ids.virts)
    (seen : Descriptors) (above : Option RealPid) where
  pub descriptors_on : (r : RealPid) (seen' : Descriptors)
      → find (is_above above) (map.keys t.processes) ≡ Some r
      → ((ks : Descriptors) (left : RealSlot → Bool) → AreFilled ids b left ks seen
      → AreFilled ids b (left_but r left) ks seen')
      → DescriptorsTo ids t b seen above → DescriptorsTo ids t b seen' (Some r)
  descriptors_on r seen' next added so_far ks stand =
      let now = added ks (λ at. is_above above at.pid)
      (record { inverse = inverse; same = stand.same; filled = so_far ks stand }) in
      filled_past slot_total slot_exact (from_slot ids.virts) b.descriptors ks
      (left_but r (λ at. is_above above at.pid)) (λ at. is_above (Some r) at.pid) seen'
      (λ at k d is leads behind.
      let x = live_there t.processes at.pid (stand.alive at d is) in
      either_is (is_above above at.pid) (eq_by_cmp real_pid_cmp at.pid r)
      (elim (walked real_pid_total real_pid_exact t.processes is_above (λ k. refl) (λ a k. refl) above r
      at.pid x.0 next x.1 behind) [
        | inl same ↦
            inr (ap (λ p. eq_by_cmp real_pid_cmp p r) same ∙ key_tied real_pid_total real_pid_exact r)
        | inr passed ↦ inl passed
      ]))
      now.filled

  pub descriptors_done : find (is_above above) (map.keys t.processes) ≡ None
      → DescriptorsTo ids t b seen above
      → (ks : Descriptors) → StandForDescriptors ids t b ks → seen ≡ ks
  descriptors_done none so_far ks stand =
      filled_seen slot_total slot_exact real_slot_total real_slot_exact (to_slot ids.pids)
      (from_slot ids.virts) (lead_slot ids.pids ids.virts inverse) IsSame ks b.descriptors stand.same
      (λ at. is_above above at.pid) seen
      (λ at d is.
      let x = live_there t.processes at.pid (stand.alive at d is) in
      none_left real_pid_total real_pid_exact t.processes is_above (λ k. refl) (λ a k. refl) above at.pid x.0
      none x.1)
      (so_far ks stand)
