-- A look-up among the descriptors of all processes is one at a place of the process's table, and what a change of one place does to them.
use Rattle.std.proofs.Common.{◌≡◌, ◌≢◌, ◌<◌, ◌+◌, ℕ, zero, suc, Ordering, true, false, cond, T, List, [], ◌∷◌, ◌++◌, refl, sym, ap, subst, ◌∙◌, arith, inl, inr, zero-add}
use Rattle.std.specs.Prelude.{Option, Some, None, option_and_then}
use Rattle.std.specs.Option.{option_or}
use Rattle.std.specs.Ordering.{eq_by_cmp}
use Rattle.std.specs.FinMap as map
use Rattle.std.specs.FinMap.{FinMap, find, is_sorted}
use Rattle.std.specs.FinMap.Entries.{below_all}
use Rattle.sys_abi.proofs.OfViews.MapLaws.{key_tied, other_key, same_or_other}
use Rattle.sys_abi.specs.declared.identity.RealPid.{RealPid}
use Rattle.fd_tables.specs.declared.real_slot.RealSlot.{RealSlot}
use Rattle.sys_abi.specs.declared.descriptor.Descriptor.{Descriptor}
use Rattle.fd_tables.specs.Orders.{real_slot_cmp}
use Rattle.fd_tables.specs.Slots.{slot}
use Rattle.fd_tables.specs.Tables.{at_place, entries_from, all_entries, descriptors_of}
use Rattle.fd_tables.proofs.OrderLaws.{real_slot_total, real_slot_exact}
use Rattle.fd_tables.proofs.Places.{past_places}
use Rattle.sys_abi.proofs.OfViews.MapValues.{find_below}
use Rattle.sys_abi.proofs.OfViews.Passes.{first, second}
use Rattle.sys_abi.specs.Orders.{real_pid_cmp}
use Rattle.sys_abi.proofs.OrderLaws.{real_pid_total, real_pid_exact}

or_none : {X : Type 0} (x : Option X) → option_or x None ≡ x
or_none None = refl
or_none (Some v) = refl

module _ {K X : Type 0} (R : K → K → Ordering) where
  find-append : (q : K) (es fs : List (K × X)) → find R q (es ++ fs) ≡ option_or (find R q es) (find R q fs)
  find-append q [] fs = refl
  find-append q (e ∷ es) fs = elim (eq_by_cmp R q e.0) as (λ b. cond b (Some e.1) (find R q (es ++ fs)) ≡ option_or (cond b (Some e.1) (find R q es)) (find R q fs)) [
    | true ↦ refl
    | false ↦ find-append q es fs
  ]

-- the head is not the one that is sought
passed : (q at : RealSlot) (d : Descriptor) (es : List (RealSlot × Descriptor)) (found : Option Descriptor) → q ≢ at → find real_slot_cmp q es ≡ found → find real_slot_cmp q ((at, d) ∷ es) ≡ found
passed q at d es found differ is = ap (λ b. cond b (Some d) (find real_slot_cmp q es)) (other_key real_slot_total real_slot_exact q at differ) ∙ is

find-other_process : (q : RealSlot) (p : RealPid) (fd : ℕ) (places : List (Option Descriptor)) → q.pid ≢ p → find real_slot_cmp q (entries_from p fd places) ≡ None
find-other_process q p fd [] differ = refl
find-other_process q p fd (None ∷ places) differ = find-other_process q p (fd + 1) places differ
find-other_process q p fd (Some d ∷ places) differ =
    passed q (slot p fd) d (entries_from p (fd + 1) places) None (λ same. differ (ap (λ at. at.pid) same)) (find-other_process q p (fd + 1) places differ)

find-lower : (p : RealPid) (number fd : ℕ) (places : List (Option Descriptor)) → number < fd → find real_slot_cmp (slot p number) (entries_from p fd places) ≡ None
find-lower p number fd [] lower = refl
find-lower p number fd (None ∷ places) lower = find-lower p number (fd + 1) places (omega arith)
find-lower p number fd (Some d ∷ places) lower =
    passed (slot p number) (slot p fd) d (entries_from p (fd + 1) places) None (λ same. let e : number ≡ fd = ap (λ at. at.fd) same in absurd (omega arith)) (find-lower p number (fd + 1) places (omega arith))

find-place : (p : RealPid) (fd k : ℕ) (places : List (Option Descriptor)) → find real_slot_cmp (slot p (fd + k)) (entries_from p fd places) ≡ at_place places k
find-place p fd k [] = sym (past_places [] k (omega arith))
find-place p fd zero (None ∷ places) = find-lower p (fd + 0) (fd + 1) places (omega arith)
find-place p fd (suc k) (None ∷ places) =
    let later : fd + suc k ≡ fd + 1 + k = omega arith in
    ap (λ n. find real_slot_cmp (slot p n) (entries_from p (fd + 1) places)) later ∙ find-place p (fd + 1) k places
find-place p fd zero (Some d ∷ places) =
    let here : fd + 0 ≡ fd = omega arith in
    ap (λ b. cond b (Some d) (find real_slot_cmp (slot p (fd + 0)) (entries_from p (fd + 1) places)))
    (ap (λ n. eq_by_cmp real_slot_cmp (slot p n) (slot p fd)) here ∙ key_tied real_slot_total real_slot_exact (slot p fd))
find-place p fd (suc k) (Some d ∷ places) =
    let later : fd + suc k ≡ fd + 1 + k = omega arith in
    passed (slot p (fd + suc k)) (slot p fd) d (entries_from p (fd + 1) places) _ (λ same. let e : fd + suc k ≡ fd = ap (λ at. at.fd) same in absurd (omega arith))
    (ap (λ n. find real_slot_cmp (slot p n) (entries_from p (fd + 1) places)) later ∙ find-place p (fd + 1) k places)

find-own : (p : RealPid) (k : ℕ) (places : List (Option Descriptor)) → find real_slot_cmp (slot p k) (entries_from p 0 places) ≡ at_place places k
find-own p k places = ap (λ n. find real_slot_cmp (slot p n) (entries_from p 0 places)) (sym (zero-add k)) ∙ find-place p 0 k places

find-all_entries : (p : RealPid) (fd : ℕ) (es : List (RealPid × List (Option Descriptor))) → T (is_sorted real_pid_cmp es)
    → find real_slot_cmp (slot p fd) (all_entries es) ≡ option_and_then (λ places. at_place places fd) (find real_pid_cmp p es)
find-all_entries p fd [] sorted = refl
find-all_entries p fd (e ∷ es) sorted =
    let rest = find-all_entries p fd es (second _ _ sorted) in
    find-append real_slot_cmp (slot p fd) (entries_from e.0 0 e.1) (all_entries es)
    ∙ elim (same_or_other real_pid_total real_pid_exact p e.0) [
      | inl same ↦
          let no_more : find real_pid_cmp p es ≡ None = find_below real_pid_cmp p es (subst (λ k. T (below_all real_pid_cmp k es)) (sym same) (first _ _ sorted)) in
          let tied : eq_by_cmp real_pid_cmp p e.0 ≡ true = ap (λ k. eq_by_cmp real_pid_cmp p k) (sym same) ∙ key_tied real_pid_total real_pid_exact p in
          ap (λ k. option_or (find real_slot_cmp (slot p fd) (entries_from k 0 e.1)) (find real_slot_cmp (slot p fd) (all_entries es))) (sym same)
          ∙ (λ i. option_or (find-own p fd e.1 i) ((rest ∙ ap (λ found. option_and_then (λ places. at_place places fd) found) no_more) i))
          ∙ or_none (at_place e.1 fd)
          ∙ ap (λ b. option_and_then (λ places. at_place places fd) (cond b (Some e.1) (find real_pid_cmp p es))) (sym tied)
      | inr other ↦
          ap (λ found. option_or found (find real_slot_cmp (slot p fd) (all_entries es))) (find-other_process (slot p fd) e.0 0 e.1 other)
          ∙ rest
          ∙ ap (λ b. option_and_then (λ places. at_place places fd) (cond b (Some e.1) (find real_pid_cmp p es))) (sym (other_key real_pid_total real_pid_exact p e.0 other))
    ]

pub get-descriptors_of : (m : FinMap real_pid_cmp (List (Option Descriptor))) (p : RealPid) (fd : ℕ)
    → map.get (descriptors_of m) (slot p fd) ≡ option_and_then (λ places. at_place places fd) (map.get m p)
unfolding descriptors_of
get-descriptors_of m p fd =
    map.get-from_entries real_slot_total (all_entries (map.entries m)) (slot p fd)
    ∙ find-all_entries p fd (map.entries m) (map.entries_sorted m)
    ∙ ap (λ found. option_and_then (λ places. at_place places fd) found) (sym (map.get-entries m p))

-- one place of one table is another
pub get-after_set : (m n : FinMap real_pid_cmp (List (Option Descriptor))) (p : RealPid) (fd : ℕ) (place : Option Descriptor) (places : List (Option Descriptor))
    → map.get n p ≡ Some places → ((q : RealPid) → q ≢ p → map.get n q ≡ map.get m q) → at_place places fd ≡ place
    → ((k : ℕ) → k ≢ fd → at_place places k ≡ option_and_then (λ before. at_place before k) (map.get m p))
    → (q : RealSlot) → map.get (descriptors_of n) q ≡ cond (eq_by_cmp real_slot_cmp q (slot p fd)) place (map.get (descriptors_of m) q)
get-after_set m n p fd place places there others here same_places q =
    elim (same_or_other real_slot_total real_slot_exact q (slot p fd)) [
      | inl same ↦
          ap (map.get (descriptors_of n)) same ∙ get-descriptors_of n p fd ∙ ap (λ found. option_and_then (λ s. at_place s fd) found) there ∙ here
          ∙ ap (λ b. cond b place (map.get (descriptors_of m) q)) (sym (ap (λ k. eq_by_cmp real_slot_cmp k (slot p fd)) same ∙ key_tied real_slot_total real_slot_exact (slot p fd)))
      | inr other ↦
          elim (same_or_other real_pid_total real_pid_exact q.pid p) as (λ _. map.get (descriptors_of n) q ≡ map.get (descriptors_of m) q) [
            | inl same ↦
                let apart : q.fd ≢ fd = λ e. other (λ i. slot (same i) (e i)) in
                get-descriptors_of n q.pid q.fd ∙ ap (λ k. option_and_then (λ s. at_place s q.fd) (map.get n k)) same
                ∙ ap (λ found. option_and_then (λ s. at_place s q.fd) found) there ∙ same_places q.fd apart
                ∙ ap (λ k. option_and_then (λ s. at_place s q.fd) (map.get m k)) (sym same) ∙ sym (get-descriptors_of m q.pid q.fd)
            | inr apart ↦
                get-descriptors_of n q.pid q.fd ∙ ap (λ found. option_and_then (λ s. at_place s q.fd) found) (others q.pid apart) ∙ sym (get-descriptors_of m q.pid q.fd)
          ] ∙ ap (λ b. cond b place (map.get (descriptors_of m) q)) (sym (other_key real_slot_total real_slot_exact q (slot p fd) other))
    ]

-- such look-ups are those after an insert or a removal
pub as_insert : (m n : FinMap real_slot_cmp Descriptor) (at : RealSlot) (d : Descriptor) → ((q : RealSlot) → map.get n q ≡ cond (eq_by_cmp real_slot_cmp q at) (Some d) (map.get m q)) → n ≡ map.insert m at d
as_insert m n at d told = map.same_map real_slot_total real_slot_exact n (map.insert m at d) (λ q. told q ∙ sym (map.get-insert real_slot_total m at d q))

pub as_remove : (m n : FinMap real_slot_cmp Descriptor) (at : RealSlot) → ((q : RealSlot) → map.get n q ≡ cond (eq_by_cmp real_slot_cmp q at) None (map.get m q)) → n ≡ map.remove m at
as_remove m n at told = map.same_map real_slot_total real_slot_exact n (map.remove m at) (λ q. told q ∙ sym (map.get-remove real_slot_total m at q))
