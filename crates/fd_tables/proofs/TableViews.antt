-- The trees of tables, seen as the descriptors of all processes.
use Rattle.std.proofs.Common.{◌≡◌, ◌≢◌, ℕ, Bool, true, false, cond, List, [], refl, sym, ap, subst, ◌∙◌, arith, inl, inr}
use Rattle.std.specs.Prelude.{Option, Some, None, is_none, IsSome, option_and_then}
use Rattle.std.specs.Bool.{OnTrue, OnFalse}
use Rattle.std.specs.Ordering.{eq_by_cmp}
use Rattle.std.specs.FinMap as map
use Rattle.std.specs.FinMap.{FinMap}
use Rattle.std.specs.BTreeMap as tree
use Rattle.std.specs.BTreeMap.{BTreeMap}
use Rattle.sys_abi.proofs.OfViews.TreeMaps.{view, get-view, entries-empty}
use Rattle.sys_abi.proofs.OfViews.MapLaws.{true_false, get_inserted, get_beside_inserted, remove_absent, get_removed, get_beside_removed, same_or_other}
use Rattle.sys_abi.specs.declared.identity.RealPid.{RealPid}
use Rattle.fd_tables.specs.declared.real_slot.RealSlot.{RealSlot}
use Rattle.sys_abi.specs.declared.descriptor.Descriptor.{Descriptor}
use Rattle.fd_tables.specs.Orders.{real_slot_cmp}
use Rattle.fd_tables.specs.Slots.{slot}
use Rattle.fd_tables.specs.Numbers.{NoneOpen}
use Rattle.fd_tables.specs.Tables.{at_place, all_entries, descriptors_of}
use Rattle.fd_tables.proofs.OrderLaws.{real_slot_total, real_slot_exact}
use Rattle.fd_tables.proofs.TableLaws.{get-descriptors_of, get-after_set, as_insert, as_remove}
use Rattle.sys_abi.specs.Orders.{real_pid_cmp}
use Rattle.sys_abi.proofs.OrderLaws.{real_pid_total, real_pid_exact}

abbrev pub Trees : Type 0
Trees = BTreeMap RealPid (List (Option Descriptor))

abbrev pub seen : Trees → FinMap real_slot_cmp Descriptor
seen m = descriptors_of (view real_pid_cmp m)

-- what a tree's look-up found, at a place
pub seen_at : (m : Trees) (now : FinMap real_slot_cmp Descriptor) (p : RealPid) (fd : ℕ) (found : Option (List (Option Descriptor)))
    → found ≡ tree.get real_pid_cmp m p → seen m ≡ now → map.get now (slot p fd) ≡ option_and_then (λ places. at_place places fd) found
seen_at m now p fd found is same =
    ap (λ w. map.get w (slot p fd)) (sym same) ∙ get-descriptors_of (view real_pid_cmp m) p fd
    ∙ ap (λ f. option_and_then (λ places. at_place places fd) f) (get-view real_pid_total m p ∙ sym is)

pub seen_empty : (m : Trees) → m.entries ≡ [] → seen m ≡ map.empty
unfolding descriptors_of
seen_empty m is =
    ap (λ es. map.from_entries (all_entries (map.entries (map.from_entries {R = real_pid_cmp} es)))) is
    ∙ ap (λ es. map.from_entries (all_entries es)) (entries-empty real_pid_cmp (List (Option Descriptor)))

abbrev pub IsTold : FinMap real_slot_cmp Descriptor → FinMap real_slot_cmp Descriptor → RealSlot → Option Descriptor → Type 0
IsTold m n at place = (q : RealSlot) → map.get n q ≡ cond (eq_by_cmp real_slot_cmp q at) place (map.get m q)

-- a table that is there, with another place
pub set_told : (m n : Trees) (p : RealPid) (fd : ℕ) (place : Option Descriptor) (before places : List (Option Descriptor))
    → view real_pid_cmp n ≡ map.insert (view real_pid_cmp m) p places → Some before ≡ tree.get real_pid_cmp m p → at_place places fd ≡ place
    → ((k : ℕ) → k ≢ fd → at_place places k ≡ at_place before k) → IsTold (seen m) (seen n) (slot p fd) place
set_told m n p fd place before places is there here others =
    get-after_set (view real_pid_cmp m) (view real_pid_cmp n) p fd place places
    (get_inserted real_pid_total real_pid_exact _ _ p places is)
    (λ q differ. get_beside_inserted real_pid_total real_pid_exact _ _ p places q is differ)
    here
    (λ k differ. others k differ ∙ ap (λ found. option_and_then (λ s. at_place s k) found) (there ∙ sym (get-view real_pid_total m p)))

-- a table that is new, with one descriptor
pub new_told : (m n : Trees) (p : RealPid) (fd : ℕ) (d : Descriptor) (places : List (Option Descriptor))
    → view real_pid_cmp n ≡ map.insert (view real_pid_cmp m) p places → ((k : ℕ) → map.get (seen m) (slot p k) ≡ None) → at_place places fd ≡ Some d
    → ((k : ℕ) → k ≢ fd → at_place places k ≡ None) → IsTold (seen m) (seen n) (slot p fd) (Some d)
new_told m n p fd d places is no_table here others =
    get-after_set (view real_pid_cmp m) (view real_pid_cmp n) p fd (Some d) places
    (get_inserted real_pid_total real_pid_exact _ _ p places is)
    (λ q differ. get_beside_inserted real_pid_total real_pid_exact _ _ p places q is differ)
    here
    (λ k differ. others k differ ∙ sym (no_table k) ∙ get-descriptors_of (view real_pid_cmp m) p k)

pub told_insert : (m n now : FinMap real_slot_cmp Descriptor) (at : RealSlot) (d : Descriptor) → IsTold m n at (Some d) → m ≡ now → n ≡ map.insert now at d
told_insert m n now at d told same = as_insert m n at d told ∙ ap (λ w. map.insert w at d) same

pub told_remove : (m n now : FinMap real_slot_cmp Descriptor) (at : RealSlot) → IsTold m n at None → m ≡ now → n ≡ map.remove now at
told_remove m n now at told same = as_remove m n at told ∙ ap (λ w. map.remove w at) same

pub nothing_there : {A : Type 0} (found : Option A) → found ≡ None → IsSome found → ⊥
nothing_there None is there = true_false (sym there)
nothing_there (Some d) is there = true_false (ap is_none (sym is))

-- a descriptor that is there has a table
pub told_there : (b : Bool) (m n : FinMap real_slot_cmp Descriptor) (p : RealPid) (fd : ℕ) (place : Option Descriptor)
    → OnTrue b (IsTold m n (slot p fd) place) → OnFalse b ((k : ℕ) → map.get m (slot p k) ≡ None) → IsSome (map.get m (slot p fd)) → IsTold m n (slot p fd) place
told_there true m n p fd place told absent there = told
told_there false m n p fd place told absent there = absurd (nothing_there (map.get m (slot p fd)) (absent fd) there)

pub entries_seen : (m n : Trees) (now : FinMap real_slot_cmp Descriptor) → n.entries ≡ m.entries → seen m ≡ now → seen n ≡ now
entries_seen m n now same is = ap (λ es. descriptors_of (map.from_entries es)) same ∙ is

-- without a table nothing is there to be taken out
pub told_remove_any : (b : Bool) (m n : Trees) (now : FinMap real_slot_cmp Descriptor) (p : RealPid) (fd : ℕ)
    → OnTrue b (IsTold (seen m) (seen n) (slot p fd) None) → OnFalse b (n.entries ≡ m.entries) → OnFalse b ((k : ℕ) → map.get (seen m) (slot p k) ≡ None)
    → seen m ≡ now → seen n ≡ map.remove now (slot p fd)
told_remove_any true m n now p fd told same absent is = told_remove (seen m) (seen n) now (slot p fd) told is
told_remove_any false m n now p fd told same absent is =
    entries_seen m n (seen m) same refl ∙ sym (remove_absent real_slot_total real_slot_exact (seen m) (slot p fd) (absent fd)) ∙ ap (λ w. map.remove w (slot p fd)) is

pub put_over : (b : Bool) (m n : Trees) (now : FinMap real_slot_cmp Descriptor) (p : RealPid) (fd : ℕ) (d : Descriptor)
    → OnTrue b (IsTold (seen m) (seen n) (slot p fd) (Some d)) → OnFalse b ((k : ℕ) → map.get (seen m) (slot p k) ≡ None)
    → seen m ≡ now → IsSome (map.get now (slot p fd)) → seen n ≡ map.insert now (slot p fd) d
put_over b m n now p fd d told absent is there =
    told_insert (seen m) (seen n) now (slot p fd) d
    (told_there b (seen m) (seen n) p fd (Some d) told absent (subst (λ w. IsSome (map.get w (slot p fd))) (sym is) there)) is

pub put_new : (m left n : Trees) (now : FinMap real_slot_cmp Descriptor) (p : RealPid) (fd : ℕ) (d : Descriptor) (places empty : List (Option Descriptor))
    → left.entries ≡ m.entries → ((k : ℕ) → map.get (seen m) (slot p k) ≡ None) → seen m ≡ now
    → view real_pid_cmp n ≡ map.insert (view real_pid_cmp left) p places → at_place places fd ≡ Some d
    → ((k : ℕ) → k ≢ fd → at_place places k ≡ at_place empty k) → ((k : ℕ) → at_place empty k ≡ None) → seen n ≡ map.insert now (slot p fd) d
put_new m left n now p fd d places empty same absent is inserted here others none =
    let same_seen = entries_seen m left (seen m) same refl in
    told_insert (seen left) (seen n) now (slot p fd) d
    (new_told left n p fd d places inserted (λ k. ap (λ w. map.get w (slot p k)) same_seen ∙ absent k) here (λ k differ. others k differ ∙ none k))
    (same_seen ∙ is)

-- a child's table is a copy of the parent's
pub copied_same : (m n : Trees) (now : FinMap real_slot_cmp Descriptor) (p child : RealPid) (copy places : List (Option Descriptor))
    → view real_pid_cmp n ≡ map.insert (view real_pid_cmp m) child copy → copy ≡ places → Some places ≡ tree.get real_pid_cmp m p → seen m ≡ now
    → (fd : ℕ) → map.get (seen n) (slot child fd) ≡ map.get now (slot p fd)
copied_same m n now p child copy places inserted same there is fd =
    get-descriptors_of (view real_pid_cmp n) child fd
    ∙ ap (λ found. option_and_then (λ s. at_place s fd) found) (get_inserted real_pid_total real_pid_exact _ _ child copy inserted ∙ ap Some same)
    ∙ sym (seen_at m now p fd (Some places) there is)

pub copied_others : (m n : Trees) (now : FinMap real_slot_cmp Descriptor) (child : RealPid) (copy : List (Option Descriptor))
    → view real_pid_cmp n ≡ map.insert (view real_pid_cmp m) child copy → seen m ≡ now
    → (q : RealSlot) → q.pid ≢ child → map.get (seen n) q ≡ map.get now q
copied_others m n now child copy inserted is q differ =
    get-descriptors_of (view real_pid_cmp n) q.pid q.fd
    ∙ ap (λ found. option_and_then (λ s. at_place s q.fd) found) (get_beside_inserted real_pid_total real_pid_exact _ _ child copy q.pid inserted differ)
    ∙ sym (get-descriptors_of (view real_pid_cmp m) q.pid q.fd) ∙ ap (λ w. map.get w q) is

-- an empty table is as none
pub dropped_same : (m n : Trees) (now : FinMap real_slot_cmp Descriptor) (p : RealPid)
    → view real_pid_cmp n ≡ map.remove (view real_pid_cmp m) p → seen m ≡ now → NoneOpen now p 0 → seen n ≡ now
dropped_same m n now p removed is none = map.same_map real_slot_total real_slot_exact (seen n) now (λ q.
    get-descriptors_of (view real_pid_cmp n) q.pid q.fd
    ∙ elim (same_or_other real_pid_total real_pid_exact q.pid p) as (λ _. option_and_then (λ s. at_place s q.fd) (map.get (view real_pid_cmp n) q.pid) ≡ map.get now q) [
      | inl same ↦
          ap (λ k. option_and_then (λ s. at_place s q.fd) (map.get (view real_pid_cmp n) k)) same
          ∙ ap (λ found. option_and_then (λ s. at_place s q.fd) found) (get_removed real_pid_total real_pid_exact _ _ p removed)
          ∙ sym (ap (λ k. map.get now (slot k q.fd)) same ∙ none q.fd (omega arith))
      | inr differ ↦
          ap (λ found. option_and_then (λ s. at_place s q.fd) found) (get_beside_removed real_pid_total real_pid_exact _ _ p q.pid removed differ)
          ∙ sym (get-descriptors_of (view real_pid_cmp m) q.pid q.fd) ∙ ap (λ w. map.get w q) is
    ])
