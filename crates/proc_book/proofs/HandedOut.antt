-- Each number in the map of processes was handed out, and stays so.
--     Shrinks m n      each process of n is one of m, with no thread more
use Rattle.std.proofs.Common.{◌≡◌, ℕ, ◌+◌, ◌<◌, ◌≤◌, Bool, true, false, not, cond, List, length, refl, sym, ap, subst, ◌∙◌, inl, inr, arith}
use Rattle.std.specs.Prelude.{◌⊎◌, Option, Some, None, is_some, slice_index, slice_set, if◌then◌else◌}
use Rattle.std.specs.Option.{option_map, option_map_or}
use Rattle.std.specs.Ordering.{nat_cmp}
use Rattle.std.specs.Cmp.{nat_cmp_total}
use Rattle.std.specs.FinMap as map
use Rattle.std.specs.FinMap.{FinMap, nat_cmp-IsAntisymmetric}
use Rattle.std.proofs.lemmas.List.{get_or-set_same, get_or-set_other}
use Rattle.std.proofs.lemmas.Option.{same_Some, none-some}
use Rattle.views.specs.Maps.{map_values, retain, option_filter}
use Rattle.views.proofs.MapLaws.{true_false, same_or_other, get_insert_same, get_insert_other, get_remove_same, get_remove_other}
use Rattle.views.proofs.MapValues.{get-map_values, get-retained}
use Rattle.virt_ids.specs.OfSysAbi.declared.identity.RealPid.{RealPid}
use Rattle.proc_book.specs.declared.process.Process.{Process}
use Rattle.virt_ids.specs.OfSysAbi.declared.signals.TheConstants.{SIGCHLD}
use Rattle.virt_ids.specs.OfSysAbi.Orders.{real_pid_cmp}
use Rattle.virt_ids.specs.Changes.{at_key}
use Rattle.virt_ids.specs.OfSysAbi.Signals.{has_signal}
use Rattle.proc_book.specs.Processes.{newborn, is_live, is_child_of, signals_of, raised, after_take, zombie}
use Rattle.proc_book.specs.Ends.{Processes, orphan, is_zombie_child, orphaned, is_live_at, left_by, ended_by, after_end}
use Rattle.proc_book.specs.Procs.{real, with_thread, without_thread, IsBelow, IsUnused, AllHandedOut, after_wait}
use Rattle.proc_book.specs.declared.waiting.Waiting.{Waiting}
use Rattle.proc_book.specs.declared.waiting.Waiting.TheVariants.{NoChild, NotReady, Ended}
use Rattle.virt_ids.proofs.OfSysAbi.OrderLaws.{real_pid_total, real_pid_exact}

-- q has no thread that p has not
abbrev pub HasFewer : Process → Process → Type 0
HasFewer p q = (t : ℕ) → is_some (map.get q.threads t) ≡ true → is_some (map.get p.threads t) ≡ true

pub record Older (m : Processes) (r : RealPid) (q : Process) : Type 0 where
  pub process : Process
  pub was : map.get m r ≡ Some process
  pub threads : HasFewer process q

abbrev pub Shrinks : Processes → Processes → Type 0
Shrinks m n = (r : RealPid) (q : Process) → map.get n r ≡ Some q → Older m r q

pub shrinks-same : (m : Processes) → Shrinks m m
shrinks-same m r q is = record { process = q; was = is; threads = λ t there. there }

pub shrinks-then : (a b c : Processes) → Shrinks a b → Shrinks b c → Shrinks a c
shrinks-then a b c first second r q is =
    let later = second r q is in
    let earlier = first r later.process later.was in
    record { process = earlier.process; was = earlier.was; threads = λ t there. earlier.threads t (later.threads t there) }

pub shrinks-remove : (m : Processes) (k : RealPid) → Shrinks m (map.remove m k)
shrinks-remove m k r q is = elim (same_or_other real_pid_total real_pid_exact r k) [
  | inl same ↦ absurd (none-some q (sym (get_remove_same real_pid_total real_pid_exact m k) ∙ ap (map.get (map.remove m k)) (sym same) ∙ is))
  | inr differ ↦ shrinks-same m r q (sym (get_remove_other real_pid_total real_pid_exact m k r differ) ∙ is)
]

changed_by : (m : Processes) (k : RealPid) (f : Process → Process) (found : Option Process) → map.get m k ≡ found → ((p : Process) → HasFewer p (f p)) → Shrinks m (option_map_or (λ p. map.insert m k (f p)) found m)
changed_by m k f None is fewer r q at = shrinks-same m r q at
changed_by m k f (Some p) is fewer r q at = elim (same_or_other real_pid_total real_pid_exact r k) [
  | inl same ↦
      let value : f p ≡ q = same_Some (f p) q (sym (get_insert_same real_pid_total real_pid_exact m k (f p)) ∙ ap (map.get (map.insert m k (f p))) (sym same) ∙ at) in
      record { process = p; was = ap (map.get m) same ∙ is; threads = subst (HasFewer p) value (fewer p) }
  | inr differ ↦ shrinks-same m r q (sym (get_insert_other real_pid_total real_pid_exact m k (f p) r differ) ∙ at)
]

pub shrinks-at_key : (m : Processes) (k : RealPid) (f : Process → Process) → ((p : Process) → HasFewer p (f p)) → Shrinks m (at_key m k f)
shrinks-at_key m k f fewer = changed_by m k f (map.get m k) refl fewer

passed : (p : Process → Bool) (found : Option Process) (q : Process) → option_filter p found ≡ Some q → found ≡ Some q
passed p None q is = is
passed p (Some x) q is = elim (p x) as (λ b. cond b (Some x) None ≡ Some q → Some x ≡ Some q) [ true ↦ λ e. e | false ↦ λ e. absurd (none-some q e) ] is

pub shrinks-retain : (m : Processes) (p : Process → Bool) → Shrinks m (retain (λ r q. p q) m)
shrinks-retain m p r q is = shrinks-same m r q (passed p (map.get m r) q (sym (get-retained real_pid_total real_pid_exact (λ r q. p q) m r) ∙ is))

mapped_by : (m : Processes) (f : Process → Process) (r : RealPid) (q : Process) (found : Option Process) → ((p : Process) → HasFewer p (f p)) → map.get m r ≡ found → option_map f found ≡ Some q → Older m r q
mapped_by m f r q None fewer is at = absurd (none-some q at)
mapped_by m f r q (Some p) fewer is at = record { process = p; was = is; threads = subst (HasFewer p) (same_Some (f p) q at) (fewer p) }

pub shrinks-map_values : (m : Processes) (f : Process → Process) → ((p : Process) → HasFewer p (f p)) → Shrinks m (map_values f m)
shrinks-map_values m f fewer r q is = mapped_by m f r q (map.get m r) fewer refl (sym (get-map_values f m r) ∙ is)

-- the threads of a process after a change of one
same_keys_by : (m : FinMap nat_cmp ℕ) (k : ℕ) (f : ℕ → ℕ) (found : Option ℕ) → map.get m k ≡ found → (t : ℕ) → is_some (map.get (option_map_or (λ v. map.insert m k (f v)) found m) t) ≡ true → is_some (map.get m t) ≡ true
same_keys_by m k f None is t there = there
same_keys_by m k f (Some v) is t there = elim (same_or_other nat_cmp_total nat_cmp-IsAntisymmetric t k) [
  | inl same ↦ ap (λ q. is_some (map.get m q)) same ∙ ap is_some is
  | inr differ ↦ sym (ap is_some (get_insert_other nat_cmp_total nat_cmp-IsAntisymmetric m k (f v) t differ)) ∙ there
]

same_keys : (m : FinMap nat_cmp ℕ) (k : ℕ) (f : ℕ → ℕ) (t : ℕ) → is_some (map.get (at_key m k f) t) ≡ true → is_some (map.get m t) ≡ true
same_keys m k f = same_keys_by m k f (map.get m k) refl

pub fewer-raised : (t : Option ℕ) (s : ℕ) (p : Process) → HasFewer p (raised t s p)
fewer-raised None s p = λ t there. there
fewer-raised (Some t) s p = same_keys p.threads t _

pub fewer-zombie : (status : ℕ) (p : Process) → HasFewer p (zombie status p)
fewer-zombie status p t there = true_false (sym there ∙ ap is_some (map.get-empty nat_cmp t))

pub fewer-without_thread : (t : ℕ) (p : Process) → HasFewer p (without_thread t p)
fewer-without_thread t p u there = elim (same_or_other nat_cmp_total nat_cmp-IsAntisymmetric u t) [
  | inl same ↦ true_false (sym there ∙ ap (λ k. is_some (map.get (map.remove p.threads t) k)) same ∙ ap is_some (get_remove_same nat_cmp_total nat_cmp-IsAntisymmetric p.threads t))
  | inr differ ↦ sym (ap is_some (get_remove_other nat_cmp_total nat_cmp-IsAntisymmetric p.threads t u differ)) ∙ there
]

either_process : (b : Bool) (p x y : Process) → HasFewer p x → HasFewer p y → HasFewer p (if b then x else y)
either_process true p x y first second = first
either_process false p x y first second = second

pub fewer-after_take : (t s : ℕ) (p : Process) → HasFewer p (after_take t s p)
fewer-after_take t s p =
    either_process (has_signal (signals_of t p) s) p _ _ (same_keys p.threads t _)
    (either_process (has_signal p.pending s) p _ _ (λ u there. there) (λ u there. there))

fewer-orphan : (p : RealPid) (q : Process) → HasFewer q (orphan p q)
fewer-orphan p q = either_process (is_child_of p q) q _ _ (λ t there. there) (λ t there. there)

shrinks-orphaned : (p : RealPid) (m : Processes) → Shrinks m (orphaned p m)
shrinks-orphaned p m =
    let kept = retain (λ r process. not (is_zombie_child p process)) m in
    shrinks-then m kept (orphaned p m) (shrinks-retain m (λ process. not (is_zombie_child p process))) (shrinks-map_values kept (orphan p) (fewer-orphan p))

either_map : (b : Bool) (m x y : Processes) → Shrinks m x → Shrinks m y → Shrinks m (if b then x else y)
either_map true m x y first second = first
either_map false m x y first second = second

shrinks-left_by : (p : RealPid) (status : ℕ) (parent : Option RealPid) (m : Processes) → Shrinks m (left_by p status parent m)
shrinks-left_by p status None m = shrinks-remove m p
shrinks-left_by p status (Some parent) m =
    let told = at_key m parent (raised None SIGCHLD) in
    either_map (is_live_at m parent) m _ _
    (shrinks-then m told (at_key told p (zombie status)) (shrinks-at_key m parent (raised None SIGCHLD) (fewer-raised None SIGCHLD)) (shrinks-at_key told p (zombie status) (fewer-zombie status)))
    (shrinks-remove m p)

shrinks-ended_by : (p : RealPid) (status : ℕ) (found : Option Process) (m : Processes) → Shrinks m (ended_by p status found m)
shrinks-ended_by p status None m = shrinks-same m
shrinks-ended_by p status (Some q) m =
    either_map (is_live q) m _ m (shrinks-then m (orphaned p m) (left_by p status q.parent (orphaned p m)) (shrinks-orphaned p m) (shrinks-left_by p status q.parent (orphaned p m))) (shrinks-same m)

pub shrinks-after_end : (m : Processes) (p : RealPid) (status : ℕ) → Shrinks m (after_end m p status)
shrinks-after_end m p status = shrinks-ended_by p status (map.get m p) m

pub shrinks-after_raise : (m : Processes) (p : RealPid) (t : Option ℕ) (s : ℕ) → Shrinks m (at_key m p (raised t s))
shrinks-after_raise m p t s = shrinks-at_key m p (raised t s) (fewer-raised t s)

-- no number more is in the map
pub handed_out-shrink : (m n : Processes) (next : List ℕ) → AllHandedOut m next → Shrinks m n → AllHandedOut n next
handed_out-shrink m n next all shrinks r q is =
    let older = shrinks r q is in
    let below = all r older.process older.was in
    record { own = below.own; threads = λ t there. below.threads t (older.threads t there) }

pub handed_out-same : (m n : Processes) (next : List ℕ) → AllHandedOut m next → n ≡ m → AllHandedOut n next
handed_out-same m n next all same = subst (λ x. AllHandedOut x next) (sym same) all

pub unused_from : (m : Processes) (next : List ℕ) (node : ℕ) → AllHandedOut m next → IsUnused m node (slice_index next node)
unused_from m next node all r q is at = subst (λ k. IsBelow (slice_index next k) r q) at (all r q is)

below_more : (less more : ℕ) (r : RealPid) (q : Process) → less ≤ more → IsBelow less r q → IsBelow more r q
below_more less more r q rises below =
    let own = below.own in
    record { own = omega (arith, own, rises); threads = λ t there. let earlier = below.threads t there in omega (arith, earlier, rises) }

rises : (next : List ℕ) (node j : ℕ) → node < length next → slice_index next j ≤ slice_index (slice_set next node (slice_index next node + 1)) j
rises next node j inside = elim (same_or_other nat_cmp_total nat_cmp-IsAntisymmetric j node) [
  | inl same ↦
      let there = ap (slice_index (slice_set next node (slice_index next node + 1))) same ∙ get_or-set_same next node (slice_index next node + 1) 0 inside in
      let here = ap (slice_index next) same in
      omega (arith, there, here)
  | inr differ ↦ let there = get_or-set_other next node j (slice_index next node + 1) 0 differ in omega (arith, there)
]

only_thread : (number t : ℕ) → is_some {T = ℕ} (map.get (map.insert (map.empty {R = nat_cmp}) number 0) t) ≡ true → t ≡ number
only_thread number t there = elim (same_or_other nat_cmp_total nat_cmp-IsAntisymmetric t number) [
  | inl same ↦ same
  | inr differ ↦ true_false (sym there ∙ ap is_some (get_insert_other nat_cmp_total nat_cmp-IsAntisymmetric map.empty number 0 t differ ∙ map.get-empty nat_cmp t))
]

pub handed_out-start : (m n : Processes) (next later : List ℕ) (node : ℕ) (parent : Option RealPid) → AllHandedOut m next → node < length next
    → n ≡ map.insert m (real node (slice_index next node)) (newborn parent (slice_index next node)) → later ≡ slice_set next node (slice_index next node + 1) → AllHandedOut n later
handed_out-start m n next later node parent all inside is later_is r q at =
    let number = slice_index next node in
    let key : RealPid = real node number in
    let added : map.get (map.insert m key (newborn parent number)) r ≡ Some q = ap (λ x. map.get x r) (sym is) ∙ at in
    subst (λ xs. IsBelow (slice_index xs r.node) r q) (sym later_is) (elim (same_or_other real_pid_total real_pid_exact r key) [
      | inl same ↦
          let top : slice_index (slice_set next node (number + 1)) r.node ≡ number + 1 = ap (λ (k : RealPid). slice_index (slice_set next node (number + 1)) k.node) same ∙ get_or-set_same next node (number + 1) 0 inside in
          let pid : r.pid ≡ number = ap (λ (k : RealPid). k.pid) same in
          let value : newborn parent number ≡ q = same_Some (newborn parent number) q (sym (get_insert_same real_pid_total real_pid_exact m key (newborn parent number)) ∙ ap (map.get (map.insert m key (newborn parent number))) (sym same) ∙ added) in
          record {
            own = omega (arith, top, pid);
            threads = λ t there. let one = only_thread number t (ap (λ (x : Process). is_some (map.get x.threads t)) value ∙ there) in omega (arith, top, one);
          }
      | inr differ ↦ below_more _ _ r q (rises next node r.node inside) (all r q (sym (get_insert_other real_pid_total real_pid_exact m key (newborn parent number) r differ) ∙ added))
    ])

one_more : (threads : FinMap nat_cmp ℕ) (number t : ℕ) → is_some (map.get (map.insert threads number 0) t) ≡ true → (t ≡ number) ⊎ (is_some (map.get threads t) ≡ true)
one_more threads number t there = elim (same_or_other nat_cmp_total nat_cmp-IsAntisymmetric t number) [
  | inl same ↦ inl same
  | inr differ ↦ inr (sym (ap is_some (get_insert_other nat_cmp_total nat_cmp-IsAntisymmetric threads number 0 t differ)) ∙ there)
]

with_thread_below : (number limit : ℕ) (r : RealPid) (p : Process) → IsBelow limit r p → number < limit → IsBelow limit r (with_thread number p)
with_thread_below number limit r p below inside = record {
  own = below.own;
  threads = λ t there. elim (one_more p.threads number t there) [ inl same ↦ subst (λ k. k < limit) (sym same) inside | inr old ↦ below.threads t old ];
}

added_by : (m : Processes) (next : List ℕ) (p : RealPid) (found : Option Process) → AllHandedOut m next → p.node < length next → map.get m p ≡ found
    → AllHandedOut (option_map_or (λ q. map.insert m p (with_thread (slice_index next p.node) q)) found m) (slice_set next p.node (slice_index next p.node + 1))
added_by m next p None all inside is r q at = below_more _ _ r q (rises next p.node r.node inside) (all r q at)
added_by m next p (Some x) all inside is r q at =
    let number = slice_index next p.node in
    elim (same_or_other real_pid_total real_pid_exact r p) [
      | inl same ↦
          let value : with_thread number x ≡ q = same_Some (with_thread number x) q (sym (get_insert_same real_pid_total real_pid_exact m p (with_thread number x)) ∙ ap (map.get (map.insert m p (with_thread number x))) (sym same) ∙ at) in
          let top : slice_index (slice_set next p.node (number + 1)) r.node ≡ number + 1 = ap (λ (k : RealPid). slice_index (slice_set next p.node (number + 1)) k.node) same ∙ get_or-set_same next p.node (number + 1) 0 inside in
          subst (IsBelow _ r) value (with_thread_below number _ r x (below_more _ _ r x (rises next p.node r.node inside) (all r x (ap (map.get m) same ∙ is))) (omega (arith, top)))
      | inr differ ↦ below_more _ _ r q (rises next p.node r.node inside) (all r q (sym (get_insert_other real_pid_total real_pid_exact m p (with_thread number x) r differ) ∙ at))
    ]

pub handed_out-add_thread : (m n : Processes) (next later : List ℕ) (p : RealPid) → AllHandedOut m next → p.node < length next
    → n ≡ at_key m p (with_thread (slice_index next p.node)) → later ≡ slice_set next p.node (slice_index next p.node + 1) → AllHandedOut n later
handed_out-add_thread m n next later p all inside is later_is =
    subst (λ x. AllHandedOut x later) (sym is) (subst (AllHandedOut _) (sym later_is) (added_by m next p (map.get m p) all inside refl))

pub handed_out-none : (m : Processes) (next : List ℕ) → m ≡ map.empty → AllHandedOut m next
handed_out-none m next none r q is = absurd (none-some q (sym (map.get-empty real_pid_cmp r) ∙ ap (λ x. map.get x r) (sym none) ∙ is))

pub shrinks-after_wait : (found : Waiting) (m : Processes) → Shrinks m (after_wait found m)
shrinks-after_wait NoChild m = shrinks-same m
shrinks-after_wait NotReady m = shrinks-same m
shrinks-after_wait (Ended r status) m = shrinks-remove m r
