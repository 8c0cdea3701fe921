-- The processes after one of them ended which has no child, as a zombie of its live parent or without it.
--     zombie_are, zombie_makers, zombie_parents, zombie_leaves      as a zombie
--     without_are, without_makers, without_parents, without_leaves      gone
use Rattle.std.proofs.Common.{◌≡◌, ◌≢◌, ℕ, ◌^◌, ◌<◌, ◌≤◌, Bool, true, false, refl, sym, ap, subst, ◌∙◌, inl, inr, arith, ⊎_elim}
use Rattle.std.specs.Prelude.{Option, Some, None, is_some}
use Rattle.std.specs.Ordering.{nat_cmp}
use Rattle.std.specs.FinMap as map
use Rattle.plain_process.proofs.OfViews.MapLaws.{get_remove_same, get_remove_other, same_or_other, true_false}
use Rattle.id_maps.specs.OfSysAbi.declared.identity.VPid.{VPid}
use Rattle.id_maps.specs.OfSysAbi.declared.life.Life.{Life}
use Rattle.id_maps.specs.OfSysAbi.declared.life.Life.TheVariants.{Live, Zombie}
use Rattle.id_maps.specs.OfSysAbi.Lives.{lives}
use Rattle.id_maps.proofs.OfSysAbi.OrderLaws.{vpid_total, vpid_exact}
use Rattle.plain_process.specs.Valid.{Each}
use Rattle.plain_tables.specs.declared.process.Process.{Process}
use Rattle.plain_tables.specs.Tables.{FIRST_PID, Processes, Makers, pid, is_live_process, lives_in, has_thread_in, changed_by, changed_at, same_host}
use Rattle.plain_tables.specs.Ends.{zombie}
use Rattle.plain_tables.specs.Valid.Processes.{AreProcesses, AreMakers, AreParents, IsProcess, IsParent, HasParent}
use Rattle.plain_tables.proofs.Entries.{still_there, not_removed, len_without}
use Rattle.plain_tables.proofs.Changes.{each_changed, changed_test, changed_other, changed_here, changed_len}
use Rattle.plain_tables.proofs.LeftProcesses.{Leaves}

no_thread : (t : ℕ) → is_some (map.get (map.empty {X = ℕ} {R = nat_cmp}) t) ≡ false
no_thread t = ap is_some (map.get-empty nat_cmp t)

fewer_test : (b c : Bool) → c ≡ false → c ≡ true → b ≡ true
fewer_test b c none some = true_false (sym some ∙ none)

zombie_is : (next_id status : ℕ) (q : VPid) (process : Process) → IsProcess next_id q process → IsProcess next_id q (zombie status process)
zombie_is next_id status q process is = record {
  number = is.number;
  pending = omega arith;
  life = (map.len-empty nat_cmp ℕ, refl);
  threads = λ t signals found. let none : map.get (map.empty {X = ℕ} {R = nat_cmp}) t ≡ None = map.get-empty nat_cmp t in cc;
}

-- nobody has p for a parent
abbrev pub IsChildless : Processes → VPid → Type 0
IsChildless processes p = Each processes (λ q process. process.parent ≢ p.0)

pid_other : (p : VPid) (parent : ℕ) → parent ≢ p.0 → pid parent ≢ p
pid_other p parent other same = other (ap (λ (q : VPid). q.0) same)

module _ (processes : Processes) (makers : Makers) (p : VPid) (childless : IsChildless processes p) where
  -- as a zombie
  module _ (status : ℕ) where
    after : Processes
    after = changed_at processes p (zombie status)

    zombie_there : (q : VPid) → is_some (map.get after q) ≡ is_some (map.get processes q)
    unfolding after
    zombie_there q = changed_test vpid_total vpid_exact processes p (zombie status) is_some (λ process there. refl) q

    zombie_other : (q : VPid) → q ≢ p → map.get after q ≡ map.get processes q
    unfolding after
    zombie_other q other = changed_other vpid_total vpid_exact processes p (zombie status) q other

    at_zombie : (test : Option Process → Bool) → ((process : Process) → test (Some (zombie status process)) ≡ false) → test None ≡ false → (found : Option Process) → map.get processes p ≡ found → test (map.get after p) ≡ true → ⊥
    unfolding after
    at_zombie test refuses empty None none passes =
        true_false (sym passes ∙ ap test (ap (λ found. map.get (changed_by processes p (zombie status) found) p) none ∙ none) ∙ empty)
    at_zombie test refuses empty (Some process) there passes = true_false (sym passes ∙ ap test (changed_here vpid_total vpid_exact processes p (zombie status) process there) ∙ refuses process)

    -- a test that a zombie does not pass
    passed : (test : Option Process → Bool) → ((process : Process) → test (Some (zombie status process)) ≡ false) → test None ≡ false → (q : VPid) → test (map.get after q) ≡ true → test (map.get processes q) ≡ true
    passed test refuses empty q passes = ⊎_elim
        (λ here. absurd (at_zombie test refuses empty (map.get processes p) refl (subst (λ r. test (map.get after r) ≡ true) here passes)))
        (λ other. ap test (sym (zombie_other q other)) ∙ passes)
        (same_or_other vpid_total vpid_exact q p)

    pub zombie_are : (next_id : ℕ) → AreProcesses next_id processes → AreProcesses next_id (changed_at processes p (zombie status))
    unfolding after
    zombie_are next_id is = record {
      count = subst (λ n. n ≤ 128) (sym (changed_len vpid_total vpid_exact processes p (zombie status))) is.count;
      each = each_changed vpid_total vpid_exact processes p (zombie status) (IsProcess next_id) (λ process there. zombie_is next_id status p process (is.each p process there)) is.each;
      threads_apart = λ q r t has too. is.threads_apart q r t (passed (has_thread_in t) (λ process. no_thread t) refl q has) (passed (has_thread_in t) (λ process. no_thread t) refl r too);
      own_number = λ q r has there. is.own_number q r (passed (has_thread_in r.0) (λ process. no_thread r.0) refl q has) (sym (zombie_there r) ∙ there);
    }

    pub zombie_makers : AreMakers processes makers → AreMakers (changed_at processes p (zombie status)) makers
    unfolding after
    zombie_makers is = record { same = λ q. is.same q ∙ sym (zombie_there q); hosts = is.hosts; counts = is.counts }

    pub zombie_leaves : (next_id : ℕ) → Leaves next_id processes (changed_at processes p (zombie status)) makers makers (λ q. q ≢ p)
    unfolding after
    zombie_leaves next_id = record {
      lives = λ q other alive. ap is_live_process (zombie_other q other) ∙ alive;
      lived = λ q low alive. passed is_live_process (λ process. refl) refl q alive;
      same = λ q other alive. refl;
      part = λ q m low found. found;
    }

    parent_kept : (q : VPid) (parent : ℕ) → parent ≢ p.0 → IsParent processes makers q parent → IsParent (changed_at processes p (zombie status)) makers q parent
    parent_kept q parent other is = record { below = is.below; alive = (zombie_leaves 0).lives (pid parent) (pid_other p parent other) is.alive; host = is.host }

    has_parent_kept : (q : VPid) (parent : ℕ) (life : Life) → parent ≢ p.0 → HasParent processes makers q parent life → HasParent (changed_at processes p (zombie status)) makers q parent life
    has_parent_kept q parent Live other is = ⊎_elim (λ nobody. inl nobody) (λ one. inr (parent_kept q parent other one)) is
    has_parent_kept q parent (Zombie s) other is = (parent_kept q parent other is.0, is.1)

    pub zombie_parents : status < 2 ^ 32 → ((process : Process) → map.get processes p ≡ Some process → IsParent processes makers p process.parent) → AreParents processes makers
        → AreParents (changed_at processes p (zombie status)) makers
    zombie_parents word waits is = record {
      each = λ q process found. each_changed vpid_total vpid_exact processes p (zombie status)
          (λ r x. (map.get processes r ≡ Some x → HasParent processes makers r x.parent x.life) → HasParent (changed_at processes p (zombie status)) makers r x.parent x.life)
          (λ old there any. (parent_kept p old.parent (childless p old there) (waits old there), word))
          (λ r x there all. has_parent_kept r x.parent x.life (childless r x there) (is.each r x there))
          q process found (λ there. is.each q process there);
    }

  -- gone
  without_there : (q : VPid) → q ≢ p → map.get (map.remove processes p) q ≡ map.get processes q
  without_there q other = get_remove_other vpid_total vpid_exact processes p q other

  without_passed : (test : Option Process → Bool) → test None ≡ false → (q : VPid) → test (map.get (map.remove processes p) q) ≡ true → (q ≢ p) × (test (map.get processes q) ≡ true)
  without_passed test empty q passes = ⊎_elim
      (λ here. true_false (sym (subst (λ r. test (map.get (map.remove processes p) r) ≡ true) here passes) ∙ ap test (get_remove_same vpid_total vpid_exact processes p) ∙ empty))
      (λ other. (other, ap test (sym (without_there q other)) ∙ passes))
      (same_or_other vpid_total vpid_exact q p)

  pub without_are : (next_id : ℕ) → AreProcesses next_id processes → AreProcesses next_id (map.remove processes p)
  without_are next_id is = record {
    count = let less = len_without vpid_total processes p in let few = is.count in omega arith;
    each = λ q process found. is.each q process (still_there vpid_total vpid_exact processes p q process found);
    threads_apart = λ q r t has too. is.threads_apart q r t (without_passed (has_thread_in t) refl q has).1 (without_passed (has_thread_in t) refl r too).1;
    own_number = λ q r has there. is.own_number q r (without_passed (has_thread_in r.0) refl q has).1 (without_passed is_some refl r there).1;
  }

  pub without_makers : AreMakers processes makers → AreMakers (map.remove processes p) (map.remove makers p)
  without_makers is = record {
    same = λ q. ⊎_elim
        (λ here. subst (λ r. is_some (map.get (map.remove makers p) r) ≡ is_some (map.get (map.remove processes p) r)) (sym here)
        (ap is_some (get_remove_same vpid_total vpid_exact makers p) ∙ sym (ap is_some (get_remove_same vpid_total vpid_exact processes p))))
        (λ other. ap is_some (get_remove_other vpid_total vpid_exact makers p q other) ∙ is.same q ∙ sym (ap is_some (without_there q other)))
        (same_or_other vpid_total vpid_exact q p);
    hosts = λ q m found. is.hosts q m (still_there vpid_total vpid_exact makers p q m found);
    counts = λ q m found. is.counts q m (still_there vpid_total vpid_exact makers p q m found);
  }

  pub without_leaves : (next_id : ℕ) → Leaves next_id processes (map.remove processes p) makers (map.remove makers p) (λ q. q ≢ p)
  without_leaves next_id = record {
    lives = λ q other alive. ap is_live_process (without_there q other) ∙ alive;
    lived = λ q low alive. (without_passed is_live_process refl q alive).1;
    same = λ q other alive. get_remove_other vpid_total vpid_exact makers p q other;
    part = λ q m low found. still_there vpid_total vpid_exact makers p q m found;
  }

  parent_stays : (q : VPid) (parent : ℕ) → q ≢ p → parent ≢ p.0 → IsParent processes makers q parent → IsParent (map.remove processes p) (map.remove makers p) q parent
  parent_stays q parent apart other is = record {
    below = is.below;
    alive = (without_leaves 0).lives (pid parent) (pid_other p parent other) is.alive;
    host = ap (λ m. same_host m (map.get (map.remove makers p) (pid parent))) (get_remove_other vpid_total vpid_exact makers p q apart)
        ∙ ap (same_host (map.get makers q)) (get_remove_other vpid_total vpid_exact makers p (pid parent) (pid_other p parent other)) ∙ is.host;
  }

  has_parent_stays : (q : VPid) (parent : ℕ) (life : Life) → q ≢ p → parent ≢ p.0 → HasParent processes makers q parent life → HasParent (map.remove processes p) (map.remove makers p) q parent life
  has_parent_stays q parent Live apart other is = ⊎_elim (λ nobody. inl nobody) (λ one. inr (parent_stays q parent apart other one)) is
  has_parent_stays q parent (Zombie s) apart other is = (parent_stays q parent apart other is.0, is.1)

  pub without_parents : AreParents processes makers → AreParents (map.remove processes p) (map.remove makers p)
  without_parents is = record {
    each = λ q process found.
        let was = still_there vpid_total vpid_exact processes p q process found in
        has_parent_stays q process.parent process.life (not_removed vpid_total vpid_exact processes p q process found) (childless q process was) (is.each q process was);
  }

-- a live process with a live parent has it for a parent
pub waited_for : (next_id : ℕ) (processes : Processes) (makers : Makers) → FIRST_PID ≤ next_id → AreProcesses next_id processes → AreParents processes makers → (p : VPid) (process : Process) → map.get processes p ≡ Some process
    → lives process.life ≡ true → lives_in processes (pid process.parent) ≡ true → IsParent processes makers p process.parent
waited_for next_id processes makers first are is p process there alive parent_lives = by_life process.life alive (is.each p process there)
  where
    numbered : (found : Option Process) → map.get processes (pid process.parent) ≡ found → is_live_process found ≡ true → FIRST_PID ≤ process.parent
    numbered None none lives = true_false (sym lives)
    numbered (Some parent) found lives = (are.each (pid process.parent) parent found).number.0

    by_life : (life : Life) → lives life ≡ true → HasParent processes makers p process.parent life → IsParent processes makers p process.parent
    by_life Live alive has = ⊎_elim (λ nobody. let number = numbered (map.get processes (pid process.parent)) refl parent_lives in absurd (omega arith)) (λ one. one) has
    by_life (Zombie status) alive has = true_false (sym alive)
