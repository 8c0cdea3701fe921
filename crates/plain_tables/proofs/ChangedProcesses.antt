-- The processes after a change of one of them that goes on as it lived.
--     changed_are      with no thread more      next_thread_are      with a thread more, of the next number
use Rattle.std.proofs.Common.{◌≡◌, ℕ, ◌+◌, ◌<◌, ◌≤◌, true, refl, sym, ap, subst, ◌∙◌, inl, inr, arith, ⊎_elim}
use Rattle.std.specs.Prelude.{◌⊎◌, Option, Some, None, is_some}
use Rattle.std.specs.Cmp.{nat_cmp_total}
use Rattle.std.specs.FinMap as map
use Rattle.plain_process.proofs.OfViews.MapLaws.{get_insert_other, same_or_other, true_false}
use Rattle.id_maps.specs.OfSysAbi.declared.identity.VPid.{VPid}
use Rattle.id_maps.proofs.OfSysAbi.OrderLaws.{vpid_total, vpid_exact}
use Rattle.plain_tables.specs.declared.process.Process.{Process}
use Rattle.plain_tables.specs.Tables.{Processes, has_thread_in, with_thread_entry, changed_at}
use Rattle.plain_tables.specs.Valid.Processes.{AreProcesses, IsProcess}
use Rattle.plain_tables.proofs.Changes.{each_changed, changed_test, changed_other, changed_from, changed_len}

module _ (processes : Processes) (p : VPid) (change : Process → Process) (old next : ℕ) (is : AreProcesses old processes)
    (later : (q : VPid) (process : Process) → IsProcess old q process → IsProcess next q process)
    (new : (process : Process) → map.get processes p ≡ Some process → IsProcess next p (change process)) where
  each_is : (q : VPid) (process : Process) → map.get (changed_at processes p change) q ≡ Some process → IsProcess next q process
  each_is = each_changed vpid_total vpid_exact processes p change (IsProcess next) new (λ q process found. later q process (is.each q process found))

  there_same : (q : VPid) → is_some (map.get (changed_at processes p change) q) ≡ is_some (map.get processes q)
  there_same q = changed_test vpid_total vpid_exact processes p change is_some (λ process there. refl) q

  few : map.len (changed_at processes p change) ≤ 128
  few = subst (λ n. n ≤ 128) (sym (changed_len vpid_total vpid_exact processes p change)) is.count

  pub changed_are : ((process : Process) → map.get processes p ≡ Some process → (t : ℕ) → is_some (map.get (change process).threads t) ≡ true → is_some (map.get process.threads t) ≡ true) → AreProcesses next (changed_at processes p change)
  changed_are fewer = record {
    count = few;
    each = each_is;
    threads_apart = λ q r t has too. is.threads_apart q r t (had q t (map.get (changed_at processes p change) q) refl has) (had r t (map.get (changed_at processes p change) r) refl too);
    own_number = λ q r has there. is.own_number q r (had q r.0 (map.get (changed_at processes p change) q) refl has) (sym (there_same r) ∙ there);
  }
    where
      had : (q : VPid) (t : ℕ) (found : Option Process) → map.get (changed_at processes p change) q ≡ found → has_thread_in t found ≡ true → has_thread_in t (map.get processes q) ≡ true
      had q t None none has = true_false (sym has)
      had q t (Some process) found has = ⊎_elim
          (λ here.
          let from = changed_from vpid_total vpid_exact processes p change process (subst (λ r. map.get (changed_at processes p change) r ≡ Some process) here found) in
          subst (λ r. has_thread_in t (map.get processes r) ≡ true) (sym here)
          (ap (has_thread_in t) from.1 ∙ fewer from.0 from.1 t (ap (λ (x : Process). is_some (map.get x.threads t)) (sym from.2) ∙ has)))
          (λ other. ap (has_thread_in t) (sym (changed_other vpid_total vpid_exact processes p change q other) ∙ found) ∙ has)
          (same_or_other vpid_total vpid_exact q p)

-- a thread more
module _ (processes : Processes) (p : VPid) (next : ℕ) (is : AreProcesses next processes) (later : (q : VPid) (process : Process) → IsProcess next q process → IsProcess (next + 1) q process)
    (new : (process : Process) → map.get processes p ≡ Some process → IsProcess (next + 1) p (with_thread_entry next process)) where
  after : Processes
  after = changed_at processes p (with_thread_entry next)

  -- a thread that is there was there, or is the new one
  from : (q : VPid) (t : ℕ) (found : Option Process) → map.get after q ≡ found → has_thread_in t found ≡ true → (has_thread_in t (map.get processes q) ≡ true) ⊎ ((q ≡ p) × (t ≡ next))
  unfolding after
  from q t None none has = true_false (sym has)
  from q t (Some process) found has = ⊎_elim
      (λ here.
      let old = changed_from vpid_total vpid_exact processes p (with_thread_entry next) process (subst (λ r. map.get (changed_at processes p (with_thread_entry next)) r ≡ Some process) here found) in
      let now : is_some (map.get (map.insert old.0.threads next 0) t) ≡ true = ap (λ (x : Process). is_some (map.get x.threads t)) (sym old.2) ∙ has in
      ⊎_elim
      (λ same. inr (here, same))
      (λ apart. inl (subst (λ r. has_thread_in t (map.get processes r) ≡ true) (sym here)
      (ap (has_thread_in t) old.1 ∙ ap is_some (sym (get_insert_other nat_cmp_total map.nat_cmp-IsAntisymmetric old.0.threads next 0 t apart)) ∙ now)))
      (same_or_other nat_cmp_total map.nat_cmp-IsAntisymmetric t next))
      (λ other. inl (ap (has_thread_in t) (sym (changed_other vpid_total vpid_exact processes p (with_thread_entry next) q other) ∙ found) ∙ has))
      (same_or_other vpid_total vpid_exact q p)

  -- a thread that was there has a lower number
  below : (q : VPid) (t : ℕ) (found : Option Process) → map.get processes q ≡ found → has_thread_in t found ≡ true → t < next
  below q t None none has = true_false (sym has)
  below q t (Some process) found has = low (map.get process.threads t) refl has
    where
      low : (signals : Option ℕ) → map.get process.threads t ≡ signals → is_some signals ≡ true → t < next
      low None none there = true_false (sym there)
      low (Some signals) there really = ((is.each q process found).threads t signals there).0.1

  number_below : (q : VPid) (found : Option Process) → map.get processes q ≡ found → is_some found ≡ true → q.0 < next
  number_below q None none there = true_false (sym there)
  number_below q (Some process) found there = (is.each q process found).number.1

  pub next_thread_are : AreProcesses (next + 1) (changed_at processes p (with_thread_entry next))
  unfolding after
  next_thread_are = record {
    count = few processes p (with_thread_entry next) next (next + 1) is later new;
    each = each_is processes p (with_thread_entry next) next (next + 1) is later new;
    threads_apart = λ q r t has too. ⊎_elim
        (λ was. ⊎_elim
        (λ also. is.threads_apart q r t was also)
        (λ one. let low = below q t (map.get processes q) refl was in let same = one.1 in absurd (omega arith))
        (from r t (map.get after r) refl too))
        (λ one. ⊎_elim
        (λ also. let low = below r t (map.get processes r) refl also in let same = one.1 in absurd (omega arith))
        (λ other. one.0 ∙ sym other.0)
        (from r t (map.get after r) refl too))
        (from q t (map.get after q) refl has);
    own_number = λ q r has there.
        let was = sym (there_same processes p (with_thread_entry next) next (next + 1) is later new r) ∙ there in
        ⊎_elim
        (λ had. is.own_number q r had was)
        (λ one. let low = number_below r (map.get processes r) refl was in let same = one.1 in absurd (omega arith))
        (from q r.0 (map.get after q) refl has);
  }
