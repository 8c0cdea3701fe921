-- The processes of a kernel part with a change of one of them.
--     each_changed      what holds of each one afterwards      changed_test      what a test tells of each      changed_other      the others are as they were
--     changed_len      there are as many
use Rattle.std.proofs.Common.{◌≡◌, ◌≢◌, ◌+◌, Bool, cond, refl, sym, ap, subst, ◌∙◌, ⊎_elim}
use Rattle.std.specs.Prelude.{Option, Some, None, is_some}
use Rattle.std.specs.FinMap as map
use Rattle.plain_tables.proofs.OfViews.MapLaws.{get_insert_same, get_insert_other, same_or_other}
use Rattle.plain_tables.specs.OfSysAbi.declared.identity.VPid.{VPid}
use Rattle.plain_tables.proofs.OfSysAbi.OrderLaws.{vpid_total, vpid_exact}
use Rattle.plain_tables.specs.declared.process.Process.{Process}
use Rattle.plain_tables.specs.Tables.{Processes, changed_by, changed_at}
use Rattle.plain_tables.specs.OfPlainProcess.Valid.{Each}
use Rattle.plain_machine.proofs.Entries.{each_with}

module _ (processes : Processes) (p : VPid) (change : Process → Process) where
  each_by : (P : VPid → Process → Type 0) (found : Option Process) → map.get processes p ≡ found → ((process : Process) → map.get processes p ≡ Some process → P p (change process))
      → Each processes P → Each (changed_by processes p change found) P
  each_by P None there new old = old
  each_by P (Some process) there new old = each_with vpid_total vpid_exact P processes p (change process) (new process there) (λ q other_process other found. old q other_process found)

  pub each_changed : (P : VPid → Process → Type 0) → ((process : Process) → map.get processes p ≡ Some process → P p (change process)) → Each processes P → Each (changed_at processes p change) P
  each_changed P new old = each_by P (map.get processes p) refl new old

  test_by : (test : Option Process → Bool) (found : Option Process) → map.get processes p ≡ found → ((process : Process) → map.get processes p ≡ Some process → test (Some (change process)) ≡ test (Some process))
      → (q : VPid) → test (map.get (changed_by processes p change found) q) ≡ test (map.get processes q)
  test_by test None there same q = refl
  test_by test (Some process) there same q = ⊎_elim
      (λ here. subst (λ r. test (map.get (map.insert processes p (change process)) r) ≡ test (map.get processes r)) (sym here)
      (ap test (get_insert_same vpid_total vpid_exact processes p (change process)) ∙ same process there ∙ sym (ap test there)))
      (λ other. ap test (get_insert_other vpid_total vpid_exact processes p (change process) q other))
      (same_or_other vpid_total vpid_exact q p)

  pub changed_test : (test : Option Process → Bool) → ((process : Process) → map.get processes p ≡ Some process → test (Some (change process)) ≡ test (Some process)) → (q : VPid)
      → test (map.get (changed_at processes p change) q) ≡ test (map.get processes q)
  changed_test test same q = test_by test (map.get processes p) refl same q

  len_by : (found : Option Process) → map.get processes p ≡ found → map.len (changed_by processes p change found) ≡ map.len processes
  len_by None there = refl
  len_by (Some process) there = map.len-insert vpid_total processes p (change process) ∙ ap (λ found. cond (is_some found) (map.len processes) (map.len processes + 1)) there

  pub changed_len : map.len (changed_at processes p change) ≡ map.len processes
  changed_len = len_by (map.get processes p) refl

  other_by : (found : Option Process) (q : VPid) → q ≢ p → map.get (changed_by processes p change found) q ≡ map.get processes q
  other_by None q other = refl
  other_by (Some process) q other = get_insert_other vpid_total vpid_exact processes p (change process) q other

  pub changed_other : (q : VPid) → q ≢ p → map.get (changed_at processes p change) q ≡ map.get processes q
  changed_other q other = other_by (map.get processes p) q other

  pub changed_here : (process : Process) → map.get processes p ≡ Some process → map.get (changed_at processes p change) p ≡ Some (change process)
  changed_here process there = ap (λ found. map.get (changed_by processes p change found) p) there ∙ get_insert_same vpid_total vpid_exact processes p (change process)
