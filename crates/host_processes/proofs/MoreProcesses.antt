-- Processes by the pairs with one more, and with the child or the thread that it is of.
--     SameProcesses-child       a process more on both sides
--     SameProcesses-thread      a thread more of a process on both sides
use Rattle.std.proofs.Common.{◌≡◌, ℕ, Some, None, refl, ap, ◌∙◌}
use Rattle.std.specs.Prelude.{◌==◌, option_and_then, if◌then◌else◌}
use Rattle.std.specs.Cmp.{nat_cmp_total}
use Rattle.std.specs.FinMap as map
use Rattle.std.specs.FinMap.{nat_cmp-IsAntisymmetric}
use Rattle.std.specs.Ordering.{nat_cmp}
use Rattle.std.proofs.lemmas.Bool.{eq-eqb}
use Rattle.views.specs.Seen.{SeenBy, LeadBack}
use Rattle.views.proofs.Seen.{SeenBy-insert, SeenBy-empty}
use Rattle.sys_abi.specs.declared.identity.VPid.{VPid}
use Rattle.sys_abi.specs.declared.identity.RealPid.{RealPid}
use Rattle.sys_abi.proofs.OrderLaws.{vpid_total, vpid_exact, real_pid_total, real_pid_exact}
use Rattle.proc_book.specs.declared.process.Process as real_process
use Rattle.proc_book.specs.Ends as procs
use Rattle.proc_book.specs.Processes.{newborn}
use Rattle.proc_book.specs.Procs.{with_thread}
use Rattle.virt_ids.specs.Pairs.{AreInverse}
use Rattle.plain_tables.specs.declared.process.Process.{Process}
use Rattle.plain_tables.specs.Ends.{child_process}
use Rattle.plain_tables.specs.Tables.{Processes, pid, with_thread_entry}
use Rattle.host_descriptors.specs.OfHostTables.Numbers.{Pids, Virts, to_real, to_virt, number_on, to_real_thread, to_virt_thread}
use Rattle.host_descriptors.specs.OfHostTables.Processes.{IsSame, SameProcess, SameProcesses}
use Rattle.host_descriptors.proofs.OfHostTables.GrownTopics.{SameProcess-grows, SameProcesses-grows}
use Rattle.host_descriptors.proofs.OfHostTables.MorePairs.{pids', virts', more_pairs, real_here, real_kept, virt_kept}
use Rattle.host_descriptors.proofs.OfHostTables.Ways.{lead_process, lead_thread}

own_number : (node n : ℕ) → (if node == node then Some n else None) ≡ Some n
own_number node n = ap (λ b. if b then Some n else None) (eq-eqb node node refl)

module _ (pids : Pids) (virts : Virts) (inverse : AreInverse pids virts) (v : ℕ) (r : RealPid)
    (new_v : map.get pids v ≡ None) (new_r : map.get virts r ≡ None) (p : VPid) (who : RealPid)
    (paired : map.get pids p.0 ≡ Some who) (virt : Processes) (table : procs.Processes)
    (same : SameProcesses pids virts virt table) where
  abbrev then_pids : Pids
  then_pids = pids' pids virts inverse v r new_v new_r

  abbrev then_virts : Virts
  then_virts = virts' pids virts inverse v r new_v new_r

  inverse' : AreInverse then_pids then_virts
  inverse' = more_pairs pids virts inverse v r new_v new_r

  grown_pairs : SameProcesses then_pids then_virts virt table
  grown_pairs = SameProcesses-grows pids virts inverse v r new_v new_r virt table same

  ways : (node : ℕ) → LeadBack (to_real_thread then_pids node) (to_virt_thread then_virts node)
  ways = lead_thread then_pids then_virts inverse'

  -- the new number leads to the other
  leads : to_real_thread then_pids r.node v ≡ Some r.pid
  leads =
      ap (option_and_then (number_on r.node)) (real_here pids virts inverse v r new_v new_r)
      ∙ own_number r.node r.pid

  its_thread : SeenBy {X = ℕ} {Y = ℕ} {R = nat_cmp} {S = nat_cmp} (to_real_thread then_pids r.node)
      (to_virt_thread then_virts r.node) IsSame (map.insert map.empty v 0) (map.insert map.empty r.pid 0)
  its_thread =
      SeenBy-insert nat_cmp_total nat_cmp-IsAntisymmetric nat_cmp_total nat_cmp-IsAntisymmetric
      (to_real_thread then_pids r.node) (to_virt_thread then_virts r.node) (ways r.node) IsSame map.empty
      map.empty
      (SeenBy-empty nat_cmp nat_cmp (to_real_thread then_pids r.node) (to_virt_thread then_virts r.node)
      IsSame)
      v r.pid leads 0 0 refl

  pub SameProcesses-child : SameProcesses then_pids then_virts
      (map.insert virt (pid v) (child_process p.0 v)) (map.insert table r (newborn (Some who) r.pid))
  SameProcesses-child =
      SeenBy-insert vpid_total vpid_exact real_pid_total real_pid_exact (to_real then_pids)
      (to_virt then_virts) (lead_process then_pids then_virts inverse') (SameProcess then_pids then_virts)
      virt table grown_pairs (pid v) r (real_here pids virts inverse v r new_v new_r)
      (child_process p.0 v) (newborn (Some who) r.pid)
      (record {
        life = refl;
        pending = refl;
        parent = virt_kept pids virts inverse v r new_v new_r who p.0 (inverse.leads_back p.0 who paired);
        threads = its_thread;
      })

  module _ (x : Process) (y : real_process.Process) (is : SameProcess pids virts p who x y)
      (on : who.node ≡ r.node) where
    its_leads : to_real_thread then_pids who.node v ≡ Some r.pid
    its_leads = ap (λ node. to_real_thread then_pids node v) on ∙ leads

    one_more : SameProcess then_pids then_virts p who (with_thread_entry v x) (with_thread r.pid y)
    one_more =
        let before = SameProcess-grows pids virts inverse v r new_v new_r p who x y is in
        record {
          life = before.life;
          pending = before.pending;
          parent = before.parent;
          threads = SeenBy-insert nat_cmp_total nat_cmp-IsAntisymmetric nat_cmp_total nat_cmp-IsAntisymmetric
              (to_real_thread then_pids who.node) (to_virt_thread then_virts who.node) (ways who.node) IsSame
              x.threads y.threads before.threads v r.pid its_leads 0 0 refl;
        }

    pub SameProcesses-thread : SameProcesses then_pids then_virts
        (map.insert virt p (with_thread_entry v x)) (map.insert table who (with_thread r.pid y))
    SameProcesses-thread =
        SeenBy-insert vpid_total vpid_exact real_pid_total real_pid_exact (to_real then_pids)
        (to_virt then_virts) (lead_process then_pids then_virts inverse') (SameProcess then_pids then_virts)
        virt table grown_pairs p who (real_kept pids virts inverse v r new_v new_r p.0 who paired)
        (with_thread_entry v x) (with_thread r.pid y) one_more
