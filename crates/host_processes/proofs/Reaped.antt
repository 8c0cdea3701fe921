-- A child that was waited for is gone, on both sides. The pairs stay.
--     AreNumbered-less      the numbers are still those of processes and threads
--     reaped_kept           the kernel goes on to stand
use Rattle.std.proofs.Common.{◌≡◌, true, List, ℕ, Option, Some, None, inl, inr, refl, sym, ap, ◌∙◌}
use Rattle.std.specs.Prelude.{is_some, IsSome}
use Rattle.std.specs.FinMap as map
use Rattle.std.specs.FinMap.{FinMap}
use Rattle.std.proofs.lemmas.Option.{none-some}
use Rattle.views.proofs.MapLaws.{true_false, same_or_other, get_remove_same, get_remove_other}
use Rattle.views.proofs.Seen.{SeenBy-remove}
use Rattle.sys_abi.specs.declared.identity.VPid.{VPid}
use Rattle.sys_abi.specs.declared.identity.RealPid.{RealPid}
use Rattle.sys_abi.specs.declared.maker.Maker.{Maker}
use Rattle.sys_abi.specs.Orders.{vpid_cmp}
use Rattle.sys_abi.proofs.OrderLaws.{vpid_total, vpid_exact, real_pid_total, real_pid_exact}
use Rattle.plain_tables.specs.Tables.{Processes, Makers, same_host}
use Rattle.plain_machine.specs.declared.kernel.PlainKernel.{PlainKernel}
use Rattle.plain_machine.specs.Kernel.{without_process}
use Rattle.host_descriptors.specs.OfHostTables.declared.kernel.Kernel.{Kernel}
use Rattle.host_descriptors.specs.OfHostTables.Numbers.{Pids, AreNumbered, to_real, to_virt}
use Rattle.host_descriptors.specs.OfHostTables.Processes.{SameProcess}
use Rattle.host_descriptors.specs.OfHostTables.Stands.{Given, Stands}
use Rattle.host_descriptors.proofs.OfHostTables.Frames.{procs_kept}
use Rattle.host_descriptors.proofs.OfHostTables.Ways.{lead_process}

module _ {X : Type 0} (m : FinMap vpid_cmp X) (q : VPid) where
  was : (u : VPid) (x : X) → map.get (map.remove m q) u ≡ Some x → map.get m u ≡ Some x
  was u x is = elim (same_or_other vpid_total vpid_exact u q) [
    | inl same ↦ absurd (none-some x
        (sym (get_remove_same vpid_total vpid_exact m q) ∙ ap (map.get (map.remove m q)) (sym same) ∙ is))
    | inr differ ↦ sym (get_remove_other vpid_total vpid_exact m q u differ) ∙ is
  ]

  some_was : (u : VPid) (o : Option X) → map.get (map.remove m q) u ≡ o → IsSome o → IsSome (map.get m u)
  some_was u None e h = true_false (sym h)
  some_was u (Some x) e h = ap is_some (was u x e)

hosts_were : (makers : Makers) (q u w : VPid) (a b : Option Maker) → map.get (map.remove makers q) u ≡ a
    → map.get (map.remove makers q) w ≡ b → same_host a b ≡ true
    → same_host (map.get makers u) (map.get makers w) ≡ true
hosts_were makers q u w None b e f h = true_false (sym h)
hosts_were makers q u w (Some m) None e f h = true_false (sym h)
hosts_were makers q u w (Some m) (Some n) e f h =
    (λ i. same_host (was makers q u m e i) (was makers q w n f i)) ∙ h

pub AreNumbered-less : (nodes : List ℕ) (pids : Pids) (processes : Processes) (makers : Makers) (q : VPid)
    → AreNumbered nodes pids processes makers
    → AreNumbered nodes pids (map.remove processes q) (map.remove makers q)
AreNumbered-less nodes pids processes makers q numbered = record {
  process = λ u x is. numbered.process u x (was processes q u x is);
  thread = λ u x t is at. numbered.thread u x t (was processes q u x is) at;
  node = λ u x m r is made leads.
      numbered.node u x m r (was processes q u x is) (was makers q u m made) leads;
  thread_node = λ u x t r s is at leads thread.
      numbered.thread_node u x t r s (was processes q u x is) at leads thread;
  order = λ u w r s at_u at_w hosts leads_u leads_w less.
      numbered.order u w r s (some_was processes q u _ refl at_u) (some_was processes q w _ refl at_w)
      (hosts_were makers q u w _ _ refl refl hosts) leads_u leads_w less;
}

pub reaped_kept : (g : Given) (old : Kernel) (k : PlainKernel) → Stands g None old k
    → (q : VPid) (r : RealPid)
    → map.get g.pids q.0 ≡ Some r → Stands g None
    (record old { procs = record old.procs { processes = map.remove old.procs.processes r } })
    (without_process q k)
reaped_kept g old k st q r leads =
    procs_kept g None old k st (record old.procs { processes = map.remove old.procs.processes r })
    (map.remove k.processes q) (map.remove k.makers q) st.paired
    (AreNumbered-less old.nodes g.pids k.processes k.makers q st.numbered)
    (SeenBy-remove vpid_total vpid_exact real_pid_total real_pid_exact (to_real g.pids) (to_virt g.virts)
    (lead_process g.pids g.virts st.paired.inverse) (SameProcess g.pids g.virts) k.processes
    old.procs.processes
    st.processes q r leads)
