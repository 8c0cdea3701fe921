-- The ways between virtual and real numbers lead back.
--     lead_process, lead_slot, lead_thread, lead_place      between processes, descriptors, threads of a
--                                                           node, and addresses
use Rattle.std.proofs.Common.{◌≡◌, ℕ, Bool, true, false, cond, Option, Some, None, refl, sym, ap, ◌∙◌}
use Rattle.std.specs.Prelude.{option_map, ◌==◌}
use Rattle.std.specs.FinMap as map
use Rattle.std.proofs.lemmas.Option.{same_Some, none-some}
use Rattle.std.proofs.lemmas.Bool.{eqb-true, eq-eqb}
use Rattle.views.specs.Seen.{LeadBack}
use Rattle.views.proofs.Ways.{lead_maps, lead_part, lead_within}
use Rattle.sys_abi.specs.declared.identity.VPid.{VPid}
use Rattle.sys_abi.specs.declared.identity.RealPid.{RealPid}
use Rattle.sys_abi.specs.declared.identity.Slot.{Slot}
use Rattle.fd_tables.specs.declared.real_slot.RealSlot.{RealSlot}
use Rattle.fd_tables.specs.Slots as slots
use Rattle.proc_book.specs.OfVirtIds.Pairs.{AreInverse}
use Rattle.plain_machine.specs.OfPlainTables.Tables.{pid, slot}
use Rattle.host_tables.specs.Numbers.{Pids, Virts, real, to_real, to_virt, number_on, to_real_thread, to_virt_thread}
use Rattle.host_tables.specs.Processes.{to_slot, from_slot}
use Rattle.host_tables.specs.Descriptions.{Addresses}
use Rattle.host_tables.specs.Network.{Ports}

module _ (pids : Pids) (virts : Virts) (inverse : AreInverse pids virts) where
  virt_leads : (r : RealPid) (p : VPid) (o : Option ℕ) → map.get virts r ≡ o → option_map pid o ≡ Some p
      → map.get pids p.0 ≡ Some r
  virt_leads r p None e h = absurd (none-some p h)
  virt_leads r p (Some n) e h =
      inverse.leads_there p.0 r (e ∙ ap Some (ap (λ (q : VPid). q.0) (same_Some (pid n) p h)))

  pub lead_process : LeadBack (to_real pids) (to_virt virts)
  lead_process = record {
    back = λ p r at. ap (option_map pid) (inverse.leads_back p.0 r at);
    there = λ p r at. virt_leads r p (map.get virts r) refl at;
  }

  pub lead_slot : LeadBack (to_slot pids) (from_slot virts)
  lead_slot =
      lead_part (to_real pids) (to_virt virts) lead_process
      (λ (at : Slot). at.pid) (λ (at : Slot). at.fd) slot
      (record { whole = λ at. refl; its_part = λ p fd. refl; its_rest = λ p fd. refl })
      (λ (at : RealSlot). at.pid) (λ (at : RealSlot). at.fd) slots.slot
      (record { whole = λ at. refl; its_part = λ r fd. refl; its_rest = λ r fd. refl })

  own_node : (node n : ℕ) → number_on node (real node n) ≡ Some n
  own_node node n = ap (λ b. cond b (Some n) None) (eq-eqb node node refl)

  on_node : (node n : ℕ) (r : RealPid) (b : Bool) → (r.node == node) ≡ b → cond b (Some r.pid) None ≡ Some n
      → real node n ≡ r
  on_node node n r true e h = λ i. real (sym (eqb-true r.node node e) i) (sym (same_Some r.pid n h) i)
  on_node node n r false e h = absurd (none-some n h)

  pub lead_thread : (node : ℕ) → LeadBack (to_real_thread pids node) (to_virt_thread virts node)
  lead_thread node =
      lead_within (map.get pids) (map.get virts) (lead_maps pids virts inverse.leads_back inverse.leads_there)
      (real node) (number_on node) (λ n. own_node node n) (λ r n h. on_node node n r (r.node == node) refl h)

pub lead_place : (addresses : Addresses) (ports : Ports) → AreInverse addresses ports
    → LeadBack (map.get addresses) (map.get ports)
lead_place addresses ports inverse = lead_maps addresses ports inverse.leads_back inverse.leads_there
