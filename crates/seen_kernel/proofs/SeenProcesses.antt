-- Processes, seen one after the other.
--     same_process                          one made of what the table tells is the one that it stands for
--     put_at                                it is put at its number
--     ProcessesTo ids t seen above          all up to this one are seen
--     processes_begun, processes_on, processes_fewer, processes_done
use Rattle.std.proofs.Common.{◌≡◌, ◌<◌, ℕ, Option, Some, None, refl, sym, ap, subst, ◌∙◌}
use Rattle.std.specs.Prelude.{find, unwrap_or}
use Rattle.std.specs.FinMap as map
use Rattle.std.proofs.lemmas.Option.{same_Some}
use Rattle.views.proofs.Seen.{virt_of}
use Rattle.views.specs.Seen.{LeadBack}
use Rattle.sys_abi.specs.declared.identity.RealPid.{RealPid}
use Rattle.sys_abi.proofs.OrderLaws.{vpid_total, vpid_exact, real_pid_total, real_pid_exact}
use Rattle.virt_ids.specs.Pairs.{Pairs}
use Rattle.proc_book.specs.Procs.{ProcTable, is_above, pending_of}
use Rattle.plain_tables.specs.declared.process.Process.{Process}
use Rattle.plain_tables.specs.Tables.{NOBODY, Processes, pid}
use Rattle.host_tables.specs.Numbers.{Virts, IsNumberOf, number_of, to_real, to_virt}
use Rattle.host_tables.specs.Processes.{SameProcess}
use Rattle.host_tables.proofs.LookUps.{some_value}
use Rattle.host_tables.proofs.Ways.{lead_process}
use Rattle.leader_vote.proofs.Walks.{count_of, next_is, walked, none_left, fewer_left}
use Rattle.seen_kernel.specs.Filling.{IsFilled}
use Rattle.seen_kernel.specs.Processes.{StandForProcesses, StandsForProcess, parent_in, life_in}
use Rattle.seen_kernel.proofs.Filling.{filled_none, filled_on, filled_seen}

is_number : (virts : Virts) (none : ℕ) (o : Option RealPid) (n : ℕ) → IsNumberOf virts none o n
    → number_of virts none o ≡ n
is_number virts none None n is = sym is
is_number virts none (Some r) n is = ap (λ o. unwrap_or o none) is

pub same_process : (ids : Pairs) (t : ProcTable) (r : RealPid) (v : ℕ) (x p : Process)
    → StandsForProcess ids t r v x
    → p.parent ≡ number_of ids.virts NOBODY (parent_in (map.get t.processes r))
    → p.life ≡ life_in (map.get t.processes r) → p.pending ≡ pending_of None (map.get t.processes r)
    → p.threads ≡ x.threads → p ≡ x
same_process ids t r v x p told parent_is life_is pending_is threads_are =
    let same_parent = parent_is ∙ ap (λ o. number_of ids.virts NOBODY (parent_in o)) told.there
    ∙ is_number ids.virts NOBODY told.real.parent x.parent told.same.parent in
    let same_life = life_is ∙ ap life_in told.there ∙ sym told.same.life in
    let same_pending = pending_is ∙ ap (pending_of None) told.there ∙ sym told.same.pending in
    λ i. record {
      parent = same_parent i;
      life = same_life i;
      pending = same_pending i;
      threads = threads_are i;
    }

-- one process is put at its number
pub put_at : (ids : Pairs) (t : ProcTable) (r : RealPid) (v : ℕ) (x : Process)
    → StandsForProcess ids t r v x → (seen : Processes) (n : ℕ) (p : Process) → map.get ids.virts r ≡ Some n
    → p ≡ x → map.insert seen (pid n) p ≡ map.insert seen (pid v) x
put_at ids t r v x told seen n p number same =
    let its_own = same_Some n v (sym number ∙ told.number) in λ i. map.insert seen (pid (its_own i)) (same i)

abbrev pub ProcessesTo : Pairs → ProcTable → Processes → Option RealPid → Type 0
ProcessesTo ids t seen above =
    (ks : Processes) → StandForProcesses ids t ks
    → IsFilled (to_virt ids.virts) t.processes (is_above above) ks seen

pub processes_begun : (ids : Pairs) (t : ProcTable) → ProcessesTo ids t map.empty None
processes_begun ids t ks stand =
    filled_none vpid_total vpid_exact (to_virt ids.virts) t.processes ks (is_above None) (λ l. refl)

pub processes_fewer : (t : ProcTable) (above : Option RealPid) (r : RealPid)
    → find (is_above above) (map.keys t.processes) ≡ Some r
    → count_of (is_above (Some r)) (map.keys t.processes) < count_of (is_above above) (map.keys t.processes)
processes_fewer t above r next =
    let its = next_is real_pid_total real_pid_exact t.processes is_above (λ k. refl) (λ a k. refl) above r
    next in
    fewer_left real_pid_total real_pid_exact t.processes is_above (λ k. refl) (λ a k. refl) above r its.0
    its.1

module _ (ids : Pairs) (t : ProcTable) (seen : Processes) (above : Option RealPid) where
  module _ (ks : Processes) (stand : StandForProcesses ids t ks) where
    lead : LeadBack (to_real ids.pids) (to_virt ids.virts)
    lead = lead_process ids.pids ids.virts stand.paired.inverse

    module _ (filled : IsFilled (to_virt ids.virts) t.processes (is_above above) ks seen) where
      on : (r : RealPid) (seen' : Processes) → find (is_above above) (map.keys t.processes) ≡ Some r
          → ((v : ℕ) (x : Process) → StandsForProcess ids t r v x → seen' ≡ map.insert seen (pid v) x)
          → IsFilled (to_virt ids.virts) t.processes (is_above (Some r)) ks seen'
      on r seen' next added =
          let its = next_is real_pid_total real_pid_exact t.processes is_above (λ k. refl) (λ a k. refl)
          above r next in
          let y = some_value (map.get t.processes r) its.0 in
          let found = virt_of vpid_total vpid_exact real_pid_total real_pid_exact (to_real ids.pids)
          (to_virt ids.virts) lead (SameProcess ids.pids ids.virts) ks t.processes stand.same r y.0 y.1 in
          let told : StandsForProcess ids t r found.0.0 found.1.1.0 = record {
            paired = stand.paired;
            number = stand.paired.inverse.leads_back found.0.0 r found.1.0;
            real = y.0;
            there = y.1;
            same = found.1.1.1.1;
          } in
          subst (IsFilled (to_virt ids.virts) t.processes (is_above (Some r)) ks)
          (sym (added found.0.0 found.1.1.0 told))
          (filled_on vpid_total vpid_exact (to_virt ids.virts) t.processes ks (is_above above)
          (is_above (Some r)) seen r found.0 found.1.1.0 (lead.back found.0 r found.1.0) found.1.1.1.0
          (λ l x is behind. walked real_pid_total real_pid_exact t.processes is_above (λ k. refl)
          (λ a k. refl) above r l x next is behind)
          filled)

      whole : find (is_above above) (map.keys t.processes) ≡ None → seen ≡ ks
      whole none =
          filled_seen vpid_total vpid_exact real_pid_total real_pid_exact (to_real ids.pids)
          (to_virt ids.virts) lead (SameProcess ids.pids ids.virts) ks t.processes stand.same (is_above above)
          seen
          (λ l y is. none_left real_pid_total real_pid_exact t.processes is_above (λ k. refl) (λ a k. refl)
          above l y none is)
          filled

  pub processes_on : (r : RealPid) (seen' : Processes)
      → find (is_above above) (map.keys t.processes) ≡ Some r
      → ((v : ℕ) (x : Process) → StandsForProcess ids t r v x → seen' ≡ map.insert seen (pid v) x)
      → ProcessesTo ids t seen above → ProcessesTo ids t seen' (Some r)
  processes_on r seen' next added so_far ks stand = on ks stand (so_far ks stand) r seen' next added

  pub processes_done : find (is_above above) (map.keys t.processes) ≡ None → ProcessesTo ids t seen above
      → (ks : Processes) → StandForProcesses ids t ks → seen ≡ ks
  processes_done none so_far ks stand = whole ks stand (so_far ks stand) none
