-- Some process lives exactly where any process is there: a zombie's parent lives.
--     lives_if_there      in a valid kernel part
--     has_life_told       by the first process over real numbers
use Rattle.std.proofs.Common.{◌≡◌, ℕ, true, false, Option, Some, None, refl, sym, ap, ◌∙◌}
use Rattle.std.specs.Prelude.{is_some, find}
use Rattle.std.specs.FinMap as map
use Rattle.views.specs.Seen.{LeadBack}
use Rattle.views.proofs.MapLaws.{true_false}
use Rattle.views.proofs.MapValues.{none_among-values, some_among-values}
use Rattle.views.proofs.Seen.{real_of, virt_of}
use Rattle.sys_abi.specs.declared.identity.VPid.{VPid}
use Rattle.sys_abi.specs.declared.identity.RealPid.{RealPid}
use Rattle.sys_abi.specs.declared.life.Life.{Life}
use Rattle.sys_abi.specs.declared.life.Life.TheVariants.{Live, Zombie}
use Rattle.sys_abi.specs.Lives.{lives}
use Rattle.sys_abi.specs.Orders.{real_pid_cmp}
use Rattle.sys_abi.proofs.OrderLaws.{vpid_total, vpid_exact, real_pid_total, real_pid_exact}
use Rattle.proc_book.specs.Procs.{is_above}
use Rattle.plain_tables.specs.declared.process.Process.{Process}
use Rattle.plain_tables.specs.Tables.{pid, is_live_process, lives_in}
use Rattle.plain_tables.specs.Valid.Processes.{HasParent}
use Rattle.plain_machine.specs.declared.kernel.PlainKernel.{PlainKernel}
use Rattle.plain_machine.specs.Kernels.{IsKernel}
use Rattle.plain_machine.specs.Tests.{has_life}
use Rattle.host_tables.specs.Numbers.{to_real, to_virt}
use Rattle.host_tables.specs.Processes.{SameProcess}
use Rattle.host_tables.proofs.Ways.{lead_process}
use Rattle.host_tables.specs.declared.system.System.{System}
use Rattle.wrap_passing.specs.OfWrapNames.Wrapping.{IsWrapped}
use Rattle.wrap_calls.proofs.FirstKeys.{Finds, finds_key}

module _ (k : PlainKernel) (whole : IsKernel k) where
  one_lives : (p : VPid) (x : Process) → map.get k.processes p ≡ Some x → lives x.life ≡ true
      → has_life k ≡ true
  unfolding has_life
  one_lives p x is live =
      some_among-values vpid_total vpid_exact (λ process. lives process.life) k.processes p x is live

  parent_lives : (n : ℕ) (o : Option Process) → map.get k.processes (pid n) ≡ o
      → lives_in k.processes (pid n) ≡ true → has_life k ≡ true
  parent_lives n None is live = true_false (sym live ∙ ap is_live_process is)
  parent_lives n (Some x) is live = one_lives (pid n) x is (sym (ap is_live_process is) ∙ live)

  by_life : (p : VPid) (x : Process) → map.get k.processes p ≡ Some x → (life : Life) → x.life ≡ life
      → HasParent k.processes k.makers p x.parent life → has_life k ≡ true
  by_life p x is Live life has = one_lives p x is (ap lives life)
  by_life p x is (Zombie status) life has =
      parent_lives x.parent (map.get k.processes (pid x.parent)) refl has.0.alive

  pub lives_if_there : (p : VPid) (x : Process) → map.get k.processes p ≡ Some x → has_life k ≡ true
  lives_if_there p x is = by_life p x is x.life refl (whole.parents.each p x is)

  pub dead_if_empty : ((p : VPid) (x : Process) → map.get k.processes p ≡ Some x → ⊥) → has_life k ≡ false
  unfolding has_life
  dead_if_empty none =
      none_among-values vpid_total vpid_exact (λ process. lives process.life) k.processes
      (λ p x is. absurd (none p x is))

module _ (s : System) (next_id : ℕ) (k : PlainKernel) (w : IsWrapped s next_id k) where
  abbrev lead : LeadBack (to_real s.ids.pids) (to_virt s.ids.virts)
  lead = lead_process s.ids.pids s.ids.virts w.stands.tables.paired.inverse

  by_found : (o : Option RealPid) → Finds real_pid_cmp (is_above None) (map.get s.kernel.procs.processes) o
      → is_some o ≡ has_life k
  by_found None none = sym (dead_if_empty k w.stands.kernel (λ p x is.
      let y = real_of vpid_total vpid_exact real_pid_total real_pid_exact (to_real s.ids.pids)
      (to_virt s.ids.virts) lead (SameProcess s.ids.pids s.ids.virts) k.processes s.kernel.procs.processes
      w.stands.tables.processes p x is in
      true_false (none y.0 y.1.1.0 y.1.1.1.0)))
  by_found (Some r) first = sym (
      let x = virt_of vpid_total vpid_exact real_pid_total real_pid_exact (to_real s.ids.pids)
      (to_virt s.ids.virts) lead (SameProcess s.ids.pids s.ids.virts) k.processes s.kernel.procs.processes
      w.stands.tables.processes r first.value first.there in
      lives_if_there k w.stands.kernel x.0 x.1.1.0 x.1.1.1.0)

  pub has_life_told : is_some (find (is_above None) (map.keys s.kernel.procs.processes)) ≡ has_life k
  has_life_told =
      by_found (find (is_above None) (map.keys s.kernel.procs.processes))
      (finds_key real_pid_total real_pid_exact (is_above None) s.kernel.procs.processes)
