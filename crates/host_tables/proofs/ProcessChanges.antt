-- Processes that change or go, through the pairs.
--     HasNoMore x' x                a process has no thread that it had not
--     AreNumbered-changed           the numbers are still those of processes and threads
--     process_changed               a process is another on both sides
--     same_count, same_threads      how many there are, and how many threads one has
use Rattle.std.proofs.Common.{◌≡◌, ◌≢◌, ◌⊎◌, ℕ, Option, Some, None, inl, inr, refl, sym, ap, ◌∙◌, subst}
use Rattle.std.specs.Prelude.{IsSome, is_some, List}
use Rattle.std.specs.Cmp.{nat_cmp_total}
use Rattle.std.specs.FinMap as map
use Rattle.std.specs.FinMap.{nat_cmp-IsAntisymmetric}
use Rattle.std.proofs.lemmas.Option.{same_Some}
use Rattle.views.proofs.MapLaws.{true_false, same_or_other, get_insert_same, get_insert_other}
use Rattle.views.proofs.Seen.{SeenBy-insert}
use Rattle.views.proofs.SeenLengths.{same_len}
use Rattle.sys_abi.specs.declared.identity.VPid.{VPid}
use Rattle.sys_abi.specs.declared.identity.RealPid.{RealPid}
use Rattle.sys_abi.proofs.OrderLaws.{vpid_total, vpid_exact, real_pid_total, real_pid_exact}
use Rattle.proc_book.specs.declared.process.Process as real_process
use Rattle.plain_machine.specs.OfPlainTables.declared.process.Process.{Process}
use Rattle.plain_machine.specs.OfPlainTables.Tables.{Processes, Makers}
use Rattle.plain_machine.specs.declared.kernel.PlainKernel.{PlainKernel}
use Rattle.host_tables.specs.declared.kernel.Kernel.{Kernel}
use Rattle.host_tables.specs.Numbers.{Pids, AreNumbered, to_real, to_virt, to_real_thread, to_virt_thread}
use Rattle.host_tables.specs.Processes.{IsSame, SameProcess}
use Rattle.host_tables.specs.Descriptions.{Stage}
use Rattle.host_tables.specs.Stands.{Given, Stands}
use Rattle.host_tables.proofs.Frames.{procs_kept}
use Rattle.host_tables.proofs.Ways.{lead_process, lead_thread}

abbrev pub HasNoMore : Process → Process → Type 0
HasNoMore x' x = (t : ℕ) → IsSome (map.get x'.threads t) → IsSome (map.get x.threads t)

module _ (nodes : List ℕ) (pids : Pids) (processes : Processes) (makers : Makers)
    (are : AreNumbered nodes pids processes makers) (p : VPid) (x x' : Process)
    (there : map.get processes p ≡ Some x) (fewer : HasNoMore x' x) where
  abbrev then : Processes
  then = map.insert processes p x'

  was : (q : VPid) (y : Process) → map.get then q ≡ Some y
      → ((q ≡ p) × (x' ≡ y)) ⊎ ((q ≢ p) × (map.get processes q ≡ Some y))
  was q y is = elim (same_or_other vpid_total vpid_exact q p) [
    | inl here ↦ inl (
      here,
      same_Some x' y
          (sym (get_insert_same vpid_total vpid_exact processes p x') ∙ ap (map.get then) (sym here) ∙ is),
    )
    | inr differ ↦ inr (differ, sym (get_insert_other vpid_total vpid_exact processes p x' q differ) ∙ is)
  ]

  -- the process that was there, with the thread
  pub process_was : (q : VPid) (y : Process) → map.get then q ≡ Some y
      → (z : Process) × ((map.get processes q ≡ Some z) × HasNoMore y z)
  process_was q y is = elim (was q y is) [
    | inl here ↦ (x, (ap (map.get processes) here.0 ∙ there, subst (λ w. HasNoMore w x) here.1 fewer))
    | inr before ↦ (y, (before.1, λ t is. is))
  ]

  some_was : (q : VPid) → IsSome (map.get then q) → IsSome (map.get processes q)
  some_was q h = by_found (map.get then q) refl h
    where
      by_found : (o : Option Process) → map.get then q ≡ o → IsSome o → IsSome (map.get processes q)
      by_found None e h = true_false (sym h)
      by_found (Some y) e h = ap is_some (process_was q y e).1.0

  pub AreNumbered-changed : AreNumbered nodes pids then makers
  AreNumbered-changed = record {
    process = λ q y is. let z = process_was q y is in are.process q z.0 z.1.0;
    thread = λ q y t is at. let z = process_was q y is in are.thread q z.0 t z.1.0 (z.1.1 t at);
    node = λ q y m r is made leads. let z = process_was q y is in are.node q z.0 m r z.1.0 made leads;
    thread_node = λ q y t r s is at leads thread.
        let z = process_was q y is in are.thread_node q z.0 t r s z.1.0 (z.1.1 t at) leads thread;
    order = λ q u r s at_q at_u on leads_q leads_u less.
        are.order q u r s (some_was q at_q) (some_was u at_u) on leads_q leads_u less;
  }

module _ (g : Given) (held : Option Stage) (real : Kernel) (k : PlainKernel) (st : Stands g held real k)
    (p : VPid) (r : RealPid) (paired : map.get g.pids p.0 ≡ Some r) where
  pub process_changed : (x x' : Process) (y' : real_process.Process) → map.get k.processes p ≡ Some x
      → HasNoMore x' x → SameProcess g.pids g.virts p r x' y'
      → Stands g held
      (record real { procs = record real.procs { processes = map.insert real.procs.processes r y' } })
      (record k { processes = map.insert k.processes p x' })
  process_changed x x' y' there fewer is =
      procs_kept g held real k st (record real.procs { processes = map.insert real.procs.processes r y' })
      (map.insert k.processes p x') k.makers st.paired
      (AreNumbered-changed real.nodes g.pids k.processes k.makers st.numbered p x x' there fewer)
      (SeenBy-insert vpid_total vpid_exact real_pid_total real_pid_exact (to_real g.pids) (to_virt g.virts)
      (lead_process g.pids g.virts st.paired.inverse) (SameProcess g.pids g.virts) k.processes
      real.procs.processes st.processes p r paired x' y' is)

  pub same_threads : (x : Process) (y : real_process.Process) → SameProcess g.pids g.virts p r x y
      → map.len y.threads ≡ map.len x.threads
  same_threads x y is =
      same_len nat_cmp_total nat_cmp-IsAntisymmetric nat_cmp_total nat_cmp-IsAntisymmetric
      (to_real_thread g.pids r.node) (to_virt_thread g.virts r.node)
      (lead_thread g.pids g.virts st.paired.inverse r.node) IsSame x.threads y.threads is.threads

pub same_count : (g : Given) (held : Option Stage) (real : Kernel) (k : PlainKernel) → Stands g held real k
    → map.len real.procs.processes ≡ map.len k.processes
same_count g held real k st =
    same_len vpid_total vpid_exact real_pid_total real_pid_exact (to_real g.pids) (to_virt g.virts)
    (lead_process g.pids g.virts st.paired.inverse) (SameProcess g.pids g.virts) k.processes
    real.procs.processes st.processes
