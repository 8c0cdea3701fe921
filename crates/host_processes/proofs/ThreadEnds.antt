-- A thread whose process has others ends, through the pairs.
--     exit_kept      the row of exit then
use Rattle.std.proofs.Common.{◌≡◌, ℕ, ◌<◌, false, List, Option, Some, None, inl, inr, refl, sym, ap, ◌∙◌, subst, arith}
use Rattle.std.specs.Prelude.{nat_le, is_some, option_and_then, if◌then◌else◌}
use Rattle.std.specs.Option.{option_map_or}
use Rattle.std.specs.Cmp.{nat_cmp_total}
use Rattle.std.specs.FinMap as map
use Rattle.std.specs.FinMap.{nat_cmp-IsAntisymmetric}
use Rattle.std.proofs.lemmas.Bool.{eq-eqb}
use Rattle.std.proofs.lemmas.Bool.Decides.{nat_tests}
use Rattle.views.specs.Numbers.{Byte}
use Rattle.views.specs.Seen.{Agree}
use Rattle.views.proofs.MapLaws.{true_false, same_or_other, get_remove_same, get_remove_other}
use Rattle.views.proofs.Seen.{SeenBy-remove}
use Rattle.sys_abi.specs.declared.identity.VPid.{VPid}
use Rattle.sys_abi.specs.declared.identity.RealPid.{RealPid}
use Rattle.proc_book.specs.declared.process.Process as real_process
use Rattle.proc_book.specs.Procs.{threads_at, without_thread, after_end_thread}
use Rattle.plain_tables.specs.declared.process.Process.{Process}
use Rattle.plain_tables.specs.Tables.{thread_count_in, without_thread_entry}
use Rattle.plain_machine.specs.declared.kernel.PlainKernel.{PlainKernel}
use Rattle.plain_machine.specs.Attempts.{replied}
use Rattle.plain_machine.specs.Ends.{exit_status, after_end, thread_ended}
use Rattle.plain_machine.specs.Kernel.{thread_count, at_process}
use Rattle.plain_machine.specs.Rows.End.{exit_row}
use Rattle.host_descriptors.specs.OfHostTables.declared.kernel.Kernel.{Kernel}
use Rattle.host_descriptors.specs.OfHostTables.declared.attempt.Attempt.TheVariants as answer
use Rattle.host_descriptors.specs.OfHostTables.Numbers.{real, to_real_thread, to_virt_thread, number_on}
use Rattle.host_descriptors.specs.OfHostTables.Processes.{IsSame, SameProcess}
use Rattle.host_descriptors.specs.OfHostTables.Serves.{Serves, ByNumber, same}
use Rattle.host_descriptors.specs.OfHostTables.Stands.{Given, Stands}
use Rattle.host_descriptors.proofs.OfHostTables.LookUps.{process_of}
use Rattle.host_descriptors.proofs.OfHostTables.ProcessChanges.{HasNoMore, same_threads}
use Rattle.host_descriptors.proofs.OfHostTables.Ways.{lead_thread}
use Rattle.host_processes.proofs.Raised.{changed}

fewer : (x : Process) (t : ℕ) → HasNoMore (without_thread_entry t x) x
fewer x t u at = elim (same_or_other nat_cmp_total nat_cmp-IsAntisymmetric u t) [
  | inl here ↦ true_false (sym (sym (ap is_some (ap (map.get (map.remove x.threads t)) here
      ∙ get_remove_same nat_cmp_total nat_cmp-IsAntisymmetric x.threads t)) ∙ at))
  | inr differ ↦
      sym (ap is_some (get_remove_other nat_cmp_total nat_cmp-IsAntisymmetric x.threads t u differ)) ∙ at
]

-- a process with a thread is there
has_threads : (o : Option real_process.Process) → 1 < option_map_or (λ y. map.len y.threads) o 0
    → (y : real_process.Process) × (o ≡ Some y)
has_threads None more = absurd (none more)
  where
    none : 1 < 0 → ⊥
    none h = omega (arith, h)
has_threads (Some y) more = (y, refl)

not_last : (n m : ℕ) → n ≡ m → 1 < m → nat_le n 1 ≡ false
not_last n m e h = grind (arith, nat_tests)

module _ (g : Given) (old : Kernel) (k : PlainKernel) (st : Stands g None old k) (p : VPid) (who : RealPid)
    (paired : map.get g.pids p.0 ≡ Some who) where
  same_count : (o : Option Process) (q : Option real_process.Process)
      → Agree (SameProcess g.pids g.virts p who) o q
      → thread_count_in o ≡ option_map_or (λ y. map.len y.threads) q 0
  same_count None None is = refl
  same_count None (Some y) is = absurd is
  same_count (Some x) None is = absurd is
  same_count (Some x) (Some y) is = sym (same_threads g None old k st p who paired x y is)

  count_is : thread_count k p ≡ threads_at old.procs.processes who
  count_is =
      same_count (map.get k.processes p) (map.get old.procs.processes who) (st.processes.at p who paired)

  module _ (t u : ℕ) (thread : map.get g.pids t ≡ Some (real who.node u)) where
    leads : to_real_thread g.pids who.node t ≡ Some u
    leads =
        ap (option_and_then (number_on who.node)) thread
        ∙ ap (λ b. if b then Some u else None) (eq-eqb who.node who.node refl)

    abbrev pub ended_now : Kernel
    ended_now =
        let processes = after_end_thread old.procs.processes who u in
        record old { procs = record old.procs { processes = processes } }

    ended : 1 < threads_at old.procs.processes who
        → Stands g None ended_now (at_process k p (without_thread_entry t))
    ended more =
        let y = has_threads (map.get old.procs.processes who) more in
        let x = process_of g old k st p who paired y.0 y.1 in
        let is = x.1.1 in
        changed g old k st p who paired (without_thread_entry t) (without_thread u) x.0 y.0 x.1.0 y.1
        (fewer x.0 t) (record {
          life = is.life;
          pending = is.pending;
          parent = is.parent;
          threads = SeenBy-remove nat_cmp_total nat_cmp-IsAntisymmetric nat_cmp_total nat_cmp-IsAntisymmetric
              (to_real_thread g.pids who.node) (to_virt_thread g.virts who.node)
              (lead_thread g.pids g.virts st.paired.inverse who.node) IsSame x.0.threads y.0.threads
              is.threads
              t u leads;
        })

    pub exit_kept : 1 < threads_at old.procs.processes who → (code : ℕ) (x : List Byte)
        → Serves ByNumber same g old ended_now x x (answer.Gives 0) (exit_row k p t code)
    unfolding exit_row thread_ended
    exit_kept more code x =
        subst (λ (w : PlainKernel). Serves ByNumber same g old ended_now x x (answer.Gives 0) (replied w 0))
        (sym (ap (λ b. if b then after_end k p (exit_status code)
        else at_process k p (without_thread_entry t))
        (not_last (thread_count k p) (threads_at old.procs.processes who) count_is more)))
        (record { reply = refl; bytes = refl; stands = ended more })
